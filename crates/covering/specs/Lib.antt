-- The definitions that the contracts cite.
pub mod Entries
pub mod Masks
pub mod Chained
pub mod Sought
