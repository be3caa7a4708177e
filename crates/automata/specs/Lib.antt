-- The definitions that the contracts cite.
pub mod Loaded
pub mod Repeated
