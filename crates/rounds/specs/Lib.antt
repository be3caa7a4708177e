-- The definitions that the contracts cite.
pub mod Finished
pub mod Round
