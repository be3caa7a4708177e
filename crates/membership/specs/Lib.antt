-- The definitions that the contracts cite.
pub mod Checks
pub mod Test
pub mod Meaning
