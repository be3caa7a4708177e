-- The samples.
pub mod Samples
