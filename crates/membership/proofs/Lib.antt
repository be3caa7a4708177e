-- The laws of the lasso test.
pub mod Lettered
pub mod Walked
pub mod Judged
pub mod Right
pub mod File
pub mod Samples
pub mod Wrong
