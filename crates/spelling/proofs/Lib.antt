-- The laws of the words that are read back and written.
pub mod Chain
pub mod Back
pub mod Wrong
