-- The laws of record files.
pub mod Table
pub mod Added
pub mod Turn
pub mod Reading
pub mod Good
pub mod Initial
pub mod Limits
pub mod Loaded
pub mod Wrong
