-- The laws of the definitions in `specs/`.
pub mod Numbered
pub mod Row
pub mod Wrong
