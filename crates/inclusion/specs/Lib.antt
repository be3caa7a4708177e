-- The definitions that the contracts cite.
pub mod Answers
pub mod Decided
