-- The definitions that the contracts cite.
pub mod Stems
pub mod Held
pub mod Flags
pub mod Candidates
pub mod Growing
