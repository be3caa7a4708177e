-- The definitions that the contracts cite.
pub mod Periods
pub mod Candidates
