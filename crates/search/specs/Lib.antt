-- The definitions that the contracts cite.
pub mod Ending
pub mod Contract
pub mod Text
