-- The definitions that the contracts cite.
pub mod Spelled
pub mod Faults
pub mod Narrow
pub mod BadRecord
pub mod Text
