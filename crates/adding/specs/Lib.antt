-- The definitions that the contracts cite.
pub mod Bytes
pub mod Reason
pub mod Steps
