-- The definitions that the contracts cite.
pub mod Bits
pub mod Sets
pub mod Pairs
pub mod Fields
