-- The laws of numbers by their digits, of sets, of sets of pairs, and of packed fields; answers that the contracts rule out.
pub mod Truth
pub mod Digits
pub mod Quantifiers
pub mod Bits
pub mod Operations
pub mod Sets
pub mod Moved
pub mod Pairs
pub mod Contained
pub mod Fields
pub mod Values
pub mod Refuses
pub mod Wrong
