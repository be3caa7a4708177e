-- The laws of the tests of one round.
pub mod Pairs
pub mod Served
