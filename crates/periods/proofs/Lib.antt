-- The laws of the period table: its entries as packed words, and its loops.
pub mod AtWork
pub mod Packed
pub mod Going
pub mod Loop
pub mod Rest
pub mod Candidates
pub mod Taking
