-- The laws of the flags and of the growing table.
pub mod AtWork
pub mod Flags
pub mod Packed
pub mod Parents
pub mod Loop
pub mod Candidates
pub mod Rooted
