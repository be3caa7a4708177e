-- The laws of entries in lent tables, and of the chains that a candidate is held against.
pub mod Entries
pub mod Masks
pub mod Runs
pub mod Chain
pub mod Trail
pub mod Between
pub mod Scanning
pub mod Covering
pub mod Guesses
