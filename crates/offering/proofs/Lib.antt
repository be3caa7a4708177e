-- The laws of a candidate offered to a period table in the lent tables.
pub mod Appended
pub mod Offered
pub mod Wrong
