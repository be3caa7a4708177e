-- The laws of one record.
pub mod Numbers
pub mod Wrong
