-- The written walk, its words, and the period tables that it comes to without room.
pub mod Words
pub mod Walk
pub mod Room
