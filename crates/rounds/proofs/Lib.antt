-- The laws of the rounds and of their loops.
pub mod Legible
pub mod Afresh
pub mod Onward
pub mod States
pub mod Wrong
