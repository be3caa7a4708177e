-- The laws of the answer.
pub mod Started
pub mod Answered
pub mod Demands
pub mod Refusals
pub mod Loaded
pub mod Wrong
