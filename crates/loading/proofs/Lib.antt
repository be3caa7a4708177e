-- The laws of the judgement before the walk.
pub mod Judged
pub mod Wrong
