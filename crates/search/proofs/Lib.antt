-- How the walk ends: the laws of its functions.
pub mod Telling
pub mod Clearing
