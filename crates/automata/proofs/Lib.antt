-- The laws of the definitions in `specs/`, over the number of states.
pub mod Members
pub mod Rows
pub mod Listed
pub mod Moving
pub mod Longer
pub mod Turning
pub mod Closure
pub mod Accepting
pub mod Wrong
