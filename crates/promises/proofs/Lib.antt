-- What follows from the contract of the entry point, and from the definitions that it cites.
pub mod AtWork
pub mod Samples
pub mod Idle
pub mod Contract
