-- What is known of the walk.
pub mod AtWork
pub mod Runs
pub mod Reading
pub mod Rounds
pub mod Tests
pub mod Verdicts
pub mod Bounds
pub mod Cut
pub mod Room
