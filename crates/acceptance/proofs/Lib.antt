-- Why a few lassos decide inclusion, and what the sets that words leave behind say about acceptance.
pub mod Cases
pub mod Paths
pub mod Rotate
pub mod Pigeonhole
pub mod Preserve
pub mod Complete
pub mod Targets
pub mod Passes
pub mod Contexts
pub mod Words
pub mod Warshall
pub mod Membership
