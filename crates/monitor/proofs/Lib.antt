-- Laws that belong to no one function.
pub mod Outcomes
pub mod Following
pub mod Openings
pub mod Endings
pub mod LogPromise
pub mod OneOutput
pub mod LogOutput
pub mod Idle
