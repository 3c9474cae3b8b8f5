-- Laws that belong to no one function.
pub mod SafeLaws
pub mod ForAll
pub mod Arrays
pub mod Queueing
pub mod TakingIn
pub mod Outcomes
pub mod Starts
pub mod Lists
pub mod Unique
pub mod ThirdPoint
pub mod Settings
pub mod Agreed
pub mod Corresponding
