-- Laws that belong to no one function.
pub mod Keeping
pub mod ReadingOn
pub mod FedLog
