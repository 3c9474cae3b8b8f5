-- Laws that belong to no one function.
pub mod Beginnings
pub mod ReadingOn
pub mod OneLeakOutput
pub mod FedLeaks
