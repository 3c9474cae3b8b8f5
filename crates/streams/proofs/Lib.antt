-- Laws that belong to no one function.
pub mod Fetching
pub mod Feeding
pub mod Counting
