-- Laws that belong to no one function.
pub mod Growing
mod Searching
pub mod Judging
pub mod SecondPoint
pub mod PastCount
pub mod Agreed
pub mod Corresponding
