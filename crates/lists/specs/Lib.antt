-- What the crates above cite of lists.
pub mod Calls
