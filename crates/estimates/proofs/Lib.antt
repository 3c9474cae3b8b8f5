-- Laws that belong to no one function: a new element in front of the old ones, from an entry set to the estimate, one step back after another, and through
-- the states of a set.
pub mod Storing
pub mod Estimating
pub mod LookBack
mod Passing
