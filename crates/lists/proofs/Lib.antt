-- Laws of plain lists, and of lists of calls, that the crates above cite.
pub mod Filled
pub mod Values
pub mod Chains
