-- Laws that belong to no one function. The code rests on Parts to Outcomes; what its answers say: Only to Agreed.
pub mod Parts
pub mod Leaking
pub mod Searching
pub mod Outcomes
pub mod Only
pub mod Later
pub mod Streaming
pub mod Agreed
