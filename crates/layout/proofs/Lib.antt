-- Laws that belong to no one function.
pub mod Bytes
pub mod Stores
pub mod Inverse
pub mod HeaderBytes
