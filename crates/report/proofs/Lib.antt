-- Laws that belong to no one function.
pub mod Decimal
pub mod Laws
pub mod Adds
pub mod Pairing
