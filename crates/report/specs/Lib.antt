-- What the contracts of `report` cite. A reviewer reads Text, Witnesses, then Writing.
pub mod Text
pub mod Witnesses
pub mod Writing
pub mod Adding
