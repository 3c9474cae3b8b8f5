-- What the contracts of `streams` cite. A reviewer reads Reads, Following, then Writes.
pub mod Reads
pub mod Following
pub mod Writes
