-- What the answer of an exploration says of lists of calls, and of enforcers. A reviewer reads AcceptedLists, then LongestWaits.
pub mod AcceptedLists
pub mod LongestWaits
