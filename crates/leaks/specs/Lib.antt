-- What the contracts of `leaks` cite, and Blocks, of which a theorem speaks. A reviewer reads FirstLeaks, Searches and Blocks, in this order.
pub mod FirstLeaks
pub mod Searches
pub mod Blocks
pub mod Inner
