-- Decoding: what the contract of `decode` cites, over the layout (`encoding/specs`). Repeats: for theorems alone.
pub mod Decoding
pub mod Repeats
