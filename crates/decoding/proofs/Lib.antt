-- A table that holds transitions, and the promise at each return of `decode`.
pub mod Stored
pub mod Promise
-- For the functions over the Reader: what was read where it came to, and the table so far.
mod Filling
-- Theorems about the definitions: which refusals there are, one decoding only, no transition twice, what a decoded table and a decoded header's
-- symbols mean, how long an encoding can be, and how longer bytes are refused. (01's starred encodings are rows of the table in `examples`.)
pub mod Refusing
pub mod Only
pub mod Distinct
pub mod Repeats
pub mod Cases
pub mod Listing
pub mod DecodedSymbols
pub mod Longest
pub mod Longer
