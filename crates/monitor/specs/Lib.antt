-- What the contracts and theorems of `monitor` cite. A reviewer reads Opening, Stepping, Advancing, Ending, then LogText, Log and Running.
pub mod Stepping
pub mod Opening
pub mod Advancing
pub mod Ending
pub mod LogText
pub mod Log
pub mod Running
