-- What the contracts of `witness_log` cite. A reviewer reads WitnessOutput, Printing, then Following and Putting.
pub mod WitnessOutput
pub mod Following
pub mod Putting
pub mod Printing
