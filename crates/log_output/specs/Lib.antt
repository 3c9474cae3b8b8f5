-- What the contracts of `log_output` cite. A reviewer reads Progressing, Whole, then Feeding.
pub mod Progressing
pub mod Whole
pub mod Feeding
