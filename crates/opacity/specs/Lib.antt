-- What the contracts of `opacity` cite. A reviewer reads Secrets, then Verdicts.
pub mod Secrets
pub mod Verdicts
