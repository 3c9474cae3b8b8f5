-- What the contracts of `canonical_encoding` cite. A reviewer reads FormOutput, then Answering.
pub mod FormOutput
pub mod Answering
