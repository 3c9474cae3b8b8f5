-- Numbering: the secrets that are given, by their numbers. Exactness: laws of verdicts. Searching, Deciding, EveryVerdict: whether some run excuses the system
-- can be tested, so that each trace has a verdict.
pub mod Numbering
pub mod Exactness
pub mod Searching
pub mod Deciding
pub mod EveryVerdict
