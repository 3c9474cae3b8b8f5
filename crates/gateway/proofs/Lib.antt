-- Laws that belong to no one function.
pub mod Entries
pub mod WitnessEntries
pub mod Sizes
pub mod Numbered
pub mod SavedSteps
pub mod SavedPoints
pub mod Relabelled
pub mod HeaderCalls
pub mod SavedWaits
pub mod SavedLeaks
pub mod SavedForms
pub mod SavedWitnesses
