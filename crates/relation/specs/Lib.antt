-- What the contracts of `relation` cite.
pub mod Relation
