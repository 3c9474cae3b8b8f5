-- A configuration decides the verdicts and what can follow (Alike, Following); what can follow is accepted (Moving, Answering, Calling); and what an
-- exploration says of enforcers (Waiting); what counts for nothing in it (Agreed).
pub mod Alike
pub mod Following
pub mod Moving
pub mod Answering
pub mod Calling
pub mod Waiting
pub mod Agreed
