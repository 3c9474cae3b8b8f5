-- Laws that belong to no one function.
pub mod SaidLines
pub mod FollowingOn
pub mod Lining
pub mod PrintedLog
