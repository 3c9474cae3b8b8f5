-- Laws that belong to no one function: transitions in lists, what follows from a parser that came to its end, the symbols of a header.
pub mod Listed
pub mod Ended
pub mod Carried
pub mod HeaderSymbols
