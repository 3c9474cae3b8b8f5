-- Laws that belong to no one function. Words as sets, and words that exchange digits: Shifting, Words, Swapping.
-- Loops over sets: Joining, Falling, Placing, Exploring, Closing, Turning; four sets side by side: FourSets; what rows hold: Holding.
pub mod Shifting
pub mod Words
pub mod Swapping
pub mod Joining
pub mod Falling
pub mod Placing
pub mod Exploring
pub mod Closing
pub mod Turning
pub mod FourSets
pub mod Holding
