-- Answers, Explorations, FirstLeaks, OneEncoding: the first point, from the contracts. Frames: that of the functions on bytes. Shown: every guarantee, by
-- its proof.
pub mod Answers
pub mod Explorations
pub mod FirstLeaks
pub mod OneEncoding
pub mod Witnesses
pub mod Frames
pub mod Shown
