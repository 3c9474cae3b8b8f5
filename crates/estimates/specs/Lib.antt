-- What the functions of `estimates` promise one another and the verifier: the states that are possible now, and over the steps back.
pub mod Estimates
pub mod StepsBack
