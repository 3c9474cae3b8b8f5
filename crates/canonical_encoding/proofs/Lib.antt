-- Theorems about the definitions.
pub mod OneFormOutput
-- The promise at each return.
mod Standing
