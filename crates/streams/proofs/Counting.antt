-- What a counter of event bytes takes, for the laws of a `Follower` that counts no further than a number. Assumes nothing.
use Rattle.std.specs.Prelude.{ℕ, ◌+◌, ◌≤◌}
use Rattle.std.proofs.Common.{arith}

-- so many fit behind those that are counted, and fewer too
pub fewer_fit : (counted : ℕ) {m n most : ℕ} → m ≤ n → counted + n ≤ most → counted + m ≤ most
fewer_fit counted l x = omega (arith, l, x)

-- and the others, once some are counted
pub others_fit : (before some n : ℕ) {after most : ℕ} → after ≤ before + some → before + (some + n) ≤ most → after + n ≤ most
others_fit before some n l x = omega (arith, l, x)
