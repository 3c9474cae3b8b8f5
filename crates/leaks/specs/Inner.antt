-- What the functions inside the crate promise one another.
use Rattle.std.specs.Prelude.{◌≡◌, ℕ, get_or}
use Rattle.opacity.specs.declared.Verdict.TheVariants.{NoLeak, Leak}
use Rattle.verifier.specs.Replies.{numbered_by}
use Rattle.verifier.specs.declared.EachSecret.{EachSecret}
use Rattle.opacity.specs.declared.Verdict.{Verdict}

-- one of the verdicts is a leak: its number, and the steps
pub record LeakAmong (v : EachSecret Verdict) : Type 0 where
  pub number : ℕ
  pub steps : ℕ
  pub is : get_or (numbered_by v) number NoLeak ≡ Leak steps
