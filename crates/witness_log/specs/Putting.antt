-- The lines of what was followed, put into an output: over what the estimator remembers.
use Rattle.std.specs.Prelude.{◌≡◌, List, ◌++◌, ℕ, ◌+◌, ◌*◌, ◌≤◌, length, take}
use Rattle.automaton.specs.declared.Header.{Header}
use Rattle.opacity.specs.declared.Notion.{Notion}
use Rattle.opacity.specs.declared.Notion.TheVariants.{Weak, Strong}
use Rattle.verifier.specs.declared.Estimator.{Estimator}
use Rattle.witness.specs.Answers.{IsWitness}
use Rattle.report.specs.Witnesses.{accepted_end}
use Rattle.report.specs.Writing.{Wrote}
use Rattle.witness_log.specs.WitnessOutput.{LineOf, LinesOf}
use Rattle.witness_log.specs.declared.Followed.{Followed}

-- the line of a step at a place. 1,086 pairs have room
pub record PutLine (t : List ℕ) (h : Header) (s : Estimator) (notion : Notion) (k : ℕ) (out : List ℕ) (at : ℕ) (out' : List ℕ) (next : ℕ) : Type 0 where
  pub text : List ℕ
  pub line : LineOf (IsWitness t h s notion 0 k) notion k text
  pub wrote : Wrote 23956 out at text out' next

-- the lines of the first n steps
pub record PutLines (t : List ℕ) (h : Header) (s : Estimator) (notion : Notion) (n : ℕ) (out : List ℕ) (at : ℕ) (out' : List ℕ) (next : ℕ) : Type 0 where
  pub text : List ℕ
  pub lines : LinesOf (IsWitness t h s notion 0) notion n text
  pub wrote : Wrote (n * 23956) out at text out' next

-- all lines, at the front of the output
pub record PutOutput (t : List ℕ) (h : Header) (f : Followed) (out' : List ℕ) (n : ℕ) : Type 0 where
  pub weak : List ℕ
  pub strong : List ℕ
  pub weak_lines : LinesOf (IsWitness t h f.estimator Weak 0) Weak (f.estimator.count + 1) weak
  pub strong_lines : LinesOf (IsWitness t h f.estimator Strong 0) Strong (f.estimator.count + 1) strong
  pub there : n ≤ length out'
  pub front : take n out' ≡ weak ++ (strong ++ accepted_end f.accepted)
