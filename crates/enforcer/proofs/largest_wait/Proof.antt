-- `enforcer::largest_wait` meets its contract: the largest of the waits of the four places. Where no further secret is given, the other three are 0.
use mathlib.Core.Path.{◌≡◌, ap₂, ◌∙◌}
use mathlib.Core.List.{List, map}
use Prim.Native.Nat.{ℕ, ◌≤◌, max}
use native.Mathlib.Omega.{arith}
use borrow.Author.Rules.{rules}
use lib.ListN.{length, get_or}
use Rattle.automaton.specs.declared.Header.{Header}
use Rattle.opacity.specs.declared.Further.{Further}
use Rattle.opacity.specs.Secrets.{secrets_of, Allowed}
use Rattle.opacity.specs.Verdicts.{Steps, none, steps_of}
use Rattle.verifier.specs.Replies.{numbered_by}
use Rattle.opacity.proofs.Numbering.{how_many_most}
use Rattle.verifier.specs.Replies.{steps_each}
use Rattle.enforcer.specs.Waits.{LargestWait}
use Rattle.enforcer.specs.Inner.{WaitAt}
use Rattle.enforcer.proofs.ForAll.{no_wait, largest_of_four, largest_given}
use Rattle.enforcer.proofs.largest_wait.Statement.{statement}
use Rattle.enforcer.proofs.largest_wait.Tie as tie
use Rattle.verifier.specs.declared.EachSecret.{EachSecret}
use Rattle.opacity.specs.declared.Verdict.{Verdict}

-- from the waits of the four places
module _ (h : Header) (f : Further) (v : EachSecret Verdict) where
  abbrev steps : List Steps
  steps = map steps_of (numbered_by v)

  largest_steps : (a b c d w : ℕ) → Allowed f → WaitAt (secrets_of h f) 0 (get_or steps 0 none) a → WaitAt (secrets_of h f) 1 (get_or steps 1 none) b
      → WaitAt (secrets_of h f) 2 (get_or steps 2 none) c → WaitAt (secrets_of h f) 3 (get_or steps 3 none) d → w ≡ max (max a b) (max c d)
      → LargestWait (secrets_of h f) (steps_each f v) w
  largest_steps a b c d w allowed A B C D e =
      let many = how_many_most h f in
      largest_given (secrets_of h f) steps _ w many (largest_of_four (secrets_of h f) steps a b c d w (omega (arith, many, allowed.few)) A B C D e)

wait-at-requires : tie.Need-wait_at-w0-requires
wait-at-requires c κs = search rules

returns : tie.Need-returns-then-further-eq0
returns c =
    let a = c.args in
    let one : length (secrets_of a.header a.further) ≤ 1 = omega (arith, how_many_most a.header a.further, c.if-further-eq0.true) in
    largest_steps a.header a.further a.verdicts _ 0 0 0 _ c.requires.1 c.wait_at-w0.ensures
    (no_wait _ 1 _ one) (no_wait _ 2 _ (omega arith)) (no_wait _ 3 _ (omega arith)) (omega arith)

wait-at-requires-2 : tie.Need-wait_at-w1-requires
wait-at-requires-2 c κs = search rules

wait-at-requires-3 : tie.Need-wait_at-w2-requires
wait-at-requires-3 c κs = search rules

wait-at-requires-4 : tie.Need-wait_at-w3-requires
wait-at-requires-4 c κs = search rules

max-requires : tie.Need-max-a-requires
max-requires c κs = search rules

max-requires-2 : tie.Need-max-b-requires
max-requires-2 c κs = search rules

max-requires-3 : tie.Need-max-requires
max-requires-3 c κs = search rules

returns-2 : tie.Need-returns
returns-2 c =
    largest_steps c.args.header c.args.further c.args.verdicts _ _ _ _ _ c.requires.1 c.wait_at-w0.ensures c.wait_at-w1.ensures
    c.wait_at-w2.ensures c.wait_at-w3.ensures (c.max.ensures ∙ ap₂ max c.max-a.ensures c.max-b.ensures)

pub largest_wait_spec : {M : Type 1} → statement M
largest_wait_spec =
    tie.close
    (tie.spec
    wait-at-requires
    returns
    wait-at-requires-2
    wait-at-requires-3
    wait-at-requires-4
    max-requires
    max-requires-2
    max-requires-3
    returns-2)
