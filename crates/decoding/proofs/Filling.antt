-- Laws of the second pass: the table of the transitions so far, and of one more; and that a transition has a place in it. Assumes nothing.
use Prim.Native.Nat.{ℕ, ◌+◌, ◌*◌, ◌≤◌, ◌<◌}
use mathlib.Core.Path.{◌≡◌, sym, ap₂, subst, ◌∙◌}
use mathlib.Core.List.{List}
use native.Mathlib.Omega.{arith}
use native.Mathlib.Numerals.{add-one}
use lib.ListN.{length, replicate}
use Rattle.bitfields.specs.Bits.{bits_of}
use Rattle.bitfields.specs.declared.Reader.{Reader}
use Rattle.bitfields.proofs.Bits.{number_lt}
use Rattle.encoding.specs.Transitions.{transition_at, transitions_at}
use Rattle.encoding.specs.Table.{mark, table_of}
use Rattle.encoding.specs.declared.ListedTransition.{ListedTransition}
use Rattle.decoding.proofs.Stored.{table_none, table_more}

pub none_filled : (bits : List ℕ) (at : ℕ) → replicate 2048 0 ≡ table_of (transitions_at bits at 0)
none_filled bits at = rw table_none

pub more_filled : (bits : List ℕ) (at i : ℕ) (zs : List ℕ) (t : ListedTransition) → zs ≡ table_of (transitions_at bits at i)
    → t ≡ transition_at bits (at + i * 17) → {ws : List ℕ} → ws ≡ mark zs t → ws ≡ table_of (transitions_at bits at (i + 1))
more_filled bits at i zs t z e {ws} w = w ∙ ap₂ mark z e ∙ rw (add-one i, table_more)

-- the table has a place for it
pub place_small : (r : Reader) (t : ListedTransition) (bs : List ℕ) → r.position + 17 ≤ length (bits_of bs) → t ≡ transition_at (bits_of bs) r.position
    → (t.from < 64) × (t.event < 32) × (t.to < 64)
place_small r t bs l e = subst (λ (x : ListedTransition). (x.from < 64) × (x.event < 32) × (x.to < 64)) (sym e)
    (number_lt bs r.position 6 (omega arith), number_lt bs (r.position + 6) 5 (omega arith), number_lt bs (r.position + 6 + 5) 6 (omega arith))
