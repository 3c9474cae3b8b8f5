-- Laws of reads: what one read finds and brings, and how bytes are gathered. Assumes nothing.
use mathlib.Core.Path.{◌≡◌, refl, sym, ◌∙◌}
use mathlib.Core.Bool.{Bool, true}
use mathlib.Core.List.{List}
use Prim.Native.Nat.{ℕ, ◌+◌, ◌-◌, ◌≤◌}
use native.Mathlib.Omega.{arith}
use lib.ListN.{length, take}
use Rattle.std.specs.Prelude.{min}
use lib.Seq.{length-take-le}
use Rattle.std.specs.declared.result.Result.{Result}
use Rattle.std.specs.declared.result.Result.TheVariants.{Ok, Err}
use Rattle.stateset.specs.Set.{Decided}
use Rattle.stateset.proofs.Decides.{holds}
use Rattle.monitor.specs.Opening.{front_size}
use Rattle.streams.specs.declared.Fetched.{Fetched}
use Rattle.streams.specs.declared.Fetched.TheVariants as fetched
use Rattle.streams.specs.Reads.{FoundBy, Found, There, Brought, gathered_by, Further}

-- what the system answered
pub found_failed : {E : Type 0} (e : E) (lent : ℕ) → FoundBy (Err e) lent fetched.Failed
found_failed e lent = tt

pub found_end : (E : Type 0) (k lent n : ℕ) → n ≡ min k lent → n ≡ 0 → FoundBy {E = E} (Ok k) lent fetched.End
found_end E k lent n is none = sym is ∙ none

pub found_some : (E : Type 0) (k lent n : ℕ) → n ≡ min k lent → (n ≡ 0 → ⊥) → FoundBy {E = E} (Ok k) lent (fetched.Bytes n)
found_some E k lent n is some = (is, omega (arith, some))

-- so a read brings no more than there is space for, and no more than may follow
pub brings : {E : Type 0} {answered : Result ℕ E} {size left room : ℕ} {r : Fetched} → Found answered room r → room ≤ size → room ≤ left
    → Brought size left r
brings {E} {answered} {size} {left} {room} {r} f a b = go answered r f.by
  where
    go : (y : Result ℕ E) (x : Fetched) → FoundBy y room x → Brought size left x
    go (Ok k) (fetched.Bytes n) g = (g.1, omega (arith, g.0), omega (arith, g.0))
    go (Ok k) fetched.End g = tt
    go (Ok k) fetched.Failed g = tt
    go (Err e) (fetched.Bytes n) g = absurd g
    go (Err e) fetched.End g = tt
    go (Err e) fetched.Failed g = tt

pub is_there : (size left most : ℕ) (r : Fetched) → Brought size left r → size ≤ most → There most r
is_there size left most (fetched.Bytes n) f h = omega (arith, f.1)
is_there size left most fetched.End f h = tt
is_there size left most fetched.Failed f h = tt

-- the first bytes have the encoding whole
pub opens_by : (input : List ℕ) (n : ℕ) (b : Bool) → n ≤ length input → b ≡ true → Decided b (front_size (take (n - 0) input) ≤ length (take (n - 0) input))
    → front_size (take n input) ≤ n
opens_by input n b h e d = let z : n - 0 ≡ n = omega arith in let f = rw z at (holds b e d) in omega (arith, length-take-le n input h)

-- one read more, behind the bytes that are there
pub further : (size have space left : ℕ) (f : Fetched) → have + space ≤ size → Brought space left f → Further size have left (gathered_by f have)
further size have space left (fetched.Bytes n) h b = (omega (arith, b.0), omega (arith, b.1), omega (arith, b.2))
further size have space left fetched.End h b = refl
further size have space left fetched.Failed h b = tt
