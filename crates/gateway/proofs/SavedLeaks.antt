-- What a first leak says of a gateway that keeps bytes. Assumes nothing.
use Prim.Native.Nat.{ℕ, zero, suc, ◌≤◌}
use mathlib.Core.Path.{◌≡◌, sym, subst}
use mathlib.Core.List.{List}
use lib.ListN.{length}
use Rattle.opacity.specs.Secrets.{cleared_of}
use Rattle.leaks.specs.FirstLeaks.{Finding}
use Rattle.leaks.proofs.Agreed.{past_finding}
use Rattle.layout.specs.Sizes.{strong_byte, further_size, first_leak_size}
use Rattle.layout.specs.Layout.{header_at, further_at, notion_at, first_leak_at}
use Rattle.gateway.specs.Interface.{Decode, FirstLeakSizes, FirstLeakCall, leak_said, ByFurther}
use Rattle.gateway.proofs.SavedPoints.{saved_length, saved_well_formed}

-- the bytes of a place where the call answered 0 are what was found: a refusal has no number 0
pub leak_back : (t header : List ℕ) (notion : ℕ) (further events lent out : List ℕ) → FirstLeakCall t header notion further events lent 0 out
    → Finding (notion_at notion) t (header_at header) (further_at further 0) events (leak_said (first_leak_at out))
leak_back t header notion further events lent _ (FirstLeakCall.refused _ x5) = elim x5 [ ]
leak_back t header notion further events lent out (FirstLeakCall.found sizes x saved) =
    subst (λ (p : ℕ). Finding (notion_at notion) t (header_at header) (further_at further 0) events (leak_said p)) (sym saved.back) x

-- what a place says is no refusal, and it is said where the secrets may be given
given_by : (t header : List ℕ) (notion : ℕ) (further events : List ℕ) (p : ℕ)
    → Finding (notion_at notion) t (header_at header) (further_at further 0) events (leak_said p) → ByFurther (further_at further 0) 0
given_by t header notion further events zero (Finding.none_leaks so allowed x) = ByFurther.given allowed
given_by t header notion further events (suc p) (Finding.first_leaks so allowed x) = ByFurther.given allowed

-- after a decode that answered 0, with slices of their lengths: refused by 13 and 14 only, each on its condition
pub saved_leak : (encoding table before t header : List ℕ) (notion : ℕ) (further events lent : List ℕ) (answer : ℕ) (out : List ℕ)
    → Decode encoding table before 0 t header → notion ≤ strong_byte → length further ≡ further_size → length lent ≡ first_leak_size
    → FirstLeakCall t header notion further events lent answer out → ByFurther (further_at further 0) answer
saved_leak encoding table before t header notion further events lent answer out x known f e (FirstLeakCall.size bad) =
    absurd (bad (record { header-size = saved_length encoding table before t header x; notion_known = known; further-size = f; place_size = e }))
saved_leak encoding table before t header notion further events lent answer out x known f e (FirstLeakCall.refused _ (Finding.malformed bad)) =
    absurd (bad (saved_well_formed encoding table before t header x))
saved_leak encoding table before t header notion further events lent answer out x known f e (FirstLeakCall.refused _ (Finding.too_many_secrets so many)) =
    ByFurther.too_many many
saved_leak encoding table before t header notion further events lent answer out x known f e
    (FirstLeakCall.refused _ (Finding.look_back_too_large so few large)) =
    ByFurther.too_large few large
saved_leak encoding table before t header notion further events lent answer out x known f e (FirstLeakCall.found _ {p = p} y saved) =
    given_by t header notion further events p y

-- what stands past the count in the bytes of further secrets counts for nothing
module _ (t header : List ℕ) (notion : ℕ) (a b events lent : List ℕ) (size-a : length a ≡ further_size) (size-b : length b ≡ further_size)
    (same : cleared_of (further_at a 0) ≡ cleared_of (further_at b 0)) where
  to : FirstLeakSizes header notion a lent → FirstLeakSizes header notion b lent
  to s = record { header-size = s.header-size; notion_known = s.notion_known; further-size = size-b; place_size = s.place_size }

  back : FirstLeakSizes header notion b lent → FirstLeakSizes header notion a lent
  back s = record { header-size = s.header-size; notion_known = s.notion_known; further-size = size-a; place_size = s.place_size }

  pub saved_leak_past_count : (answer : ℕ) (out : List ℕ) → FirstLeakCall t header notion a events lent answer out
      → FirstLeakCall t header notion b events lent answer out
  saved_leak_past_count answer out (FirstLeakCall.size bad) = FirstLeakCall.size (λ s. bad (back s))
  saved_leak_past_count answer out (FirstLeakCall.refused sizes x) =
      FirstLeakCall.refused (to sizes) (past_finding (further_at a 0) (further_at b 0) same t (header_at header) (notion_at notion) events _ x)
  saved_leak_past_count answer out (FirstLeakCall.found sizes {p = p} x saved) =
      FirstLeakCall.found (to sizes) {p = p} (past_finding (further_at a 0) (further_at b 0) same t (header_at header) (notion_at notion) events _ x) saved
