-- How the search of a log begins, from what decoding and the search answered. Assumes nothing.
use mathlib.Core.Path.{◌≡◌, refl, sym, ap, subst, ◌∙◌}
use mathlib.Core.List.{List}
use Prim.Native.Nat.{ℕ, ◌+◌, ◌-◌, ◌≤◌, ◌<◌}
use native.Mathlib.Omega.{arith}
use lib.ListN.{length, take, drop}
use lib.Seq.{take-add, drop_at, length-take-le}
use Rattle.automaton.specs.Run.{WellFormed}
use Rattle.automaton.specs.declared.Header.{Header}
use Rattle.opacity.specs.declared.Notion.{Notion}
use Rattle.opacity.specs.Secrets.{no_further}
use Rattle.leaks.specs.declared.Search.{Search}
use Rattle.leaks.specs.FirstLeaks.{Said, nowhere}
use Rattle.leaks.specs.Searches.{Beginning}
use Rattle.verifier.specs.Replies.{Unusable}
use Rattle.refusal.specs.Refusals.{number_of}
use Rattle.refusal.specs.declared.Refusal.{Refusal}
use Rattle.std.specs.Prelude.{Ok, Err}
use Rattle.monitor.specs.declared.Described.{Described}
use Rattle.monitor.specs.Opening.{OpenOutcome, refused, started, front_size, Describing, cut, no_automaton, whole}
use Rattle.leak_log.specs.Opens.{Opening, opened, StartedOn, begun}
use Rattle.streams.specs.declared.Begun.{Begun}
use Rattle.streams.specs.Following.{Begins}
use Rattle.leak_log.specs.declared.Searching.{Searching}
use Rattle.leak_log.specs.Feeding.{Block}

-- with no further secret a search is refused on no automaton
pub never_refused : (notion : Notion) (t : List ℕ) (h : Header) (says : Said) (s : Search) → WellFormed t h → Beginning notion t h no_further says s
    → Beginning notion t h no_further nowhere s
never_refused notion t h says s so (Beginning.malformed bad out) = absurd (bad so)
never_refused notion t h says s so (Beginning.too_many_secrets so' many out) = absurd (omega arith)
never_refused notion t h says s so (Beginning.look_back_too_large so' few large out) = absurd (omega (arith, large.given))
never_refused notion t h says s so (Beginning.begun so' allowed limits going zero x) = Beginning.begun so' allowed limits going zero x

-- what the front of a log tells of its start
pub described_refused : {notion : Notion} {log t : List ℕ} {h : Header} {s : Search} {r : Refusal} → Describing log (Err r) → 15 < h.k → Unusable s.estimator
    → Opening notion log (refused (number_of r)) t h s
described_refused (cut l) k out = Opening.truncated l (record { header = k; estimator = out })
described_refused (no_automaton l d) k out = Opening.not_decoded l d (record { header = k; estimator = out })

pub described_started : {notion : Notion} {log : List ℕ} {f : Described} {says : OpenOutcome} {t' : List ℕ} {h' : Header} {s : Search} → Describing log (Ok f)
    → StartedOn notion f.table f.header f.size says t' h' s → Opening notion log says t' h' s
described_started (whole l d) (begun b) = opened l d b

-- the events of a log that has started, if there are any, are behind its front, which is whole
pub started_within : {notion : Notion} {log t : List ℕ} {h : Header} {s : Search} {n : ℕ} → Opening notion log (started n) t h s
    → (n ≡ front_size log) × (n ≤ length log)
started_within (opened within d b) = (refl, within)

pub started_begun : {notion : Notion} {log t : List ℕ} {h : Header} {s : Search} {n : ℕ} → Opening notion log (started n) t h s
    → Beginning notion t h no_further nowhere s
started_begun (opened within d b) = b

pub begun_none : {notion : Notion} {t : List ℕ} {h : Header} {s : Search} → Beginning notion t h no_further nowhere s → s.accepted ≡ 0
begun_none (Beginning.begun so allowed limits going zero x) = zero

-- the events among the first bytes
pub drop_take : (a n : ℕ) (l : List ℕ) → a ≤ n → n ≤ length l → take (n - a) (drop a l) ≡ drop a (take n l)
drop_take a n l h k =
    let z : a + (n - a) ≡ n = omega arith in
    sym (drop_at (take a l) (take (n - a) (drop a l)) a (length-take-le a l (omega arith)))
    ∙ ap (drop a) (sym (take-add a (n - a) l) ∙ ap (λ (i : ℕ). take i l) z)

pub among_first : {t : List ℕ} {h : Header} {s : Searching} {b : Begun Searching} (a n : ℕ) (input : List ℕ) → a ≤ n → n ≤ length input
    → Begins (Block t h) s (take (n - a) (drop a input)) b → Begins (Block t h) s (drop a (take (n - 0) input)) b
among_first {t} {h} {s} {b} a n input l k x =
    let z : n ≡ n - 0 = omega arith in
    subst (λ (e : List ℕ). Begins (Block t h) s e b) (drop_take a n input l k ∙ ap (λ (i : ℕ). drop a (take i input)) z) x

-- they are among the bytes that are there
pub first_within : (input : List ℕ) {a : ℕ} (n : ℕ) → n ≤ length input → a ≤ length (take (n - 0) input) → a ≤ n
first_within input n k l = let z : n - 0 ≡ n = omega arith in omega (arith, length-take-le n input k, ap (λ (i : ℕ). length (take i input)) z)
