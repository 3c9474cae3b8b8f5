-- The first point of the first leak and of a search: each row of a contract on its condition, and the others' conditions fail there; so the first leak has one
-- answer. Assumes nothing.
use mathlib.Core.Path.{◌≡◌, refl, ap, subst, sym, ◌∙◌}
use mathlib.Core.Bool.{Bool, true, false}
use mathlib.Core.List.{List, [], ◌∷◌, ◌++◌, append_assoc, append-nil}
use mathlib.Core.Logic.{inl, inr}
use Prim.Native.Nat.{ℕ, ◌+◌}
use native.Mathlib.Omega.{arith}
use Rattle.automaton.specs.Run.{WellFormed}
use Rattle.automaton.specs.declared.Header.{Header}
use Rattle.opacity.specs.declared.Notion.{Notion}
use Rattle.opacity.specs.declared.Further.{Further}
use Rattle.opacity.specs.Secrets.{no_further}
use Rattle.opacity.proofs.Numbering.{allowed_not_large}
use Rattle.verifier.specs.Replies as verifier
use Rattle.verifier.specs.Calls.{taken_by, Answered}
use Rattle.monitor.specs.LogText.{Prints}
use Rattle.leaks.specs.declared.Search.{Search}
use Rattle.leaks.specs.FirstLeaks.{AcceptedPart, FirstLeak, Said, refused, nowhere, at, Finding}
use Rattle.leaks.specs.Searches.{found_said, Beginning, Advancing}
use Rattle.leaks.proofs.Parts.{part_none, part_one, part_append, right_exists, part_exists, part_unique}
use Rattle.leaks.proofs.Only.{one_place, place_or_none}
use Rattle.leaks.proofs.Later as leaks-later
use Rattle.guarantees.specs.FirstPoint.{FirstLeakAnswers, BeginAnswers, SearchAnswers}
use Rattle.guarantees.specs.FirstLeaks.{OneFirstLeak, EveryPart, PartByLog, LaterBytes}

-- refusals with one number, places with one, and no two of the three kinds of answers are one
same_refused : {m n : ℕ} → refused m ≡ refused n → m ≡ n
same_refused e = ap number e
  where
    number : Said → ℕ
    number (refused n) = n
    number nowhere = 0
    number (at place) = 0

same_place : {m n : ℕ} → at m ≡ at n → m ≡ n
same_place e = ap place e
  where
    place : Said → ℕ
    place (refused n) = 0
    place nowhere = 0
    place (at n) = n

IsRefused : Said → Type 0
IsRefused (refused n) = Unit {0}
IsRefused nowhere = ⊥
IsRefused (at place) = ⊥

IsNowhere : Said → Type 0
IsNowhere (refused n) = ⊥
IsNowhere nowhere = Unit {0}
IsNowhere (at place) = ⊥

refused_not_nowhere : {n : ℕ} → refused n ≡ nowhere → ⊥
unfolding IsRefused
refused_not_nowhere e = subst IsRefused e tt

refused_not_at : {n place : ℕ} → refused n ≡ at place → ⊥
unfolding IsRefused
refused_not_at e = subst IsRefused e tt

nowhere_not_at : {place : ℕ} → nowhere ≡ at place → ⊥
unfolding IsNowhere
nowhere_not_at e = subst IsNowhere e tt

pub first_leak_answers : (notion : Notion) (t : List ℕ) (h : Header) (f : Further) (bytes : List ℕ) (says : Said) → Finding notion t h f bytes says
    → FirstLeakAnswers notion t h f bytes says
first_leak_answers notion t h f bytes says (Finding.malformed bad) = record {
  malformed = (λ e. bad, λ x. refl);
  too_many_secrets = (λ e. absurd (omega (arith, same_refused e)), λ x. absurd (bad x.0));
  look_back_too_large = (λ e. absurd (omega (arith, same_refused e)), λ x. absurd (bad x.0));
  nowhere = (λ e. absurd (refused_not_nowhere e), λ x. absurd (bad x.0));
  found = λ p. (λ e. absurd (refused_not_at e), λ x. absurd (bad x.0));
  no_other = λ n e. inl (sym (same_refused e));
}
first_leak_answers notion t h f bytes says (Finding.too_many_secrets so many) = record {
  malformed = (λ e. absurd (omega (arith, same_refused e)), λ x. absurd (x so));
  too_many_secrets = (λ e. (so, many), λ x. refl);
  look_back_too_large = (λ e. absurd (omega (arith, same_refused e)), λ x. absurd (omega (arith, x.1, many)));
  nowhere = (λ e. absurd (refused_not_nowhere e), λ x. absurd (omega (arith, x.1.few, many)));
  found = λ p. (λ e. absurd (refused_not_at e), λ x. absurd (omega (arith, x.1.few, many)));
  no_other = λ n e. inr (inl (sym (same_refused e)));
}
first_leak_answers notion t h f bytes says (Finding.look_back_too_large so few large) = record {
  malformed = (λ e. absurd (omega (arith, same_refused e)), λ x. absurd (x so));
  too_many_secrets = (λ e. absurd (omega (arith, same_refused e)), λ x. absurd (omega (arith, x.1, few)));
  look_back_too_large = (λ e. (so, few, large), λ x. refl);
  nowhere = (λ e. absurd (refused_not_nowhere e), λ x. absurd (allowed_not_large f x.1 large));
  found = λ p. (λ e. absurd (refused_not_at e), λ x. absurd (allowed_not_large f x.1 large));
  no_other = λ n e. inr (inr (sym (same_refused e)));
}
first_leak_answers notion t h f bytes says (Finding.none_leaks so allowed here) = record {
  malformed = (λ e. absurd (refused_not_nowhere (sym e)), λ x. absurd (x so));
  too_many_secrets = (λ e. absurd (refused_not_nowhere (sym e)), λ x. absurd (omega (arith, x.1, allowed.few)));
  look_back_too_large = (λ e. absurd (refused_not_nowhere (sym e)), λ x. absurd (allowed_not_large f allowed x.2));
  nowhere = (λ e. (so, allowed, here), λ x. refl);
  found = λ p. (λ e. absurd (nowhere_not_at e), λ x. absurd (place_or_none notion t h f bytes p x.2 here));
  no_other = λ n e. absurd (refused_not_nowhere (sym e));
}
first_leak_answers notion t h f bytes says (Finding.first_leaks {place = place} so allowed here) = record {
  malformed = (λ e. absurd (refused_not_at (sym e)), λ x. absurd (x so));
  too_many_secrets = (λ e. absurd (refused_not_at (sym e)), λ x. absurd (omega (arith, x.1, allowed.few)));
  look_back_too_large = (λ e. absurd (refused_not_at (sym e)), λ x. absurd (allowed_not_large f allowed x.2));
  nowhere = (λ e. absurd (nowhere_not_at (sym e)), λ x. absurd (place_or_none notion t h f bytes place here x.2));
  found = λ p. (
    λ e. (so, allowed, subst (FirstLeak notion t h f bytes) (same_place e) here),
    λ x. ap at (one_place notion t h f bytes place p here x.2),
  );
  no_other = λ n e. absurd (refused_not_at (sym e));
}

-- so there is one answer
pub one_first_leak : OneFirstLeak
one_first_leak notion t h f bytes a b x y = go b y
  where
    given : FirstLeakAnswers notion t h f bytes a
    given = first_leak_answers notion t h f bytes a x

    go : (b : Said) → Finding notion t h f bytes b → a ≡ b
    go b (Finding.malformed bad) = given.malformed.1 bad
    go b (Finding.too_many_secrets so many) = given.too_many_secrets.1 (so, many)
    go b (Finding.look_back_too_large so few large) = given.look_back_too_large.1 (so, few, large)
    go b (Finding.none_leaks so allowed z) = given.nowhere.1 (so, allowed, z)
    go b (Finding.first_leaks {place = p} so allowed z) = (given.found p).1 (so, allowed, z)

pub every_part : EveryPart
every_part t h f so bytes =
    let x = part_exists t h f so [] bytes in
    record { trace = x.0; part = x.1; only = λ other y. part_unique t h f [] bytes other x.0 y x.1 }

-- the log's lines, from some accepted bytes on: what they accept of the others
module _ (t : List ℕ) (h : Header) (so : WellFormed t h) where
  record LogPart (from bytes after : List ℕ) : Type 0 where
    taken : List ℕ
    part : AcceptedPart t h no_further from bytes taken
    is : from ++ taken ≡ after

  -- one byte, and the others
  behind : (from : List ℕ) (b : ℕ) (bytes after : List ℕ) (says : verifier.Said) → Answered t h no_further from b says
      → LogPart (from ++ taken_by says b) bytes after → LogPart from (b ∷ bytes) after
  behind from b bytes after says x y = record {
    taken = taken_by says b ++ y.taken;
    part = part_append t h no_further from (b ∷ []) bytes (taken_by says b) y.taken (part_one t h no_further from b says x) y.part;
    is = sym (append_assoc from (taken_by says b) y.taken) ∙ y.is;
  }

  passed : (from : List ℕ) (b : ℕ) (bytes after : List ℕ) (n : ℕ) → Answered t h no_further from b (verifier.refused n) → LogPart from bytes after
      → LogPart from (b ∷ bytes) after
  passed from b bytes after n x y =
      behind from b bytes after (verifier.refused n) x (subst (λ (l : List ℕ). LogPart l bytes after) (sym (append-nil from)) y)

  printed : (from : List ℕ) (r : ℕ) (bytes text after : List ℕ) (r' : ℕ) → Prints t h from r bytes text after r' → LogPart from bytes after
  printed from r bytes text after r' Prints.none = record { taken = []; part = part_none t h no_further from; is = append-nil from }
  printed from r bytes text after r' (Prints.not_observable {bytes = rest} {b = b} never p) =
      passed from b rest after 6 (inl (refl, never)) (printed from r rest _ after r' p)
  printed from r bytes text after r' (Prints.incompatible {bytes = rest} {b = b} ob impossible p) =
      passed from b rest after 7 (inr (refl, ob, impossible)) (printed from r rest _ after r' p)
  printed from r bytes text after r' (Prints.accepted {bytes = rest} {b = b} v n f ob can right released p) =
      let j = right_exists t h no_further so (from ++ b ∷ []) can in
      behind from b rest after (verifier.verdicts j.0) (ob, can, j.1) (printed (from ++ b ∷ []) (r + f) rest _ after r' p)

pub part_by_log : PartByLog
part_by_log t h so bytes text trace r p =
    let x = printed t h so [] 0 bytes text trace r p in
    subst (AcceptedPart t h no_further [] bytes) x.is x.part

pub later_bytes : LaterBytes
later_bytes notion t h f front later other trace place x part among says y =
    one_first_leak notion t h f _ says (at place) y (leaks-later.later_bytes notion t h f front later other trace place x part among)

pub begin_answers : (notion : Notion) (t : List ℕ) (h : Header) (f : Further) (says : Said) (s : Search) → Beginning notion t h f says s
    → BeginAnswers notion t h f says s
begin_answers notion t h f says s (Beginning.malformed bad out) = record {
  malformed = (λ e. bad, λ x. refl);
  too_many_secrets = (λ e. absurd (omega (arith, same_refused e)), λ x. absurd (bad x.0));
  look_back_too_large = (λ e. absurd (omega (arith, same_refused e)), λ x. absurd (bad x.0));
  begun = (λ e. absurd (refused_not_nowhere e), λ x. absurd (bad x.0));
  starts = λ e. absurd (refused_not_nowhere e);
  no_place = λ p e. refused_not_at e;
  no_other = λ n e. inl (sym (same_refused e));
  unusable = λ n e. out;
}
begin_answers notion t h f says s (Beginning.too_many_secrets so many out) = record {
  malformed = (λ e. absurd (omega (arith, same_refused e)), λ x. absurd (x so));
  too_many_secrets = (λ e. (so, many), λ x. refl);
  look_back_too_large = (λ e. absurd (omega (arith, same_refused e)), λ x. absurd (omega (arith, x.1, many)));
  begun = (λ e. absurd (refused_not_nowhere e), λ x. absurd (omega (arith, x.1.few, many)));
  starts = λ e. absurd (refused_not_nowhere e);
  no_place = λ p e. refused_not_at e;
  no_other = λ n e. inr (inl (sym (same_refused e)));
  unusable = λ n e. out;
}
begin_answers notion t h f says s (Beginning.look_back_too_large so few large out) = record {
  malformed = (λ e. absurd (omega (arith, same_refused e)), λ x. absurd (x so));
  too_many_secrets = (λ e. absurd (omega (arith, same_refused e)), λ x. absurd (omega (arith, x.1, few)));
  look_back_too_large = (λ e. (so, few, large), λ x. refl);
  begun = (λ e. absurd (refused_not_nowhere e), λ x. absurd (allowed_not_large f x.1 large));
  starts = λ e. absurd (refused_not_nowhere e);
  no_place = λ p e. refused_not_at e;
  no_other = λ n e. inr (inr (sym (same_refused e)));
  unusable = λ n e. out;
}
begin_answers notion t h f says s (Beginning.begun so allowed limits going zero x) = record {
  malformed = (λ e. absurd (refused_not_nowhere (sym e)), λ z. absurd (z so));
  too_many_secrets = (λ e. absurd (refused_not_nowhere (sym e)), λ z. absurd (omega (arith, z.1, allowed.few)));
  look_back_too_large = (λ e. absurd (refused_not_nowhere (sym e)), λ z. absurd (allowed_not_large f allowed z.2));
  begun = (λ e. (so, allowed), λ z. refl);
  starts = λ e. record { by = x.by; same = x.same; limits = limits; counted = zero; not_found = going };
  no_place = λ p e. nowhere_not_at e;
  no_other = λ n e. absurd (refused_not_nowhere (sym e));
  unusable = λ n e. absurd (refused_not_nowhere (sym e));
}

-- what a search says is no refusal
said_no_refusal : (b : Bool) (m n : ℕ) → found_said b m ≡ refused n → ⊥
said_no_refusal false m n e = refused_not_nowhere (sym e)
said_no_refusal true m n e = refused_not_at (sym e)

pub search_answers : (t : List ℕ) (h : Header) (self : Search) (bytes : List ℕ) (says : Said) (after : Search) → Advancing t h self bytes says after
    → SearchAnswers t h self bytes says after
search_answers t h self bytes says after (Advancing.malformed bad) =
    record { malformed = (λ e. bad, λ x. refl); no_other = λ n e. sym (same_refused e); unchanged = λ n e. refl; searched = λ w. absurd (bad w) }
search_answers t h self bytes says after (Advancing.searched within on) = record {
  malformed = (λ e. absurd (said_no_refusal after.found after.accepted 9 e), λ x. absurd (x within));
  no_other = λ n e. absurd (said_no_refusal after.found after.accepted n e);
  unchanged = λ n e. absurd (said_no_refusal after.found after.accepted n e);
  searched = λ w. record {
    says_it = refl;
    by = on.by;
    same = on.same;
    limits = on.limits;
    placed = on.placed;
    fewest = on.fewest;
    most = on.most;
    unobserved = on.unobserved;
    stays = on.stays;
  };
}
