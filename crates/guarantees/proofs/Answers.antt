-- The mission's first point: each row of an entry's contract gives its refusal on its condition, and the others' conditions fail there. Assumes nothing.
use mathlib.Core.Path.{◌≡◌, refl, ap, subst, sym, ◌∙◌}
use mathlib.Core.List.{List}
use mathlib.Core.Logic.{◌⊎◌, inl, inr}
use Prim.Native.Nat.{ℕ}
use native.Mathlib.Omega.{arith}
use Rattle.refusal.specs.Refusals.{number_of}
use Rattle.refusal.specs.declared.Refusal.{Refusal}
use Rattle.refusal.specs.declared.Refusal.TheVariants as refusal
use Rattle.bitfields.specs.Bits.{bits_of}
use Rattle.bitfields.specs.Parser as parser
use Rattle.bitfields.specs.Parser.{Parsed}
use Rattle.bitfields.proofs.Parsing.{Never, never_both}
use Rattle.decoding.proofs.Refusing.{encoding_never}
use Rattle.encoding.specs.Encoding.{Encoding, encoding}
use Rattle.decoding.specs.Decoding.{Outcome, accept, refuse, Decoding}
use Rattle.opacity.proofs.Numbering.{allowed_not_large}
use Rattle.verifier.specs.Replies as verifier
use Rattle.verifier.specs.Replies.{Findings, FindingsBy, Opening, Accepting, AcceptingBy}
use Rattle.enforcer.specs.declared.Release.{Release}
use Rattle.enforcer.specs.Offerings as offering
use Rattle.enforcer.specs.Offerings.{Starting, Offering}
use Rattle.enforcer.proofs.Starts.{never_opens}
use Rattle.monitor.specs.Advancing as advancing
use Rattle.monitor.specs.declared.Advance.{Advance}
use Rattle.guarantees.specs.WholeLog.{EveryAdvance}
use Rattle.guarantees.specs.FirstPoint.{EveryDecode, EveryFresh, AcceptedWithin, EveryAccept, EveryAcceptBy, EveryStart, ReleasedWithin, EveryOffer}

-- refusals with one number, and a refusal is no accepting answer
same_verifier : {m n : ℕ} → verifier.refused m ≡ verifier.refused n → m ≡ n
same_verifier e = ap number e
  where
    number : verifier.Said → ℕ
    number (verifier.refused n) = n
    number (verifier.verdicts j) = 0

not_verifier : {j : Findings} {n : ℕ} → verifier.verdicts j ≡ verifier.refused n → ⊥
not_verifier e = subst Accepts e tt
  where
    Accepts : verifier.Said → Type 0
    Accepts (verifier.refused n) = ⊥
    Accepts (verifier.verdicts j) = Unit {0}

one_findings : {j k : Findings} → verifier.verdicts j ≡ verifier.verdicts k → j ≡ k
one_findings {j} e = ap pick e
  where
    pick : verifier.Said → Findings
    pick (verifier.refused n) = j
    pick (verifier.verdicts k) = k

same_start : {m n : ℕ} → offering.not_started m ≡ offering.not_started n → m ≡ n
same_start e = ap number e
  where
    number : offering.StartOutcome → ℕ
    number (offering.not_started n) = n
    number offering.started = 0

not_start : {n : ℕ} → offering.started ≡ offering.not_started n → ⊥
not_start e = subst Starts e tt
  where
    Starts : offering.StartOutcome → Type 0
    Starts (offering.not_started n) = ⊥
    Starts offering.started = Unit {0}

same_offer : {m n : ℕ} → offering.refused m ≡ offering.refused n → m ≡ n
same_offer e = ap number e
  where
    number : offering.OfferOutcome → ℕ
    number (offering.refused n) = n
    number (offering.released r) = 0

not_offer : {r : Release} {n : ℕ} → offering.released r ≡ offering.refused n → ⊥
not_offer e = subst Accepts e tt
  where
    Accepts : offering.OfferOutcome → Type 0
    Accepts (offering.refused n) = ⊥
    Accepts (offering.released r) = Unit {0}

one_release : {r s : Release} → offering.released r ≡ offering.released s → r ≡ s
one_release {r} e = ap pick e
  where
    pick : offering.OfferOutcome → Release
    pick (offering.refused n) = r
    pick (offering.released s) = s

-- a parser answers by one refusal
pub one_refusal : {A : Type 0} {r s : Refusal} → ◌≡◌ {A = Parsed A} (parser.refused r) (parser.refused s) → r ≡ s
one_refusal {A} {r} e = ap pick e
  where
    pick : Parsed A → Refusal
    pick (parser.refused x) = x
    pick (parser.done a next) = r

not_decode : {n : ℕ} → accept ≡ refuse n → ⊥
not_decode e = subst Accepts e tt
  where
    Accepts : Outcome → Type 0
    Accepts accept = Unit {0}
    Accepts (refuse n) = ⊥

one_number : {m n : ℕ} → refuse m ≡ refuse n → m ≡ n
one_number e = ap number e
  where
    number : Outcome → ℕ
    number accept = 0
    number (refuse n) = n

-- the layout refuses by 1, 3, 4, 5 and 12 alone
pub by_five : (bytes : List ℕ) (r : Refusal) → encoding (bits_of bytes) 0 ≡ parser.refused r
    → (number_of r ≡ 9) ⊎ ((number_of r ≡ 1) ⊎ ((number_of r ≡ 3) ⊎ ((number_of r ≡ 4) ⊎ ((number_of r ≡ 5) ⊎ (number_of r ≡ 12)))))
by_five bytes refusal.Truncated e = inr (inl refl)
by_five bytes refusal.StateOutOfRange e = inr (inr (inl refl))
by_five bytes refusal.EventOutOfRange e = inr (inr (inr (inl refl)))
by_five bytes refusal.TrailingData e = inr (inr (inr (inr (inl refl))))
by_five bytes refusal.RepeatedTransition e = inr (inr (inr (inr (inr refl))))
by_five bytes refusal.NotObservable e = absurd (subst (λ (p : Parsed Encoding). Never 6 p) e (encoding_never 6 refl (bits_of bytes) (λ x. omega arith) 0) refl)
by_five bytes refusal.Incompatible e = absurd (subst (λ (p : Parsed Encoding). Never 7 p) e (encoding_never 7 refl (bits_of bytes) (λ x. omega arith) 0) refl)
by_five bytes refusal.InitialLeak e = absurd (subst (λ (p : Parsed Encoding). Never 8 p) e (encoding_never 8 refl (bits_of bytes) (λ x. omega arith) 0) refl)
by_five bytes refusal.Malformed e = inl refl
by_five bytes refusal.OutputTooSmall e =
    absurd (subst (λ (p : Parsed Encoding). Never 10 p) e (encoding_never 10 refl (bits_of bytes) (λ x. omega arith) 0) refl)
by_five bytes refusal.TooManySecrets e =
    absurd (subst (λ (p : Parsed Encoding). Never 13 p) e (encoding_never 13 refl (bits_of bytes) (λ x. omega arith) 0) refl)
by_five bytes refusal.LookBackTooLarge e =
    absurd (subst (λ (p : Parsed Encoding). Never 14 p) e (encoding_never 14 refl (bits_of bytes) (λ x. omega arith) 0) refl)
by_five bytes refusal.BudgetSpent e =
    absurd (subst (λ (p : Parsed Encoding). Never 15 p) e (encoding_never 15 refl (bits_of bytes) (λ x. omega arith) 0) refl)
by_five bytes refusal.NoWitness e =
    absurd (subst (λ (p : Parsed Encoding). Never 16 p) e (encoding_never 16 refl (bits_of bytes) (λ x. omega arith) 0) refl)
by_five bytes refusal.StepTooFar e =
    absurd (subst (λ (p : Parsed Encoding). Never 17 p) e (encoding_never 17 refl (bits_of bytes) (λ x. omega arith) 0) refl)

pub not_nine : (bytes : List ℕ) (r : Refusal) → encoding (bits_of bytes) 0 ≡ parser.refused r → number_of r ≡ 9 → ⊥
not_nine bytes r e = subst (λ (p : Parsed Encoding). Never 9 p) e (encoding_never 9 refl (bits_of bytes) (λ x. omega arith) 0)

pub decode_answers : EveryDecode
decode_answers bytes table h answer after (Decoding.malformed bad) = record {
  malformed = (λ e. bad, λ x. refl);
  by_layout = λ size. absurd (bad size);
  accepted = (λ e. absurd (not_decode (sym e)), λ x. absurd (bad x.0));
  no_other = λ n e. inl (sym (one_number e));
  unchanged = λ n e. (refl, refl);
}
decode_answers bytes table h answer after (Decoding.refused size r is) = record {
  malformed = (λ e. absurd (not_nine bytes r is (one_number e)), λ bad. absurd (bad size));
  by_layout = λ x n. (
    λ e. record { refusal = r; number_is = one_number e; refuses = is },
    λ y. ap refuse (ap number_of (one_refusal (sym is ∙ y.refuses)) ∙ y.number_is),
  );
  accepted = (λ e. absurd (not_decode (sym e)), λ x. absurd (never_both (sym is ∙ x.1.accepts)));
  no_other = λ n e. subst Number (one_number e) (by_five bytes r is);
  unchanged = λ n e. (refl, refl);
}
  where
    Number : ℕ → Type 0
    Number n = (n ≡ 9) ⊎ ((n ≡ 1) ⊎ ((n ≡ 3) ⊎ ((n ≡ 4) ⊎ ((n ≡ 5) ⊎ (n ≡ 12)))))
decode_answers bytes table h answer after (Decoding.accepted size v next is left holds) = record {
  malformed = (λ e. absurd (not_decode e), λ bad. absurd (bad size));
  by_layout = λ x n. (λ e. absurd (not_decode e), λ y. absurd (never_both (sym y.refuses ∙ is)));
  accepted = (λ e. (size, record { content = v; next = next; accepts = is; header_is = refl; holds = holds }), λ x. refl);
  no_other = λ n e. absurd (not_decode e);
  unchanged = λ n e. absurd (not_decode e);
}

pub fresh_answers : EveryFresh
fresh_answers t h f says s (Opening.malformed bad out) = record {
  malformed = (λ e. bad, λ x. refl);
  too_many_secrets = (λ e. absurd (omega (arith, same_verifier e)), λ x. absurd (bad x.0));
  look_back_too_large = (λ e. absurd (omega (arith, same_verifier e)), λ x. absurd (bad x.0));
  no_other = λ n e. inl (sym (same_verifier e));
  unusable = λ n e. out;
}
fresh_answers t h f says s (Opening.too_many_secrets so many out) = record {
  malformed = (λ e. absurd (omega (arith, same_verifier e)), λ x. absurd (x so));
  too_many_secrets = (λ e. (so, many), λ x. refl);
  look_back_too_large = (λ e. absurd (omega (arith, same_verifier e)), λ x. absurd (omega (arith, x.1, many)));
  no_other = λ n e. inr (inl (sym (same_verifier e)));
  unusable = λ n e. out;
}
fresh_answers t h f says s (Opening.look_back_too_large so few large out) = record {
  malformed = (λ e. absurd (omega (arith, same_verifier e)), λ x. absurd (x so));
  too_many_secrets = (λ e. absurd (omega (arith, same_verifier e)), λ x. absurd (omega (arith, x.1, few)));
  look_back_too_large = (λ e. (so, few, large), λ x. refl);
  no_other = λ n e. inr (inr (sym (same_verifier e)));
  unusable = λ n e. out;
}
fresh_answers t h f says s (Opening.opened so allowed same li many within exact) = record {
  malformed = (λ e. absurd (not_verifier e), λ x. absurd (x so));
  too_many_secrets = (λ e. absurd (not_verifier e), λ x. absurd (omega (arith, x.1, allowed.few)));
  look_back_too_large = (λ e. absurd (not_verifier e), λ x. absurd (allowed_not_large f allowed x.2));
  no_other = λ n e. absurd (not_verifier e);
  unusable = λ n e. absurd (not_verifier e);
}

pub accept_answers : EveryAccept
accept_answers t h self symbol says after (Accepting.malformed bad) = record {
  malformed = (λ e. bad, λ x. refl);
  not_observable = (λ e. absurd (omega (arith, same_verifier e)), λ x. absurd (bad (x.0, x.1)));
  incompatible = λ trace g. (λ e. absurd (omega (arith, same_verifier e)), λ x. absurd (bad (x.0, x.1)));
  no_other = λ n e. inl (sym (same_verifier e));
  unchanged = λ n e. refl;
  accepted = λ j e. absurd (not_verifier (sym e));
}
accept_answers t h self symbol says after (Accepting.not_observable so li never) = record {
  malformed = (λ e. absurd (omega (arith, same_verifier e)), λ x. absurd (x (so, li)));
  not_observable = (λ e. (so, li, never), λ x. refl);
  incompatible = λ trace g. (λ e. absurd (omega (arith, same_verifier e)), λ x. absurd (never x.2));
  no_other = λ n e. inr (inl (sym (same_verifier e)));
  unchanged = λ n e. refl;
  accepted = λ j e. absurd (not_verifier (sym e));
}
accept_answers t h self symbol says after (Accepting.incompatible so li ob nobody) = record {
  malformed = (λ e. absurd (omega (arith, same_verifier e)), λ x. absurd (x (so, li)));
  not_observable = (λ e. absurd (omega (arith, same_verifier e)), λ x. absurd (x.2 ob));
  incompatible = λ trace g. (λ e. (so, li, ob, nobody trace g), λ x. refl);
  no_other = λ n e. inr (inr (sym (same_verifier e)));
  unchanged = λ n e. refl;
  accepted = λ j e. absurd (not_verifier (sym e));
}
accept_answers t h self symbol says after (Accepting.accepted so li ob same limits many bounded within exact) = record {
  malformed = (λ e. absurd (not_verifier e), λ x. absurd (x (so, li)));
  not_observable = (λ e. absurd (not_verifier e), λ x. absurd (x.2 ob));
  incompatible = λ trace g. (λ e. absurd (not_verifier e), λ x. let p = (exact trace g).possible in absurd (x.3 p.run p.compatible));
  no_other = λ n e. absurd (not_verifier e);
  unchanged = λ n e. absurd (not_verifier e);
  accepted = λ j e.
      subst (λ (k : Findings). AcceptedWithin h self k after) (one_findings e)
      (record { same = same; limits = limits; as_many = many; bounded = bounded; size = within });
}

same_by : {m n : ℕ} → verifier.refused-by m ≡ verifier.refused-by n → m ≡ n
same_by e = ap number e
  where
    number : verifier.SaidBy → ℕ
    number (verifier.refused-by n) = n
    number (verifier.verdicts_by j) = 0

not_by : {j : FindingsBy} {n : ℕ} → verifier.verdicts_by j ≡ verifier.refused-by n → ⊥
not_by e = subst Accepts e tt
  where
    Accepts : verifier.SaidBy → Type 0
    Accepts (verifier.refused-by n) = ⊥
    Accepts (verifier.verdicts_by j) = Unit {0}

pub accept_by_answers : EveryAcceptBy
accept_by_answers notion t h self symbol says after (AcceptingBy.turned_back {n = n} x) =
    let a = accept_answers t h self symbol (verifier.refused n) after x in
    record {
      malformed = (λ e. a.malformed.0 (ap verifier.refused (same_by e)), λ y. ap verifier.refused-by (same_verifier (a.malformed.1 y)));
      not_observable = (λ e. a.not_observable.0 (ap verifier.refused (same_by e)), λ y. ap verifier.refused-by (same_verifier (a.not_observable.1 y)));
      incompatible = λ trace g. (
        λ e. (a.incompatible trace g).0 (ap verifier.refused (same_by e)),
        λ y. ap verifier.refused-by (same_verifier ((a.incompatible trace g).1 y)),
      );
      no_other = λ m e. a.no_other m (ap verifier.refused (same_by e));
      unchanged = λ m e. a.unchanged n refl;
    }
accept_by_answers notion t h self symbol says after (AcceptingBy.accepted_by m many each) = record {
  malformed = (λ e. absurd (not_by e), λ y. absurd (y (m.well_formed, m.limits)));
  not_observable = (λ e. absurd (not_by e), λ y. absurd (y.2 m.observable));
  incompatible = λ trace g. (λ e. absurd (not_by e), λ y. let p = (m.grown trace g).possible in absurd (y.3 p.run p.compatible));
  no_other = λ n e. absurd (not_by e);
  unchanged = λ n e. absurd (not_by e);
}

pub start_answers : EveryStart
start_answers t h f notion says s (Starting.malformed bad out) = record {
  malformed = (λ e. bad, λ x. refl);
  too_many_secrets = (λ e. absurd (omega (arith, same_start e)), λ x. absurd (bad x.0));
  look_back_too_large = (λ e. absurd (omega (arith, same_start e)), λ x. absurd (bad x.0));
  initial_leak = (λ e. absurd (omega (arith, same_start e)), λ x. absurd (bad x.0));
  no_other = λ n e. inl (sym (same_start e));
  unusable = λ n e. out;
}
start_answers t h f notion says s (Starting.too_many_secrets so many out) = record {
  malformed = (λ e. absurd (omega (arith, same_start e)), λ x. absurd (x so));
  too_many_secrets = (λ e. (so, many), λ x. refl);
  look_back_too_large = (λ e. absurd (omega (arith, same_start e)), λ x. absurd (omega (arith, x.1, many)));
  initial_leak = (λ e. absurd (omega (arith, same_start e)), λ x. absurd (omega (arith, x.1.few, many)));
  no_other = λ n e. inr (inl (sym (same_start e)));
  unusable = λ n e. out;
}
start_answers t h f notion says s (Starting.look_back_too_large so few large out) = record {
  malformed = (λ e. absurd (omega (arith, same_start e)), λ x. absurd (x so));
  too_many_secrets = (λ e. absurd (omega (arith, same_start e)), λ x. absurd (omega (arith, x.1, few)));
  look_back_too_large = (λ e. (so, few, large), λ x. refl);
  initial_leak = (λ e. absurd (omega (arith, same_start e)), λ x. absurd (allowed_not_large f x.1 large));
  no_other = λ n e. inr (inr (inl (sym (same_start e))));
  unusable = λ n e. out;
}
start_answers t h f notion says s (Starting.initial_leak so allowed leaks out) = record {
  malformed = (λ e. absurd (omega (arith, same_start e)), λ x. absurd (x so));
  too_many_secrets = (λ e. absurd (omega (arith, same_start e)), λ x. absurd (omega (arith, x.1, allowed.few)));
  look_back_too_large = (λ e. absurd (omega (arith, same_start e)), λ x. absurd (allowed_not_large f allowed x.2));
  initial_leak = (λ e. (so, allowed, leaks), λ x. refl);
  no_other = λ n e. inr (inr (inr (sym (same_start e))));
  unusable = λ n e. out;
}
start_answers t h f notion says s (Starting.ready so allowed tells same grown) = record {
  malformed = (λ e. absurd (not_start e), λ x. absurd (x so));
  too_many_secrets = (λ e. absurd (not_start e), λ x. absurd (omega (arith, x.1, allowed.few)));
  look_back_too_large = (λ e. absurd (not_start e), λ x. absurd (allowed_not_large f allowed x.2));
  initial_leak = (λ e. absurd (not_start e), λ x. absurd (never_opens notion _ _ tells x.2));
  no_other = λ n e. absurd (not_start e);
  unusable = λ n e. absurd (not_start e);
}

pub offer_answers : EveryOffer
offer_answers t h self byte output says after left (Offering.malformed bad) = record {
  malformed = (λ e. bad, λ x. refl);
  output_too_small = (λ e. absurd (omega (arith, same_offer e)), λ x. absurd (bad (x.0, x.1)));
  not_observable = (λ e. absurd (omega (arith, same_offer e)), λ x. absurd (bad (x.0, x.1)));
  incompatible = λ notion trace g. (λ e. absurd (omega (arith, same_offer e)), λ x. absurd (bad (x.0, x.1)));
  no_other = λ n e. inl (sym (same_offer e));
  unchanged = λ n e. (refl, refl);
  accepted = λ r e. absurd (not_offer (sym e));
}
offer_answers t h self byte output says after left (Offering.output_too_small so li few) = record {
  malformed = (λ e. absurd (omega (arith, same_offer e)), λ x. absurd (x (so, li)));
  output_too_small = (λ e. (so, li, few), λ x. refl);
  not_observable = (λ e. absurd (omega (arith, same_offer e)), λ x. absurd (omega (arith, x.2, few)));
  incompatible = λ notion trace g. (λ e. absurd (omega (arith, same_offer e)), λ x. absurd (omega (arith, x.2, few)));
  no_other = λ n e. inr (inl (sym (same_offer e)));
  unchanged = λ n e. (refl, refl);
  accepted = λ r e. absurd (not_offer (sym e));
}
offer_answers t h self byte output says after left (Offering.not_observable so li wide never) = record {
  malformed = (λ e. absurd (omega (arith, same_offer e)), λ x. absurd (x (so, li)));
  output_too_small = (λ e. absurd (omega (arith, same_offer e)), λ x. absurd (omega (arith, x.2, wide)));
  not_observable = (λ e. (so, li, wide, never), λ x. refl);
  incompatible = λ notion trace g. (λ e. absurd (omega (arith, same_offer e)), λ x. absurd (never x.3));
  no_other = λ n e. inr (inr (inl (sym (same_offer e))));
  unchanged = λ n e. (refl, refl);
  accepted = λ r e. absurd (not_offer (sym e));
}
offer_answers t h self byte output says after left (Offering.incompatible so li wide ob nobody) = record {
  malformed = (λ e. absurd (omega (arith, same_offer e)), λ x. absurd (x (so, li)));
  output_too_small = (λ e. absurd (omega (arith, same_offer e)), λ x. absurd (omega (arith, x.2, wide)));
  not_observable = (λ e. absurd (omega (arith, same_offer e)), λ x. absurd (x.3 ob));
  incompatible = λ notion trace g. (λ e. (so, li, wide, ob, nobody notion trace g), λ x. refl);
  no_other = λ n e. inr (inr (inr (sym (same_offer e))));
  unchanged = λ n e. (refl, refl);
  accepted = λ r e. absurd (not_offer (sym e));
}
offer_answers t h self byte output says after left (Offering.accepted so li wide ob same limits balance front rest within exact) = record {
  malformed = (λ e. absurd (not_offer e), λ x. absurd (x (so, li)));
  output_too_small = (λ e. absurd (not_offer e), λ x. absurd (omega (arith, x.2, wide)));
  not_observable = (λ e. absurd (not_offer e), λ x. absurd (x.3 ob));
  incompatible = λ notion trace g. (λ e. absurd (not_offer e), λ x. let p = (exact notion trace g).possible in absurd (x.4 p.run p.compatible));
  no_other = λ n e. absurd (not_offer e);
  unchanged = λ n e. absurd (not_offer e);
  accepted = λ r e.
      subst (λ (s : Release). ReleasedWithin h self byte output s after left) (one_release e)
      (record { same = same; limits = limits; balance = balance; front = front; rest = rest; size = within });
}

same_advance : {m n : ℕ} → advancing.refused m ≡ advancing.refused n → m ≡ n
same_advance e = ap number e
  where
    number : advancing.AdvanceOutcome → ℕ
    number (advancing.refused n) = n
    number (advancing.taken a) = 0

not_advance : {a : Advance} {n : ℕ} → advancing.taken a ≡ advancing.refused n → ⊥
not_advance e = subst Takes e tt
  where
    Takes : advancing.AdvanceOutcome → Type 0
    Takes (advancing.refused n) = ⊥
    Takes (advancing.taken a) = Unit {0}

pub advance_answers : EveryAdvance
advance_answers t h m events out at says after left (advancing.Advancing.malformed bad) = record {
  malformed = (λ e. bad, λ x. refl);
  no_other = λ n e. sym (same_advance e);
  unchanged = λ n e. (refl, refl);
}
advance_answers t h m events out at says after left (advancing.Advancing.advanced w few lines then inside most stop) = record {
  malformed = (λ e. absurd (not_advance e), λ x. absurd (x w));
  no_other = λ n e. absurd (not_advance e);
  unchanged = λ n e. absurd (not_advance e);
}
