-- A configuration decides the verdicts: what is judged of a trace depends on its last symbols and entry sets alone. Assumes nothing.
use mathlib.Core.Path.{◌≡◌, refl, ap, ap₂, sym, ◌∙◌, subst}
use mathlib.Core.List.{List, ◌++◌, append-nil}
use mathlib.Core.Logic.{◌↔◌}
use Prim.Native.Nat.{ℕ, suc, ◌+◌, ◌-◌, ◌≤◌, ◌<◌, min}
use native.Mathlib.Omega.{arith}
use native.Mathlib.Decide.{dec_lt}
use lib.ListN.{length, get_or, take, drop, length-drop}
use lib.Seq.{take-length, drop-length, ext_get_or, get_or-drop}
use Rattle.stateset.specs.Set.{In, everything}
use Rattle.stateset.proofs.Bits.{in?}
use Rattle.stateset.proofs.Tests.{both}
use Rattle.automaton.specs.Run.{Automaton, end_of, shown, state_at}
use Rattle.automaton.specs.Notion.{ClearAt, ClearFrom}
use Rattle.automaton.specs.Reaching.{Enters, Arrives, Leaves}
use Rattle.automaton.proofs.Runs.{Cut, cut, shown_append, takes_join, end_join, clear_from_unsure}
use Rattle.automaton.proofs.Positions.{part_run, estimate_parts, parts_estimate, estimate_clear}
use Rattle.automaton.proofs.Avoiding.{landed_clear, none_sure}
use Rattle.opacity.specs.declared.Notion.{Notion}
use Rattle.opacity.specs.declared.Notion.TheVariants.{Weak, Strong}
use Rattle.opacity.specs.declared.Secret.{Secret}
use Rattle.opacity.specs.Verdicts.{Steps, none, leak, Sure, Clear, Tells}
use Rattle.opacity.proofs.Exactness.{clear_unsure}
use Rattle.opacity.proofs.Deciding.{clear_from?}
use Rattle.opacity.proofs.EveryVerdict.{every_verdict}
use Rattle.explore.specs.Configurations.{SameConfiguration}
use Rattle.explore.proofs.Counting.{same_sym}
use Rattle.stateset.proofs.Words.{word_of}

-- the states right after the last symbol decide the states that are possible after it
pub arrives_alike : (p : Automaton) (x y : List ℕ) → ((q : ℕ) → Enters p x q → Enters p y q) → (q : ℕ) → Arrives p x q → Arrives p y q
arrives_alike p x y same q a =
    let n : length (shown p a.run) ≡ length x = ap length a.compatible.shown_is in
    let c : Cut p a.run (length x) = cut p a.run (length x) (omega arith) in
    let parts = part_run p x (length x) c.front c.rest a.run c.joins a.compatible c.length_is in
    let e = same (end_of p.initial c.front) (record {
      run = c.front;
      compatible = record { takes = parts.front.takes; shown_is = parts.front.shown_is ∙ take-length x };
      landed = c.landed;
      ends = refl;
    }) in
    record {
      run = e.run ++ c.rest;
      compatible = record {
        takes = takes_join p p.initial e.run c.rest e.compatible.takes (rw e.ends parts.takes);
        shown_is = shown_append p e.run c.rest ∙ ap₂ (λ (u v : List ℕ). u ++ v) e.compatible.shown_is
            (parts.shown_is ∙ drop-length x) ∙ append-nil y;
      };
      ends = end_join p.initial e.run c.rest ∙ ap (λ (s : ℕ). end_of s c.rest) e.ends ∙ sym (end_join p.initial c.front c.rest) ∙ ap
          (end_of p.initial) c.joins ∙ a.ends;
    }

-- two traces that are alike from some place on
module _ (p : Automaton) (start : p.initial ≤ 63) (secret : ℕ) (a b : List ℕ) (j i : ℕ) (ja : j ≤ length a) (ib : i ≤ length b)
    (same : (q : ℕ) → Enters p (take j a) q ↔ Enters p (take i b) q) (rest : drop j a ≡ drop i b) where
  -- the same state, with the run up to it and what follows it
  clear_at_alike : ClearAt p secret a j → ClearAt p secret b i
  clear_at_alike c =
      let q = state_at p c.position in
      let x = estimate_parts p a j start ja q (record { run = c.run; compatible = c.compatible; position = c.position; here = c.here; is = refl }) in
      estimate_clear p secret b i q
      (parts_estimate p b i start ib q (arrives_alike p (take j a) (take i b) (λ r. (same r).0) q x.0)
      (subst (λ (l : List ℕ). Leaves p everything l q) rest x.1)) c.outside

  abbrev Open : ℕ → Type 0
  Open x = (x < 64) × (In x secret → ⊥)

  open? : (x : ℕ) → Dec (Open x)
  open? x = both (dec_lt x 64) (out (in? x secret))
    where
      out : Dec (In x secret) → Dec (In x secret → ⊥)
      out (yes d) = no (λ f. f d)
      out (no d) = yes d

  clear_from_alike : ClearFrom p secret a j → ClearFrom p secret b i
  clear_from_alike c = elim (clear_from? p secret b i) [
    | yes d ↦ d
    | no never ↦
        let w = word_of Open open? (λ q x. x.0) in
        absurd (clear_from_unsure p secret a j j (omega arith) c
        (none_sure p secret w.word (λ x small out. w.is.whole x (omega arith, out)) a j start ja
        (λ q x y. never (landed_clear p secret w.word (λ z inside bad. (w.is.sound z inside).1 bad) b i q ib ((same q).0 x)
        (subst (λ (l : List ℕ). Leaves p w.word l q) rest y)))))
  ]

clear_alike : (notion : Notion) (p : Automaton) → p.initial ≤ 63 → (secret : Secret) (a b : List ℕ) (j i : ℕ) → j ≤ length a → i ≤ length b
    → ((q : ℕ) → Enters p (take j a) q ↔ Enters p (take i b) q) → drop j a ≡ drop i b → Clear notion p secret a j → Clear notion p secret b i
clear_alike Weak p start secret a b j i ja ib same rest c = clear_at_alike p start secret.states a b j i ja ib same rest c
clear_alike Strong p start secret a b j i ja ib same rest c = clear_from_alike p start secret.states a b j i ja ib same rest c

from_end : (n l k : ℕ) → l ≤ n → k < l → n - l + k ≡ n - suc (l - suc k)
from_end n l k h less = omega arith

-- the last symbols are the same lists
last_same : (a b : List ℕ) (l : ℕ) → l ≤ length a → l ≤ length b
    → ((k : ℕ) → k < l → get_or a (length a - suc k) 0 ≡ get_or b (length b - suc k) 0) → drop (length a - l) a ≡ drop (length b - l) b
last_same a b l la lb symbols =
    let n : length (drop (length a - l) a) ≡ l = length-drop (length a - l) a ∙ omega arith in
    let m : length (drop (length b - l) b) ≡ l = length-drop (length b - l) b ∙ omega arith in
    ext_get_or 0 (drop (length a - l) a) (drop (length b - l) b) (n ∙ sym m)
    (λ k less.
    let near : k < l = subst (λ (z : ℕ). k < z) n less in
    get_or-drop (length a - l) a k 0 ∙ ap (λ (y : ℕ). get_or a y 0) (from_end (length a) l k la near) ∙ symbols (l - suc k) (omega (arith, near))
    ∙ sym (get_or-drop (length b - l) b k 0 ∙ ap (λ (y : ℕ). get_or b y 0) (from_end (length b) l k lb near)))

last_alike : (p : Automaton) (K : ℕ) (a b : List ℕ) → SameConfiguration p K a b → (l : ℕ) → l ≤ min K (length a) → drop (length a - l) a ≡ drop (length b - l) b
last_alike p K a b x l h =
    let m = x.as_many in
    last_same a b l (omega arith) (omega arith) (λ k less. x.symbols k (omega arith))

-- of a secret whose K is at most the one of the configurations
module _ (notion : Notion) (p : Automaton) (start : p.initial ≤ 63) (secret : Secret) (K : ℕ) (back : secret.k ≤ K) where
  -- a run excuses the system in the one, where one does in the other
  step_alike : (a b : List ℕ) → SameConfiguration p K a b → (l : ℕ) → l ≤ secret.k → l ≤ length a → Clear notion p secret a (length a - l)
      → Clear notion p secret b (length b - l)
  step_alike a b x l low short c =
      let m = x.as_many in
      clear_alike notion p start secret a b (length a - l) (length b - l) (omega arith) (omega arith) (x.entries l (omega arith))
      (last_alike p K a b x l (omega arith)) c

  -- so they have the same verdict
  pub same_verdict : (a b : List ℕ) → SameConfiguration p K a b → (v : Steps) → Tells notion p secret a v → Tells notion p secret b v
  same_verdict a b x v t = go (every_verdict notion p secret b).0 (every_verdict notion p secret b).1 v t
    where
      y : SameConfiguration p K b a
      y = same_sym p K a b x

      m : min K (length a) ≡ min K (length b)
      m = x.as_many

      -- a leak of the one is one of the other
      no_leak_there : (l : ℕ) → l ≤ secret.k → l ≤ length a → Clear notion p secret a (length a - l) → Sure notion p secret b (length b - l) → ⊥
      no_leak_there l low short c = clear_unsure notion p secret b (length b - l) (step_alike a b x l low short c)

      no_leak_here : (l : ℕ) → l ≤ secret.k → l ≤ length b → Clear notion p secret b (length b - l) → Sure notion p secret a (length a - l) → ⊥
      no_leak_here l low short c = clear_unsure notion p secret a (length a - l) (step_alike b a y l low short c)

      go : (w : Steps) → Tells notion p secret b w → (v : Steps) → Tells notion p secret a v → Tells notion p secret b v
      go none u none t = u
      go none u (leak l) t =
          let short : l ≤ length b = omega (arith, m, back, t.within, t.reached) in
          absurd (no_leak_here l t.within short (u l t.within short) t.sure)
      go (leak k) u none t =
          let short : k ≤ length a = omega (arith, m, back, u.within, u.reached) in
          absurd (no_leak_there k u.within short (t k u.within short) u.sure)
      go (leak k) u (leak l) t = pick (dec_lt k l) (dec_lt l k)
        where
          pick : Dec (k < l) → Dec (l < k) → Tells notion p secret b (leak l)
          pick (yes d) e = absurd (no_leak_there k u.within (omega (arith, t.reached)) (t.least k d) u.sure)
          pick (no d) (yes e) = absurd (no_leak_here l t.within (omega (arith, u.reached)) (u.least l e) t.sure)
          pick (no d) (no e) = subst (λ (n : ℕ). Tells notion p secret b (leak n)) (let z : k ≡ l = omega arith in z) u
