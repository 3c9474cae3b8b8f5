-- An estimator that has grown by a trace takes up each symbol that can follow: the estimator after it, and its verdicts, exist, and are those of every other
-- trace that leads there. Assumes nothing.
use mathlib.Core.Path.{◌≡◌, refl, ap, sym, ◌∙◌, subst}
use mathlib.Core.List.{List, [], ◌∷◌, ◌++◌}
use mathlib.Core.Logic.{◌↔◌}
use Prim.Native.Nat.{ℕ, ◌+◌, ◌-◌, ◌≤◌, min}
use native.Mathlib.Omega.{arith}
use lib.Count.{ones}
use lib.ListN.{length, get_or, take}
use lib.Seq.{take-length}
use Rattle.stateset.proofs.Counting.{counts_as, ones_counts}
use Rattle.automaton.specs.Run.{Automaton, automaton_of, Possible, WellFormed}
use Rattle.automaton.specs.declared.Header.{Header}
use Rattle.automaton.specs.Reaching.{Enters, EstimateSize}
use Rattle.automaton.proofs.Traces.{symbol_observable, entry_possible, entry_impossible}
use Rattle.automaton.proofs.Estimates.{set_size, size_some, size_most}
use Rattle.opacity.specs.declared.Notion.{Notion}
use Rattle.opacity.specs.Secrets.{secrets_of, secret_at, ForEach, look_back_of}
use Rattle.opacity.specs.Verdicts.{Steps}
use Rattle.opacity.proofs.Numbering.{look_back_small, secret_back}
use Rattle.opacity.proofs.Exactness.{tells_bounded}
use Rattle.opacity.proofs.EveryVerdict.{every_verdict}
use Rattle.estimates.specs.Estimates.{Pushed}
use Rattle.verifier.specs.declared.Estimator.{Estimator}
use Rattle.verifier.specs.Estimators.{GrownOn}
use Rattle.verifier.specs.Replies.{Moved, TellsBy}
use Rattle.verifier.proofs.Growing.{grown_limits, grown_push}
use Rattle.explore.proofs.Configured.{equal_configurations}
use Rattle.waiting.proofs.Alike.{arrives_alike, same_verdict}
use Rattle.waiting.proofs.Following.{estimate, NextEntry, next_entry}
use Rattle.lists.proofs.Values.{padded, length_padded, get_d_padded, get_d_behind}

pushed : (x : ℕ) (old : List ℕ) (n size : ℕ) → n ≤ size → Pushed x old n size (padded (λ l. get_or (x ∷ old) l 0) n size)
pushed x old n size h = record {
  size_is = length_padded (λ l. get_or (x ∷ old) l 0) n size h;
  kept = get_d_padded (λ l. get_or (x ∷ old) l 0) n size;
  rest = get_d_behind (λ l. get_or (x ∷ old) l 0) n size;
}

-- with one symbol more, and its entry set
abbrev push : ℕ → Estimator → (symbol entry : ℕ) → Estimator
push K s symbol entry = record {
  count = min K (s.count + 1);
  symbols = padded (λ l. get_or (symbol ∷ s.symbols) l 0) (min K (s.count + 1)) 15;
  entries = padded (λ l. get_or (entry ∷ s.entries) l 0) (min K (s.count + 1) + 1) 16;
  further = s.further;
}

module _ (t : List ℕ) (h : Header) (well_formed : WellFormed t h) (trace : List ℕ) (s : Estimator) (b : ℕ) (g : GrownOn t h trace s)
    (possible : Possible (automaton_of t h) (trace ++ b ∷ [])) where
  abbrev p : Automaton
  p = automaton_of t h

  abbrev K : ℕ
  K = look_back_of h s.further

  entry : NextEntry p well_formed.start trace b
  entry = next_entry p well_formed.start trace b

  pub after : Estimator
  after = push K s b entry.word

  whole : (a : List ℕ) → take (length a - 0) a ≡ a
  whole a = ap (λ (n : ℕ). take n a) (let e : length a - 0 ≡ length a = omega arith in e) ∙ take-length a

  -- for every trace that leads to the estimator
  alike : (other : List ℕ) → GrownOn t h other s → (q : ℕ) → Enters p trace q ↔ Enters p other q
  alike other o q =
      let x = (equal_configurations p K trace other s g o).entries 0 (omega arith) q in (
        λ e. subst (λ (l : List ℕ). Enters p l q) (whole other) (x.0 (subst (λ (l : List ℕ). Enters p l q) (sym (whole trace)) e)),
        λ e. subst (λ (l : List ℕ). Enters p l q) (whole trace) (x.1 (subst (λ (l : List ℕ). Enters p l q) (sym (whole other)) e)),
      )

  some : entry.word ≡ 0 → ⊥
  some z = entry_impossible p (trace ++ b ∷ []) entry.word z (entry.is trace (alike trace g)) possible.run possible.compatible

  pub grown_after : (other : List ℕ) → GrownOn t h other s → GrownOn t h (other ++ b ∷ []) after
  unfolding after
  grown_after other o =
      let k = look_back_small h s.further well_formed.back o.allowed in
      let is = entry.is other (alike other o) in
      grown_push p K other s o b entry.word (push K s b entry.word) refl refl (pushed b s.symbols (min K (s.count + 1)) 15 (omega arith))
      (pushed entry.word s.entries (min K (s.count + 1) + 1) 16 (omega arith)) entry.small is
      (entry_possible p (other ++ b ∷ []) entry.word entry.small some is)

  -- how many states are possible then
  pub size : ℕ
  size = ones (estimate p well_formed.start (trace ++ b ∷ [])).word

  size_here : EstimateSize p (trace ++ b ∷ []) size
  unfolding size
  size_here =
      let w = estimate p well_formed.start (trace ++ b ∷ []) in
      set_size p (trace ++ b ∷ []) w.word _ w.is (ones_counts 64 w.word w.small)

  after_kept : after.further ≡ s.further
  unfolding after
  after_kept = refl

  pub moved : Moved t h s b size after
  moved = record {
    well_formed = well_formed;
    limits = grown_limits p K trace s g well_formed.symbols_small;
    observable = symbol_observable p trace b [] possible;
    same = after_kept;
    limits_after = grown_limits p _ (trace ++ b ∷ []) after (grown_after trace g) well_formed.symbols_small;
    size_within = record {
      some = size_some p (trace ++ b ∷ []) size possible size_here;
      most = size_most p (trace ++ b ∷ []) size
          well_formed.start size_here;
    };
    grown = grown_after;
    size = λ other o. counted other (enters_there other o);
  }
    where
      -- the entry set of both
      enters_there : (other : List ℕ) → GrownOn t h other s → (q : ℕ) → Enters p (trace ++ b ∷ []) q ↔ Enters p (other ++ b ∷ []) q
      enters_there other o q =
          let u = entry.is trace (alike trace g) in
          let w = entry.is other (alike other o) in
          (λ e. w.sound q (u.whole q e), λ e. u.sound q (w.whole q e))

      counted : (other : List ℕ) → ((q : ℕ) → Enters p (trace ++ b ∷ []) q ↔ Enters p (other ++ b ∷ []) q) → EstimateSize p (other ++ b ∷ []) size
      counted other same =
          counts_as (arrives_alike p (trace ++ b ∷ []) (other ++ b ∷ []) (λ r. (same r).0))
          (arrives_alike p (other ++ b ∷ []) (trace ++ b ∷ []) (λ r. (same r).1))
          size_here

  -- the verdict of a secret by a notion, of every trace that leads there
  pub verdict : Notion → ℕ → Steps
  verdict notion i = (every_verdict notion p (secret_at (secrets_of h s.further) i) (trace ++ b ∷ [])).0

  pub told : (notion : Notion) → ForEach (secrets_of h s.further) (λ i c. TellsBy notion t h s b c (verdict notion i))
  unfolding verdict
  told notion i given =
      let c = secret_at (secrets_of h s.further) i in
      let v = every_verdict notion p c (trace ++ b ∷ []) in
      record {
        bounded = tells_bounded notion p c (trace ++ b ∷ []) v.0 v.1;
        tells = λ other o.
            same_verdict notion p well_formed.start c (look_back_of h after.further) (secret_back_after i given) (trace ++ b ∷ []) (other ++ b ∷ [])
            (equal_configurations p _ (trace ++ b ∷ []) (other ++ b ∷ []) after (grown_after trace g) (grown_after other o)) v.0 v.1;
      }
    where
      secret_back_after : ForEach (secrets_of h s.further) (λ i c. c.k ≤ look_back_of h after.further)
      secret_back_after i given = rw after_kept (secret_back h s.further i given)
