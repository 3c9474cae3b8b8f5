-- A place past the count of further secrets counts for nothing: two that differ there alone, and so are kept alike, are answered alike; and a state that
-- differs there alone has grown by the same traces. Assumes nothing.
use mathlib.Core.Path.{◌≡◌, ap, sym, subst, ◌∙◌}
use mathlib.Core.List.{List, [], ◌∷◌}
use Prim.Native.Nat.{ℕ, ◌≤◌, ◌<◌}
use native.Mathlib.Omega.{arith}
use lib.ListN.{length}
use Rattle.automaton.specs.declared.Header.{Header}
use Rattle.opacity.specs.declared.Secret.{Secret}
use Rattle.opacity.specs.declared.Further.{Further}
use Rattle.verifier.specs.declared.Estimator.{Estimator}
use Rattle.opacity.specs.Secrets.{own, further_of, secrets_of, secret_at, ForEach, largest, look_back_of, cleared_of, Allowed, TooLarge}
use Rattle.verifier.specs.Estimators.{InLimits, GrownOn}
use Rattle.verifier.specs.Replies.{Said, Exact, Opening, opened}
use Rattle.opacity.proofs.Numbering.{same_further}

module _ (f g : Further) (same : cleared_of f ≡ cleared_of g) where
  pub past_count : f.count ≡ g.count
  past_count = ap (λ (x : Further). x.count) same

  -- the same are given
  pub past_given : further_of f ≡ further_of g
  past_given = sym (same_further f) ∙ ap further_of same ∙ same_further g

  pub past_secrets : (h : Header) → secrets_of h f ≡ secrets_of h g
  past_secrets h = ap (λ (cs : List Secret). own h ∷ cs) past_given

  pub past_allowed : Allowed f → Allowed g
  past_allowed a = record { few = omega (arith, a.few, past_count); back = subst (λ (cs : List Secret). ForEach cs (λ i c. c.k ≤ 15)) past_given a.back }

  pub past_large : TooLarge f → TooLarge g
  past_large x = record {
    at = x.at;
    given = subst (λ (cs : List Secret). x.at < length cs) past_given x.given;
    large = subst (λ (cs : List Secret). 15 < (secret_at cs x.at).k) past_given x.large;
  }

  -- a fresh estimator
  pub past_opening : (t : List ℕ) (h : Header) (r : Said) (s : Estimator) → Opening t h f r s → Opening t h g r s
  past_opening t h r s (Opening.malformed bad out) = Opening.malformed bad out
  past_opening t h r s (Opening.too_many_secrets so many out) = Opening.too_many_secrets so (omega (arith, past_count)) out
  past_opening t h r s (Opening.look_back_too_large so few large out) = Opening.look_back_too_large so (omega (arith, past_count)) (past_large large) out
  past_opening t h r s (opened {j = j} so allowed is li many within exact) =
      opened so (past_allowed allowed) (is ∙ same) li (many ∙ ap length (past_secrets h)) within
      (subst (λ (cs : List Secret). Exact t h cs [] j s) (past_secrets h) exact)

-- a state with other further secrets
abbrev pub with_further : Estimator → Further → Estimator
with_further s g = record { count = s.count; symbols = s.symbols; entries = s.entries; further = g }

module _ (t : List ℕ) (h : Header) (s : Estimator) (g : Further) (same : cleared_of s.further ≡ cleared_of g) where
  largest_same : look_back_of h s.further ≡ look_back_of h g
  largest_same = ap largest (past_secrets s.further g same h)

  pub past_limits : InLimits h s → InLimits h (with_further s g)
  past_limits li = record { allowed = past_allowed s.further g same li.allowed; few = omega (arith, li.few, largest_same); small = li.small }

  pub past_grown : (trace : List ℕ) → GrownOn t h trace s → GrownOn t h trace (with_further s g)
  past_grown trace x = record {
    allowed = past_allowed s.further g same x.allowed;
    possible = x.possible;
    count_is = omega (arith, x.count_is, largest_same);
    symbols_are = x.symbols_are;
    symbols_rest = x.symbols_rest;
    entries_are = x.entries_are;
    entries_rest = x.entries_rest;
    symbols_size = x.symbols_size;
    entries_size = x.entries_size;
    entries_words = x.entries_words;
  }
