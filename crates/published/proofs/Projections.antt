-- Without symbols our projection is source document 000's. Assumes nothing.
use mathlib.Core.Path.{◌≡◌, refl, ap, ap₂, sym, ◌∙◌}
use mathlib.Core.List.{List, [], ◌∷◌, ◌++◌}
use Prim.Native.Nat.{ℕ, ◌<◌}
use native.Mathlib.Omega.{arith}
use Rattle.stateset.specs.Set.{bit}
use Rattle.stateset.proofs.Bits.{in?, bit_lt}
use Rattle.automaton.specs.Run.{Automaton, show_if, shows}
use Rattle.automaton.specs.Symbols.{WithoutSymbols}
use Rattle.automaton.proofs.Entering.{shows_one, shows_none}
use Rattle.published.specs.ByWords.{Leads, projected, erased}

own_shows : (p : Automaton) → WithoutSymbols p → (e : ℕ) → e < 32 → shows p e ≡ show_if (bit e p.observable) e
own_shows p w e small =
    elim (in? e p.observable) [
      | yes i ↦ shows_one p e i ∙ ap (λ (x : ℕ). x ∷ []) (w.own e small i) ∙ sym (ap (λ (b : ℕ). show_if b e) i)
      | no n ↦
          let other : bit e p.observable ≡ 1 → ⊥ = n in
          let zero_bit : bit e p.observable ≡ 0 = omega (arith, bit_lt e p.observable) in
          shows_none p e n ∙ sym (ap (λ (b : ℕ). show_if b e) zero_bit)
    ]

-- of every word of the automaton, from any state
pub own_projection : (p : Automaton) → WithoutSymbols p → (q : ℕ) (s : List ℕ) (r : ℕ) → Leads p q s r → projected p s ≡ erased p.observable s
own_projection p w q [] r x = refl
own_projection p w q (e ∷ s) r x =
    ap₂ (λ (a b : List ℕ). a ++ b) (own_shows p w e x.1.event_small) (own_projection p w x.0 s r x.2)
