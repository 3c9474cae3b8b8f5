-- Source document 000's Propositions 1 and 2, and a leak set that is not empty, with the executions in hand. Assumes nothing.
use mathlib.Core.Path.{ap, ◌∙◌}
use mathlib.Core.List.{List}
use mathlib.Core.Logic.{◌⊎◌, inl, inr, ◌↔◌}
use Prim.Native.Nat.{ℕ, ◌-◌, ◌≤◌}
use native.Mathlib.Omega.{arith}
use lib.ListN.{length}
use Rattle.automaton.specs.Run.{Automaton, Step, shown, Compatible}
use Rattle.automaton.proofs.Runs.{takes_front}
use Rattle.opacity.specs.declared.Secret.{Secret}
use Rattle.opacity.specs.declared.Notion.{Notion}
use Rattle.opacity.specs.declared.Notion.TheVariants.{Weak, Strong}
use Rattle.opacity.specs.Verdicts.{Steps, none, leak, Tells}
use Rattle.opacity.proofs.Exactness.{in_words}
use Rattle.published.specs.Source.{Prefix, Lang, Trace, AllSecret, NoneFree, Excused, Alone, Breaks, WeaklyOpaque, StronglyOpaque, Opaque, LeakSet}
use Rattle.published.specs.Source.{RevealsWithin, LeaksByRuns}
use Rattle.published.proofs.SourceLaws.{prefix_short, position_at, still_at, run_trace, words_leak_at, tells_excused, excused_like, excused_free}
use Rattle.published.proofs.SourceLaws.{excused_opaque}
use Rattle.published.proofs.Corollary.{at_within, opaque_empty, empty_opaque}
use Rattle.opacity.proofs.EveryVerdict.{every_verdict}

-- Proposition 1: "S is (G, P, K)-weakly opaque iff ∀ μ ∈ T(G), ∀ μ' ⪯ μ : |μ − μ'| ≤ K ⇒ ⟦μ'/μ⟧ ⊄ L_S(G)"
pub proposition_1 : (p : Automaton) (secret : Secret)
    → WeaklyOpaque p secret ↔ ((μ : List ℕ) → Trace p μ → (μ' : List ℕ) → Prefix ℕ μ' μ → length μ - length μ' ≤ secret.k → AllSecret p secret.states μ' μ
    → ⊥)
proposition_1 p secret = (
  (λ opaque μ x μ' pre near all. opaque_empty Weak p secret opaque μ
      (record { observed = x; leaks = record { μ' = μ'; begins = pre; back = near; all = all } })),
  (λ never. empty_opaque Weak p secret (λ μ x. never μ x.observed x.leaks.μ' x.leaks.begins x.leaks.back x.leaks.all)),
)

-- Proposition 2: "S is (G, P, K)-strongly opaque if and only if ∀ μ ∈ T(G) : ⟦μ⟧ ∩ Free_K ≠ ∅"
pub proposition_2 : (p : Automaton) (secret : Secret) → StronglyOpaque p secret ↔ ((μ : List ℕ) → Trace p μ → NoneFree p secret.states secret.k μ → ⊥)
proposition_2 p secret = (
  (λ opaque μ x free. opaque_empty Strong p secret opaque μ (record { observed = x; leaks = free })),
  (λ never. empty_opaque Strong p secret (λ μ x. never μ x.observed x.leaks)),
)

module _ (notion : Notion) (p : Automaton) (secret : Secret) where
  -- each observed trace is in the leak set, or excused by execution sequences that are found
  found : (μ : List ℕ) → Trace p μ → LeakSet notion p secret μ ⊎ Excused notion p secret μ
  found μ x = go (every_verdict notion p secret μ)
    where
      go : (v : Steps) × Tells notion p secret μ v → LeakSet notion p secret μ ⊎ Excused notion p secret μ
      go (none, tells) = inr (tells_excused notion p secret μ tells)
      go (leak l, tells) =
          inl (at_within notion p secret l μ tells.within
          (record { observed = x; leaks = words_leak_at p secret μ notion l (in_words notion p secret μ (leak l) tells) }))

  -- Propositions 1 and 2 with the execution sequences in hand
  pub propositions_shown : Opaque notion p secret ↔ ((μ : List ℕ) → Trace p μ → Excused notion p secret μ)
  propositions_shown = (shows_each, excused_opaque notion p secret)
    where
      pick : Opaque notion p secret → (μ : List ℕ) → LeakSet notion p secret μ ⊎ Excused notion p secret μ → Excused notion p secret μ
      pick opaque μ (inl x) = absurd (opaque_empty notion p secret opaque μ x)
      pick opaque μ (inr x) = x

      shows_each : Opaque notion p secret → (μ : List ℕ) → Trace p μ → Excused notion p secret μ
      shows_each opaque μ x = pick opaque μ (found μ x)

apart : (notion : Notion) (p : Automaton) (secret : Secret) (μ : List ℕ) → LeakSet notion p secret μ → Excused notion p secret μ → ⊥
apart Weak p secret μ x excused =
    let r = x.leaks in
    let clear = excused r.μ' r.begins r.back in
    clear.outside (r.all clear.s' clear.still)
apart Strong p secret μ x some = x.leaks some.s some.compatible some.free

-- an execution that breaks the definition excuses nothing
broken : (notion : Notion) (p : Automaton) (secret : Secret) (t : List Step) → Breaks notion p secret t → Excused notion p secret (shown p t) → ⊥
broken Weak p secret t x excused = x.alone (excused_like p secret t excused x.t' x.begins x.near)
broken Strong p secret t alone excused = alone (excused_free p secret t excused)

-- and each execution of a trace that leaks breaks it: at the end of the prefix that reveals
breaks_weakly : (p : Automaton) (secret : Secret) (μ : List ℕ) → RevealsWithin p secret μ → (t : List Step) → Compatible p μ t → Alone p secret t
breaks_weakly p secret μ r t f =
    let x = position_at p μ t f (length r.μ') (prefix_short r.μ' μ r.begins) in
    let m = x.position in
    let still = still_at p μ t f m r.μ' r.begins x.here in
    record {
      t' = m.before;
      begins = record { rest = m.after; joins = m.splits };
      near = omega (arith, ap length f.shown_is, x.here, r.back);
      inside = r.all m.before still;
      alone = λ e. e.free (r.all e.s' (record {
        now = record {
          takes = takes_front p p.initial e.s' e.begins.rest (rw e.begins.joins e.takes);
          shown_is = e.like'
              ∙ still.now.shown_is;
        };
        whole = e.s;
        begins = e.begins;
        then = record { takes = e.takes; shown_is = e.like ∙ f.shown_is };
      }));
    }

breaks : (notion : Notion) (p : Automaton) (secret : Secret) (μ : List ℕ) → LeakSet notion p secret μ → (t : List Step) → Compatible p μ t
    → Breaks notion p secret t
breaks Weak p secret μ x t f = breaks_weakly p secret μ x.leaks t f
breaks Strong p secret μ x t f = λ e. x.leaks e.s (record { takes = e.takes; shown_is = e.like ∙ f.shown_is }) e.free

-- Corollary 1 read for a leak set that is not empty. (That a trace leaks wherever the secret is not opaque would need a bound on the traces to be searched)
pub not_opaque_leaks : (notion : Notion) (p : Automaton) (secret : Secret) → LeaksByRuns notion p secret
not_opaque_leaks notion p secret = record { leaks = leaks; breaks = breaks notion p secret; found = found notion p secret; apart = apart notion p secret }
  where
    pick : (t : List Step) → Breaks notion p secret t → LeakSet notion p secret (shown p t) ⊎ Excused notion p secret (shown p t)
        → LeakSet notion p secret (shown p t)
    pick t x (inl leak-set) = leak-set
    pick t x (inr excused) = absurd (broken notion p secret t x excused)

    leaks : (t : List Step) → Lang p t → Breaks notion p secret t → LeakSet notion p secret (shown p t)
    leaks t lang x = pick t x (found notion p secret (shown p t) (run_trace p t lang))
