-- What is said of witnesses is the same under two headers that differ in the symbols of unobservable events alone (02, S-2). Assumes nothing.
use mathlib.Core.Path.{◌≡◌, refl, ap, ap₂, sym, subst, ◌∙◌}
use mathlib.Core.List.{List, [], ◌∷◌, ◌++◌}
use mathlib.Core.Logic.{◌↔◌}
use Prim.Native.Nat.{ℕ}
use lib.ListN.{length}
use Rattle.stateset.proofs.Bits.{in?}
use Rattle.automaton.specs.Run.{Automaton, automaton_of, Transition, Step, Takes, shows, shown}
use Rattle.automaton.specs.Symbols.{SameSymbols}
use Rattle.automaton.specs.declared.Header.{Header}
use Rattle.automaton.proofs.Entering.{shows_one, shows_none}
use Rattle.automaton.proofs.Spelling.{in_same, same_back}
use Rattle.automaton.proofs.Headers.{same_well_formed, relabelled, same-header}
use Rattle.opacity.specs.declared.Notion.{Notion}
use Rattle.opacity.specs.declared.Notion.TheVariants.{Weak, Strong}
use Rattle.verifier.specs.declared.Estimator.{Estimator}
use Rattle.witness.specs.Witnesses.{Excused, Witness}
use Rattle.witness.specs.Answers.{Told, Says, Usable, InReachOf, IsWitness, WritingIn, CheckingIn}
use Rattle.witness.proofs.Answering.{same_writing, same_checking}

module _ (p q : Automaton) (g : SameSymbols p q) where
  takes_to : (from : ℕ) (steps : List Step) → Takes p from steps → Takes q from steps
  takes_to from [] x = tt
  takes_to from (s ∷ ss) x = (subst (λ (t : List ℕ). Transition t from s.event s.to) g.same.table x.0, takes_to s.to ss x.1)

  -- an unobservable event shows nothing, whatever its symbol
  shows_to : (e : ℕ) → shows p e ≡ shows q e
  shows_to e =
      elim (in? e p.observable) [
        | yes i ↦ shows_one p e i ∙ ap (λ (symbol : ℕ). symbol ∷ []) (g.symbols_are e i) ∙ sym (shows_one q e (in_same p q g.same e i))
        | no n ↦ shows_none p e n ∙ sym (shows_none q e (λ i. n (in_same q p (same_back p q g).same e i)))
      ]

  shown_to : (steps : List Step) → shown p steps ≡ shown q steps
  shown_to [] = refl
  shown_to (s ∷ ss) = ap₂ (λ (a b : List ℕ). a ++ b) (shows_to s.event) (shown_to ss)

  excused_to : (notion : Notion) (secret start : ℕ) (steps : List Step) → Excused notion p secret start steps → Excused notion q secret start steps
  excused_to Weak secret start steps x =
      record { position = x.position; first = ap length (sym (shown_to x.position.before)) ∙ x.first; outside = x.outside }
  excused_to Strong secret start steps x = x

  witness_to : (notion : Notion) (secret : ℕ) (Starts : ℕ → Type 0) (last : List ℕ) (start : ℕ) (steps : List Step)
      → Witness notion p secret Starts last start steps → Witness notion q secret Starts last start steps
  witness_to notion secret Starts last start steps w =
      record {
        starts = w.starts;
        takes = takes_to start steps w.takes;
        shown_is = sym (shown_to steps) ∙ w.shown_is;
        excused = excused_to notion secret start steps w.excused;
      }

module _ (t : List ℕ) (h : Header) (symbols : List ℕ) (g : SameSymbols (automaton_of t h) (automaton_of t (relabelled h symbols))) (s : Estimator)
    (notion : Notion) (number k : ℕ) where
  usable : Usable t h s ↔ Usable t (relabelled h symbols) s
  usable = (
    (λ x. ((same_well_formed t h (relabelled h symbols) g refl).0 x.0, x.1)),
    (λ x. ((same_well_formed t h (relabelled h symbols) g refl).1 x.0, x.1)),
  )

  reach : InReachOf h s number k ↔ InReachOf (relabelled h symbols) s number k
  reach = (
    (λ r. record { given = r.given; back = r.back; reached = r.reached }),
    (λ r. record { given = r.given; back = r.back; reached = r.reached }),
  )

  excuses : (start : ℕ) (steps : List Step)
      → IsWitness t h s notion number k start steps ↔ IsWitness t (relabelled h symbols) s notion number k start steps
  excuses start steps = (
    witness_to (automaton_of t h) (automaton_of t (relabelled h symbols)) g notion _ _ _ start steps,
    witness_to (automaton_of t (relabelled h symbols)) (automaton_of t h) (same_back _ _ g) notion _ _ _ start steps,
  )

  writing_to : (output : List ℕ) (said : Told) (after : List ℕ) → WritingIn t h s notion number k output said after
      → WritingIn t (relabelled h symbols) s notion number k output said after
  writing_to output said after x =
      same_writing (Usable t h s) (Usable t (relabelled h symbols) s) (InReachOf h s number k) (InReachOf (relabelled h symbols) s number k)
      (IsWitness t h s notion number k) (IsWitness t (relabelled h symbols) s notion number k) output usable reach (λ r start steps. excuses start steps)
      said after x

  checking_to : (start : ℕ) (bytes : List ℕ) (said : Says) → CheckingIn t h s notion number k start bytes said
      → CheckingIn t (relabelled h symbols) s notion number k start bytes said
  checking_to start bytes said x =
      same_checking (Usable t h s) (Usable t (relabelled h symbols) s) (InReachOf h s number k) (InReachOf (relabelled h symbols) s number k)
      (IsWitness t h s notion number k start) (IsWitness t (relabelled h symbols) s notion number k start) bytes usable reach
      (λ r steps. excuses start steps) said x

module _ (t : List ℕ) (h h' : Header) (g : SameSymbols (automaton_of t h) (automaton_of t h')) (secret : h.secret ≡ h'.secret) (k : h.k ≡ h'.k)
    (s : Estimator) (notion : Notion) (number step : ℕ) where
  pub same_witness_writing : (output : List ℕ) (said : Told) (after : List ℕ)
      → WritingIn t h s notion number step output said after ↔ WritingIn t h' s notion number step output said after
  same_witness_writing output said after =
      same-header t (λ x. WritingIn t x s notion number step output said after)
      (λ h symbols g. writing_to t h symbols g s notion number step output said after) h h' g secret k

  pub same_witness_checking : (start : ℕ) (bytes : List ℕ) (said : Says)
      → CheckingIn t h s notion number step start bytes said ↔ CheckingIn t h' s notion number step start bytes said
  same_witness_checking start bytes said =
      same-header t (λ x. CheckingIn t x s notion number step start bytes said)
      (λ h symbols g. checking_to t h symbols g s notion number step start bytes said) h h' g secret k
