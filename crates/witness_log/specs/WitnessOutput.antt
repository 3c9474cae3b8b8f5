-- What is printed for the witnesses of a log (02, S-10: alibis), by the definitions alone: no estimator stands here. Any run that excuses the system may stand
-- in a line, so an input may have several outputs; which lines say `no alibi` is certain (SaidLines, no_alibi_exactly).
use Rattle.std.specs.Prelude.{List, [], ◌++◌, ℕ, ◌+◌, min, length}
use Rattle.automaton.specs.Run.{automaton_of, Step}
use Rattle.automaton.specs.declared.Header.{Header}
use Rattle.refusal.specs.Refusals.{number_of}
use Rattle.refusal.specs.declared.Refusal.{Refusal}
use Rattle.opacity.specs.Secrets.{own, no_further}
use Rattle.opacity.specs.declared.Notion.{Notion}
use Rattle.opacity.specs.declared.Notion.TheVariants.{Weak, Strong}
use Rattle.leaks.specs.FirstLeaks.{AcceptedPart}
use Rattle.witness.specs.Witnesses.{WitnessOf, bytes_of}
use Rattle.report.specs.Text.{refused_log}
use Rattle.report.specs.Witnesses.{witness_line, no_witness_line, accepted_end}
use Rattle.monitor.specs.Log.{events_of}
use Rattle.leak_log.specs.LeakOutput.{Refused, Searchable}

-- the line of a step: a start and steps of which W holds, any such; or `no alibi` where there are none
pub data LineOf (W : (start : ℕ) → List Step → Type 0) (notion : Notion) (k : ℕ) : List ℕ → Type 0 where
  a_run : {start : ℕ} {steps : List Step} → W start steps → LineOf W notion k (witness_line notion k start (bytes_of steps))
  no_run : ((start : ℕ) (steps : List Step) → W start steps → ⊥) → LineOf W notion k (no_witness_line notion k)

-- the lines of the first n steps, k = 0, 1, ..
pub data LinesOf (W : (k start : ℕ) → List Step → Type 0) (notion : Notion) : (n : ℕ) → List ℕ → Type 0 where
  none : LinesOf W notion 0 []
  more : {k : ℕ} {text line : List ℕ} → LinesOf W notion k text → LineOf (W k) notion k line → LinesOf W notion (k + 1) (text ++ line)

-- a run over the last k of the accepted symbols that excuses the system of the automaton's own secret, the one secret of a log
abbrev pub Excuses : List ℕ → Header → (trace : List ℕ) → Notion → (k start : ℕ) → List Step → Type 0
Excuses t h trace notion k start steps = WitnessOf notion (automaton_of t h) (own h).states trace k start steps

-- the steps up to the least of K and the accepted events, 0 among them
abbrev pub steps_of : Header → (trace : List ℕ) → ℕ
steps_of h trace = min h.k (length trace) + 1

-- the output: of a refused log its number, as for the first leak; else the lines of weak, those of strong, and last how many events were accepted. A refused
-- event byte is passed over
pub data Output (input : List ℕ) : List ℕ → Type 0 where
  refused : (r : Refusal) → Refused input (number_of r) → Output input (refused_log r)
  ended : {t trace weak strong : List ℕ} {h : Header} → Searchable input t h → AcceptedPart t h no_further [] (events_of input) trace
      → LinesOf (Excuses t h trace Weak) Weak (steps_of h trace) weak → LinesOf (Excuses t h trace Strong) Strong (steps_of h trace) strong
      → Output input (weak ++ (strong ++ accepted_end (length trace)))
