-- The output of the log program for an input (01: Log program), by the definitions alone: no monitor stands here. There is one such output
-- (OneOutput, one_output), and it is what the monitor's functions give (LogOutput, prints_exactly).
use Rattle.std.specs.Prelude.{◌≡◌, List, [], ◌++◌, ℕ, ◌-◌, ◌≤◌, ◌<◌, length, take, drop}
use Rattle.automaton.specs.Run.{automaton_of}
use Rattle.automaton.specs.Reaching.{EstimateSize}
use Rattle.refusal.specs.Refusals.{number_of}
use Rattle.automaton.specs.declared.Header.{Header}
use Rattle.refusal.specs.declared.Refusal.{Refusal}
use Rattle.decoding.specs.Decoding.{accept, refuse}
use Rattle.opacity.specs.declared.Notion.{Notion}
use Rattle.opacity.specs.declared.Notion.TheVariants.{Weak, Strong}
use Rattle.opacity.specs.declared.Verdict.TheVariants.{NoLeak, Leak}
use Rattle.opacity.specs.declared.Verdicts.{Verdicts}
use Rattle.opacity.specs.Secrets.{own}
use Rattle.opacity.specs.Verdicts.{LeakAt}
use Rattle.report.specs.Text.{idle_line, refused_log, end_line}
use Rattle.monitor.specs.Opening.{front_size, RightOwn, Decodes}
use Rattle.monitor.specs.LogText.{Prints}

-- one byte an event. (01: after 4,294,967,295 event bytes it ends as if the input had ended)
abbrev pub events_of : List ℕ → List ℕ
events_of input = take 4294967295 (drop (front_size input) input)

-- the empty list gives leak 0, under a notion; under weak it is 01's Open secret
abbrev pub OpeningLeak : Notion → List ℕ → Header → Type 0
OpeningLeak notion t h = LeakAt notion (automaton_of t h) (own h) [] 0

-- a log that is refused, in this order: 1, those of the encoding (01: description), 8. (01's 11 is given no more: 02, S-4)
pub data Refused (input : List ℕ) : ℕ → Type 0 where
  truncated : length input < front_size input → Refused input 1
  not_decoded : {n : ℕ} {t : List ℕ} {h : Header} → front_size input ≤ length input → Decodes input h (refuse n) t → Refused input n
  initial_leak : {t : List ℕ} {h : Header} → front_size input ≤ length input → Decodes input h accept t → OpeningLeak Weak t h → Refused input 8

-- a log that is not, and its automaton
pub record Monitored (input t : List ℕ) (h : Header) : Type 0 where
  pub whole : front_size input ≤ length input
  pub decodes : Decodes input h accept t
  pub closed : OpeningLeak Weak t h → ⊥

-- the output: the one line of a refused log; of an idle one, which has no event byte at all, the line of the opening verdicts with how many states are
-- possible then (02, S-4: a chamber still in its opening; S-5) and `end 0 0 0`; else a line for each event byte, in order, and last `end`, accepted,
-- released and pending (01: freed, held)
pub data Output (input : List ℕ) : List ℕ → Type 0 where
  refused : (r : Refusal) → Refused input (number_of r) → Output input (refused_log r)
  idle : {t : List ℕ} {h : Header} (v : Verdicts) (n : ℕ) → Monitored input t h → length input ≡ front_size input → RightOwn t h [] v n
      → Output input (idle_line v.weak v.strong n ++ end_line 0 0 0)
  ended : {t text trace : List ℕ} {h : Header} {r : ℕ} → Monitored input t h → front_size input < length input → Prints t h [] 0 (events_of input) text trace r
      → Output input (text ++ end_line (length trace) r (length trace - r))

-- what an idle log that is not refused prints: `0 - - - n -` or `0 - - 0 n -`, by whether the opening leaks under strong, where n states are possible
-- before any event, and `end 0 0 0`
pub data Idle (t : List ℕ) (h : Header) : List ℕ → Type 0 where
  clear : {n : ℕ} → EstimateSize (automaton_of t h) [] n → (OpeningLeak Strong t h → ⊥) → Idle t h (idle_line NoLeak NoLeak n ++ end_line 0 0 0)
  leaks : {n : ℕ} → EstimateSize (automaton_of t h) [] n → OpeningLeak Strong t h → Idle t h (idle_line NoLeak (Leak 0) n ++ end_line 0 0 0)
