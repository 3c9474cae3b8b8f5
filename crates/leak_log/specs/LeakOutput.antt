-- What is printed for the first leak of a log (02, S-8), by the definitions alone: no search stands here. There is one such output (OneLeakOutput,
-- one_leak_output), and it is what the functions put (FedLeaks, ran_search).
use Rattle.std.specs.Prelude.{List, ℕ, ◌≤◌, ◌<◌, length}
use Rattle.refusal.specs.Refusals.{number_of}
use Rattle.refusal.specs.declared.Refusal.{Refusal}
use Rattle.automaton.specs.declared.Header.{Header}
use Rattle.decoding.specs.Decoding.{accept, refuse}
use Rattle.opacity.specs.declared.Notion.{Notion}
use Rattle.opacity.specs.Secrets.{no_further}
use Rattle.leaks.specs.FirstLeaks.{FirstLeak, NoneLeaks}
use Rattle.report.specs.Text.{refused_log, place_line, no_place_line}
use Rattle.monitor.specs.Opening.{front_size, Decodes}
use Rattle.monitor.specs.Log.{events_of}

-- a log that is refused, in this order: 1, those of the encoding (01: description). (There is no 8: no enforcer starts)
pub data Refused (input : List ℕ) : ℕ → Type 0 where
  truncated : length input < front_size input → Refused input 1
  not_decoded : {n : ℕ} {t : List ℕ} {h : Header} → front_size input ≤ length input → Decodes input h (refuse n) t → Refused input n

-- a log that is not, and its automaton
pub record Searchable (input t : List ℕ) (h : Header) : Type 0 where
  pub whole : front_size input ≤ length input
  pub decodes : Decodes input h accept t

-- the output, one line: of a refused log its number; else the place of the first accepted event whose verdict by the notion is a leak of the automaton's own
-- secret, the one secret of a log (02, S-6); or `-`
pub data Output (notion : Notion) (input : List ℕ) : List ℕ → Type 0 where
  refused : (r : Refusal) → Refused input (number_of r) → Output notion input (refused_log r)
  found : {t : List ℕ} {h : Header} {place : ℕ} → Searchable input t h → FirstLeak notion t h no_further (events_of input) place
      → Output notion input (place_line place)
  none : {t : List ℕ} {h : Header} → Searchable input t h → NoneLeaks notion t h no_further (events_of input) → Output notion input no_place_line
