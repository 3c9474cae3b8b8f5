-- How the search of a log begins: by the length and the encoding of the log, with no further secret.
use Rattle.std.specs.Prelude.{List, ℕ, ◌≤◌, ◌<◌, length}
use Rattle.automaton.specs.declared.Header.{Header}
use Rattle.decoding.specs.Decoding.{accept, refuse}
use Rattle.opacity.specs.declared.Notion.{Notion}
use Rattle.opacity.specs.Secrets.{no_further}
use Rattle.verifier.specs.Replies.{Unusable}
use Rattle.leaks.specs.declared.Search.{Search}
use Rattle.leaks.specs.FirstLeaks.{nowhere}
use Rattle.leaks.specs.Searches.{Beginning}
use Rattle.monitor.specs.Opening.{OpenOutcome, refused, started, front_size, Decodes}

-- what a refused log hands back: a header and an estimator that are outside their limits on every automaton
pub record NoSearch (h : Header) (s : Search) : Type 0 where
  pub header : 15 < h.k
  pub estimator : Unusable s.estimator

-- the start of a search, in the order of its refusals: 1, those of the encoding. What stands behind the encoding does not matter
pub data Opening (notion : Notion) (log : List ℕ) : OpenOutcome → (table : List ℕ) → Header → Search → Type 0 where
  truncated : {t : List ℕ} {h : Header} {s : Search} → length log < front_size log → NoSearch h s → Opening notion log (refused 1) t h s
  not_decoded : {n : ℕ} {t t' : List ℕ} {h h' : Header} {s : Search} → front_size log ≤ length log → Decodes log h' (refuse n) t' → NoSearch h s
      → Opening notion log (refused n) t h s
  opened : {t : List ℕ} {h : Header} {s : Search} → front_size log ≤ length log → Decodes log h accept t → Beginning notion t h no_further nowhere s
      → Opening notion log (started (front_size log)) t h s

-- a search on an automaton, inside `open`
pub data StartedOn (notion : Notion) (t : List ℕ) (h : Header) (events : ℕ) : OpenOutcome → List ℕ → Header → Search → Type 0 where
  begun : {s : Search} → Beginning notion t h no_further nowhere s → StartedOn notion t h events (started events) t h s
