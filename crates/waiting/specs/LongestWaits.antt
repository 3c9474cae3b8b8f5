-- What the largest wait of an exploration says of enforcers, over lists of offers.
use Rattle.std.specs.Prelude.{◌≡◌, List, ◌++◌, ℕ, suc, ◌+◌, ◌≤◌, ◌<◌, length}
use Rattle.automaton.specs.declared.Header.{Header}
use Rattle.opacity.specs.declared.Notion.{Notion}
use Rattle.opacity.specs.declared.Notion.TheVariants.{Weak, Strong}
use Rattle.enforcer.specs.declared.Enforcer.{Enforcer}
use Rattle.enforcer.specs.Offers.{Offer, Offers, accepted_of, offered_of, Roomy, released_count}
use Rattle.waiting.specs.AcceptedLists.{OfferedFrom}

-- symbols that an enforcer accepts, of which the last one is still pending (01: held) after every way to go on by fewer than w accepted ones, none too.
-- (Where w is not 0 there is so a last one)
pub record LongPending (t : List ℕ) (h : Header) (s : Enforcer) (w : ℕ) : Type 0 where
  pub trace : List ℕ
  -- there are offers of which these are accepted,
  pub exists : OfferedFrom t h s trace
  -- whoever offers them, with outputs of 17 bytes at least, has them accepted,
  pub taken : (os : List Offer) (m : Enforcer) → Offers t h s os m → offered_of os ≡ trace → Roomy os → accepted_of os ≡ trace
  -- and after all offers of which these are accepted, whatever others follow, refused ones among them and with any output: so long as fewer than w are
  -- accepted, the last one is not released
  pub pending : (os later : List Offer) (m e : Enforcer) → Offers t h s os m → accepted_of os ≡ trace → Offers t h m later e → length (accepted_of later) < w
      → released_count (os ++ later) < length trace

-- w is the longest wait of an enforcer that a start has handed back
pub record LongestWait (t : List ℕ) (h : Header) (s : Enforcer) (w : ℕ) : Type 0 where
  -- no accepted symbol waits for more further ones: once w more are accepted, it is released
  pub in_time : (os : List Offer) (e : Enforcer) → Offers t h s os e → (i : ℕ) → suc i + w ≤ length (accepted_of os) → i < released_count os
  -- and, unless it is 0, the last symbol of some accepted ones is still pending after any smaller number of further ones
  pub reached : 0 < w → LongPending t h s w

-- the wait of an exploration by the notion
abbrev pub wait_by : Notion → (weak strong : ℕ) → ℕ
wait_by Weak weak strong = weak
wait_by Strong weak strong = strong
