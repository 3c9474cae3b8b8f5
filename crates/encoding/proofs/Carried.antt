-- What was read through a reader that came from another one, at the position that it came to; and how small the numbers are that a reader is moved by.
-- Assumes nothing.
use Prim.Native.Nat.{ℕ, ◌+◌, ◌*◌}
use mathlib.Core.Path.{◌≡◌, sym, ap, subst, subst₂}
use mathlib.Core.List.{List}
use denote.Ref.{Bor}
use Rattle.std.specs.Prelude.{Result, Ok, Err}
use Rattle.std.specs.Result.{IsErrAnd}
use Rattle.refusal.specs.declared.Refusal.{Refusal}
use Rattle.bitfields.specs.Bits.{bits_of}
use Rattle.bitfields.specs.Parser.{field, flags}
use Rattle.bitfields.specs.declared.Reader.{Reader}
use Rattle.encoding.specs.Transitions.{transition_at, symbols_at}
use Rattle.encoding.specs.Encoding.{symbols, transition}
use Rattle.encoding.specs.Answers.{read_means, checked_means}

-- anything that is said of a reader's bytes and position
pub moved : (P : Bor (List ℕ) → ℕ → Type 0) (r : Reader) {b : Bor (List ℕ)} {at : ℕ} → r.bytes ≡ b → r.position ≡ at → P r.bytes r.position → P b at
moved P r {b} {at} e p h = subst (λ (x : Bor (List ℕ)). P x at) e (subst (λ (n : ℕ). P r.bytes n) p h)

-- a field, and flags
pub field_at : (r : Reader) (w : ℕ) (t : Result ℕ Refusal) (b : Bor (List ℕ)) (at : ℕ) → r.bytes ≡ b → r.position ≡ at
    → read_means (r.position + w) t ≡ field w (bits_of r.bytes.now) r.position → field w (bits_of b.now) at ≡ read_means (at + w) t
field_at r w t b at e p h = sym (moved (λ (x : Bor (List ℕ)) (n : ℕ). read_means (n + w) t ≡ field w (bits_of x.now) n) r e p h)

pub flags_at : (r : Reader) (w v : ℕ) (t : Result ℕ Refusal) (b : Bor (List ℕ)) (at : ℕ) → r.bytes ≡ b → r.position ≡ at → w ≡ v
    → read_means (r.position + w) t ≡ flags w (bits_of r.bytes.now) r.position → flags v (bits_of b.now) at ≡ read_means (at + v) t
flags_at r w v t b at e p n h =
    subst (λ (k : ℕ). flags k (bits_of b.now) at ≡ read_means (at + k) t) n
    (sym (moved (λ (x : Bor (List ℕ)) (k : ℕ). read_means (k + w) t ≡ flags w (bits_of x.now) k) r e p h))

-- a transition
pub transition_moved : (r : Reader) (s e : ℕ) (t : Result (Unit {0}) Refusal) (b : Bor (List ℕ)) (at : ℕ) → r.bytes ≡ b → r.position ≡ at
    → checked_means (transition_at (bits_of r.bytes.now) r.position) (r.position + 6 + 5 + 6) t ≡ transition s e (bits_of r.bytes.now) r.position
    → transition s e (bits_of b.now) at ≡ checked_means (transition_at (bits_of b.now) at) (at + 6 + 5 + 6) t
transition_moved r s e t b at i p h =
    sym (moved (λ (x : Bor (List ℕ)) (n : ℕ). checked_means (transition_at (bits_of x.now) n) (n + 6 + 5 + 6) t ≡ transition s e (bits_of x.now) n) r i p h)

-- the symbols at a place that was computed, as many as were computed
pub symbols_moved : (bs : List ℕ) (t : Result (Unit {0}) Refusal) {at n at' n' : ℕ} → at ≡ at' → n ≡ n'
    → checked_means (symbols_at (bits_of bs) at n) (at + n * 5) t ≡ symbols n (bits_of bs) at
    → symbols n' (bits_of bs) at' ≡ checked_means (symbols_at (bits_of bs) at' n') (at' + n' * 5) t
symbols_moved bs t p q h =
    sym (subst₂ (λ (x y : ℕ). checked_means (symbols_at (bits_of bs) x y) (x + y * 5) t ≡ symbols y (bits_of bs) x) p q h)

-- what the exit of a `?` hands on is the refusal that it met
pub handed : {A : Type 0} (r : Result A Refusal) (x : Refusal) → IsErrAnd r (λ y. y ≡ x) → r ≡ Err x
handed (Ok a) x h = absurd h
handed (Err y) x h = ap Err h
