-- Decoding refuses by no number 0, so that the answer 0 says that the encoding was accepted. Assumes nothing.
use Prim.Native.Nat.{ℕ}
use mathlib.Core.Path.{◌≡◌, refl}
use mathlib.Core.List.{List}
use native.Mathlib.Omega.{arith}
use Rattle.automaton.specs.declared.Header.{Header}
use Rattle.decoding.specs.Decoding.{Decoding, refuse}
use Rattle.decoding.proofs.Refusing.{decoding_never}

pub not_zero : (bytes table : List ℕ) {h : Header} {n : ℕ} {after : List ℕ} → Decoding bytes table h (refuse n) after → n ≡ 0 → ⊥
not_zero bytes table d = decoding_never 0 refl (λ z. omega arith) (λ z. omega arith) d
