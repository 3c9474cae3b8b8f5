-- 12, exactly: an encoding is refused by it where it repeats a transition, and nowhere else. Assumes nothing.
use Prim.Native.Nat.{ℕ, zero, suc}
use mathlib.Core.Path.{◌≡◌, refl, ap, ◌∙◌}
use mathlib.Core.Bool.{Bool, true, false, not}
use mathlib.Core.List.{List, [], ◌∷◌, ◌++◌}
use mathlib.Core.Logic.{◌↔◌}
use native.Mathlib.Omega.{arith}
use Rattle.refusal.specs.declared.Refusal.{Refusal}
use Rattle.refusal.specs.declared.Refusal.TheVariants.{RepeatedTransition}
use Rattle.bitfields.specs.Parser.{Parsed, done, refused, and_then, ◌>>=◌, ◌>>◌, give, demand}
use Rattle.bitfields.proofs.Parsing.{on_refused}
use Rattle.encoding.specs.Transitions.{listed}
use Rattle.encoding.specs.declared.ListedTransition.{ListedTransition}
use Rattle.encoding.specs.Encoding.{Encoding, encoding, ending, Preamble, preamble, transition, transitions}
use Rattle.decoding.specs.Repeats.{Again, Repeats}
use Rattle.encoding.proofs.Ended.{transitions_repeated, transitions_stop}
use Rattle.decoding.proofs.Refusing.{preamble_never, transition_never, ending_never}

-- A REPEAT IS REFUSED WHERE IT STANDS, whatever follows: the encoding may be cut behind it or go astray
pub repeat_refused : (bits : List ℕ) → Repeats bits → encoding bits 0 ≡ refused RepeatedTransition
unfolding encoding
repeat_refused bits r =
    let f = r.read.front.fixed in
    let a = r.again in
    let x = transitions_repeated f.topstate f.topevent bits r.start a.number a.earlier_read a.last_read a.repeat in
    rw (r.preamble_read, transitions_stop f.topstate f.topevent bits r.start a.number x f.count a.fewer)

demanded : (b : Bool) (ts : List ListedTransition) (bits : List ℕ) (at : ℕ)
    → ◌>>◌ (demand (not b) RepeatedTransition) (give ts) bits at ≡ refused RepeatedTransition
    → b ≡ true
demanded true ts bits at r = refl
demanded false ts bits at r = let z : ◌≡◌ {A = ℕ} 0 1 = cc in absurd (omega arith)

transitions_again : (s e n : ℕ) (bits : List ℕ) (at : ℕ) → transitions s e n bits at ≡ refused RepeatedTransition → Again s e n bits at
unfolding transitions
transitions_again s e zero bits at r = let z : ◌≡◌ {A = ℕ} 0 1 = cc in absurd (omega arith)
transitions_again s e (suc n) bits at r = go (transitions s e n bits at) refl (transitions_again s e n bits at) r
  where
    go : (p : Parsed (List ListedTransition)) → transitions s e n bits at ≡ p → (transitions s e n bits at ≡ refused RepeatedTransition → Again s e n bits at)
        → and_then p (λ earlier next.
        ◌>>=◌ (transition s e) (λ last. ◌>>◌ (demand (not (listed last earlier)) RepeatedTransition) (give (earlier ++ (last ∷ [])))) bits next)
        ≡ refused RepeatedTransition
        → Again s e (suc n) bits at
    go (refused x) is before r =
        let a = before (is ∙ r) in
        record {
          number = a.number;
          fewer = omega (arith, a.fewer);
          earlier = a.earlier;
          position = a.position;
          earlier_read = a.earlier_read;
          last = a.last;
          next = a.next;
          last_read = a.last_read;
          repeat = a.repeat;
        }
    go (done earlier p) is before r =
        on_refused RepeatedTransition (transition s e bits p) _ (transition_never 12 refl bits s e p) r λ last next e2 r2.
        record {
          number = n;
          fewer = omega arith;
          earlier = earlier;
          position = p;
          earlier_read = is;
          last = last;
          next = next;
          last_read = e2;
          repeat = demanded (listed last earlier) (earlier ++ (last ∷ [])) bits next r2;
        }

same_number : {A B : Type 0} {x : Refusal} → ◌≡◌ {A = Parsed A} (refused x) (refused RepeatedTransition)
    → ◌≡◌ {A = Parsed B} (refused x) (refused RepeatedTransition)
same_number {x = x} e = let same : x ≡ RepeatedTransition = cc in ap refused same

behind : (bits : List ℕ) (f : Preamble) (start : ℕ) → preamble bits 0 ≡ done f start
    → (p : Parsed (List ListedTransition)) → transitions f.front.fixed.topstate f.front.fixed.topevent f.front.fixed.count bits start ≡ p
    → ◌≡◌ {A = Parsed Encoding} (and_then p (λ ts next. ◌>>◌ ending (give (record { front = f.front; symbols = f.symbols; transitions = ts })) bits next))
    (refused RepeatedTransition) → Repeats bits
behind bits f start e1 (done ts p) is r = on_refused RepeatedTransition (ending bits p) _ (ending_never 12 refl bits p) r λ u next e2 r2.
    let z : ◌≡◌ {A = ℕ} 0 1 = cc in absurd (omega arith)
behind bits f start e1 (refused x) is r =
    record {
      read = f;
      start = start;
      preamble_read = e1;
      again = transitions_again f.front.fixed.topstate f.front.fixed.topevent
          f.front.fixed.count bits start (is ∙ same_number r);
    }

repeats : (bits : List ℕ) → encoding bits 0 ≡ refused RepeatedTransition → Repeats bits
unfolding encoding
repeats bits r =
    on_refused RepeatedTransition (preamble bits 0) _ (preamble_never 12 refl bits 0) r λ f start e1 r1.
    behind bits f start e1 (transitions f.front.fixed.topstate f.front.fixed.topevent f.front.fixed.count bits start) refl r1

-- 12 EXACTLY WHERE AN ENCODING REPEATS A TRANSITION
pub repeated_exactly : (bits : List ℕ) → (encoding bits 0 ≡ refused RepeatedTransition) ↔ Repeats bits
repeated_exactly bits = (repeats bits, repeat_refused bits)
