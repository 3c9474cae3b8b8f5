-- The definitions leave no choice: an input has one output. Assumes nothing.
use mathlib.Core.Path.{◌≡◌, refl, sym, ap, subst}
use mathlib.Core.List.{List, [], ◌∷◌, ◌++◌}
use Prim.Native.Nat.{ℕ, ◌+◌, ◌-◌}
use native.Mathlib.Omega.{arith}
use lib.ListN.{length, take, drop}
use Rattle.automaton.specs.declared.Header.{Header}
use Rattle.decoding.specs.Decoding.{Outcome, accept, refuse, Decoding}
use Rattle.decoding.proofs.Only.{Same, one_decoding}
use Rattle.opacity.specs.declared.Notion.TheVariants.{Weak}
use Rattle.opacity.specs.declared.Verdict.{Verdict}
use Rattle.opacity.specs.declared.Verdict.TheVariants.{NoLeak, Leak}
use Rattle.opacity.specs.declared.Verdicts.{Verdicts}
use Rattle.opacity.specs.Verdicts.{steps_of}
use Rattle.enforcer.proofs.Unique.{one_longest}
use Rattle.report.specs.Text.{decimal, line, accepted_line, idle_line, refused_line, end_line}
use Rattle.refusal.specs.declared.Refusal.TheVariants.{NotObservable, Incompatible}
use Rattle.monitor.specs.Opening.{encoding_of, RightOwn, Decodes}
use Rattle.monitor.specs.LogText.{Prints, none, not_observable, incompatible, accepted}
use Rattle.monitor.specs.Log.{events_of, OpeningLeak, Refused, truncated, not_decoded, initial_leak, Monitored, Output, refused, idle, ended}

-- the table after decoding, which found the table b
abbrev left : Outcome → (b t : List ℕ) → List ℕ
left accept b t = t
left (refuse n) b t = b

-- what decoding says does not depend on the table that it finds
on_table : (bytes a b : List ℕ) {h : Header} {o : Outcome} {t : List ℕ} → length a ≡ 2048 → length b ≡ 2048 → Decoding bytes a h o t
    → Decoding bytes b h o (left o b t)
on_table bytes a b x y (Decoding.malformed bad) = absurd (bad x)
on_table bytes a b x y (Decoding.refused size n e) = Decoding.refused y n e
on_table bytes a b x y (Decoding.accepted size d next is after holds) = Decoding.accepted y d next is after holds

pub one_decodes : {log t t' : List ℕ} {h h' : Header} {o o' : Outcome} (d : Decodes log h o t) (d' : Decodes log h' o' t')
    → Same h h' o o' (left o d'.before t) t'
one_decodes {log} d d' = one_decoding (encoding_of log) d'.before (on_table (encoding_of log) d.before d'.before d.words d'.words d.decoding)
    d'.decoding

pub not_accepted : {n : ℕ} → refuse n ≡ accept → ⊥
not_accepted e = let z : ◌≡◌ {A = ℕ} 0 1 = cc in absurd (omega arith)

pub one_number : {n m : ℕ} → refuse n ≡ refuse m → n ≡ m
one_number e = cc

-- what holds of a log's automaton, however it was decoded
pub one_automaton : (P : List ℕ → Header → Type 0) {log t t' : List ℕ} {h h' : Header} → Decodes log h accept t → Decodes log h' accept t' → P t h → P t' h'
one_automaton P {t = t} {h' = h'} d d' x =
    let same = one_decodes d d' in
    subst (λ (y : List ℕ). P y h') same.table (subst (P t) same.header x)

-- a log has one refusal
one_refusal : {input : List ℕ} {n m : ℕ} → Refused input n → Refused input m → n ≡ m
one_refusal (truncated a) (truncated b) = refl
one_refusal (truncated a) (not_decoded b d) = absurd (omega arith)
one_refusal (truncated a) (initial_leak b d s) = absurd (omega arith)
one_refusal (not_decoded a d) (truncated b) = absurd (omega arith)
one_refusal (not_decoded a d) (not_decoded b d') = one_number (one_decodes d d').answer
one_refusal (not_decoded a d) (initial_leak b d' s) = absurd (not_accepted (one_decodes d d').answer)
one_refusal (initial_leak a d s) (truncated b) = absurd (omega arith)
one_refusal (initial_leak a d s) (not_decoded b d') = absurd (not_accepted (one_decodes d' d).answer)
one_refusal (initial_leak a d s) (initial_leak b d' s') = refl

-- and where it has one it is not monitored
pub not_both : {input t : List ℕ} {h : Header} {n : ℕ} → Refused input n → Monitored input t h → ⊥
not_both (truncated a) m = omega (arith, m.whole)
not_both (not_decoded a d) m = not_accepted (one_decodes d m.decodes).answer
not_both (initial_leak a d s) m = m.closed (one_automaton (OpeningLeak Weak) d m.decodes s)

-- steps are printed from one verdict
one_verdict : (v w : Verdict) → steps_of v ≡ steps_of w → v ≡ w
one_verdict NoLeak NoLeak e = refl
one_verdict NoLeak (Leak l) e = let z : ◌≡◌ {A = ℕ} 0 1 = cc in absurd (omega arith)
one_verdict (Leak l) NoLeak e = let z : ◌≡◌ {A = ℕ} 0 1 = cc in absurd (omega arith)
one_verdict (Leak l) (Leak m) e = cc

-- verdicts and a number that are right leave no choice
record OneJudgement (v w : Verdicts) (n m : ℕ) : Type 0 where
  verdicts : v ≡ w
  size : n ≡ m

one_judgement : (t : List ℕ) (h : Header) (trace : List ℕ) (v w : Verdicts) (n m : ℕ) → RightOwn t h trace v n → RightOwn t h trace w m → OneJudgement v w n m
one_judgement t h trace v w n m x y =
    let weak = one_verdict v.weak w.weak ((x.weak _).1 ((y.weak _).0 refl)) in
    let strong = one_verdict v.strong w.strong ((x.strong _).1 ((y.strong _).0 refl)) in
    record { verdicts = λ i. record { weak = weak i; strong = strong i }; size = (x.size.exactly m).1 ((y.size.exactly m).0 refl) }

-- the same lines, and the same events accepted and released
record Alike (text text' after after' : List ℕ) (r r' : ℕ) : Type 0 where
  text_is : text ≡ text'
  after_is : after ≡ after'
  released_is : r ≡ r'

module _ (t : List ℕ) (h : Header) where
  print_more : (trace : List ℕ) (r : ℕ) (bytes : List ℕ) {text text' after after' : List ℕ} {k k' : ℕ} → Prints t h trace r bytes text after k
      → Prints t h trace r bytes text' after' k'
      → Alike text text' after after' k k'
  print_more trace r bytes none none = record { text_is = refl; after_is = refl; released_is = refl }
  print_more trace r bytes (not_observable {bytes = bs} {b = b} n p) (not_observable n' p') =
      let y = print_more trace r bs p p' in
      record { text_is = ap (λ (l : List ℕ). refused_line b NotObservable ++ l) y.text_is; after_is = y.after_is; released_is = y.released_is }
  print_more trace r bytes (not_observable n p) (incompatible o i p') = absurd (n o)
  print_more trace r bytes (not_observable never p) (accepted v n f o po ri re p') = absurd (never o)
  print_more trace r bytes (incompatible o i p) (not_observable n p') = absurd (n o)
  print_more trace r bytes (incompatible {bytes = bs} {b = b} o i p) (incompatible o' i' p') =
      let y = print_more trace r bs p p' in
      record { text_is = ap (λ (l : List ℕ). refused_line b Incompatible ++ l) y.text_is; after_is = y.after_is; released_is = y.released_is }
  print_more trace r bytes (incompatible o i p) (accepted v n f o' po ri re p') = absurd (i po.run po.compatible)
  print_more trace r bytes (accepted v n f o po ri re p) (not_observable never p') = absurd (never o)
  print_more trace r bytes (accepted v n f o po ri re p) (incompatible o' i p') = absurd (i po.run po.compatible)
  print_more trace r bytes (accepted {bytes = bs} {b = b} v n f o po ri re p) (accepted {text = text'} {after = after'} {r' = k'} w m f' o' po' ri' re' p') =
      let same : f' ≡ f = omega (arith, one_longest _ (trace ++ b ∷ []) (r + f) (r + f') re re') in
      let one = one_judgement t h (trace ++ b ∷ []) v w n m ri ri' in
      let y = print_more (trace ++ b ∷ []) (r + f) bs p (subst (λ (k : ℕ). Prints t h (trace ++ b ∷ []) (r + k) bs text' after' k') same p') in
      record {
        text_is = λ i. accepted_line (length trace + 1) b (one.verdicts i).weak (one.verdicts i).strong (one.size i)
            (take (sym same i) (drop r (trace ++ b ∷ []))) ++ y.text_is i;
        after_is = y.after_is;
        released_is = y.released_is;
      }

pub one_output : (input : List ℕ) {a b : List ℕ} → Output input a → Output input b → a ≡ b
one_output input (refused r x) (refused q y) =
    ap (λ (n : ℕ). line ((114 ∷ 101 ∷ 102 ∷ 117 ∷ 115 ∷ 101 ∷ 100 ∷ []) ∷ decimal n ∷ [])) (one_refusal x y)
one_output input (refused r x) (idle v n m e ri) = absurd (not_both x m)
one_output input (refused r x) (ended m l p) = absurd (not_both x m)
one_output input (idle v n m e ri) (refused r x) = absurd (not_both x m)
one_output input (idle {t = t} {h = h} v n m e ri) (idle v' n' m' e' ri') =
    let here = one_automaton (λ (x : List ℕ) (y : Header). RightOwn x y [] v' n') m'.decodes m.decodes ri' in
    let one = one_judgement t h [] v v' n n' ri here in
    λ i. idle_line (one.verdicts i).weak (one.verdicts i).strong (one.size i) ++ end_line 0 0 0
one_output input (idle v n m e ri) (ended m' l p) = absurd (omega arith)
one_output input (ended m l p) (refused r x) = absurd (not_both x m)
one_output input (ended m l p) (idle v n m' e ri) = absurd (omega arith)
one_output input (ended {t = t} {h = h} m l p) (ended {text = text'} {trace = trace'} {r = r'} m' l' p') =
    let here = one_automaton (λ (x : List ℕ) (y : Header). Prints x y [] 0 (events_of input) text' trace' r') m'.decodes m.decodes p' in
    let y = print_more t h [] 0 (events_of input) p here in
    λ i. y.text_is i ++ end_line (length (y.after_is i)) (y.released_is i) (length (y.after_is i) - y.released_is i)
