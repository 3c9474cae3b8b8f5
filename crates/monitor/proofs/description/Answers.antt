-- What was decoded, by the answer that was taken.
use Rattle.std.proofs.Common.{◌≡◌, refl, subst, List, ℕ, ◌-◌, take, drop, replicate, Result, Ok, Err}
use Rattle.refusal.specs.declared.Refusal.{Refusal}
use Rattle.stateset.proofs.Decides.{holds, fails}
use Rattle.automaton.specs.declared.Header.{Header}
use Rattle.decoding.specs.Decoding.{answer_means, Decoding}
use Rattle.monitor.specs.Opening.{front_size, Decodes, Describing, no_automaton, whole}
use Rattle.monitor.proofs.Openings.{short, decodes}
use Rattle.monitor.proofs.description.Goals as goal

decoded : (log : List ℕ) (size : ℕ) (h : Header) (a r : Result (Unit {0}) Refusal) (t : List ℕ) → size ≡ front_size log
    → Decoding (take (size - 2) (drop 2 log)) (replicate 2048 0) h (answer_means a) t → a ≡ r → Decodes log h (answer_means r) t
decoded log size h a r t is d e = decodes log size (replicate 2048 0) h (answer_means r) t is refl
    (subst (λ (x : Result (Unit {0}) Refusal). Decoding (take (size - 2) (drop 2 log)) (replicate 2048 0) h (answer_means x) t) e d)

pub returns-then-not-has_encoding : goal.returns-then-not-has_encoding
returns-then-not-has_encoding c = Describing.cut (short c.args.log.now (fails _ c.if-not-has_encoding.true c.has_encoding.ensures))

pub returns-in-Err : goal.returns-in-Err
returns-in-Err c =
    let called = c.decode-decoded in
    no_automaton (holds _ c.if-not-has_encoding.false c.has_encoding.ensures)
    (decoded c.args.log.now c.front_size-size.result called.result.header called.result.answer (Err c.in-Err.refusal) called.new.table
    c.front_size-size.ensures called.ensures c.in-Err.is)

pub returns-in-Ok : goal.returns-in-Ok
returns-in-Ok c =
    let called = c.decode-decoded in
    let size = c.front_size-size in
    rw size.ensures (whole (holds _ c.if-not-has_encoding.false c.has_encoding.ensures)
    (decoded c.args.log.now size.result called.result.header called.result.answer (Ok tt) called.new.table size.ensures
    called.ensures c.in-Ok.is))
