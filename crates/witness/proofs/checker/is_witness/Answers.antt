use Rattle.std.proofs.Common.{◌≡◌, ℕ, ◌<◌, ◌^◌, List, get_or, refl, sym, subst, arith}
use Rattle.stateset.specs.Set.{In}
use Rattle.stateset.proofs.Decides.{holds, fails}
use Rattle.automaton.specs.Run.{automaton_of}
use Rattle.opacity.proofs.Numbering.{look_back_small}
use Rattle.witness.specs.Witnesses.{recent}
use Rattle.witness.proofs.Allowing.{not_allowed, not_run, run_found}
use Rattle.witness.proofs.checker.is_witness.Goals as goal

-- the entry set, a word
word : (entries : List ℕ) (k entry : ℕ) → (entry ≡ get_or entries k 0) × (entry < 2 ^ 64) → get_or entries k 0 < 2 ^ 64
word entries k entry e = subst (λ (w : ℕ). w < 2 ^ 64) e.0 e.1

pub returns-then-not-member : goal.returns-then-not-member
returns-then-not-member c = λ x.
    fails c.member.result c.if-not-member.true c.member.ensures (subst (λ (w : ℕ). In c.args.start w) (sym c.word_at-entry.ensures.0) x.holds.starts)

pub returns-then-not-member-2 : goal.returns-then-not-member-2
returns-then-not-member-2 c =
    not_allowed _ _ _ c.ranges.secret.fits _ (word c.args.estimator.entries c.args.k _ c.word_at-entry.ensures) _ _ _ _ c.allowed_by-allowed.ensures
    (fails c.member-2.result c.if-not-member-2.true c.member-2.ensures)

pub is_run-requires : goal.is_run-requires
is_run-requires c =
    let far = look_back_small c.args.header c.args.estimator.further c.requires.0.back c.requires.1.allowed in
    (c.requires.0.words, omega (arith, far, c.requires.1.few, c.requires.2))

pub returns-then-not-is_run : goal.returns-then-not-is_run
returns-then-not-is_run c =
    let a = c.args in
    not_run (automaton_of a.table.now a.header) _ _ c.ranges.secret.fits _ (word a.estimator.entries a.k _ c.word_at-entry.ensures)
    (recent a.k a.estimator.symbols) _ a.pairs.now _ c.allowed_by-allowed.ensures (fails c.is_run.result c.if-not-is_run.true c.is_run.ensures)

pub returns : goal.returns
returns c =
    let a = c.args in
    let p = automaton_of a.table.now a.header in
    run_found p _ _ c.ranges.secret.fits _ (word a.estimator.entries a.k _ c.word_at-entry.ensures) (recent a.k a.estimator.symbols) _ a.pairs.now _
    c.allowed_by-allowed.ensures c.has_clear.result
    (subst (λ (w : ℕ). In a.start w) c.word_at-entry.ensures.0 (holds c.member.result c.if-not-member.false c.member.ensures))
    (holds c.member-2.result c.if-not-member-2.false c.member-2.ensures)
    (holds c.is_run.result c.if-not-is_run.false c.is_run.ensures)
    (λ steps e. c.has_clear.ensures p steps refl e)
