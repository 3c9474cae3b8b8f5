-- `report::Writer::number` meets its contract: one digit, or the digits of a tenth and one more.
use Rattle.std.proofs.Common.{◌≡◌, ℕ, ◌/◌, [], ◌∷◌, ◌++◌, sym, ap, ◌∙◌, arith, rules}
use Rattle.report.specs.Text.{decimal}
use Rattle.report.proofs.Adds.{adds_then, adds_same, adds_fit}
use Rattle.report.proofs.Decimal.{decimal_one, decimal_more, decimal_short, decimal_length}
use Rattle.report.proofs.Writer.+number.Goals as goal

pub returns-then-n-lt10 : goal.returns-then-n-lt10
returns-then-n-lt10 t c =
    adds_same (ap (λ (k : ℕ). k ∷ []) c.digit.ensures ∙ sym (decimal_one c.args.n c.if-n-lt10.true)) (omega arith) c.byte.ensures

pub byte-requires-2 : goal.byte-requires-2
byte-requires-2 t c = omega (arith, decimal_short c.args.n (search rules))

pub returns : goal.returns
returns t c =
    let n = c.args.n in
    let e : decimal (n / 10) ++ (c.digit-2.result ∷ []) ≡ decimal n =
    ap (λ (k : ℕ). decimal (n / 10) ++ (k ∷ [])) c.digit-2.ensures ∙ sym (decimal_more n c.if-n-lt10.false (search rules)) in
    adds_fit e (omega (arith, decimal_length n)) (adds_then c.number.ensures c.byte-2.ensures)
