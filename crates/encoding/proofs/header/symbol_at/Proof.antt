-- `encoding::header::symbol_at` meets its contract: each test is a case of `symbolFor`.
use Prim.Native.Nat.{ℕ, ◌+◌, ◌*◌}
use mathlib.Core.Path.{◌≡◌, sym, ◌∙◌}
use mathlib.Core.List.{List}
use borrow.Author.Rules.{rules}
use native.Mathlib.Omega.{arith}
use Rattle.bitfields.specs.Bits.{bits_of}
use Rattle.bitfields.proofs.Bits.{number_lt}
use Rattle.encoding.specs.Transitions.{symbols_at}
use Rattle.encoding.specs.Answers.{given_symbol, symbol_for}
use Rattle.stateset.proofs.Decides.{holds, fails}
use Rattle.encoding.proofs.HeaderSymbols.{symbol_observable, symbol_unobservable, symbol_own, symbol_listed, symbol_behind}
use Rattle.encoding.proofs.header.symbol_at.Statement.{statement}
use Rattle.encoding.proofs.header.symbol_at.Tie as tie

abbrev given : tie.Start → List ℕ
given s = symbols_at (bits_of s.args.bytes.now) s.args.at s.args.n

-- an observable event's symbol is its symbol
seen : (c : tie.Else-not-member) → symbol_for c.args.observable (given c.before.before.before) c.args.e
    ≡ given_symbol (given c.before.before.before) c.args.e
seen c =
    symbol_observable c.args.observable (given c.before.before.before) c.args.e (holds c.member.result c.if-not-member.false c.member.ensures)

member-requires : tie.Need-member-requires
member-requires c κs = search rules

returns : tie.Need-returns-then-not-member
returns c =
    sym (symbol_unobservable c.args.observable (given c.before.before.before) c.args.e
    (fails c.member.result c.if-not-member.true c.member.ensures))

cast-result : tie.Need-overflow_cast-result
cast-result c = search rules

returns-2 : tie.Need-returns-then-n-eq0
returns-2 c =
    let a = c.args in
    sym (seen c.before ∙ symbol_own (bits_of a.bytes.now) a.at a.n a.e c.if-n-eq0.true)

returns-3 : tie.Need-returns-then-n-e
returns-3 c =
    let a = c.args in
    sym (seen c.before.before ∙ symbol_behind (bits_of a.bytes.now) a.at a.n a.e c.if-n-eq0.false c.if-n-e.true)

mul-number-at : tie.Need-overflow_mul-e
mul-number-at c = search rules

add-number-at : tie.Need-overflow_add-at
add-number-at c = search rules

number-at-requires : tie.Need-number_at-requires
number-at-requires c κs = search rules

cast-result-2 : tie.Need-overflow_cast-result-2
cast-result-2 c =
    omega (arith, c.number_at.ensures, number_lt c.args.bytes.now (c.args.at + c.args.e * 5) 5 (omega (arith, c.requires, c.if-n-e.false)))

returns-4 : tie.Need-returns
returns-4 c =
    let a = c.args in
    sym (seen c.before.before.before ∙ symbol_listed (bits_of a.bytes.now) a.at a.n a.e (omega (arith, c.if-n-e.false)) ∙ sym
    c.number_at.ensures)

pub symbol_at_spec : {M : Type 1} → statement M
symbol_at_spec =
    tie.close
    (tie.spec
    member-requires
    returns
    cast-result
    returns-2
    returns-3
    mul-number-at
    add-number-at
    number-at-requires
    cast-result-2
    returns-4)
