-- The decoder's refusals, then what `write_form` answers.
use Rattle.std.proofs.Common.{◌≡◌, sym, arith}
use Rattle.std.specs.Prelude.{Err}
use Rattle.canonical.specs.Writing.{Writing}
use Rattle.canonical.proofs.canonical.Goals as goal

pub write_form-requires : goal.write_form-requires
write_form-requires c = sym c.in_ok-front.ensures

pub returns-in_err-front : goal.returns-in_err-front
returns-in_err-front c =
    let e : c.from_residual.result ≡ Err c.in_err-front.field-0.0 = grind arith in
    rw e (Writing.refused _ (sym c.in_err-front.ensures))
