use Rattle.std.proofs.Common.{Err, ap}
use Rattle.rp_program.proofs.CheckLemmas.{is_file, write_failed}
use Rattle.rp_program.proofs.checking.check.Goals as goal

pub returns-in_err-checked-clause-cut : goal.returns-in_err-checked-clause-cut
returns-in_err-checked-clause-cut g c = λ is.
    let failed = ap Err (write_failed c.from_residual-in_err-checked.result c.in_err-checked.field-0.0 c.from_residual-in_err-checked.ensures.1 is) in
    record {
      text = c.in_ok-text.text.items;
      is = is_file _ _ _ c.in_ok-text.ensures.bytes;
      told = rw c.deref-2.ensures.value at (c.in_err-checked.ensures.failed failed);
    }
