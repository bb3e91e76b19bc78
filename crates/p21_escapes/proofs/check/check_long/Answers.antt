use Rattle.std.proofs.Common.{rules, ◌-◌, ◌∙◌, sym, ap, arith}
use Rattle.std.proofs.lemmas.Result.{err_from_is_err_and}
use Rattle.p21_escapes.specs.Forms.{checked}
use Rattle.p21_escapes.proofs.Spelling.{checked_long_step, checked_long_fails, long_end}
use Rattle.p21_escapes.proofs.check.check_long.Goals as goal

pub returns-in_err-character : goal.returns-in_err-character
returns-in_err-character c =
    let p = err_from_is_err_and c.from_residual.result c.from_residual.ensures.1 in
    rw (p.1, p.2)
    (sym (sym c.groups.invariant.0
    ∙ checked_long_fails c.long_group.result c.groups.n (c.groups.n - 2) c.groups.z _ (omega arith) c.groups.invariant.1 c.long_group.ensures c.in_err-character.ensures))

pub groups-preserved : goal.groups-preserved
groups-preserved c = (
  rw c.after-z.ensures.value
      (checked_long_step c.long_group.result c.in_ok-character.field-0 c.groups.n (c.groups.n - 2) c.groups.z (omega arith) c.groups.invariant.1 c.long_group.ensures c.in_ok-character.ensures ∙ c.groups.invariant.0),
  search rules,
)

pub returns : goal.returns
returns c = sym (sym c.groups.invariant.0 ∙ ap checked (long_end c.groups.n c.groups.z (omega arith)))
