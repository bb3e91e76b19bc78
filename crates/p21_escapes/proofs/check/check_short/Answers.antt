use Rattle.std.proofs.Common.{rules, ◌-◌, ◌∙◌, sym, arith}
use Rattle.std.proofs.lemmas.Result.{err_from_is_err_and}
use Rattle.p21_escapes.proofs.Spelling.{checked_short_step, checked_short_fails}
use Rattle.p21_escapes.proofs.check.check_short.Goals as goal

pub returns-in_err-high : goal.returns-in_err-high
returns-in_err-high c =
    let p = err_from_is_err_and c.from_residual.result c.from_residual.ensures.1 in
    rw (p.1, p.2)
    (sym (sym c.groups.invariant.0
    ∙ checked_short_fails c.groups.high c.group.result c.groups.n (c.groups.n - 1) c.groups.z _ (omega arith) c.groups.invariant.1 c.group.ensures.value c.in_err-high.ensures))

pub groups-preserved : goal.groups-preserved
groups-preserved c = (
  rw c.after-z.ensures.value
      (checked_short_step c.groups.high c.group.result c.in_ok-high.field-0 c.groups.n (c.groups.n - 1) c.groups.z (omega arith) c.groups.invariant.1 c.group.ensures.value c.in_ok-high.ensures ∙ c.groups.invariant.0),
  search rules,
)
