use Rattle.std.proofs.Common.{◌-◌, ◌∙◌, sym, ap, arith, rules}
use Rattle.std.proofs.lemmas.Result.{err_from_is_err_and}
use Rattle.std.specs.String.{string_bytes}
use Rattle.p21_escapes.specs.Decoding.{appended, unit}
use Rattle.p21_escapes.proofs.Spelling.{short_step, short_fails}
use Rattle.p21_escapes.proofs.decode.push_short.Goals as goal

pub returns-in_err-high : goal.returns-in_err-high
returns-in_err-high c =
    let p = err_from_is_err_and c.from_residual.result c.from_residual.ensures.1 in
    let held = short_fails c.in_err-high.field-0.0 (string_bytes c.groups.out) c.groups.high c.groups.n (c.groups.n - 1) c.groups.z (omega arith) c.groups.invariant.1 (rw (sym c.group.ensures.value) c.in_err-high.ensures) in
    rw (p.1, p.2) (rw (sym c.groups.invariant.0) held)

pub groups-preserved : goal.groups-preserved
groups-preserved c = (
  rw c.after-z.ensures.value
      (short_step (string_bytes c.groups.out) (string_bytes c.push_unit.new.out) c.groups.high c.in_ok-high.high c.groups.n (c.groups.n - 1) c.groups.z (omega arith) c.groups.invariant.1
      (ap (λ u. appended (string_bytes c.groups.out) (unit c.groups.high u)) (sym c.group.ensures.value) ∙ c.in_ok-high.ensures) ∙ c.groups.invariant.0),
  search rules,
)
