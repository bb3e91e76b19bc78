use Rattle.std.proofs.Common.{◌-◌, ◌∙◌, sym, ap, arith, rules}
use Rattle.std.proofs.lemmas.Result.{err_from_is_err_and}
use Rattle.std.specs.String.{string_bytes}
use Rattle.p21_escapes.specs.Decoding.{appended, character}
use Rattle.p21_escapes.proofs.Spelling.{long_step, long_fails, long_end}
use Rattle.p21_escapes.proofs.decode.push_long.Goals as goal

pub returns-in_err-push_character : goal.returns-in_err-push_character
returns-in_err-push_character c =
    let p = err_from_is_err_and c.from_residual.result c.from_residual.ensures.1 in
    let held = long_fails c.in_err-push_character.field-0.0 (string_bytes c.groups.out) c.groups.n (c.groups.n - 2) c.groups.z (omega arith) c.groups.invariant.1 (rw (sym c.long_group.ensures) c.in_err-push_character.ensures) in
    rw (p.1, p.2) (rw (sym c.groups.invariant.0) held)

pub groups-preserved : goal.groups-preserved
groups-preserved c = (
  rw c.after-z.ensures.value
      (long_step (string_bytes c.groups.out) (string_bytes c.push_character.new.out) tt c.groups.n (c.groups.n - 2) c.groups.z (omega arith) c.groups.invariant.1
      (ap (λ u. appended (string_bytes c.groups.out) (character u)) (sym c.long_group.ensures) ∙ c.in_ok-push_character.ensures) ∙ c.groups.invariant.0),
  search rules,
)

pub returns : goal.returns
returns c = sym c.groups.invariant.0 ∙ ap (appended (string_bytes c.groups.out)) (long_end c.groups.n c.groups.z (omega arith)) ∙ search rules
