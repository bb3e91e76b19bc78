use Rattle.std.proofs.Common.{refl, ◌∙◌, to_z, of_z}
use mir.Syntax.{w16, w128}
use Rattle.rp_numbers.proofs.Integers.{whole_integer, negative_integer, zero_scaled, held_zero}
use Rattle.rp_numbers.proofs.decimal.Decimal.of_integer.Goals as goal
use Rattle.rp_numbers.proofs.decimal.Decimal.of_integer.Goals.{then-number-lt0, else-number-lt0}

pub returns-then-number-eq0 : goal.returns-then-number-eq0
returns-then-number-eq0 c = zero_scaled c.args.number (held_zero c.args.number c.ranges.number c.if-number-eq0.true)

pub returns : goal.returns
returns c =
    let x = c.args.number in
    let r = c.from-magnitude.result in
    let s = c.from.result in
    let b = to_z w128 c.if-number-lt0.coefficient-bits in
    let e = to_z w16 (of_z w16 s) in
    let w = c.without_zeros-magnitude in
    let small = rw c.from-magnitude.ensures at c.from-magnitude.type_inv in
    let is = w.ensures.value ∙ c.unsigned_abs.ensures.value in
    elim c.if-number-lt0.branch [
      | then-number-lt0 k ↦
          negative_integer x b e r s w.result.0 w.result.1 c.ranges.number c.from-magnitude.ensures c.from.ensures small w.ensures.few refl k.if-number-lt0.true is k.coefficient-is
      | else-number-lt0 k ↦
          whole_integer x b e r s w.result.0 w.result.1 c.ranges.number c.from-magnitude.ensures c.from.ensures small w.ensures.few refl k.if-number-lt0.false is k.coefficient-is
    ]
