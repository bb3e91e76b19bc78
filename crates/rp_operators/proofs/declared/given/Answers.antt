use Rattle.std.proofs.Common.{◌≡◌, refl, sym, ◌∙◌, ap, to_z, of_z, arith}
use Rattle.std.proofs.lemmas.Int.{ints}
use mir.Syntax.{w64}
use Rattle.rp_operators.proofs.Sights.{bare-Int, bare-Log, bare-Inst}
use Rattle.rp_operators.proofs.Staying.{kept-takes}
use Rattle.rp_operators.proofs.declared.given.Goals as goal
use Rattle.rp_value.specs.declared.value.Value.TheOpen.{Value-F}
use Rattle.rp_value.specs.declared.value.Value.TheVariants as v

pub returns-in-Int : goal.returns-in-Int
returns-in-Int c =
    let a = c.args in
    let n = c.in-Int.number in
    let same : to_z w64 (of_z w64 n) ≡ n = omega (arith, ints) in
    ap v.Int same ∙ sym c.in-Int.is
    ∙ sym (kept-takes a.types.now a.value.now (Value-F.Int n) (bare-Int a.value.now n c.in-Int.is) refl a.data_type.now (sym (c.takes_integers.ensures n) ∙ c.if-takes_integers.true))

pub returns-in-Log : goal.returns-in-Log
returns-in-Log c =
    let a = c.args in
    let l = c.in-Log.logical in
    sym c.in-Log.is
    ∙ sym (kept-takes a.types.now a.value.now (Value-F.Log l) (bare-Log a.value.now l c.in-Log.is) refl a.data_type.now (sym (c.takes_truths.ensures l) ∙ c.if-takes_truths.true))

pub returns-in-Inst : goal.returns-in-Inst
returns-in-Inst c =
    let a = c.args in
    let place = c.in-Inst.place in
    sym c.in-Inst.is
    ∙ sym (kept-takes a.types.now a.value.now (Value-F.Inst place) (bare-Inst a.value.now place c.in-Inst.is) refl a.data_type.now (sym (c.takes_instances.ensures place) ∙ c.if-takes_instances.true))
