use Rattle.std.proofs.Common.{◌≡◌, sym, ◌∙◌, ap, subst, to_z, of_z, arith}
use Rattle.std.proofs.lemmas.Int.{ints}
use mir.Syntax.{w64}
use Rattle.std.specs.Prelude.{IfOk}
use Rattle.rp_operators.proofs.Alike.{integers, truths, texts, decimals, whole_and_decimal, decimal_and_whole}
use Rattle.rp_operators.proofs.Members.{member}
use Rattle.rp_operators.proofs.Sights.{beneath}
use Rattle.rp_operators.proofs.operators.applied_beneath.Goals as goal
use Rattle.rp_operators.specs.Scalars.{by_order, is_in, of_integers}
use Rattle.rp_meaning.specs.Operators.{applied}
use Rattle.rp_numbers.specs.Decimals.{scaled, scaled_whole}
use Rattle.std.specs.Ordering.{int_cmp}
use Rattle.rp_value.specs.declared.value.Value.TheOpen.{Value-F}
use Rattle.rp_value.specs.declared.value.Value.TheVariants as v

pub returns-in-Int-Int : goal.returns-in-Int-Int
returns-in-Int-Int c =
    let k = c.in-Int-Int in
    let m : to_z w64 (of_z w64 k.m) ≡ k.m = omega (arith, ints) in
    let n : to_z w64 (of_z w64 k.n) ≡ k.n = omega (arith, ints) in
    c.of_integers.ensures
    ∙ (λ i. of_integers c.args.operator (m i) (n i))
    ∙ integers c.args.x.now c.args.y.now k.m k.n
    (beneath c.args.x.now c.beneath.result.now (Value-F.Int k.m) c.beneath.ensures (k.is-0 ∙ sym (v.rolls-Int k.m)))
    (beneath c.args.y.now c.beneath-2.result.now (Value-F.Int k.n) c.beneath-2.ensures (k.is-1 ∙ sym (v.rolls-Int k.n)))
    c.args.operator

pub returns-in-Log-Log : goal.returns-in-Log-Log
returns-in-Log-Log c =
    let k = c.in-Log-Log in
    c.of_truths.ensures
    ∙ truths c.args.x.now c.args.y.now k.m k.n
    (beneath c.args.x.now c.beneath.result.now (Value-F.Log k.m) c.beneath.ensures (k.is-0 ∙ sym (v.rolls-Log k.m)))
    (beneath c.args.y.now c.beneath-2.result.now (Value-F.Log k.n) c.beneath-2.ensures (k.is-1 ∙ sym (v.rolls-Log k.n)))
    c.args.operator

pub returns-in-Dec-Dec : goal.returns-in-Dec-Dec
returns-in-Dec-Dec c =
    let k = c.in-Dec-Dec in
    c.by_order-in-Dec-Dec.ensures
    ∙ ap (by_order c.args.operator) c.compare_decimals.ensures
    ∙ decimals c.args.x.now c.args.y.now k.m k.n
    (beneath c.args.x.now c.beneath.result.now (Value-F.Dec k.m) c.beneath.ensures (k.is-0 ∙ sym (v.rolls-Dec k.m)))
    (beneath c.args.y.now c.beneath-2.result.now (Value-F.Dec k.n) c.beneath-2.ensures (k.is-1 ∙ sym (v.rolls-Dec k.n)))
    c.args.operator

pub returns-in-Int-Dec : goal.returns-in-Int-Dec
returns-in-Int-Dec c =
    let k = c.in-Int-Dec in
    let m : to_z w64 (of_z w64 k.m) ≡ k.m = omega (arith, ints) in
    c.by_order.ensures
    ∙ ap (by_order c.args.operator) c.compare_whole.ensures
    ∙ (λ i. by_order c.args.operator (int_cmp (scaled_whole (m i)) (scaled k.n)))
    ∙ whole_and_decimal c.args.x.now c.args.y.now k.m k.n
    (beneath c.args.x.now c.beneath.result.now (Value-F.Int k.m) c.beneath.ensures (k.is-0 ∙ sym (v.rolls-Int k.m)))
    (beneath c.args.y.now c.beneath-2.result.now (Value-F.Dec k.n) c.beneath-2.ensures (k.is-1 ∙ sym (v.rolls-Dec k.n)))
    c.args.operator

pub returns-in-Dec-Int : goal.returns-in-Dec-Int
returns-in-Dec-Int c =
    let k = c.in-Dec-Int in
    let n : to_z w64 (of_z w64 k.n) ≡ k.n = omega (arith, ints) in
    c.by_order-in-Dec-Int.ensures
    ∙ ap (by_order c.args.operator) c.compare_with_whole.ensures
    ∙ (λ i. by_order c.args.operator (int_cmp (scaled k.m) (scaled_whole (n i))))
    ∙ decimal_and_whole c.args.x.now c.args.y.now k.m k.n
    (beneath c.args.x.now c.beneath.result.now (Value-F.Dec k.m) c.beneath.ensures (k.is-0 ∙ sym (v.rolls-Dec k.m)))
    (beneath c.args.y.now c.beneath-2.result.now (Value-F.Int k.n) c.beneath-2.ensures (k.is-1 ∙ sym (v.rolls-Int k.n)))
    c.args.operator

pub returns-in-Str-Str : goal.returns-in-Str-Str
returns-in-Str-Str c =
    let k = c.in-Str-Str in
    subst (λ z. IfOk c.of_texts.result (λ a. a ≡ z))
    (texts c.args.x.now c.args.y.now k.s k.t
    (beneath c.args.x.now c.beneath.result.now (Value-F.Str k.s) c.beneath.ensures (k.is-0 ∙ sym (v.rolls-Str k.s)))
    (beneath c.args.y.now c.beneath-2.result.now (Value-F.Str k.t) c.beneath-2.ensures (k.is-1 ∙ sym (v.rolls-Str k.t)))
    c.args.operator)
    c.of_texts.ensures

pub returns-in-Some : goal.returns-in-Some
returns-in-Some c =
    let k = c.in-Str-Agg in
    let x = c.args.x.now in
    let y = c.args.y.now in
    ap v.Log
    (c.of.ensures
    ∙ c.in-Some.ensures.found x ((beneath x c.beneath.result.now (Value-F.Str k.s) c.beneath.ensures (k.is-0 ∙ sym (v.rolls-Str k.s))).sees)
    ∙ ap (is_in x) c.as_slice.ensures)
    ∙ member x y c.beneath-2.result.now k.kind-1 k.elements c.beneath-2.ensures k.is-1
    ∙ ap (λ operator. applied operator x y) (sym c.in-Some.ensures.asked)
