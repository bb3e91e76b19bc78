use Rattle.std.proofs.Common.{rules, arith, ◌≡◌, ◌<◌, ◌≤◌, drop, [], min, sym, ◌∙◌, ap}
use Rattle.std.proofs.lemmas.Grind.{common_steps}
use Rattle.std.proofs.lemmas.List.{drop_all}
use Rattle.std.proofs.Math.Nat.{min-eq_left}
use Rattle.rp_numbers.specs.Whole.{value, value_after}
use Rattle.p21_tree.specs.Names.{max_name}
use Rattle.p21_grammar.proofs.Names.{few_below, next_below, next_most}
use Rattle.p21_grammar.proofs.grammar.few_number.Goals as goal

pub overflow_mul-number : goal.overflow_mul-number
overflow_mul-number c =
    let l = c.digits in
    let all = next_below l.digit-index l.number 0 (omega arith) l.invariant.0 (omega arith) in
    omega arith

pub overflow_add-number : goal.overflow_add-number
overflow_add-number c =
    let l = c.digits in
    let byte : c.saturating_sub.result < 256 = search rules in
    let all = next_below l.digit-index l.number c.saturating_sub.result (omega arith) l.invariant.0 byte in
    omega arith

pub digits-preserved : goal.digits-preserved
digits-preserved c =
    let l = c.digits in
    let byte : c.saturating_sub.result < 256 = search rules in
    let all = next_below l.digit-index l.number c.saturating_sub.result (omega arith) l.invariant.0 byte in
    (next_most l.digit-index l.number c.saturating_sub.result l.invariant.0 byte, first_of (search rules, grind (arith, common_steps)))

pub returns : goal.returns
returns c =
    let l = c.digits in
    let none : drop l.digit-index c.args.digits.now ≡ [] = drop_all l.digit-index c.args.digits.now (omega arith) in
    let whole : l.number ≡ value c.args.digits.now = sym (ap (value_after l.number) none) ∙ l.invariant.1 in
    let below : l.number ≤ max_name = few_below l.digit-index l.number (omega arith) l.invariant.0 in
    sym (ap (λ n. min n max_name) (sym whole) ∙ min-eq_left below)
