use Rattle.std.proofs.Common.{rules, ap, refl, sym, ◌∙◌, arith, length}
use Rattle.rp_value.specs.declared.value.Value.TheVariants as v
use Rattle.rp_code.specs.Denoted.{at, expression_of, expressions_of}
use Rattle.rp_code.specs.declared.instruction.Instruction.TheVariants as i
use Rattle.rp_meaning.specs.Expressions.{built_in, expression}
use Rattle.rp_eval_parts.specs.Callings.{function, initialized}
use Rattle.rp_eval.specs.Bodies.{bodies_at, value_at}
use Rattle.rp_eval.proofs.Loops.{kept_step}
use Rattle.rp_eval.proofs.Nodes as n
use Rattle.rp_eval.proofs.Others.{no-expression}
use Rattle.rp_eval.proofs.Trees.{called-list, called-one, called-two}
use Rattle.rp_eval.proofs.walk.Walk.+expressions.Goals as goal

pub compound-returns-in_default-clause-value : goal.compound-returns-in_default-clause-value
compound-returns-in_default-clause-value g t c =
    let w = g.W.Setting.world c.args.self.now.world.now in
    let below = bodies_at w c.args.self.now.levels in
    rw (ap expression_of (c.in_default.ensures.none refl), n.literal-is w below v.Indet) c.nothing.ensures

pub compound-returns-in-Literal-clause-value : goal.compound-returns-in-Literal-clause-value
compound-returns-in-Literal-clause-value g t c =
    let w = g.W.Setting.world c.args.self.now.world.now in
    let below = bodies_at w c.args.self.now.levels in
    let is = n.begins-with c.args.code.now c.in-Some.rest.now c.in-Some.first.now (i.Literal c.in-Literal.value) c.in-Some.ensures.first c.in-Literal.is in
    rw (is, n.literal-is w below c.in-Literal.value) c.known.ensures

pub compound-returns-in-Itself-clause-value : goal.compound-returns-in-Itself-clause-value
compound-returns-in-Itself-clause-value g t c =
    let w = g.W.Setting.world c.args.self.now.world.now in
    let below = bodies_at w c.args.self.now.levels in
    let is = n.begins-with c.args.code.now c.in-Some.rest.now c.in-Some.first.now i.Itself c.in-Some.ensures.first c.in-Itself.is in
    rw (is, n.itself-is w below) (rw c.itself.ensures at c.known-in-Itself.ensures)

pub compound-returns-in-Variable-clause-value : goal.compound-returns-in-Variable-clause-value
compound-returns-in-Variable-clause-value g t c =
    let w = g.W.Setting.world c.args.self.now.world.now in
    let below = bodies_at w c.args.self.now.levels in
    let is = n.begins-with c.args.code.now c.in-Some.rest.now c.in-Some.first.now (i.Variable c.in-Variable.slot) c.in-Some.ensures.first c.in-Variable.is in
    rw (is, n.variable-is w below c.in-Variable.slot) c.variable.ensures

pub compound-returns-in-Attribute-clause-value : goal.compound-returns-in-Attribute-clause-value
compound-returns-in-Attribute-clause-value g t c =
    let w = g.W.Setting.world c.args.self.now.world.now in
    let below = bodies_at w c.args.self.now.levels in
    let is = n.begins-with c.args.code.now c.in-Some.rest.now c.in-Some.first.now (i.Attribute c.in-Attribute.attribute) c.in-Some.ensures.first c.in-Attribute.is in
    rw (is, n.own-is w below c.in-Attribute.attribute) c.own_attribute.ensures.value

pub compound-returns-in-Constant-clause-value : goal.compound-returns-in-Constant-clause-value
compound-returns-in-Constant-clause-value g t c =
    let w = g.W.Setting.world c.args.self.now.world.now in
    let below = bodies_at w c.args.self.now.levels in
    let is = n.begins-with c.args.code.now c.in-Some.rest.now c.in-Some.first.now (i.Constant c.in-Constant.number) c.in-Some.ensures.first c.in-Constant.is in
    rw (is, n.constant-is w below c.in-Constant.number) c.constant.ensures.value

pub compound-returns-in-Population-clause-value : goal.compound-returns-in-Population-clause-value
compound-returns-in-Population-clause-value g t c =
    let w = g.W.Setting.world c.args.self.now.world.now in
    let below = bodies_at w c.args.self.now.levels in
    let is = n.begins-with c.args.code.now c.in-Some.rest.now c.in-Some.first.now (i.Population c.in-Population.entity) c.in-Some.ensures.first c.in-Population.is in
    rw (is, n.population-is w below c.in-Population.entity) (rw c.lookup.ensures.world at (c.extent.ensures below))

pub compound-returns-in-Call-clause-value : goal.compound-returns-in-Call-clause-value
compound-returns-in-Call-clause-value g t c =
    let w = g.W.Setting.world c.args.self.now.world.now in
    let below = bodies_at w c.args.self.now.levels in
    let is = n.begins-with c.args.code.now c.in-Some.rest.now c.in-Some.first.now (i.Call c.in-Call.number) c.in-Some.ensures.first c.in-Call.is in
    rw (is, n.call-is w below c.in-Call.number _) c.called.ensures.value

pub compound-returns-in-BuiltIn-clause-value : goal.compound-returns-in-BuiltIn-clause-value
compound-returns-in-BuiltIn-clause-value g t c =
    let w = g.W.Setting.world c.args.self.now.world.now in
    let below = bodies_at w c.args.self.now.levels in
    let is = n.begins-with c.args.code.now c.in-Some.rest.now c.in-Some.first.now (i.BuiltIn c.in-BuiltIn.function) c.in-Some.ensures.first c.in-BuiltIn.is in
    rw (is, n.built-in-is w below c.in-BuiltIn.function _) c.built_in.ensures.value

pub compound-returns-in-Initializer-clause-value : goal.compound-returns-in-Initializer-clause-value
compound-returns-in-Initializer-clause-value g t c =
    let w = g.W.Setting.world c.args.self.now.world.now in
    let below = bodies_at w c.args.self.now.levels in
    let is = n.begins-with c.args.code.now c.in-Some.rest.now c.in-Some.first.now i.Initializer c.in-Some.ensures.first c.in-Initializer.is in
    rw (is, n.initializer-is w below _) c.initializer.ensures.value

pub compound-returns-in-UsedIn-clause-value : goal.compound-returns-in-UsedIn-clause-value
compound-returns-in-UsedIn-clause-value g t c =
    let w = g.W.Setting.world c.args.self.now.world.now in
    let below = bodies_at w c.args.self.now.levels in
    let is = n.begins-with c.args.code.now c.in-Some.rest.now c.in-Some.first.now (i.UsedIn c.in-UsedIn.role) c.in-Some.ensures.first c.in-UsedIn.is in
    rw (is, n.used-in-is w below _ c.in-UsedIn.role) c.used_in.ensures.value

pub compound-returns-in-Unary-clause-value : goal.compound-returns-in-Unary-clause-value
compound-returns-in-Unary-clause-value g t c =
    let w = g.W.Setting.world c.args.self.now.world.now in
    let below = bodies_at w c.args.self.now.levels in
    let is = n.begins-with c.args.code.now c.in-Some.rest.now c.in-Some.first.now (i.Unary c.in-Unary.operator) c.in-Some.ensures.first c.in-Unary.is in
    rw (is, n.unary-is w below c.in-Unary.operator _) c.unary.ensures.value

pub compound-returns-in-Interval-clause-value : goal.compound-returns-in-Interval-clause-value
compound-returns-in-Interval-clause-value g t c =
    let w = g.W.Setting.world c.args.self.now.world.now in
    let below = bodies_at w c.args.self.now.levels in
    let is = n.begins-with c.args.code.now c.in-Some.rest.now c.in-Some.first.now (i.Interval c.in-Interval.low_operator c.in-Interval.item c.in-Interval.high_operator c.in-Interval.high) c.in-Some.ensures.first c.in-Interval.is in
    rw (is, n.interval-is w below _, sym c.behind.ensures.tree, sym c.behind-in-Interval.ensures.tree) c.interval.ensures.value

pub compound-returns-in-Query-clause-value : goal.compound-returns-in-Query-clause-value
compound-returns-in-Query-clause-value g t c =
    let w = g.W.Setting.world c.args.self.now.world.now in
    let below = bodies_at w c.args.self.now.levels in
    let is = n.begins-with c.args.code.now c.in-Some.rest.now c.in-Some.first.now (i.Query c.in-Query.condition) c.in-Some.ensures.first c.in-Query.is in
    rw (is, n.query-is w below _, sym c.behind-in-Query.ensures.tree) c.query.ensures.value

pub compound-returns-in_err-variable-in-QualifiedVariable-clause-value : goal.compound-returns-in_err-variable-in-QualifiedVariable-clause-value
compound-returns-in_err-variable-in-QualifiedVariable-clause-value g t c =
    let w = g.W.Setting.world c.args.self.now.world.now in
    let below = bodies_at w c.args.self.now.levels in
    let is = n.begins-with c.args.code.now c.in-Some.rest.now c.in-Some.first.now (i.QualifiedVariable c.in-QualifiedVariable.slot) c.in-Some.ensures.first c.in-QualifiedVariable.is in
    rw (is, n.qualified-is w below _ _, n.variable-is w below c.in-QualifiedVariable.slot) (search rules)

pub compound-returns-in_ok-variable-in-QualifiedVariable-clause-value : goal.compound-returns-in_ok-variable-in-QualifiedVariable-clause-value
compound-returns-in_ok-variable-in-QualifiedVariable-clause-value g t c =
    let w = g.W.Setting.world c.args.self.now.world.now in
    let below = bodies_at w c.args.self.now.levels in
    let is = n.begins-with c.args.code.now c.in-Some.rest.now c.in-Some.first.now (i.QualifiedVariable c.in-QualifiedVariable.slot) c.in-Some.ensures.first c.in-QualifiedVariable.is in
    let known = c.in_ok-variable-in-QualifiedVariable.ensures in
    rw (is, n.qualified-is w below _ _, n.variable-is w below c.in-QualifiedVariable.slot, known) c.qualifiers.ensures.value

pub compound-returns-in_err-known-in-QualifiedItself-clause-value : goal.compound-returns-in_err-known-in-QualifiedItself-clause-value
compound-returns-in_err-known-in-QualifiedItself-clause-value g t c =
    let w = g.W.Setting.world c.args.self.now.world.now in
    let below = bodies_at w c.args.self.now.levels in
    let is = n.begins-with c.args.code.now c.in-Some.rest.now c.in-Some.first.now i.QualifiedItself c.in-Some.ensures.first c.in-QualifiedItself.is in
    rw (is, n.qualified-is w below _ _, n.itself-is w below) (search rules)

pub compound-returns-in_ok-known-in-QualifiedItself-clause-value : goal.compound-returns-in_ok-known-in-QualifiedItself-clause-value
compound-returns-in_ok-known-in-QualifiedItself-clause-value g t c =
    let w = g.W.Setting.world c.args.self.now.world.now in
    let below = bodies_at w c.args.self.now.levels in
    let is = n.begins-with c.args.code.now c.in-Some.rest.now c.in-Some.first.now i.QualifiedItself c.in-Some.ensures.first c.in-QualifiedItself.is in
    let known = (rw c.itself-in-QualifiedItself.ensures at c.in_ok-known-in-QualifiedItself.ensures) in
    rw (is, n.qualified-is w below _ _, n.itself-is w below, known) c.qualifiers-in-QualifiedItself.ensures.value

pub compound-returns-in_err-own_attribute-in-QualifiedAttribute-clause-value : goal.compound-returns-in_err-own_attribute-in-QualifiedAttribute-clause-value
compound-returns-in_err-own_attribute-in-QualifiedAttribute-clause-value g t c =
    let w = g.W.Setting.world c.args.self.now.world.now in
    let below = bodies_at w c.args.self.now.levels in
    let is = n.begins-with c.args.code.now c.in-Some.rest.now c.in-Some.first.now (i.QualifiedAttribute c.in-QualifiedAttribute.attribute) c.in-Some.ensures.first c.in-QualifiedAttribute.is in
    rw (is, n.qualified-is w below _ _, n.own-is w below c.in-QualifiedAttribute.attribute) (search rules)

pub compound-returns-in_ok-own_attribute-in-QualifiedAttribute-clause-value : goal.compound-returns-in_ok-own_attribute-in-QualifiedAttribute-clause-value
compound-returns-in_ok-own_attribute-in-QualifiedAttribute-clause-value g t c =
    let w = g.W.Setting.world c.args.self.now.world.now in
    let below = bodies_at w c.args.self.now.levels in
    let is = n.begins-with c.args.code.now c.in-Some.rest.now c.in-Some.first.now (i.QualifiedAttribute c.in-QualifiedAttribute.attribute) c.in-Some.ensures.first c.in-QualifiedAttribute.is in
    let known = c.in_ok-own_attribute-in-QualifiedAttribute.ensures.value in
    rw (is, n.qualified-is w below _ _, n.own-is w below c.in-QualifiedAttribute.attribute, known) c.qualifiers-in-QualifiedAttribute.ensures.value

pub compound-returns-in_err-expression-in-Qualified-clause-value : goal.compound-returns-in_err-expression-in-Qualified-clause-value
compound-returns-in_err-expression-in-Qualified-clause-value g t c =
    let w = g.W.Setting.world c.args.self.now.world.now in
    let below = bodies_at w c.args.self.now.levels in
    let is = n.begins-with c.args.code.now c.in-Some.rest.now c.in-Some.first.now (i.Qualified c.in-Qualified.qualifiers) c.in-Some.ensures.first c.in-Qualified.is in
    rw (is, n.qualified-is w below _ _) (search rules)

pub compound-returns-in_ok-expression-in-Qualified-clause-value : goal.compound-returns-in_ok-expression-in-Qualified-clause-value
compound-returns-in_ok-expression-in-Qualified-clause-value g t c =
    let w = g.W.Setting.world c.args.self.now.world.now in
    let below = bodies_at w c.args.self.now.levels in
    let is = n.begins-with c.args.code.now c.in-Some.rest.now c.in-Some.first.now (i.Qualified c.in-Qualified.qualifiers) c.in-Some.ensures.first c.in-Qualified.is in
    rw (is, n.qualified-is w below _ _, c.in_ok-expression-in-Qualified.ensures.value, sym c.behind-in-Qualified.ensures.tree) (rw c.in_ok-expression-in-Qualified.ensures.frame at c.qualifiers-in-Qualified.ensures.value)

pub compound-returns-in_err-expression-in-Chain-clause-value : goal.compound-returns-in_err-expression-in-Chain-clause-value
compound-returns-in_err-expression-in-Chain-clause-value g t c =
    let w = g.W.Setting.world c.args.self.now.world.now in
    let below = bodies_at w c.args.self.now.levels in
    let is = n.begins-with c.args.code.now c.in-Some.rest.now c.in-Some.first.now (i.Chain c.in-Chain.operations) c.in-Some.ensures.first c.in-Chain.is in
    rw (is, n.chain-is w below _ _) (search rules)

pub compound-returns-in_ok-expression-in-Chain-clause-value : goal.compound-returns-in_ok-expression-in-Chain-clause-value
compound-returns-in_ok-expression-in-Chain-clause-value g t c =
    let w = g.W.Setting.world c.args.self.now.world.now in
    let below = bodies_at w c.args.self.now.levels in
    let is = n.begins-with c.args.code.now c.in-Some.rest.now c.in-Some.first.now (i.Chain c.in-Chain.operations) c.in-Some.ensures.first c.in-Chain.is in
    rw (is, n.chain-is w below _ _, c.in_ok-expression-in-Chain.ensures.value, sym c.behind-in-Chain.ensures.tree) (rw c.in_ok-expression-in-Chain.ensures.frame at c.operations.ensures.value)

pub compound-returns-in_default-first : goal.compound-returns-in_default-first
compound-returns-in_default-first g t c =
    let w = g.W.Setting.world c.args.self.now.world.now in
    let below = bodies_at w c.args.self.now.levels in
    let plain = no-expression (at c.in-Some.rest.now) c.in-Some.first.now c.in_default-first.not-Literal c.in_default-first.not-Itself c.in_default-first.not-Variable c.in_default-first.not-Attribute c.in_default-first.not-Constant c.in_default-first.not-Population c.in_default-first.not-Call c.in_default-first.not-BuiltIn c.in_default-first.not-UsedIn c.in_default-first.not-Unary c.in_default-first.not-Qualified c.in_default-first.not-QualifiedVariable c.in_default-first.not-QualifiedItself c.in_default-first.not-QualifiedAttribute c.in_default-first.not-Chain c.in_default-first.not-Interval c.in_default-first.not-Query c.in_default-first.not-Initializer in
    record {
      ready = c.requires.ready;
      value = rw (ap expression_of c.in-Some.ensures.first, plain, n.literal-is w below v.Indet) c.nothing-in_default-first.ensures;
      frame = search rules;
    }

pub expression-returns-in_default-clause-value : goal.expression-returns-in_default-clause-value
expression-returns-in_default-clause-value g t c =
    let w = g.W.Setting.world c.args.self.now.world.now in
    let below = bodies_at w c.args.self.now.levels in
    rw (ap expression_of (c.in_default.ensures.none refl), n.literal-is w below v.Indet) c.nothing.ensures

pub expression-returns-in-Literal-clause-value : goal.expression-returns-in-Literal-clause-value
expression-returns-in-Literal-clause-value g t c =
    let w = g.W.Setting.world c.args.self.now.world.now in
    let below = bodies_at w c.args.self.now.levels in
    let is = n.begins-with c.args.code.now c.in-Some.rest.now c.in-Some.first.now (i.Literal c.in-Literal.value) c.in-Some.ensures.first c.in-Literal.is in
    rw (is, n.literal-is w below c.in-Literal.value) c.known.ensures

pub expression-returns-in-Variable-clause-value : goal.expression-returns-in-Variable-clause-value
expression-returns-in-Variable-clause-value g t c =
    let w = g.W.Setting.world c.args.self.now.world.now in
    let below = bodies_at w c.args.self.now.levels in
    let is = n.begins-with c.args.code.now c.in-Some.rest.now c.in-Some.first.now (i.Variable c.in-Variable.slot) c.in-Some.ensures.first c.in-Variable.is in
    rw (is, n.variable-is w below c.in-Variable.slot) c.variable.ensures

pub expression-returns-in-Attribute-clause-value : goal.expression-returns-in-Attribute-clause-value
expression-returns-in-Attribute-clause-value g t c =
    let w = g.W.Setting.world c.args.self.now.world.now in
    let below = bodies_at w c.args.self.now.levels in
    let is = n.begins-with c.args.code.now c.in-Some.rest.now c.in-Some.first.now (i.Attribute c.in-Attribute.attribute) c.in-Some.ensures.first c.in-Attribute.is in
    rw (is, n.own-is w below c.in-Attribute.attribute) c.own_attribute.ensures.value

pub expressions-returns-in_err-expression-clause-value : goal.expressions-returns-in_err-expression-clause-value
expressions-returns-in_err-expression-clause-value g t c =
    rw (sym c.loop-item.invariant.runs, c.in-Some.ensures.first.expressions, sym c.loop-item.invariant.frame) (search rules)

pub expressions-loop-item-preserved : goal.expressions-loop-item-preserved
expressions-loop-item-preserved g t c =
    let value = rw c.loop-item.invariant.frame at c.in_ok-expression.ensures.value in
    let runs = rw (c.in-Some.ensures.first.expressions, value) at c.loop-item.invariant.runs in
    record {
      ready = c.expression.ensures.ready;
      within = omega (arith, c.in-Some.ensures.first.others_shorter, c.loop-item.invariant.within);
      frame = c.in_ok-expression.ensures.frame ∙ c.loop-item.invariant.frame;
      runs = rw c.in_ok-push.ensures.ok runs;
    }

pub called-returns-in_err-expressions-clause-value : goal.called-returns-in_err-expressions-clause-value
called-returns-in_err-expressions-clause-value g t c =
    let w = g.W.Setting.world c.args.self.now.world.now in
    let below = bodies_at w c.args.self.now.levels in
    rw (called-list (expression w below) (function below c.args.number) c.args.frame.now (expressions_of c.args.arguments.now) _ c.in_ok-charge.field-0 c.args.run.now.counter c.charge.new.counter c.new-values.ensures c.in_ok-charge.ensures) (search rules)

pub called-returns-clause-value : goal.called-returns-clause-value
called-returns-clause-value g t c =
    let w = g.W.Setting.world c.args.self.now.world.now in
    let below = bodies_at w c.args.self.now.levels in
    rw (called-list (expression w below) (function below c.args.number) c.args.frame.now (expressions_of c.args.arguments.now) _ c.in_ok-charge.field-0 c.args.run.now.counter c.charge.new.counter c.new-values.ensures c.in_ok-charge.ensures, c.in_ok-expressions.ensures.value) c.function_below.ensures.value

pub initializer-returns-in_err-expressions-clause-value : goal.initializer-returns-in_err-expressions-clause-value
initializer-returns-in_err-expressions-clause-value g t c =
    let w = g.W.Setting.world c.args.self.now.world.now in
    let below = bodies_at w c.args.self.now.levels in
    rw (called-list (expression w below) initialized c.args.frame.now (expressions_of c.args.elements.now) _ c.in_ok-charge.field-0 c.args.run.now.counter c.charge.new.counter c.new-values.ensures c.in_ok-charge.ensures) (search rules)

pub initializer-returns-clause-value : goal.initializer-returns-clause-value
initializer-returns-clause-value g t c =
    let w = g.W.Setting.world c.args.self.now.world.now in
    let below = bodies_at w c.args.self.now.levels in
    rw (called-list (expression w below) initialized c.args.frame.now (expressions_of c.args.elements.now) _ c.in_ok-charge.field-0 c.args.run.now.counter c.charge.new.counter c.new-values.ensures c.in_ok-charge.ensures, c.in_ok-expressions.ensures.value) (c.initialized.ensures)

pub built_in-returns-in_err-expressions-in-Several-clause-value : goal.built_in-returns-in_err-expressions-in-Several-clause-value
built_in-returns-in_err-expressions-in-Several-clause-value g t c =
    let w = g.W.Setting.world c.args.self.now.world.now in
    let below = bodies_at w c.args.self.now.levels in
    rw (called-list (expression w below) (built_in w below c.args.function) c.args.frame.now (expressions_of c.args.arguments.now) _ c.in_ok-charge.field-0 c.args.run.now.counter c.charge.new.counter c.new-values.ensures c.in_ok-charge.ensures) (search rules)

pub built_in-returns-in_ok-expressions-in-Several-clause-value : goal.built_in-returns-in_ok-expressions-in-Several-clause-value
built_in-returns-in_ok-expressions-in-Several-clause-value g t c =
    let w = g.W.Setting.world c.args.self.now.world.now in
    let below = bodies_at w c.args.self.now.levels in
    rw (called-list (expression w below) (built_in w below c.args.function) c.args.frame.now (expressions_of c.args.arguments.now) _ c.in_ok-charge.field-0 c.args.run.now.counter c.charge.new.counter c.new-values.ensures c.in_ok-charge.ensures, c.in_ok-expressions-in-Several.ensures.value) (rw (c.lookup-in-Several.ensures.world, c.as_slice.ensures) at (c.of_values.ensures below))

pub built_in-returns-in_ok-expression-in-One-clause-value : goal.built_in-returns-in_ok-expression-in-One-clause-value
built_in-returns-in_ok-expression-in-One-clause-value g t c =
    let w = g.W.Setting.world c.args.self.now.world.now in
    let below = bodies_at w c.args.self.now.levels in
    rw (called-one (expression w below) (built_in w below c.args.function) c.args.frame.now (expressions_of c.args.arguments.now) (expression_of c.in-One.value.now) c.in_ok-charge.field-0 c.args.run.now.counter c.charge.new.counter c.in-One.ensures.0 c.in_ok-charge.ensures, c.in_ok-expression-in-One.ensures.value) (rw c.lookup.ensures.world at (c.of_one.ensures below))

pub built_in-returns-in_ok-expression-in-Two-2-clause-value : goal.built_in-returns-in_ok-expression-in-Two-2-clause-value
built_in-returns-in_ok-expression-in-Two-2-clause-value g t c =
    let w = g.W.Setting.world c.args.self.now.world.now in
    let below = bodies_at w c.args.self.now.levels in
    rw (called-two (expression w below) (built_in w below c.args.function) c.args.frame.now (expressions_of c.args.arguments.now) (expression_of c.in-Two.first.now) (expression_of c.in-Two.second.now) c.in_ok-charge.field-0 c.args.run.now.counter c.charge.new.counter c.in-Two.ensures.0 c.in_ok-charge.ensures, c.in_ok-expression-in-Two.ensures.value, sym c.in_ok-expression-in-Two.ensures.frame, c.in_ok-expression-in-Two-2.ensures.value) (rw c.lookup-in-Two.ensures.world at (c.of_two.ensures below))

pub interval-returns-in_err-expression-clause-value : goal.interval-returns-in_err-expression-clause-value
interval-returns-in_err-expression-clause-value g t c =
    let w = g.W.Setting.world c.args.self.now.world.now in
    let below = bodies_at w c.args.self.now.levels in
    rw (n.interval-by w below _ _) (search rules)

pub interval-returns-in_err-expression-2-clause-value : goal.interval-returns-in_err-expression-2-clause-value
interval-returns-in_err-expression-2-clause-value g t c =
    let w = g.W.Setting.world c.args.self.now.world.now in
    let below = bodies_at w c.args.self.now.levels in
    rw (n.interval-by w below _ _) (search rules)

pub interval-returns-in_err-expression-3-clause-value : goal.interval-returns-in_err-expression-3-clause-value
interval-returns-in_err-expression-3-clause-value g t c =
    let w = g.W.Setting.world c.args.self.now.world.now in
    let below = bodies_at w c.args.self.now.levels in
    rw (n.interval-by w below _ _) (search rules)

pub interval-returns-clause-value : goal.interval-returns-clause-value
interval-returns-clause-value g t c =
    let w = g.W.Setting.world c.args.self.now.world.now in
    let below = bodies_at w c.args.self.now.levels in
    rw (n.interval-by w below _ _) (search rules)

pub kept-returns-in_err-holds-clause-value : goal.kept-returns-in_err-holds-clause-value
kept-returns-in_err-holds-clause-value g t c =
    let w = g.W.Setting.world c.args.self.now.world.now in
    let below = bodies_at w c.args.self.now.levels in
    let step = kept_step (value_at w c.args.self.now.levels (expression_of c.args.condition.now)) c.args.frame.now c.args.elements.now c.loop-element.element-index c.element-item.result c.loop-element.found c.loop-element.run.counter (omega arith) c.element-item.is in
    rw (sym c.loop-element.invariant.runs, step, sym c.loop-element.invariant.frame) (search rules)

pub kept-loop-element-preserved : goal.kept-loop-element-preserved
kept-loop-element-preserved g t c =
    let w = g.W.Setting.world c.args.self.now.world.now in
    let below = bodies_at w c.args.self.now.levels in
    let value = rw c.loop-element.invariant.frame at c.in_ok-holds.ensures.value in
    let step = kept_step (value_at w c.args.self.now.levels (expression_of c.args.condition.now)) c.args.frame.now c.args.elements.now c.loop-element.element-index c.element-item.result c.loop-element.found c.loop-element.run.counter (omega arith) c.element-item.is in
    let next = rw value at step in
    record {
      ready = c.test.ensures.ready;
      frame = c.in_ok-holds.ensures.frame ∙ c.loop-element.invariant.frame;
      runs = rw c.in_ok-keep.ensures (sym next ∙ c.loop-element.invariant.runs);
    }

pub operation-returns-in_err-charge-clause-value : goal.operation-returns-in_err-charge-clause-value
operation-returns-in_err-charge-clause-value g t c =
    let w = g.W.Setting.world c.args.self.now.world.now in
    let below = bodies_at w c.args.self.now.levels in
    rw (n.operation-by w below _ _) (search rules)

pub operation-returns-in_err-expression-clause-value : goal.operation-returns-in_err-expression-clause-value
operation-returns-in_err-expression-clause-value g t c =
    let w = g.W.Setting.world c.args.self.now.world.now in
    let below = bodies_at w c.args.self.now.levels in
    rw (n.operation-by w below _ _) (search rules)

pub operation-returns-clause-value : goal.operation-returns-clause-value
operation-returns-clause-value g t c =
    let w = g.W.Setting.world c.args.self.now.world.now in
    let below = bodies_at w c.args.self.now.levels in
    rw (n.operation-by w below _ _) (search rules)

pub query-returns-in_err-expression-clause-value : goal.query-returns-in_err-expression-clause-value
query-returns-in_err-expression-clause-value g t c =
    let w = g.W.Setting.world c.args.self.now.world.now in
    let below = bodies_at w c.args.self.now.levels in
    rw (n.query-by w below _ _) (search rules)

pub query-returns-in_default-clause-value : goal.query-returns-in_default-clause-value
query-returns-in_default-clause-value g t c =
    let w = g.W.Setting.world c.args.self.now.world.now in
    let below = bodies_at w c.args.self.now.levels in
    rw (n.query-by w below _ _) (search rules)

pub query-returns-in_err-kept-clause-value : goal.query-returns-in_err-kept-clause-value
query-returns-in_err-kept-clause-value g t c =
    let w = g.W.Setting.world c.args.self.now.world.now in
    let below = bodies_at w c.args.self.now.levels in
    rw (n.query-by w below _ _) (search rules)

pub query-returns-clause-value : goal.query-returns-clause-value
query-returns-clause-value g t c =
    let w = g.W.Setting.world c.args.self.now.world.now in
    let below = bodies_at w c.args.self.now.levels in
    rw (n.query-by w below _ _) (search rules)

pub operations-returns-in_err-operation_by-in-OperationBy-clause-value : goal.operations-returns-in_err-operation_by-in-OperationBy-clause-value
operations-returns-in_err-operation_by-in-OperationBy-clause-value g t c =
    let w = g.W.Setting.world c.args.self.now.world.now in
    let below = bodies_at w c.args.self.now.levels in
    let begins = n.operations-begin c.loop-first.list.now c.in-Some.rest.now c.in-Some.first.now (i.OperationBy c.in-OperationBy.operator c.in-OperationBy.right) c.in-Some.ensures.first c.in-OperationBy.is in
    rw (sym c.loop-first.invariant.runs, begins, n.operation-literal w below c.in-OperationBy.operator c.in-OperationBy.right c.args.frame.now c.loop-first.into c.loop-first.run.counter) (search rules)

pub operations-loop-first-preserved-in-OperationBy : goal.operations-loop-first-preserved-in-OperationBy
operations-loop-first-preserved-in-OperationBy g t c =
    let w = g.W.Setting.world c.args.self.now.world.now in
    let below = bodies_at w c.args.self.now.levels in
    let begins = n.operations-begin c.loop-first.list.now c.in-Some.rest.now c.in-Some.first.now (i.OperationBy c.in-OperationBy.operator c.in-OperationBy.right) c.in-Some.ensures.first c.in-OperationBy.is in
    let value = c.in_ok-operation_by-in-OperationBy.ensures in
    let runs = rw (begins, n.operation-literal w below c.in-OperationBy.operator c.in-OperationBy.right c.args.frame.now c.loop-first.into c.loop-first.run.counter, value) at c.loop-first.invariant.runs in
    record {
      ready = c.loop-first.invariant.ready;
      within = omega (arith, ap length c.in-Some.ensures.first, c.loop-first.invariant.within);
      frame = c.loop-first.invariant.frame;
      runs = runs;
    }

pub operations-returns-in_err-operation_by_variable-in-OperationByVariable-clause-value : goal.operations-returns-in_err-operation_by_variable-in-OperationByVariable-clause-value
operations-returns-in_err-operation_by_variable-in-OperationByVariable-clause-value g t c =
    let w = g.W.Setting.world c.args.self.now.world.now in
    let below = bodies_at w c.args.self.now.levels in
    let begins = n.operations-begin c.loop-first.list.now c.in-Some.rest.now c.in-Some.first.now (i.OperationByVariable c.in-OperationByVariable.operator c.in-OperationByVariable.slot) c.in-Some.ensures.first c.in-OperationByVariable.is in
    rw (sym c.loop-first.invariant.runs, begins, n.operation-variable w below c.in-OperationByVariable.operator c.in-OperationByVariable.slot c.args.frame.now c.loop-first.into c.loop-first.run.counter, sym c.loop-first.invariant.frame) (search rules)

pub operations-loop-first-preserved-in-OperationByVariable : goal.operations-loop-first-preserved-in-OperationByVariable
operations-loop-first-preserved-in-OperationByVariable g t c =
    let w = g.W.Setting.world c.args.self.now.world.now in
    let below = bodies_at w c.args.self.now.levels in
    let begins = n.operations-begin c.loop-first.list.now c.in-Some.rest.now c.in-Some.first.now (i.OperationByVariable c.in-OperationByVariable.operator c.in-OperationByVariable.slot) c.in-Some.ensures.first c.in-OperationByVariable.is in
    let value = rw c.loop-first.invariant.frame at c.in_ok-operation_by_variable-in-OperationByVariable.ensures in
    let runs = rw (begins, n.operation-variable w below c.in-OperationByVariable.operator c.in-OperationByVariable.slot c.args.frame.now c.loop-first.into c.loop-first.run.counter, value) at c.loop-first.invariant.runs in
    record {
      ready = c.loop-first.invariant.ready;
      within = omega (arith, ap length c.in-Some.ensures.first, c.loop-first.invariant.within);
      frame = c.loop-first.invariant.frame;
      runs = runs;
    }

pub operations-returns-in_err-operation-in-Operation-clause-value : goal.operations-returns-in_err-operation-in-Operation-clause-value
operations-returns-in_err-operation-in-Operation-clause-value g t c =
    let w = g.W.Setting.world c.args.self.now.world.now in
    let below = bodies_at w c.args.self.now.levels in
    let begins = n.operations-begin c.loop-first.list.now c.in-Some.rest.now c.in-Some.first.now (i.Operation c.in-Operation.operator c.in-Operation.next) c.in-Some.ensures.first c.in-Operation.is in
    rw (sym c.loop-first.invariant.runs, begins, sym c.loop-first.invariant.frame) (search rules)

pub operations-loop-first-preserved : goal.operations-loop-first-preserved
operations-loop-first-preserved g t c =
    let w = g.W.Setting.world c.args.self.now.world.now in
    let below = bodies_at w c.args.self.now.levels in
    let begins = n.operations-begin c.loop-first.list.now c.in-Some.rest.now c.in-Some.first.now (i.Operation c.in-Operation.operator c.in-Operation.next) c.in-Some.ensures.first c.in-Operation.is in
    let value = rw c.loop-first.invariant.frame at c.in_ok-operation-in-Operation.ensures.value in
    let runs = rw (begins, value) at c.loop-first.invariant.runs in
    record {
      ready = c.operation.ensures.ready;
      within = omega (arith, ap length c.in-Some.ensures.first, c.loop-first.invariant.within, c.behind-list.ensures.within);
      frame = c.in_ok-operation-in-Operation.ensures.frame ∙ c.loop-first.invariant.frame;
      runs = rw (sym c.behind-list.ensures.tree) at runs;
    }

pub qualifiers-returns-in_err-of_attribute-in-OfAttribute-clause-value : goal.qualifiers-returns-in_err-of_attribute-in-OfAttribute-clause-value
qualifiers-returns-in_err-of_attribute-in-OfAttribute-clause-value g t c =
    let w = g.W.Setting.world c.args.self.now.world.now in
    let below = bodies_at w c.args.self.now.levels in
    let begins = n.qualifiers-begin c.loop-first.list.now c.in-Some.rest.now c.in-Some.first.now (i.OfAttribute c.in-OfAttribute.attributes) c.in-Some.ensures.first c.in-OfAttribute.is in
    rw (sym c.loop-first.invariant.runs, begins, n.attribute-of w below c.in-OfAttribute.attributes) (search rules)

pub qualifiers-loop-first-preserved-in-OfAttribute : goal.qualifiers-loop-first-preserved-in-OfAttribute
qualifiers-loop-first-preserved-in-OfAttribute g t c =
    let w = g.W.Setting.world c.args.self.now.world.now in
    let below = bodies_at w c.args.self.now.levels in
    let begins = n.qualifiers-begin c.loop-first.list.now c.in-Some.rest.now c.in-Some.first.now (i.OfAttribute c.in-OfAttribute.attributes) c.in-Some.ensures.first c.in-OfAttribute.is in
    let value = c.in_ok-of_attribute-in-OfAttribute.ensures.value in
    let runs = rw (begins, n.attribute-of w below c.in-OfAttribute.attributes, value) at c.loop-first.invariant.runs in
    record {
      ready = c.of_attribute.ensures.ready;
      within = omega (arith, ap length c.in-Some.ensures.first, c.loop-first.invariant.within);
      frame = c.loop-first.invariant.frame;
      runs = runs;
    }

pub qualifiers-returns-in_err-grouped-in-Group-clause-value : goal.qualifiers-returns-in_err-grouped-in-Group-clause-value
qualifiers-returns-in_err-grouped-in-Group-clause-value g t c =
    let w = g.W.Setting.world c.args.self.now.world.now in
    let below = bodies_at w c.args.self.now.levels in
    let begins = n.qualifiers-begin c.loop-first.list.now c.in-Some.rest.now c.in-Some.first.now (i.Group c.in-Group.entity) c.in-Some.ensures.first c.in-Group.is in
    rw (sym c.loop-first.invariant.runs, begins, n.group-of w below c.in-Group.entity) (search rules)

pub qualifiers-loop-first-preserved-in-Group : goal.qualifiers-loop-first-preserved-in-Group
qualifiers-loop-first-preserved-in-Group g t c =
    let w = g.W.Setting.world c.args.self.now.world.now in
    let below = bodies_at w c.args.self.now.levels in
    let begins = n.qualifiers-begin c.loop-first.list.now c.in-Some.rest.now c.in-Some.first.now (i.Group c.in-Group.entity) c.in-Some.ensures.first c.in-Group.is in
    let value = c.in_ok-grouped-in-Group.ensures in
    let runs = rw (begins, n.group-of w below c.in-Group.entity, value) at c.loop-first.invariant.runs in
    record {
      ready = c.loop-first.invariant.ready;
      within = omega (arith, ap length c.in-Some.ensures.first, c.loop-first.invariant.within);
      frame = c.loop-first.invariant.frame;
      runs = runs;
    }

pub qualifiers-returns-in_err-indexed-in-Index-clause-value : goal.qualifiers-returns-in_err-indexed-in-Index-clause-value
qualifiers-returns-in_err-indexed-in-Index-clause-value g t c =
    let w = g.W.Setting.world c.args.self.now.world.now in
    let below = bodies_at w c.args.self.now.levels in
    let begins = n.qualifiers-begin c.loop-first.list.now c.in-Some.rest.now c.in-Some.first.now (i.Index c.in-Index.next) c.in-Some.ensures.first c.in-Index.is in
    rw (sym c.loop-first.invariant.runs, begins, n.index-of w below _, sym c.loop-first.invariant.frame) (search rules)

pub qualifiers-loop-first-preserved-in-Index : goal.qualifiers-loop-first-preserved-in-Index
qualifiers-loop-first-preserved-in-Index g t c =
    let w = g.W.Setting.world c.args.self.now.world.now in
    let below = bodies_at w c.args.self.now.levels in
    let begins = n.qualifiers-begin c.loop-first.list.now c.in-Some.rest.now c.in-Some.first.now (i.Index c.in-Index.next) c.in-Some.ensures.first c.in-Index.is in
    let value = rw c.loop-first.invariant.frame at c.in_ok-indexed-in-Index.ensures.value in
    let runs = rw (begins, n.index-of w below _, value) at c.loop-first.invariant.runs in
    record {
      ready = c.indexed.ensures.ready;
      within = omega (arith, ap length c.in-Some.ensures.first, c.loop-first.invariant.within, c.behind-list.ensures.within);
      frame = c.in_ok-indexed-in-Index.ensures.frame ∙ c.loop-first.invariant.frame;
      runs = rw (sym c.behind-list.ensures.tree) at runs;
    }

pub qualifiers-returns-in_err-ranged-in-Range-clause-value : goal.qualifiers-returns-in_err-ranged-in-Range-clause-value
qualifiers-returns-in_err-ranged-in-Range-clause-value g t c =
    let w = g.W.Setting.world c.args.self.now.world.now in
    let below = bodies_at w c.args.self.now.levels in
    let begins = n.qualifiers-begin c.loop-first.list.now c.in-Some.rest.now c.in-Some.first.now (i.Range c.in-Range.last c.in-Range.next) c.in-Some.ensures.first c.in-Range.is in
    rw (sym c.loop-first.invariant.runs, begins, n.range-of w below _ _, sym c.behind.ensures.tree, sym c.loop-first.invariant.frame) (search rules)

pub qualifiers-loop-first-preserved : goal.qualifiers-loop-first-preserved
qualifiers-loop-first-preserved g t c =
    let w = g.W.Setting.world c.args.self.now.world.now in
    let below = bodies_at w c.args.self.now.levels in
    let begins = n.qualifiers-begin c.loop-first.list.now c.in-Some.rest.now c.in-Some.first.now (i.Range c.in-Range.last c.in-Range.next) c.in-Some.ensures.first c.in-Range.is in
    let value = rw c.loop-first.invariant.frame at c.in_ok-ranged-in-Range.ensures.value in
    let runs = rw (begins, n.range-of w below _ _, sym c.behind.ensures.tree, value) at c.loop-first.invariant.runs in
    record {
      ready = c.ranged.ensures.ready;
      within = omega (arith, ap length c.in-Some.ensures.first, c.loop-first.invariant.within, c.behind-list-in-Range.ensures.within);
      frame = c.in_ok-ranged-in-Range.ensures.frame ∙ c.loop-first.invariant.frame;
      runs = rw (sym c.behind-list-in-Range.ensures.tree) at runs;
    }

pub ranged-returns-clause-value : goal.ranged-returns-clause-value
ranged-returns-clause-value g t c =
    let w = g.W.Setting.world c.args.self.now.world.now in
    let below = bodies_at w c.args.self.now.levels in
    rw (c.in_ok-charge.ensures, c.in_ok-expression.ensures.value, sym c.in_ok-expression.ensures.frame, c.in_ok-expression-2.ensures.value, c.in_ok-into.ensures) refl

pub test-returns-clause-value : goal.test-returns-clause-value
test-returns-clause-value g t c =
    let w = g.W.Setting.world c.args.self.now.world.now in
    let below = bodies_at w c.args.self.now.levels in
    rw (c.in_ok-charge.ensures, sym c.in_ok-copied.ensures, sym c.in_ok-open.ensures, c.in_ok-expression.ensures.value, c.is_true.ensures) refl

pub used_in-returns-clause-value : goal.used_in-returns-clause-value
used_in-returns-clause-value g t c =
    let w = g.W.Setting.world c.args.self.now.world.now in
    let below = bodies_at w c.args.self.now.levels in
    rw (c.in_ok-charge.ensures, c.in_ok-expression.ensures.value) (rw (c.lookup.ensures.world, c.unboxed.ensures, c.place_of.ensures) at (c.used_in_role.ensures below))

pub chain-returns-in_err-expression-in-Chain-clause-value : goal.chain-returns-in_err-expression-in-Chain-clause-value
chain-returns-in_err-expression-in-Chain-clause-value g t c =
    let w = g.W.Setting.world c.args.self.now.world.now in
    let below = bodies_at w c.args.self.now.levels in
    let is = n.begins-with c.args.code.now c.in-Some.rest.now c.in-Some.first.now (i.Chain c.in-Chain.operations) c.in-Some.ensures.first c.in-Chain.is in
    rw (is, n.chain-is w below _ _) (search rules)

pub chain-returns-in_ok-expression-in-Chain-clause-value : goal.chain-returns-in_ok-expression-in-Chain-clause-value
chain-returns-in_ok-expression-in-Chain-clause-value g t c =
    let w = g.W.Setting.world c.args.self.now.world.now in
    let below = bodies_at w c.args.self.now.levels in
    let is = n.begins-with c.args.code.now c.in-Some.rest.now c.in-Some.first.now (i.Chain c.in-Chain.operations) c.in-Some.ensures.first c.in-Chain.is in
    rw (is, n.chain-is w below _ _, c.in_ok-expression-in-Chain.ensures.value, sym c.behind.ensures.tree) (rw c.in_ok-expression-in-Chain.ensures.frame at c.operations.ensures.value)

pub chain-returns-in_default-clause-value : goal.chain-returns-in_default-clause-value
chain-returns-in_default-clause-value g t c =
    let w = g.W.Setting.world c.args.self.now.world.now in
    let below = bodies_at w c.args.self.now.levels in
    rw (ap expression_of (c.in_default.ensures.none refl), n.literal-is w below v.Indet) c.nothing.ensures

pub signed-returns-in_default-clause-value : goal.signed-returns-in_default-clause-value
signed-returns-in_default-clause-value g t c =
    let w = g.W.Setting.world c.args.self.now.world.now in
    let below = bodies_at w c.args.self.now.levels in
    rw (ap expression_of (c.in_default.ensures.none refl), n.literal-is w below v.Indet) c.nothing.ensures

pub signed-returns-in-Unary-clause-value : goal.signed-returns-in-Unary-clause-value
signed-returns-in-Unary-clause-value g t c =
    let w = g.W.Setting.world c.args.self.now.world.now in
    let below = bodies_at w c.args.self.now.levels in
    let is = n.begins-with c.args.code.now c.in-Some.rest.now c.in-Some.first.now (i.Unary c.in-Unary.operator) c.in-Some.ensures.first c.in-Unary.is in
    rw (is, n.unary-is w below c.in-Unary.operator _) c.unary.ensures.value

pub expression-returns-in-Initializer-clause-value : goal.expression-returns-in-Initializer-clause-value
expression-returns-in-Initializer-clause-value g t c =
    let w = g.W.Setting.world c.args.self.now.world.now in
    let below = bodies_at w c.args.self.now.levels in
    let is = n.begins-with c.args.code.now c.in-Some.rest.now c.in-Some.first.now i.Initializer c.in-Some.ensures.first c.in-Initializer.is in
    rw (is, n.initializer-is w below _) c.initializer.ensures.value
