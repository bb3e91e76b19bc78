use Rattle.std.proofs.Common.{◌≡◌, true, false, [], Some, None, rules, sym, ◌∙◌, arith}
use Rattle.rp_meaning.specs.TypeRules.{element_of, named}
use Rattle.rp_meaning.specs.Types.{end}
use Rattle.rp_rules.specs.Plan.{may_be_by}
use Rattle.rp_rules.proofs.Untried.{stand-deeper, stand-end, stand-itself, stand-nowhere}
use Rattle.rp_rules.proofs.plan.Planning.may_stand.Goals as goal

pub returns-then-may_be : goal.returns-then-may_be
returns-then-may_be c =
    let types = c.args.self.now.schema.now.types in
    let be : may_be_by types c.args.self.now.number (end types c.loop-depth.inner.now) (named c.loop-depth.inner.now) c.loop-depth.carries ≡ true = sym c.may_be.ensures ∙ c.if-may_be.true in
    sym (stand-itself types c.args.self.now.number c.loop-depth._depth c.loop-depth.carries c.loop-depth.inner.now (omega arith) be) ∙ c.loop-depth.invariant

pub returns-in_default : goal.returns-in_default
returns-in_default c =
    let types = c.args.self.now.schema.now.types in
    let be : may_be_by types c.args.self.now.number (end types c.loop-depth.inner.now) (named c.loop-depth.inner.now) c.loop-depth.carries ≡ false = sym c.may_be.ensures ∙ c.if-may_be.false in
    let none : element_of types [] c.loop-depth.inner.now ≡ None = search rules in
    sym (stand-nowhere types c.args.self.now.number c.loop-depth._depth c.loop-depth.carries c.loop-depth.inner.now (omega arith) be none) ∙ c.loop-depth.invariant

pub loop-depth-preserved : goal.loop-depth-preserved
loop-depth-preserved c =
    let types = c.args.self.now.schema.now.types in
    let be : may_be_by types c.args.self.now.number (end types c.loop-depth.inner.now) (named c.loop-depth.inner.now) c.loop-depth.carries ≡ false = sym c.may_be.ensures ∙ c.if-may_be.false in
    let some : element_of types [] c.loop-depth.inner.now ≡ Some c.in-Some.element.now = search rules in
    sym (stand-deeper types c.args.self.now.number c.loop-depth._depth c.loop-depth.carries c.loop-depth.inner.now (omega arith) be c.in-Some.element.now some) ∙ c.loop-depth.invariant

pub returns : goal.returns
returns c =
    let types = c.args.self.now.schema.now.types in
    sym (stand-end types c.args.self.now.number c.loop-depth._depth c.loop-depth.carries c.loop-depth.inner.now (omega arith)) ∙ c.loop-depth.invariant
