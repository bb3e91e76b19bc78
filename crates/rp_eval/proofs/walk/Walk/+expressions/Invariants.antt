use Rattle.std.proofs.Common.{◌≡◌, ◌+◌, ◌*◌, ◌≤◌, drop, length, map, max}
use Rattle.rp_code.specs.Denoted.{expression_of, expressions_of, operations_of, qualifiers_of}
use Rattle.rp_meaning.specs.Expressions as spec
use Rattle.rp_eval_parts.specs.Serving.{Ready}
use Rattle.rp_eval.specs.Bodies.{value_at, operation_at, qualifier_at}
use Rattle.rp_eval.proofs.walk.Walk.+expressions.Given as goal

-- what is left of the list comes to what the whole list comes to

abbrev pub invariant-expressions-loop-item : goal.invariant-expressions-loop-item
invariant-expressions-loop-item g l =
    let means = value_at (g.W.Setting.world l.self.world.now) l.self.levels in
    record {
      within : length l.list ≤ length l.fn.list;
      ready : Ready (g.W.Setting.world l.self.world.now) l.run.memory;
      frame : l.frame ≡ l.fn.frame;
      runs : spec.each_after l.fn.frame l.values (map means (expressions_of l.list)) l.run.counter ≡ spec.each_after l.fn.frame l.fn.values (map means (expressions_of l.fn.list)) l.fn.run.counter;
    }

abbrev pub invariant-operations-loop-first : goal.invariant-operations-loop-first
invariant-operations-loop-first g l =
    let means = operation_at (g.W.Setting.world l.self.world.now) l.self.levels in
    record {
      within : length l.list ≤ length l.fn.list;
      ready : Ready (g.W.Setting.world l.self.world.now) l.run.memory;
      frame : l.frame ≡ l.fn.frame;
      runs : spec.in_turn l.fn.frame (map means (operations_of l.list)) l.into l.run.counter ≡ spec.in_turn l.fn.frame (map means (operations_of l.fn.list)) l.fn.into l.fn.run.counter;
    }

abbrev pub invariant-qualifiers-loop-first : goal.invariant-qualifiers-loop-first
invariant-qualifiers-loop-first g l =
    let means = qualifier_at (g.W.Setting.world l.self.world.now) l.self.levels in
    record {
      within : length l.list ≤ length l.fn.list;
      ready : Ready (g.W.Setting.world l.self.world.now) l.run.memory;
      frame : l.frame ≡ l.fn.frame;
      runs : spec.in_turn l.fn.frame (map means (qualifiers_of l.list)) l.into l.run.counter ≡ spec.in_turn l.fn.frame (map means (qualifiers_of l.fn.list)) l.fn.into l.fn.run.counter;
    }

abbrev pub invariant-kept-loop-element : goal.invariant-kept-loop-element
invariant-kept-loop-element g l =
    let condition = value_at (g.W.Setting.world l.self.world.now) l.self.levels (expression_of l.condition) in
    record {
      ready : Ready (g.W.Setting.world l.self.world.now) l.run.memory;
      frame : l.frame ≡ l.fn.frame;
      runs : spec.kept_after condition l.fn.frame l.found (drop l.element-index l.elements) l.run.counter ≡ spec.kept_after condition l.fn.frame l.fn.found l.elements l.fn.run.counter;
    }

-- lists get shorter

abbrev pub decreases-expressions-loop-item : goal.decreases-expressions-loop-item
decreases-expressions-loop-item g l = length l.list

abbrev pub decreases-operations-loop-first : goal.decreases-operations-loop-first
decreases-operations-loop-first g l = length l.list

abbrev pub decreases-qualifiers-loop-first : goal.decreases-qualifiers-loop-first
decreases-qualifiers-loop-first g l = length l.list

-- by the length of the instructions at hand, and of functions that hand the same ones on by their rank

abbrev pub decreases-expression : goal.decreases-expression
decreases-expression g l = 8 * length l.code.now + 2

abbrev pub decreases-chain : goal.decreases-chain
decreases-chain g l = 8 * length l.code.now + 1

abbrev pub decreases-signed : goal.decreases-signed
decreases-signed g l = 8 * length l.code.now + 1

abbrev pub decreases-compound : goal.decreases-compound
decreases-compound g l = 8 * length l.code.now

abbrev pub decreases-expressions : goal.decreases-expressions
decreases-expressions g l = 8 * length l.list.now

abbrev pub decreases-operations : goal.decreases-operations
decreases-operations g l = 8 * length l.list.now

abbrev pub decreases-qualifiers : goal.decreases-qualifiers
decreases-qualifiers g l = 8 * length l.list.now

abbrev pub decreases-called : goal.decreases-called
decreases-called g l = 8 * length l.arguments.now + 2

abbrev pub decreases-initializer : goal.decreases-initializer
decreases-initializer g l = 8 * length l.elements.now + 2

abbrev pub decreases-built_in : goal.decreases-built_in
decreases-built_in g l = 8 * length l.arguments.now + 2

abbrev pub decreases-used_in : goal.decreases-used_in
decreases-used_in g l = 8 * length l.instance.now + 3

abbrev pub decreases-unary : goal.decreases-unary
decreases-unary g l = 8 * length l.right.now + 3

abbrev pub decreases-operation : goal.decreases-operation
decreases-operation g l = 8 * length l.right.now + 3

abbrev pub decreases-indexed : goal.decreases-indexed
decreases-indexed g l = 8 * length l.at.now + 3

abbrev pub decreases-ranged : goal.decreases-ranged
decreases-ranged g l = 8 * max (length l.first.now) (length l.last.now) + 3

abbrev pub decreases-interval : goal.decreases-interval
decreases-interval g l = 8 * max (length l.low.now) (max (length l.ends.now.item.now) (length l.ends.now.high.now)) + 3

abbrev pub decreases-query : goal.decreases-query
decreases-query g l = 8 * max (length l.source.now) (length l.condition.now) + 5

abbrev pub decreases-kept : goal.decreases-kept
decreases-kept g l = 8 * length l.condition.now + 4

abbrev pub decreases-test : goal.decreases-test
decreases-test g l = 8 * length l.condition.now + 3
