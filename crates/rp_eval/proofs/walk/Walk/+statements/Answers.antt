use Rattle.std.proofs.Common.{rules, refl, sym, ap, ◌∙◌}
use Rattle.rp_code.specs.Denoted.{at, statement_of, statements_of}
use Rattle.rp_meaning.specs.Statements as spec
use Rattle.rp_meaning.specs.Levels.{bodies, most_turns}
use Rattle.rp_eval.specs.Parts.{control_of, increment_of}
use Rattle.rp_eval.specs.Bodies.{action_at, value_at}
use Rattle.rp_eval.proofs.Loops.{repeats_begins, turn_off, turn_on, starts_off, starts_on, off, on, repeated_end, below_most, past_most}
use Rattle.rp_eval.proofs.Steps.{labels_is, otherwise_is, none_begins, waits, assignment_is, growth_is, case_is, compound_is, if_is, repeat_is, return_is, escape_is, skip_is, null_is}
use Rattle.rp_eval.proofs.walk.Walk.+statements.Goals as goal

pub statement-returns-in_err-charge-clause-value : goal.statement-returns-in_err-charge-clause-value
statement-returns-in_err-charge-clause-value g t c =
    let w = g.W.Setting.world c.args.self.now.world.now in
    let none = waits w most_turns (bodies w c.args.self.now.levels) (statement_of c.args.code.now) c.args.frame.now c.args.run.now.counter in
    search (rules, none)

pub statement-returns-in_default-clause-value : goal.statement-returns-in_default-clause-value
statement-returns-in_default-clause-value g t c =
    let w = g.W.Setting.world c.args.self.now.world.now in
    rw (null_is w most_turns (bodies w c.args.self.now.levels) c.args.frame.now c.args.run.now.counter (statement_of c.args.code.now) (ap statement_of (c.split.ensures.none c.in_default.is))) (search rules)

pub statement-returns-in_err-expression-in-If-clause-value : goal.statement-returns-in_err-expression-in-If-clause-value
statement-returns-in_err-expression-in-If-clause-value g t c =
    let w = g.W.Setting.world c.args.self.now.world.now in
    rw (if_is w most_turns (bodies w c.args.self.now.levels) c.args.frame.now c.args.run.now.counter c.args.code.now c.in-Some.rest.now c.in-Some.first.now c.in-Some.ensures.first c.in-If.then_part c.in-If.else_part c.in-If.is) (search rules)

pub statement-returns-then-is_true-clause-value : goal.statement-returns-then-is_true-clause-value
statement-returns-then-is_true-clause-value g t c =
    let w = g.W.Setting.world c.args.self.now.world.now in
    rw (if_is w most_turns (bodies w c.args.self.now.levels) c.args.frame.now c.args.run.now.counter c.args.code.now c.in-Some.rest.now c.in-Some.first.now c.in-Some.ensures.first c.in-If.then_part c.in-If.else_part c.in-If.is) (search (rules, rw c.behind-then-is_true.ensures.tree at c.statements-then-is_true.ensures.value))

pub statement-returns-else-is_true-clause-value : goal.statement-returns-else-is_true-clause-value
statement-returns-else-is_true-clause-value g t c =
    let w = g.W.Setting.world c.args.self.now.world.now in
    rw (if_is w most_turns (bodies w c.args.self.now.levels) c.args.frame.now c.args.run.now.counter c.args.code.now c.in-Some.rest.now c.in-Some.first.now c.in-Some.ensures.first c.in-If.then_part c.in-If.else_part c.in-If.is) (search (rules, rw c.behind-else-is_true.ensures.tree at c.statements-else-is_true.ensures.value))

pub statement-returns-in_err-expression-in-Return-clause-value :
    goal.statement-returns-in_err-expression-in-Return-clause-value
statement-returns-in_err-expression-in-Return-clause-value g t c =
    let w = g.W.Setting.world c.args.self.now.world.now in
    rw (return_is w most_turns (bodies w c.args.self.now.levels) c.args.frame.now c.args.run.now.counter c.args.code.now c.in-Some.rest.now c.in-Some.first.now c.in-Some.ensures.first c.in-Return.is) (search rules)

pub statement-returns-in_ok-expression-in-Return-clause-value :
    goal.statement-returns-in_ok-expression-in-Return-clause-value
statement-returns-in_ok-expression-in-Return-clause-value g t c =
    let w = g.W.Setting.world c.args.self.now.world.now in
    rw (return_is w most_turns (bodies w c.args.self.now.levels) c.args.frame.now c.args.run.now.counter c.args.code.now c.in-Some.rest.now c.in-Some.first.now c.in-Some.ensures.first c.in-Return.is) (search rules)

pub statement-returns-in-Assignment-clause-value : goal.statement-returns-in-Assignment-clause-value
statement-returns-in-Assignment-clause-value g t c =
    let w = g.W.Setting.world c.args.self.now.world.now in
    rw (assignment_is w most_turns (bodies w c.args.self.now.levels) c.args.frame.now c.args.run.now.counter c.args.code.now c.in-Some.rest.now c.in-Some.first.now c.in-Some.ensures.first c.in-Assignment.slot c.in-Assignment.data_type c.in-Assignment.is) (search (rules, c.assignment.ensures.value c.args.into.now))

pub statement-returns-in-Growth-clause-value : goal.statement-returns-in-Growth-clause-value
statement-returns-in-Growth-clause-value g t c =
    let w = g.W.Setting.world c.args.self.now.world.now in
    rw (growth_is w most_turns (bodies w c.args.self.now.levels) c.args.frame.now c.args.run.now.counter c.args.code.now c.in-Some.rest.now c.in-Some.first.now c.in-Some.ensures.first c.in-Growth.slot c.in-Growth.operator c.in-Growth.data_type c.in-Growth.is) (search (rules, c.growth.ensures.value c.args.into.now))

pub statement-returns-in-Case-clause-value : goal.statement-returns-in-Case-clause-value
statement-returns-in-Case-clause-value g t c =
    let w = g.W.Setting.world c.args.self.now.world.now in
    rw (case_is w most_turns (bodies w c.args.self.now.levels) c.args.frame.now c.args.run.now.counter c.args.code.now c.in-Some.rest.now c.in-Some.first.now c.in-Some.ensures.first c.in-Case.actions c.in-Case.is) (search (rules, rw c.behind.ensures.tree at c.case.ensures.value))

pub statement-returns-in-Compound-clause-value : goal.statement-returns-in-Compound-clause-value
statement-returns-in-Compound-clause-value g t c =
    let w = g.W.Setting.world c.args.self.now.world.now in
    let h = c.statements.ensures.value in
    let k = c.charge.ensures in
    let l = c.in_ok-charge.ensures in
    rw (compound_is w most_turns (bodies w c.args.self.now.levels) c.args.frame.now c.args.run.now.counter c.args.code.now c.in-Some.rest.now c.in-Some.first.now c.in-Some.ensures.first c.in-Compound.is) (search rules)

pub statement-returns-in-Repeat-clause-value : goal.statement-returns-in-Repeat-clause-value
statement-returns-in-Repeat-clause-value g t c =
    let w = g.W.Setting.world c.args.self.now.world.now in
    rw (repeat_is w most_turns (bodies w c.args.self.now.levels) c.args.frame.now c.args.run.now.counter c.args.code.now c.in-Some.rest.now c.in-Some.first.now c.in-Some.ensures.first c.in-Repeat.while_condition c.in-Repeat.until_condition c.in-Repeat.body c.in-Repeat.is) (search (rules, rw (c.behind-in-Repeat.ensures.tree, c.behind-in-Repeat-2.ensures.tree, c.behind-in-Repeat-3.ensures.tree) at c.repeat.ensures.value))

pub statement-returns-in-Escape-clause-value : goal.statement-returns-in-Escape-clause-value
statement-returns-in-Escape-clause-value g t c =
    let w = g.W.Setting.world c.args.self.now.world.now in
    rw (escape_is w most_turns (bodies w c.args.self.now.levels) c.args.frame.now c.args.run.now.counter c.args.code.now c.in-Some.rest.now c.in-Some.first.now c.in-Some.ensures.first c.in-Escape.is) (search rules)

pub statement-returns-in-Skip-clause-value : goal.statement-returns-in-Skip-clause-value
statement-returns-in-Skip-clause-value g t c =
    let w = g.W.Setting.world c.args.self.now.world.now in
    rw (skip_is w most_turns (bodies w c.args.self.now.levels) c.args.frame.now c.args.run.now.counter c.args.code.now c.in-Some.rest.now c.in-Some.first.now c.in-Some.ensures.first c.in-Skip.is) (search rules)

pub statement-returns-in_default-first-clause-value : goal.statement-returns-in_default-first-clause-value
statement-returns-in_default-first-clause-value g t c =
    let w = g.W.Setting.world c.args.self.now.world.now in
    let no = c.in_default-first in
    let code = c.args.code.now in
    let null = none_begins c.in-Some.first.now no.not-Assignment no.not-Growth no.not-Case no.not-Compound no.not-If no.not-Repeat no.not-Return no.not-Skip no.not-Escape (at c.in-Some.rest.now) in
    let is = ap statement_of c.in-Some.ensures.first ∙ null in
    rw (null_is w most_turns (bodies w c.args.self.now.levels) c.args.frame.now c.args.run.now.counter (statement_of code) is) (search rules)

pub counted-returns-in-Some-clause-value : goal.counted-returns-in-Some-clause-value
counted-returns-in-Some-clause-value g t c =
    let w = g.W.Setting.world c.args.self.now.world.now in
    let levels = c.args.self.now.levels in
    let one = spec.turn (value_at w levels) (control_of c.args.parts.now) (action_at w levels (statements_of c.args.parts.now.body.now)) in
    let all = repeats_begins most_turns (value_at w levels) one (increment_of c.args.increment.now) c.args.frame.now c.args.run.now.counter in
    rw (all, c.in_ok-running.ensures.value, c.in-Some.is) (rw c.in_ok-running.ensures.frame at c.with_variable.ensures.value)

pub repeat-returns-in-None-clause-value : goal.repeat-returns-in-None-clause-value
repeat-returns-in-None-clause-value g t c = rw (sym c.increment_in.ensures, c.in-None.is) c.turns.ensures.value

pub matched-returns-in_err-any_equal-in-Labels-clause-value : goal.matched-returns-in_err-any_equal-in-Labels-clause-value
matched-returns-in_err-any_equal-in-Labels-clause-value g t c =
    let w = g.W.Setting.world c.args.self.now.world.now in
    let step = labels_is w most_turns (bodies w c.args.self.now.levels) c.args.frame.now c.loop-first.run.counter c.loop-first.others.now c.in-Some.rest.now c.in-Some.first.now c.in-Some.ensures.first c.args.selector.now c.in-Labels.statement c.in-Labels.next c.in-Labels.is in
    rw (c.loop-first.invariant.runs, step, sym c.loop-first.invariant.frame) (search rules)

pub matched-returns-then-branch-clause-value : goal.matched-returns-then-branch-clause-value
matched-returns-then-branch-clause-value g t c =
    let w = g.W.Setting.world c.args.self.now.world.now in
    let step = labels_is w most_turns (bodies w c.args.self.now.levels) c.args.frame.now c.loop-first.run.counter c.loop-first.others.now c.in-Some.rest.now c.in-Some.first.now c.in-Some.ensures.first c.args.selector.now c.in-Labels.statement c.in-Labels.next c.in-Labels.is in
    let value = rw c.loop-first.invariant.frame at c.in_ok-any_equal-in-Labels.ensures.value in
    let hit = rw (value, c.if-branch.true) at step in
    let same = c.in_ok-any_equal-in-Labels.ensures.frame ∙ c.loop-first.invariant.frame in
    rw (c.loop-first.invariant.runs, hit) (rw (same, c.behind.ensures.tree) at c.statement.ensures.value)

pub matched-loop-first-preserved : goal.matched-loop-first-preserved
matched-loop-first-preserved g t c =
    let w = g.W.Setting.world c.args.self.now.world.now in
    let step = labels_is w most_turns (bodies w c.args.self.now.levels) c.args.frame.now c.loop-first.run.counter c.loop-first.others.now c.in-Some.rest.now c.in-Some.first.now c.in-Some.ensures.first c.args.selector.now c.in-Labels.statement c.in-Labels.next c.in-Labels.is in
    let value = rw c.loop-first.invariant.frame at c.in_ok-any_equal-in-Labels.ensures.value in
    let missed = rw (value, c.if-branch.false) at step in
    record {
      ready = c.any_equal.ensures.ready;
      within = search rules;
      frame = c.in_ok-any_equal-in-Labels.ensures.frame ∙ c.loop-first.invariant.frame;
      runs = rw (c.behind-others.ensures.tree, c.loop-first.invariant.runs) missed;
    }

pub matched-returns-in-Otherwise-clause-value : goal.matched-returns-in-Otherwise-clause-value
matched-returns-in-Otherwise-clause-value g t c =
    let w = g.W.Setting.world c.args.self.now.world.now in
    let is = otherwise_is w most_turns (bodies w c.args.self.now.levels) c.args.frame.now c.loop-first.run.counter c.loop-first.others.now c.in-Some.rest.now c.in-Some.first.now c.in-Some.ensures.first c.args.selector.now c.in-Otherwise.field-0 c.in-Otherwise.is in
    rw (c.loop-first.invariant.runs, is) (rw c.loop-first.invariant.frame at c.statement-in-Otherwise.ensures.value)

pub turns-returns-then-not-start-clause-value : goal.turns-returns-then-not-start-clause-value
turns-returns-then-not-start-clause-value g t c =
    let w = g.W.Setting.world c.args.self.now.world.now in
    let levels = c.args.self.now.levels in
    let one = spec.turn (value_at w levels) (control_of c.args.parts.now) (action_at w levels (statements_of c.args.parts.now.body.now)) in
    let off = starts_off (spec.started c.loop-turn.running c.loop-turn.frame) c.start.result c.loop-turn.frame c.start.new.frame c.start.ensures (search (rules, off)) in
    rw c.loop-turn.invariant.runs (turn_off most_turns c.loop-turn._turn one c.loop-turn.running c.loop-turn.frame c.start.new.frame c.loop-turn.run.counter (below_most _ c.loop-turn-test.true) off)

pub turns-returns-in_err-turn-clause-value : goal.turns-returns-in_err-turn-clause-value
turns-returns-in_err-turn-clause-value g t c =
    let w = g.W.Setting.world c.args.self.now.world.now in
    let levels = c.args.self.now.levels in
    let one = spec.turn (value_at w levels) (control_of c.args.parts.now) (action_at w levels (statements_of c.args.parts.now.body.now)) in
    let on = starts_on (spec.started c.loop-turn.running c.loop-turn.frame) c.start.result c.loop-turn.frame c.start.new.frame c.start.ensures (search (rules, on)) in
    let step = turn_on most_turns c.loop-turn._turn one c.loop-turn.running c.loop-turn.frame c.start.new.frame c.loop-turn.run.counter (below_most _ c.loop-turn-test.true) on in
    rw (c.loop-turn.invariant.runs, step) (search rules)

pub turns-returns-in-Over-clause-value : goal.turns-returns-in-Over-clause-value
turns-returns-in-Over-clause-value g t c =
    let w = g.W.Setting.world c.args.self.now.world.now in
    let levels = c.args.self.now.levels in
    let one = spec.turn (value_at w levels) (control_of c.args.parts.now) (action_at w levels (statements_of c.args.parts.now.body.now)) in
    let on = starts_on (spec.started c.loop-turn.running c.loop-turn.frame) c.start.result c.loop-turn.frame c.start.new.frame c.start.ensures (search (rules, on)) in
    let step = turn_on most_turns c.loop-turn._turn one c.loop-turn.running c.loop-turn.frame c.start.new.frame c.loop-turn.run.counter (below_most _ c.loop-turn-test.true) on in
    let ends = rw c.in-Over.is at c.in_ok-turn.ensures.value in
    rw (c.loop-turn.invariant.runs, step, ends) refl

pub turns-loop-turn-preserved : goal.turns-loop-turn-preserved
turns-loop-turn-preserved g t c =
    let w = g.W.Setting.world c.args.self.now.world.now in
    let levels = c.args.self.now.levels in
    let one = spec.turn (value_at w levels) (control_of c.args.parts.now) (action_at w levels (statements_of c.args.parts.now.body.now)) in
    let on = starts_on (spec.started c.loop-turn.running c.loop-turn.frame) c.start.result c.loop-turn.frame c.start.new.frame c.start.ensures (search (rules, on)) in
    let step = turn_on most_turns c.loop-turn._turn one c.loop-turn.running c.loop-turn.frame c.start.new.frame c.loop-turn.run.counter (below_most _ c.loop-turn-test.true) on in
    let ends = rw c.in-Again.is at c.in_ok-turn.ensures.value in
    let again = rw ends at step in
    record {
      ready = c.turn.ensures.ready;
      runs = rw (c.advanced-running.ensures, c.loop-turn.invariant.runs) again;
    }

pub turns-returns-clause-value : goal.turns-returns-clause-value
turns-returns-clause-value g t c =
    let w = g.W.Setting.world c.args.self.now.world.now in
    let levels = c.args.self.now.levels in
    let one = spec.turn (value_at w levels) (control_of c.args.parts.now) (action_at w levels (statements_of c.args.parts.now.body.now)) in
    rw c.loop-turn.invariant.runs (repeated_end most_turns c.loop-turn._turn one c.loop-turn.running c.loop-turn.frame c.loop-turn.run.counter (past_most _ c.loop-turn-test.false))
