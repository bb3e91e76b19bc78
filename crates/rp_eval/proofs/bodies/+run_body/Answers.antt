use Rattle.std.proofs.Common.{rules, ◌-◌, arith}
use Rattle.rp_meaning.specs.Levels.{most_turns}
use Rattle.rp_eval.proofs.Knot.{finished, level-zero, level-below, left-within, nesting-within}
use Rattle.rp_eval.proofs.Serving.{kept_of}
use Rattle.rp_eval.proofs.bodies.+run_body.Goals as goal

pub returns-then-levels-eq0 : goal.returns-then-levels-eq0
returns-then-levels-eq0 g t c = record {
  value = level-zero (g.W.Setting.world c.args.world.now) most_turns c.args.levels c.args.run.now.counter c.args.body (search rules);
  ready = c.requires.ready;
}

pub returns-in_err-value-clause-value : goal.returns-in_err-value-clause-value
returns-in_err-value-clause-value g t c = rw (level-below (g.W.Setting.world c.args.world.now) most_turns c.args.levels c.args.run.now.counter c.args.body (omega arith)) (search rules)

pub overflow_add-bodies : goal.overflow_add-bodies
overflow_add-bodies g t c =
    let w = g.W.Setting.world c.args.world.now in
    let nests = nesting-within w (c.args.levels - 1) c.args.run.now.counter.left c.body.new.run.counter c.in_ok-value.value c.args.body c.in_ok-value.ensures.value in
    omega (arith, nests, c.ranges.levels.fits)

pub overflow_sub-left : goal.overflow_sub-left
overflow_sub-left g t c = left-within (g.W.Setting.world c.args.world.now) (c.args.levels - 1) c.args.run.now.counter.left c.body.new.run.counter c.in_ok-value.value c.args.body c.in_ok-value.ensures.value

pub returns-clause-value : goal.returns-clause-value
returns-clause-value g t c = rw (level-below (g.W.Setting.world c.args.world.now) most_turns c.args.levels c.args.run.now.counter c.args.body (omega arith)) (search rules)

pub returns-clause-ready : goal.returns-clause-ready
returns-clause-ready g t c =
    let w = g.W.Setting.world c.args.world.now in
    let serves = finished w (c.args.levels - 1) c.args.run.now.counter.left c.body.new.run.counter c.in_ok-value.value c.args.body c.in_ok-value.ensures.value in
    c.keep.ensures.ready w c.body.ensures.ready (kept_of w c.derived_of-of.result c.args.body _ c.derived_of-of.ensures serves)
