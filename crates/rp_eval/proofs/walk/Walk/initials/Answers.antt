use Rattle.std.proofs.Common.{rules, sym, ◌∙◌, arith}
use Rattle.rp_meaning.specs.Levels.{most_turns}
use Rattle.rp_eval.specs.Bodies.{bodies_at}
use Rattle.rp_eval.proofs.Loops.{initial_step}
use Rattle.rp_eval.proofs.walk.Walk.initials.Goals as goal

pub returns-in_err-initial : goal.returns-in_err-initial
returns-in_err-initial g c =
    let w = g.W.Setting.world c.args.self.now.world.now in
    let step = initial_step w most_turns (bodies_at w c.args.self.now.levels) c.args.initials.now c.loop-initial.initial-index c.initial-item.result c.loop-initial.frame c.loop-initial.run.counter (omega arith) c.initial-item.is in
    rw (sym c.loop-initial.invariant.runs, step) (search rules)

pub loop-initial-preserved : goal.loop-initial-preserved
loop-initial-preserved g c =
    let w = g.W.Setting.world c.args.self.now.world.now in
    let step = initial_step w most_turns (bodies_at w c.args.self.now.levels) c.args.initials.now c.loop-initial.initial-index c.initial-item.result c.loop-initial.frame c.loop-initial.run.counter (omega arith) c.initial-item.is in
    let next = rw c.in_ok-initial.ensures.value at step in
    record {
      ready = c.initial.ensures.ready;
      runs = sym next ∙ c.loop-initial.invariant.runs;
    }
