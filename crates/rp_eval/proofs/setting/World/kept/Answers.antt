use Rattle.std.proofs.Common.{rules}
use Rattle.rp_eval.proofs.Serving.{left_within}
use Rattle.rp_eval.proofs.setting.World.kept.Goals as goal

pub overflow_sub-result : goal.overflow_sub-result
overflow_sub-result g c = left_within c.args.self.now c.args.body c.args.steps 200 c.run_body.new.run.counter c.in-Ok.value c.in-Ok.ensures.value

pub run_body-requires : goal.run_body-requires
run_body-requires g c = record { ready = c.begin.ensures c.args.self.now (search rules) }
