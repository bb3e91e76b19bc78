use Rattle.std.proofs.Common.{sym, ◌∙◌, arith}
use Rattle.rp_meaning.specs.Report.{world}
use Rattle.rp_rules.proofs.Tallied.{tallied-step}
use Rattle.rp_rules.proofs.validation.Validation.tallied.Goals as goal

pub loop-instance-preserved : goal.loop-instance-preserved
loop-instance-preserved g c =
    let w = world c.args.self.now.schema.now (g.D.Domain.population c.args.self.now.domain.now) in
    let step = tallied-step w c.args.rule c.loop-instance.found c.args.instances.now c.loop-instance.instance-index c.instance-item.result c.loop-instance.used.steps (omega arith) c.instance-item.is in
    record {
      memory = c.in_ok-verdicts.ensures.memory;
      left = rw (c.in_ok-add.ensures, c.instance_culprit.ensures, c.in_ok-verdicts.ensures.verdicts, c.in_ok-verdicts.ensures.used) (sym step ∙ c.loop-instance.invariant.left);
    }
