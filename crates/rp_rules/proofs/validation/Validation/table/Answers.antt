use Rattle.std.proofs.Common.{sym, ◌∙◌, arith}
use Rattle.rp_meaning.specs.Report.{world}
use Rattle.rp_rules.specs.Gatherings.{unique_rules}
use Rattle.rp_rules.proofs.Gatherings.{rules-count, table-step}
use Rattle.rp_rules.proofs.validation.Validation.table.Goals as goal

pub loop-instance-preserved : goal.loop-instance-preserved
loop-instance-preserved g c =
    let w = world c.args.self.now.schema.now (g.D.Domain.population c.args.self.now.domain.now) in
    let rules = unique_rules c.args.entity c.args.place c.args.count in
    let step = table-step w rules c.loop-instance.found c.args.instances.now c.loop-instance.instance-index c.instance-item.result c.loop-instance.used.steps (omega arith) c.instance-item.is in
    let counted = rw (rules-count c.args.entity c.args.place c.args.count) at step in
    record {
      memory = c.in_ok-gathered.ensures.memory;
      left = rw (c.in_ok-add.ensures, c.in_ok-gathered.ensures.gathered, c.in_ok-gathered.ensures.used) (sym counted ∙ c.loop-instance.invariant.left);
    }
