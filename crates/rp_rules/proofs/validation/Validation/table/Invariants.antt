use Rattle.std.proofs.Common.{◌≡◌, [], drop}
use Rattle.rp_eval_parts.specs.Serving.{Remembers}
use Rattle.rp_meaning.specs.Report.{world}
use Rattle.rp_rules.specs.Gatherings.{table_after, table_of, unique_rules}
use Rattle.rp_rules.proofs.validation.Validation.table.Given as goal

-- what is left of the instances comes to what all come to
abbrev pub invariant-loop-instance : goal.invariant-loop-instance
invariant-loop-instance g l =
    let w = world l.self.schema.now (g.D.Domain.population l.self.domain.now) in
    let rules = unique_rules l.entity l.place l.count in
    record {
      memory : Remembers w l.used.memory;
      left : table_after w rules l.found (drop l.instance-index l.instances) l.used.steps ≡ table_after w rules (table_of []) l.instances l.fn.used.steps;
    }
