use Rattle.std.proofs.Common.{◌≡◌, drop, map}
use Rattle.rp_eval_parts.specs.Serving.{Remembers}
use Rattle.rp_meaning.specs.Report.{world}
use Rattle.rp_rules.specs.Tallies.{candidate_by, no_culprits, tallied}
use Rattle.rp_rules.proofs.validation.Validation.tallied.Given as goal

-- what is left of the instances comes to what all come to
abbrev pub invariant-loop-instance : goal.invariant-loop-instance
invariant-loop-instance g l =
    let w = world l.self.schema.now (g.D.Domain.population l.self.domain.now) in
    record {
      memory : Remembers w l.used.memory;
      left : tallied w l.found (map (candidate_by l.rule) (drop l.instance-index l.instances)) l.used.steps ≡ tallied w no_culprits (map (candidate_by l.rule) l.instances) l.fn.used.steps;
    }
