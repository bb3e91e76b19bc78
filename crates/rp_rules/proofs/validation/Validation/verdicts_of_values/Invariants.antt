use Rattle.std.proofs.Common.{◌≡◌, [], drop, map}
use Rattle.rp_eval_parts.specs.Serving.{Remembers}
use Rattle.rp_meaning.specs.Report.{world}
use Rattle.rp_rules.specs.Endings.{verdicts_of}
use Rattle.rp_rules.proofs.TypeTallies.{noted}
use Rattle.rp_rules.proofs.validation.Validation.verdicts_of_values.Given as goal

-- what is left of the values comes to what all come to
abbrev pub invariant-loop-value : goal.invariant-loop-value
invariant-loop-value g l =
    let w = world l.self.schema.now (g.D.Domain.population l.self.domain.now) in
    record {
      memory : Remembers w l.used.memory;
      left : noted w l.verdicts (map (λ x. (l.rule, x)) (drop l.value-index l.values)) l.used.steps ≡ noted w (verdicts_of []) (map (λ x. (l.rule, x)) l.values) l.fn.used.steps;
    }
