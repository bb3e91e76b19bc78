use Rattle.std.proofs.Common.{◌≡◌, ◌-◌, [], map}
use Rattle.std.specs.List.{range_with_len}
use Rattle.rp_eval_parts.specs.Serving.{Remembers}
use Rattle.rp_meaning.specs.declared.rule.Rule.TheVariants as r
use Rattle.rp_meaning.specs.Report.{world}
use Rattle.rp_rules.specs.Gatherings.{gathered_after, gathered_of, trials_of, unique_rules}
use Rattle.rp_rules.proofs.validation.Validation.gathered.Given as goal

-- what is left of the attributes comes to what all come to
abbrev pub invariant-loop-at : goal.invariant-loop-at
invariant-loop-at g l =
    let w = world l.self.schema.now (g.D.Domain.population l.self.domain.now) in
    record {
      memory : Remembers w l.used.memory;
      left : gathered_after w l.found (trials_of (map (r.Unique l.entity l.place) (range_with_len l.at (l.count - l.at))) l.instance) l.used.steps
          ≡ gathered_after w (gathered_of []) (trials_of (unique_rules l.entity l.place l.count) l.instance) l.fn.used.steps;
    }
