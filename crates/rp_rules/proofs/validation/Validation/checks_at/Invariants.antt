use Rattle.std.proofs.Common.{◌≡◌, ◌-◌, map}
use Rattle.std.specs.List.{range_with_len}
use Rattle.rp_eval_parts.specs.Serving.{Remembers}
use Rattle.rp_meaning.specs.Report.{world}
use Rattle.rp_meaning.specs.Sequence.{in_sequence_after}
use Rattle.rp_rules.specs.Order.{check_at, checks_at, count_of}
use Rattle.rp_rules.proofs.validation.Validation.checks_at.Given as goal

-- what is left of the rules comes to what all come to
abbrev pub invariant-loop-place : goal.invariant-loop-place
invariant-loop-place g l =
    let schema = l.self.schema.now in
    let population = g.D.Domain.population l.self.domain.now in
    record {
      memory : Remembers (world schema population) l.used.memory;
      left : in_sequence_after l.checks (map (check_at schema population l.sort l.number) (range_with_len l.place (count_of schema l.sort l.number - l.place))) l.used.steps
          ≡ in_sequence_after l.fn.checks (checks_at schema population l.sort l.number) l.fn.used.steps;
    }
