use Rattle.std.proofs.Common.{◌≡◌, drop}
use Rattle.rp_eval_parts.specs.Serving.{Remembers}
use Rattle.rp_meaning.specs.Report.{world}
use Rattle.rp_meaning.specs.Sequence.{in_sequence_after}
use Rattle.rp_rules.specs.Order.{checks_of}
use Rattle.rp_rules.proofs.validation.Validation.checks_of.Given as goal

-- what is left of the numbers comes to what all come to
abbrev pub invariant-loop-number : goal.invariant-loop-number
invariant-loop-number g l =
    let schema = l.self.schema.now in
    let population = g.D.Domain.population l.self.domain.now in
    record {
      memory : Remembers (world schema population) l.used.memory;
      left : in_sequence_after l.checks (checks_of schema population l.sort (drop l.number-index l.numbers)) l.used.steps ≡ in_sequence_after l.fn.checks (checks_of schema population l.sort l.numbers) l.fn.used.steps;
    }
