use Rattle.std.proofs.Common.{◌≡◌, drop}
use Rattle.rp_eval_parts.specs.Serving.{Remembers}
use Rattle.rp_meaning.specs.Faults.{held_from}
use Rattle.rp_meaning.specs.Report.{type_candidates, world}
use Rattle.rp_rules.specs.Tallies.{no_culprits, tallied}
use Rattle.rp_rules.specs.TypeTallies.{candidates_of}
use Rattle.rp_rules.proofs.validation.Validation.tallied_types.Given as goal

-- what is left of the instances comes to what all come to
abbrev pub invariant-loop-at : goal.invariant-loop-at
invariant-loop-at g l =
    let schema = l.self.schema.now in
    let population = g.D.Domain.population l.self.domain.now in
    record {
      memory : Remembers (world schema population) l.used.memory;
      left : tallied (world schema population) l.found (candidates_of schema population l.number l.place (held_from l.at (drop l.at population))) l.used.steps
          ≡ tallied (world schema population) no_culprits (type_candidates schema population l.number l.place) l.fn.used.steps;
    }
