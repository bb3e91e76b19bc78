use Rattle.std.proofs.Common.{◌≡◌, drop}
use Rattle.rp_eval_parts.specs.Serving.{Remembers}
use Rattle.rp_meaning.specs.Report.{world}
use Rattle.rp_rules.specs.Tallies.{tallied}
use Rattle.rp_rules.specs.TypeTallies.{candidates_among}
use Rattle.rp_rules.proofs.validation.Validation.tally_attributes.Given as goal

-- what is left of the attributes comes to what all come to
abbrev pub invariant-loop-slot : goal.invariant-loop-slot
invariant-loop-slot g l =
    let schema = l.self.schema.now in
    let population = g.D.Domain.population l.self.domain.now in
    record {
      memory : Remembers (world schema population) l.used.memory;
      left : tallied (world schema population) l.found (candidates_among schema population l.number l.place l.at l.instance l.differing l.slot (drop l.slot l.attributes) (drop l.slot l.written)) l.used.steps
          ≡ tallied (world schema population) l.fn.found (candidates_among schema population l.number l.place l.at l.instance l.differing 0 l.attributes l.written) l.fn.used.steps;
    }
