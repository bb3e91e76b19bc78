use Rattle.std.proofs.Common.{◌∙◌, ap, arith, add-one, rules}
use Rattle.rp_meaning.specs.Populations.{as_read, stored}
use Rattle.rp_domain.specs.Combinations.{differing_at}
use Rattle.rp_domain.proofs.Sharing.{as_read-append, read_step, stored_whole}
use Rattle.rp_domain.proofs.read.find_others.Goals as goal

pub loop-at-preserved : goal.loop-at-preserved
loop-at-preserved c =
    let schema = c.args.readings.now.0 in
    let count = c.args.readings.now.1 in
    let written = c.args.written.now in
    let other = differing_at c.loop-at.at c.in_ok-other.other in
    let reads = rw c.loop-at.invariant.readings at c.in_ok-other.ensures.other in
    let step = read_step schema count c.args.attributes.now written c.loop-at.at _ c.in_ok-other.other (omega arith) (search rules) reads in
    record {
      readings = c.in_ok-other.ensures.same ∙ c.loop-at.invariant.readings;
      found =
          ap (λ ds. as_read ds written) c.in_ok-push_other.ensures
          ∙ as_read-append c.loop-at.found.items other written
          ∙ ap (as_read other) c.loop-at.invariant.found
          ∙ rw (add-one) step;
    }

pub returns-clause-found : goal.returns-clause-found
returns-clause-found c =
    ap (stored c.args.attributes.now c.args.written.now) c.loop-at.invariant.found
    ∙ stored_whole c.args.readings.now.0 c.args.readings.now.1 c.args.attributes.now c.args.written.now c.loop-at.at (omega arith)
