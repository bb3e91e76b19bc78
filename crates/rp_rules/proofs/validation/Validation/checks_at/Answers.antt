use Rattle.std.proofs.Common.{◌+◌, ◌-◌, ◌++◌, [], ◌∷◌, map, sym, ap, ◌∙◌, ◌<◌, arith}
use Rattle.std.specs.List.{range_with_len}
use Rattle.rp_meaning.specs.declared.report.Check.{Check}
use Rattle.rp_meaning.specs.Sequence.{in_sequence_after}
use Rattle.rp_rules.specs.Order.{check_at, count_of}
use Rattle.rp_rules.proofs.Sequences.{at-end, at-step}
use Rattle.rp_rules.proofs.validation.Validation.checks_at.Goals as goal

pub loop-place-preserved : goal.loop-place-preserved
loop-place-preserved g c =
    let schema = c.args.self.now.schema.now in
    let population = g.D.Domain.population c.args.self.now.domain.now in
    let below : c.loop-place.place < count_of schema c.args.sort c.args.number = omega (arith, c.count_of-count.ensures) in
    let step = at-step schema population c.args.sort c.loop-place.checks c.loop-place.used.steps c.args.number c.loop-place.place (count_of schema c.args.sort c.args.number) below in
    let pushed = c.in_ok-push.ensures.ok ∙ ap (λ (x : Check). c.loop-place.checks ++ x ∷ []) c.in_ok-check.ensures.check in
    let left = map (check_at schema population c.args.sort c.args.number) (range_with_len (c.loop-place.place + 1) (count_of schema c.args.sort c.args.number - (c.loop-place.place + 1))) in
    record {
      memory = c.in_ok-check.ensures.memory;
      left = (λ i. in_sequence_after (pushed i) left (c.in_ok-check.ensures.used i)) ∙ sym step ∙ c.loop-place.invariant.left;
    }

pub returns-clause-checks : goal.returns-clause-checks
returns-clause-checks g c =
    let schema = c.args.self.now.schema.now in
    let population = g.D.Domain.population c.args.self.now.domain.now in
    let end = at-end schema population c.args.sort c.loop-place.checks c.loop-place.used.steps c.args.number c.loop-place.place (count_of schema c.args.sort c.args.number) (omega (arith, c.count_of-count.ensures)) in
    ap (λ p. p.0) (sym end ∙ c.loop-place.invariant.left)

pub returns-clause-used : goal.returns-clause-used
returns-clause-used g c =
    let schema = c.args.self.now.schema.now in
    let population = g.D.Domain.population c.args.self.now.domain.now in
    let end = at-end schema population c.args.sort c.loop-place.checks c.loop-place.used.steps c.args.number c.loop-place.place (count_of schema c.args.sort c.args.number) (omega (arith, c.count_of-count.ensures)) in
    ap (λ p. p.1) (sym end ∙ c.loop-place.invariant.left)
