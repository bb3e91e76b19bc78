use Rattle.std.proofs.Common.{◌≡◌, ◌∙◌, ◌<◌, ap, arith, [], length}
use Rattle.std.proofs.lemmas.List.{get_or_read}
use Rattle.rp_meaning.specs.Populations.{extent, instances}
use Rattle.rp_meaning.specs.Uses.{each_once}
use Rattle.rp_domain.specs.Rows.{of_number, row}
use Rattle.rp_domain.specs.Standing.{standing_from}
use Rattle.rp_domain.proofs.Put.{rows-are}
use Rattle.rp_domain.proofs.Standing.{extent_is}
use Rattle.rp_domain.proofs.domain.ListDomainDomain.extent.Goals as goal

pub returns-then-entity-len : goal.returns-then-entity-len
returns-then-entity-len c =
    let rows = c.self.inside.extents.items in
    let population = c.self.inside.instances in
    let standing = standing_from 0 population in
    let within : c.args.entity < length rows = omega (arith, c.if-entity-len.true, c.len.ensures) in
    let read : c.as_slice.result.now ≡ of_number c.args.entity standing =
    c.as_slice.ensures ∙ (get_or_read rows c.args.entity c.index.result.now within c.index.ensures [] ∙ (ap (λ rs. row rs c.args.entity) c.self.invariant.extents ∙ rows-are (length rows) standing c.args.entity within)) in
    let same : instances (each_once c.as_slice.result.now) ≡ extent c.args.self.now c.args.entity =
    ap (λ ps. instances (each_once ps)) read ∙ (ap instances (extent_is c.args.entity 0 population) ∙ ap (λ p. extent p c.args.entity) c.self.view_is) in
    rw same at c.instances_once.ensures
