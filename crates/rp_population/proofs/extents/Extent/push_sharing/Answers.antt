use Rattle.std.proofs.Common.{◌≡◌, ◌∙◌, ap}
use Rattle.std.specs.List.{flat_map}
use Rattle.rp_rows.specs.declared.rows.ModelContent.{ModelContent}
use Rattle.rp_population.specs.Populations.{Counted, places, placed_all}
use Rattle.rp_population.specs.Entities.{extent_of}
use Rattle.rp_population.specs.Candidates.{found_in}
use Rattle.rp_population.proofs.Candidates.{found_is}
use Rattle.rp_population.proofs.Finding.{extent_is}
use Rattle.rp_population.proofs.extents.Extent.push_sharing.Goals as goal

pub returns-in-Some-clause-places : goal.returns-in-Some-clause-places
returns-in-Some-clause-places c =
    let e = c.args.self.now in
    let m : Counted = record { model = c.args.model.now; content = c.args.held.now.content } in
    let same : flat_map (found_in e.schema e.entity m.model) c.get.result.now.content.instances ≡ places (extent_of e.schema e.entity (placed_all m)) =
    ap (λ (h : ModelContent). flat_map (found_in e.schema e.entity m.model) h.content.instances) c.get.ensures
    ∙ found_is e.schema e.entity m.model m.content.instances
    ∙ extent_is e.schema e.entity m m.content.instances in
    rw same at (rw c.candidates.ensures.same at c.push_among.ensures.places)

pub returns-in-None-clause-places : goal.returns-in-None-clause-places
returns-in-None-clause-places c =
    let e = c.args.self.now in
    let m : Counted = record { model = c.args.model.now; content = c.args.held.now.content } in
    let same : flat_map (found_in e.schema e.entity m.model) c.as_slice.result.now ≡ places (extent_of e.schema e.entity (placed_all m)) =
    ap (flat_map (found_in e.schema e.entity m.model)) c.as_slice.ensures
    ∙ ap (λ (h : ModelContent). flat_map (found_in e.schema e.entity m.model) h.content.instances) c.get.ensures
    ∙ found_is e.schema e.entity m.model m.content.instances
    ∙ extent_is e.schema e.entity m m.content.instances in
    rw same at (rw c.candidates.ensures.same at c.push_all.ensures.places)
