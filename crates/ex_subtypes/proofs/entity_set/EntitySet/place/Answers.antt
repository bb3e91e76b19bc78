use Rattle.std.proofs.Common.{◌∙◌, ap}
use Rattle.ex_subtypes.specs.Edges.{stands_at}
use Rattle.ex_subtypes.proofs.Numbers.{place_is}
use Rattle.ex_subtypes.proofs.entity_set.EntitySet.place.Goals as goal

pub returns : goal.returns
returns c = λ place.
    place_is c.deref.result.now (rw c.deref.ensures.value c.self.invariant) c.args.number c.binary_search.result c.ok.result c.ok.ensures.value c.binary_search.ensures.position place
    ∙ ap (λ l. stands_at l c.args.number place) (c.deref.ensures.value ∙ c.self.view_is)
