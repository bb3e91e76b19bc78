use Rattle.std.proofs.Common.{◌∙◌, ap}
use Rattle.plain_data.specs.Numbers.{is_among}
use Rattle.ex_subtypes.proofs.Numbers.{found_is}
use Rattle.ex_subtypes.proofs.entity_set.EntitySet.has.Goals as goal

pub returns : goal.returns
returns c =
    c.is_ok.ensures.value
    ∙ found_is c.deref.result.now (rw c.deref.ensures.value c.self.invariant) c.args.number c.binary_search.result c.binary_search.ensures.position
    ∙ ap (λ l. is_among l c.args.number) (c.deref.ensures.value ∙ c.self.view_is)
