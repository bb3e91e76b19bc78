use Rattle.std.proofs.Common.{◌≡◌, true, List, map, sym, ◌∙◌, ap, subst}
use Rattle.std.specs.List.{list_all}
use Rattle.ex_named.specs.declared.declaration.NamedEntity.{NamedEntity}
use Rattle.ex_named.specs.declared.declaration.NamedSchema.{NamedSchema}
use Rattle.ex_resolve.specs.Proved.{DeclaresOnce, HasIdentifiers}
use Rattle.ex_schemas.specs.Schemas.{Resolved}
use Rattle.graphs.specs.Graphs.{IsAcyclic}
use Rattle.rp_use_laws.specs.Schemas.{IsBound, is_entity_identified}
use Rattle.rp_use_laws.proofs.bound.bound.Goals as goal

-- what is lent is what the schema is of
as_lent : (lent held : Resolved) (named : NamedSchema) (entities : List NamedEntity) → lent ≡ held → named ≡ lent.schema → entities ≡ named.entities
    → lent.supertypes ≡ map (λ e. e.supertypes) lent.schema.entities → IsAcyclic lent.supertypes → DeclaresOnce lent.schema → HasIdentifiers lent.schema → list_all is_entity_identified entities ≡ true
    → IsBound held
as_lent lent held named entities same is lists listed acyclic once identified all =
    let these : entities ≡ lent.schema.entities = lists ∙ ap (λ (s : NamedSchema). s.entities) is in
    subst IsBound same (record { listed = listed; acyclic = acyclic; once = once; identified = identified; attributes = ap (list_all is_entity_identified) (sym these) ∙ all })

pub returns : goal.returns
returns c =
    as_lent c.resolved-named.result.now c.args.schema.now.named c.named.result.now c.as_slice.result.now c.resolved-named.ensures c.named.ensures c.as_slice.ensures
    c.proved.ensures.listed c.proved.ensures.acyclic c.proved.ensures.once c.proved.ensures.identified c.entities.ensures
