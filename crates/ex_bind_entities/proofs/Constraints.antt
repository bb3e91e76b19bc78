-- The equations of supertype expressions with their names bound.
use Rattle.std.proofs.Common.{◌≡◌, List, [], Ok, sym, ◌∙◌, ap}
use Rattle.ex_tree.specs.declared.declaration.SupertypeExpression.{SupertypeExpression}
use Rattle.ex_tree.specs.declared.declaration.SupertypeExpression.TheFolds.{fold-roll-SupertypeExpression}
use Rattle.ex_tree.specs.declared.declaration.SupertypeExpression.TheOpen.{SupertypeExpression-F}
use Rattle.ex_tree.specs.declared.declaration.SupertypeExpression.TheVariants as v
use Rattle.ex_named.specs.declared.declaration.NamedSupertype.{NamedSupertype}
use Rattle.ex_named.specs.declared.declaration.NamedSupertype.TheVariants as ns
use Rattle.ex_named.specs.Outcomes.{Outcome, given, each}
use Rattle.ex_named.specs.Scopes.{Declarations}
use Rattle.ex_bind_entities.specs.Entities.{supertype, supertype_layer}
use Rattle.ex_bind_entities.proofs.Lists.{each_map}

module _ (schema : Declarations) (x : SupertypeExpression) (parts : List SupertypeExpression) where
  pub one_of : x ≡ v.OneOf parts → supertype schema [] x ≡ given ns.OneOf (each (supertype schema []) parts)
  unfolding supertype
  one_of is = ap (supertype schema []) is ∙ ap (supertype schema []) (sym (v.rolls-OneOf parts))
      ∙ fold-roll-SupertypeExpression (Outcome NamedSupertype) (supertype_layer schema []) (SupertypeExpression-F.OneOf parts)
      ∙ ap (given ns.OneOf) (each_map (supertype schema []) (λ o. o) (Ok []) parts)

  pub and : x ≡ v.And parts → supertype schema [] x ≡ given ns.And (each (supertype schema []) parts)
  unfolding supertype
  and is = ap (supertype schema []) is ∙ ap (supertype schema []) (sym (v.rolls-And parts))
      ∙ fold-roll-SupertypeExpression (Outcome NamedSupertype) (supertype_layer schema []) (SupertypeExpression-F.And parts)
      ∙ ap (given ns.And) (each_map (supertype schema []) (λ o. o) (Ok []) parts)

  pub and_or : x ≡ v.AndOr parts → supertype schema [] x ≡ given ns.AndOr (each (supertype schema []) parts)
  unfolding supertype
  and_or is = ap (supertype schema []) is ∙ ap (supertype schema []) (sym (v.rolls-AndOr parts))
      ∙ fold-roll-SupertypeExpression (Outcome NamedSupertype) (supertype_layer schema []) (SupertypeExpression-F.AndOr parts)
      ∙ ap (given ns.AndOr) (each_map (supertype schema []) (λ o. o) (Ok []) parts)
