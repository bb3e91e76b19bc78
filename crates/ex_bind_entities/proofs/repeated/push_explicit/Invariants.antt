use Rattle.std.proofs.Common.{◌≡◌, ◌++◌, drop}
use Rattle.std.specs.List.{flat_map}
use Rattle.ex_scopes.specs.declared.sorts.Sorts.TheVariants.{Explicit}
use Rattle.ex_bind_entities.specs.Inherited.{read, inherited_by}
use Rattle.ex_bind_entities.proofs.repeated.push_explicit.Given as goal

abbrev pub invariant-loop-declaration : goal.invariant-loop-declaration
invariant-loop-declaration l = read l.inherited.items ++ flat_map (inherited_by Explicit) (drop l.declaration-index l.declaration-items)
    ≡ read l.initial.inherited.items ++ flat_map (inherited_by Explicit) l.explicit.attributes
