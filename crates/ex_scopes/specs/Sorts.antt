-- Of which sorts an attribute that is named can be.
use Rattle.std.specs.Prelude.{Bool, true, false}
use Rattle.ex_named.specs.declared.reference.AttributeSort.{AttributeSort}
use Rattle.ex_named.specs.declared.reference.AttributeSort.TheVariants.{Explicit, Derived, Inverse}
use Rattle.ex_scopes.specs.declared.sorts.Sorts.{Sorts}
use Rattle.ex_scopes.specs.declared.sorts.Sorts.TheVariants as s

abbrev pub any_sort : AttributeSort → Bool
any_sort sort = true

abbrev pub explicit_alone : AttributeSort → Bool
explicit_alone Explicit = true
explicit_alone Derived = false
explicit_alone Inverse = false

abbrev pub explicit_or_derived : AttributeSort → Bool
explicit_or_derived Explicit = true
explicit_or_derived Derived = true
explicit_or_derived Inverse = false

abbrev pub same_sort : AttributeSort → AttributeSort → Bool
same_sort Explicit Explicit = true
same_sort Derived Derived = true
same_sort Inverse Inverse = true
same_sort _ _ = false

abbrev pub admitted : Sorts → AttributeSort → Bool
admitted s.Any = any_sort
admitted s.Explicit = explicit_alone
admitted s.ExplicitOrDerived = explicit_or_derived
