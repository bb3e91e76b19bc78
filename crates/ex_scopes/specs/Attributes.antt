-- Attributes in the order of the entities that declare them, and what is told of those of one name.
use Rattle.std.specs.Prelude.{◌≤◌, ◌||◌, ℕ, Bool, false, not, IsTrue, List, [], ◌∷◌, Option, None, Some, if◌then◌else◌}
use Rattle.std.specs.List.{All, list_any}
use Rattle.std.specs.List.Sorted.{IsSortedByKey}
use Rattle.std.specs.Ordering.{nat_cmp}
use Rattle.ex_named.specs.declared.reference.AttributeMeaning.{AttributeMeaning}
use Rattle.ex_named.specs.declared.reference.AttributeMeaning.TheVariants as m
use Rattle.ex_named.specs.declared.reference.AttributePlace.{AttributePlace}
use Rattle.ex_named.specs.declared.reference.AttributeSort.{AttributeSort}
use Rattle.ex_named.specs.Scopes.{meaning_of}
use Rattle.ex_scopes.specs.declared.seen.Seen.{Seen}
use Rattle.ex_scopes.specs.declared.seen.Seen.TheVariants as s
use Rattle.ex_scopes.specs.Sorts.{same_sort}

-- if rows are said to ascend, their numbers do, and none is above the last
abbrev pub AscendIf : {A : Type 0} → (A → ℕ) → Bool → ℕ → List (List ℕ × A) → Type 0
AscendIf number is_said last rows = IsTrue is_said → IsSortedByKey (λ r. number r.1) nat_cmp rows × All (λ r. number r.1 ≤ last) rows

-- whether a declaration can stand, or is of another sort than one of this sort
abbrev pub stands : (AttributeSort → Bool) → AttributeSort → AttributePlace → Bool
stands can_stand sort a = can_stand a.sort || not (same_sort sort a.sort)

-- what a name means, if one of its declarations is of a sort that can stand, or two are of two sorts
abbrev pub meaning_if : (AttributeSort → Bool) → List AttributePlace → Option AttributeMeaning
meaning_if can_stand [] = None
meaning_if can_stand (a ∷ others) = if can_stand a.sort || list_any (stands can_stand a.sort) others then meaning_of (a ∷ others) else None

-- ---- declarations that are seen one after another

abbrev pub and_seen : (AttributeSort → Bool) → Seen → AttributePlace → Seen
and_seen can_stand s.Nothing b = s.One b
and_seen can_stand (s.One a) b = s.Several a.sort (can_stand a.sort || stands can_stand a.sort b)
and_seen can_stand (s.Several sort is_admitted) b = s.Several sort (is_admitted || stands can_stand sort b)

abbrev pub seen_after : (AttributeSort → Bool) → Seen → List AttributePlace → Seen
seen_after can_stand seen [] = seen
seen_after can_stand seen (a ∷ others) = seen_after can_stand (and_seen can_stand seen a) others

abbrev pub is_settled : Seen → Bool
is_settled (s.Several sort is_admitted) = is_admitted
is_settled _ = false

abbrev pub told : (AttributeSort → Bool) → Seen → Option AttributeMeaning
told can_stand s.Nothing = None
told can_stand (s.One a) = if can_stand a.sort then Some (m.One a) else None
told can_stand (s.Several sort is_admitted) = if is_admitted then Some m.Several else None
