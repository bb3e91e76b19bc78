-- Tests of what models and groups have in common.
use Rattle.std.specs.Prelude.{Bool, true, not, ◌&&◌, List, [], ◌∷◌, Option, Some, None, if◌then◌else◌}
use Rattle.std.specs.List.{list_all}
use Rattle.std.specs.Str.{bytes_eq}
use Rattle.std.specs.declared.cmp.Ordering.{Ordering}
use Rattle.sorted_tables.specs.Table.{is_after}
use Rattle.rp_rows.specs.declared.rows.Grant.{Grant}
use Rattle.rp_rows.specs.declared.rows.Key.{Key}
use Rattle.rp_rows.specs.Names.{is_name}
use Rattle.rp_rows.specs.Rows.{Text, text_cmp, grant_key}
use Rattle.rp_plain.specs.Meaning.{has_text}
use Rattle.rp_restored_rows.specs.declared.lack.RowLack.{RowLack}
use Rattle.rp_restored_rows.specs.declared.lack.RowLack.TheVariants as lack

-- a test, and those behind it: the lack of the first that fails
abbrev pub checks : Bool → RowLack → Option RowLack → Option RowLack
checks test lack others = if not test then Some lack else others

-- a lack, or those behind it
abbrev pub lack_or : Option RowLack → Option RowLack → Option RowLack
lack_or None others = others
lack_or (Some lack) others = Some lack

-- each and the next are related so
abbrev pub all_adjacent : {X : Type 0} → (X → X → Bool) → List X → Bool
all_adjacent e [] = true
all_adjacent e (x ∷ []) = true
all_adjacent e (x ∷ y ∷ ys) = e x y && all_adjacent e (y ∷ ys)

-- the key of the second stands behind that of the first
abbrev pub follows : {K X : Type 0} → (K → K → Ordering) → (X → K) → X → X → Bool
follows cmp key x y = is_after cmp key (key x) y

-- each key stands before the next
abbrev pub ascends : {K X : Type 0} → (K → K → Ordering) → (X → K) → List X → Bool
ascends cmp key = all_adjacent (follows cmp key)

-- what the row of this key with these grants lacks, whatever it holds
abbrev pub row_lack : List Text → Key → List Grant → Option RowLack
row_lack partners k grants =
    checks (has_text partners k.owner) lack.UnknownOwner
    (checks (is_name k.name) lack.BadName
    (checks (ascends text_cmp grant_key grants) lack.GrantsOutOfOrder
    (checks (list_all (λ g. has_text partners g.partner) grants) lack.UnknownGrantee
    (checks (list_all (λ g. not (bytes_eq k.owner g.partner)) grants) lack.GrantToOwner
    None))))
