-- The names of the types of a schema that are SELECTs.
use Rattle.std.specs.Prelude.{ℕ, zero, suc, List, [], ◌∷◌, if◌then◌else◌}
use Rattle.ex_named.specs.declared.declaration.NamedType.{NamedType}
use Rattle.ex_renamings.specs.Renamings.{is_select}

-- the names of those of a list that are SELECTs, whose first has this number among all
abbrev pub select_names_from : List NamedType → ℕ → List NamedType → List (List ℕ)
select_names_from types k [] = []
select_names_from types k (declared ∷ others) =
    if is_select types k then declared.name.text ∷ select_names_from types (suc k) others else select_names_from types (suc k) others

-- the names of the types that are SELECTs
unfoldable pub select_names : List NamedType → List (List ℕ)
select_names types = select_names_from types zero types
