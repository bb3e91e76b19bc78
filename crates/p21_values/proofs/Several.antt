-- Values that were found before others.
use Rattle.std.proofs.Common.{List, ◌∷◌, ◌++◌, Option, Some, None, option_map}
use Rattle.rp_value.specs.declared.value.Value.{Value}
use Rattle.p21_values.specs.Taking.{only}

-- these, and then the others, where those are there
abbrev pub among_rest : List Value → Option (List Value) → Option (List Value)
among_rest found others = option_map (λ xs. found ++ xs) others

-- the one that was found, or the only one of the others
abbrev pub only_after : Option Value → List Value → Option Value
only_after None xs = only xs
only_after (Some x) xs = only (x ∷ xs)
