-- Numbers that rows share which agree.
use Rattle.std.specs.Prelude.{◌≡◌, ℕ, List, [], ◌∷◌, length}
use Rattle.rp_meaning.specs.Report.{Row}
use Rattle.rp_faults.specs.Keys.{key_of, with_number}
use Rattle.rp_value.specs.declared.value.Value.{Value}

-- of values, one by one
abbrev pub with_values : ℕ → List Value → ℕ
with_values key [] = key
with_values key (x ∷ others) = with_values (with_number key (key_of x)) others

abbrev pub key_of_row : Row → ℕ
key_of_row row = with_values 0 row.values

-- rows of as many values
abbrev pub HasValues : ℕ → Row → Type 0
HasValues count row = length row.values ≡ count
