-- Numbers that values share where they are the same.
use Rattle.std.specs.Prelude.{ℕ, ◌+◌, ◌*◌, ◌%◌, Bool, true, false, List, [], ◌∷◌, Option, None, Some, length, unsigned_abs}
use Rattle.std.specs.Option.{option_map_or, unwrap_or}
use Rattle.rp_numbers.specs.Logical.{rank}
use Rattle.rp_operations.specs.Seen.{Seen, Indeterminate, Number, Text, Bits, Truth, Item, Instance, Aggregate, seen}
use Rattle.rp_value.specs.declared.value.Value.{Value}

-- a key, and one more number: below the greatest prime number that is less than 2 ^ 32
abbrev pub with_number : ℕ → ℕ → ℕ
with_number key n = (key * 257 + n % 4294967291) % 4294967291

abbrev pub with_numbers : ℕ → List ℕ → ℕ
with_numbers key [] = key
with_numbers key (n ∷ others) = with_numbers (with_number key n) others

abbrev pub bit : Bool → ℕ
bit true = 1
bit false = 0

abbrev pub with_bits : ℕ → List Bool → ℕ
with_bits key [] = key
with_bits key (b ∷ others) = with_bits (with_number key (bit b)) others

-- one more factor of a product, whose order doesn't tell
abbrev pub with_factor : ℕ → ℕ → ℕ
with_factor product n = (product * with_number n 2654435769) % 4294967291

-- of what is neither `?` nor an aggregate
abbrev pub scalar_key : Seen → Option ℕ
scalar_key Indeterminate = None
scalar_key (Number n) = Some (unsigned_abs n % 4294967291)
scalar_key (Text bytes) = Some (with_numbers 0 bytes)
scalar_key (Bits bits) = Some (with_bits 0 bits)
scalar_key (Truth x) = Some (rank x)
scalar_key (Item enumeration place) = Some (with_number 0 place)
scalar_key (Instance name) = Some (with_number 0 name)
scalar_key (Aggregate kind xs) = None

-- An aggregate may be `:=:` to a BAG with the same elements in any order, so their order doesn't tell. Elements that are aggregates are left out:
-- a BAG is `:=:` to LISTs that aren't `:=:` to each other, so two BAGs may be `:=:` that don't hold as many of one key.
abbrev pub with_element : ℕ → Value → ℕ
with_element product x = option_map_or (with_factor product) (scalar_key (seen x)) product

abbrev pub with_elements : ℕ → List Value → ℕ
with_elements product [] = product
with_elements product (x ∷ others) = with_elements (with_element product x) others

abbrev pub elements_key : List Value → ℕ
elements_key xs = with_number (with_elements 1 xs) (length xs)

-- of an aggregate
abbrev pub aggregate_key : Seen → ℕ
aggregate_key (Aggregate kind xs) = elements_key xs.items
aggregate_key s = 0

abbrev pub key_seen : Seen → ℕ
key_seen s = unwrap_or (scalar_key s) (aggregate_key s)

abbrev pub key_of : Value → ℕ
key_of x = key_seen (seen x)
