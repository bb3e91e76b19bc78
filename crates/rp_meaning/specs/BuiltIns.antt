-- What the functions of the language give of values (ISO 10303-11:1994, clause 15), and what qualifiers take of them (12.7).
use Rattle.std.specs.Prelude.{ℕ, ℤ, pos, ◌+◌, ◌-◌, ◌%◌, ◌==◌, ◌&&◌, ◌+ℤ◌, ◌-ℤ◌, nat_abs, int_le, not, Bool, List, length, take, drop, slice_get, Option, Some, None, if◌then◌else◌}
use Rattle.std.specs.List.{fold}
use Rattle.std.specs.Option.{option_map_or, unwrap_or}
use Rattle.std.specs.Fmt.{char_count, take_chars}
use Rattle.rp_numbers.specs.Logical.{of_test}
use Rattle.rp_value.specs.Elements.{Elements}
use Rattle.rp_operations.specs.Operations.{value_membership}
use Rattle.rp_value.specs.declared.value.AggregateKind.{AggregateKind}
use Rattle.rp_value.specs.declared.value.AggregateKind.TheVariants as k
use Rattle.rp_value.specs.declared.value.Value.{Value, out-Value}
use Rattle.rp_value.specs.declared.value.Value.TheFolds.{fold-Value}
use Rattle.rp_value.specs.declared.value.Value.TheOpen.{Value-F}
use Rattle.rp_value.specs.declared.value.Value.TheVariants as v
use Rattle.rp_meaning.specs.Bare.{bare, is_indeterminate, integer_of, text_of, bits_of, aggregate_of}
use Rattle.rp_meaning.specs.Operators.{integer, of_integer}

-- ---- functions of values alone

abbrev pub of_aggregate : (AggregateKind × Elements Value → Value) → Option (AggregateKind × Elements Value) → Value
of_aggregate meaning (Some a) = meaning a
of_aggregate meaning None = v.Indet

abbrev pub absolute : Value → Value
absolute x = of_integer (λ a. integer (pos (nat_abs a))) (integer_of x)

abbrev pub odd : Value → Value
odd x = of_integer (λ a. v.Log (of_test (nat_abs a % 2 == 1))) (integer_of x)

-- the number of characters
abbrev pub text_length : Value → Value
text_length x = option_map_or (λ text. integer (pos (char_count text))) (text_of x) v.Indet

-- the number of bits
abbrev pub binary_length : Value → Value
binary_length x = option_map_or (λ bits. integer (pos (length bits))) (bits_of x) v.Indet

abbrev pub exists : Value → Value
exists x = v.Log (of_test (not (is_indeterminate x)))

abbrev pub null_value : Value → Value → Value
null_value x substitute = if is_indeterminate x then substitute else x

abbrev pub size_of : Value → Value
size_of x = of_aggregate (λ a. integer (pos (length a.1.items))) (aggregate_of x)

abbrev pub low_index : Value → Value
low_index x = of_aggregate (λ a. integer a.1.low) (aggregate_of x)

abbrev pub high_index : Value → Value
high_index x = of_aggregate (λ a. integer (a.1.low +ℤ pos (length a.1.items) -ℤ pos 1)) (aggregate_of x)

abbrev pub value_in : Value → Value → Value
value_in aggregate x = value_membership x aggregate

-- ---- qualifiers

-- from the first place to the last, counted from 1
abbrev pub is_range : ℤ → ℤ → ℕ → Bool
is_range first last count = int_le (pos 1) first && int_le first last && int_le last (pos count)

abbrev pub characters : List ℕ → ℕ → ℕ → List ℕ
characters text first last = take_chars (last - (first - 1)) (drop (length (take_chars (first - 1) text)) text)

abbrev pub bits_between : List Bool → ℕ → ℕ → List Bool
bits_between bits first last = take (last - (first - 1)) (drop (first - 1) bits)

abbrev pub range_in : Value-F Value → ℤ → ℤ → Value
range_in (Value-F.Str text) first last = if is_range first last (char_count text) then v.Str (characters text (nat_abs first) (nat_abs last)) else v.Indet
range_in (Value-F.Bin bits) first last = if is_range first last (length bits) then v.Bin (bits_between bits (nat_abs first) (nat_abs last)) else v.Indet
range_in _ first last = v.Indet

abbrev pub range_by : Value → Option ℤ → Option ℤ → Value
range_by x (Some first) (Some last) = range_in (out-Value (bare x)) first last
range_by x _ _ = v.Indet

-- `s[i:j]`
abbrev pub range : Value → Value → Value → Value
range x first last = range_by x (integer_of first) (integer_of last)

-- the element at a place, as it is
abbrev pub element_at : Elements Value → ℤ → Value
element_at xs at = if int_le xs.low at then unwrap_or (slice_get xs.items (nat_abs (at -ℤ xs.low))) v.Indet else v.Indet

abbrev pub index_in : Value-F Value → ℤ → Value
index_in (Value-F.Agg kind xs) at = element_at xs at
index_in x at = range_in x at at

abbrev pub index_by : Value → Option ℤ → Value
index_by x (Some at) = index_in (out-Value (bare x)) at
index_by x None = v.Indet

-- `a[i]`
abbrev pub index : Value → Value → Value
index x at = index_by x (integer_of at)

-- ---- initialisers

abbrev pub initializer : List Value → Value
initializer items = v.Agg k.Initializer (record { low = pos 1; items = items })

abbrev pub size_by : Value-F ℕ → ℕ
size_by (Value-F.Agg kind sizes) = fold (λ sum size. sum + size) 1 sizes.items
size_by (Value-F.Named n size) = size
size_by _ = 1

-- how many steps an initialiser costs that gives this value: one, and one for each element that is no aggregate, and as many as each
-- that is one would cost
unfoldable pub size : Value → ℕ
size = fold-Value ℕ size_by
