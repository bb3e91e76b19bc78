-- What a declared type takes of a value as a file spells it (ISO 10303-21:2002, 10.1 and 10.2).
use Rattle.std.specs.Prelude.{ℕ, Bool, true, false, ◌==◌, if◌then◌else◌, List, [], ◌∷◌, ◌++◌, map, Option, Some, None}
use Rattle.std.specs.List.{filter_map}
use Rattle.std.specs.Option.{option_map}
use Rattle.std.specs.Str.{str_to_ascii_uppercase}
use Rattle.plain_data.specs.Numbers.{is_among}
use Rattle.ex_tree.specs.declared.data_type.SimpleType.TheVariants as s
use Rattle.ex_named.specs.declared.declaration.NamedType.{NamedType}
use Rattle.ex_named.specs.declared.expression.NamedDataType.{NamedDataType}
use Rattle.name_tables.specs.Names.{place_of}
use Rattle.p21_escapes.specs.Decoding.{decoded}
use Rattle.p21_tree.specs.declared.value.Value as tree
use Rattle.p21_tree.specs.declared.value.Value.TheFolds.{fold-Value}
use Rattle.p21_tree.specs.declared.value.Value.TheOpen.{Value-F}
use Rattle.rp_numbers.specs.Spelling.{parse}
use Rattle.rp_value.specs.declared.value.Value.{Value}
use Rattle.rp_value.specs.declared.value.Value.TheVariants as v
use Rattle.ex_selects.specs.Items.{items, type_named}
use Rattle.ex_selects.specs.Ends.{Base, Plain, Instance, Aggregate, Enumeration, Select, Target, base_of, target, inside, choices, chooses_instances}
use Rattle.p21_values.specs.Tokens.{ok, integer, bits, logical, boolean}

-- A value as it is spelled: whether it is `$`; what a type that is no SELECT takes of it where no keyword stands before it; and what
-- a type takes of it.
pub record Meaning : Type 0 where
  pub is_unset : Bool
  pub plain : Base → Option Value
  pub fit : Target → Option Value

-- an attribute or an element may be `$`
abbrev pub place : Meaning → Target → Option Value
place m t = if m.is_unset then Some v.Indet else m.fit t

-- ---- tokens

-- an integer stands for the decimal where REAL is declared, and stays an integer where NUMBER is
abbrev pub of_integer : List ℕ → Base → Option Value
of_integer token (Plain s.Integer) = option_map v.Int (integer token)
of_integer token (Plain s.Number) = option_map v.Int (integer token)
of_integer token (Plain s.Real) = option_map v.Dec (ok (parse (token ++ 46 ∷ [])))
of_integer token _ = None

abbrev pub of_real : List ℕ → Base → Option Value
of_real token (Plain s.Number) = option_map v.Dec (ok (parse token))
of_real token (Plain s.Real) = option_map v.Dec (ok (parse token))
of_real token _ = None

abbrev pub of_text : List ℕ → Base → Option Value
of_text token (Plain (s.String width)) = option_map v.Str (ok (decoded token))
of_text token _ = None

abbrev pub of_binary : List ℕ → Base → Option Value
of_binary token (Plain (s.Binary width)) = Some (v.Bin (bits token))
of_binary token _ = None

-- ---- several

-- the one value, where there is just one
abbrev pub only : List Value → Option Value
only (x ∷ []) = Some x
only _ = None

abbrev pub with_first : {A : Type 0} → Option A → Option (List A) → Option (List A)
with_first None xs = None
with_first (Some x) xs = option_map (λ xs. x ∷ xs) xs

-- all of them, where each is there
abbrev pub all_there : {A : Type 0} → List (Option A) → Option (List A)
all_there [] = Some []
all_there (x ∷ xs) = with_first x (all_there xs)

module _ (types : List NamedType) where
  abbrev pub of_item : List ℕ → Base → Option Value
  of_item token (Plain s.Boolean) = option_map v.Log (boolean token)
  of_item token (Plain s.Logical) = option_map v.Log (logical token)
  of_item token (Enumeration number) = option_map (v.Item number) (place_of token (items types number))
  of_item token _ = None

  abbrev pub of_list : List Meaning → Base → Option Value
  of_list ms (Aggregate kind low element) =
      option_map (λ xs. v.Agg kind (record { low = low; items = xs })) (all_there (map (λ m. place m (target types element)) ms))
  of_list ms _ = None

  -- ---- without a keyword: what the type takes, or the only one that does of those that a SELECT chooses from

  -- what one of them takes, under its name
  abbrev pub by_choice : (Base → Option Value) → ℕ → Option Value
  by_choice plain number = option_map (v.Named number) (plain (base_of types number))

  abbrev pub bare_at : (Base → Option Value) → Base → Option Value
  bare_at plain (Select number) = only (filter_map (by_choice plain) (choices types number))
  bare_at plain base = plain base

  abbrev pub bare : (Base → Option Value) → Meaning
  bare plain = record { is_unset = false; plain = plain; fit = λ t. bare_at plain t.base }

  -- what no keyword helps
  abbrev pub none : Bool → Meaning
  none is_unset = record { is_unset = is_unset; plain = λ base. None; fit = λ t. None }

  -- ---- references

  abbrev pub reference_at : ℕ → Base → Option Value
  reference_at name Instance = Some (v.Inst name)
  reference_at name (Select number) = if chooses_instances types number then Some (v.Inst name) else None
  reference_at name _ = None

  abbrev pub reference : ℕ → Meaning
  reference name = record { is_unset = false; plain = λ base. None; fit = λ t. reference_at name t.base }

  -- ---- with a keyword: the name of the type itself, or of one that a SELECT chooses from

  abbrev pub is_that : Option ℕ → ℕ → Bool
  is_that None number = false
  is_that (Some k) number = k == number

  abbrev pub chosen : Meaning → ℕ → Base → Option Value
  chosen m number (Select select) =
      if is_among (choices types select) number then option_map (v.Named number) (m.fit (inside types number)) else None
  chosen m number _ = None

  abbrev pub named_by : Meaning → Option ℕ → Target → Option Value
  named_by m None t = None
  named_by m (Some number) t = if is_that t.name number then m.fit (inside types number) else chosen m number t.base

  abbrev pub named : List ℕ → Meaning → Meaning
  named keyword m = record { is_unset = false; plain = λ base. None; fit = named_by m (type_named types keyword) }

  -- ---- any

  abbrev pub layer : Value-F Meaning → Meaning
  layer Value-F.Unset = none true
  layer Value-F.Derived = none false
  layer (Value-F.Integer token) = bare (of_integer token)
  layer (Value-F.Real token) = bare (of_real token)
  layer (Value-F.Text token) = bare (of_text token)
  layer (Value-F.Item token) = bare (of_item (str_to_ascii_uppercase token))
  layer (Value-F.Binary token) = bare (of_binary token)
  layer (Value-F.Reference name) = reference name
  layer (Value-F.List ms) = bare (of_list ms)
  layer (Value-F.Typed keyword m) = named keyword m

  unfoldable pub meaning : tree.Value → Meaning
  meaning = fold-Value Meaning layer

  -- the value of an attribute or an element of this type, where the type takes what is spelled
  unfoldable pub bound : NamedDataType → tree.Value → Option Value
  bound data_type x = place (meaning x) (target types data_type)
