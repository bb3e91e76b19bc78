-- Types that are written out: their kinds, and the values that are of them.
use Rattle.std.proofs.Common.{◌≡◌, ℕ, Bool, true, false, not, ◌||◌, ◌&&◌, ◌==◌, if◌then◌else◌, List, [], ◌∷◌, map, filter, refl, sym, ◌∙◌, ap}
use Rattle.std.proofs.lemmas.Bool.{eqb-true}
use Rattle.std.specs.List.{filter_map, list_any}
use Rattle.ex_kinds.specs.Kinds.{Kinds, deeper, itself, of_layer, of_simple, of_type}
use Rattle.ex_kinds.specs.Types.{alternative, own}
use Rattle.ex_kinds.specs.declared.kind.Sort.TheVariants as k
use Rattle.ex_kinds.specs.declared.kind.ValueKind.{ValueKind}
use Rattle.ex_named.specs.declared.expression.NamedDataType.{NamedDataType, NamedDataType-F, out-NamedDataType}
use Rattle.ex_named.specs.declared.expression.NamedDataType.TheFolds.{fold_out-NamedDataType, map-NamedDataType}
use Rattle.ex_named.specs.declared.reference.TypeName.TheVariants as t
use Rattle.ex_tree.specs.declared.data_type.SimpleType.{SimpleType}
use Rattle.ex_tree.specs.declared.data_type.SimpleType.TheVariants as s
use Rattle.graphs.specs.Graphs.{each_once}
use Rattle.rp_meaning.specs.Types as fitting
use Rattle.rp_rule_laws.specs.Kinds.{is_of_kind_at, is_of_sort}
use Rattle.rp_value.specs.declared.value.Value.{Value}
use Rattle.rp_value.specs.declared.value.Value.TheOpen.{Value-F}

-- ---- tests on lists

pub or_none : (b : Bool) → (b || false) ≡ b
or_none true = refl
or_none false = refl

pub or_again : (a b c : Bool) → (a || (b || c)) ≡ ((a || b) || c)
or_again true b c = refl
or_again false b c = refl

pub any_map : {A B : Type 0} (p : B → Bool) (f : A → B) (xs : List A) → list_any p (map f xs) ≡ list_any (λ x. p (f x)) xs
any_map p f [] = refl
any_map p f (x ∷ xs) = ap (λ b. p (f x) || b) (any_map p f xs)

pub any_kept : {A : Type 0} (keep p : A → Bool) (xs : List A) → list_any p (filter keep xs) ≡ list_any (λ x. keep x && p x) xs
any_kept keep p [] = refl
any_kept keep p (x ∷ xs) = by (keep x) (any_kept keep p xs)
  where
    by : (t : Bool) → list_any p (filter keep xs) ≡ list_any (λ x. keep x && p x) xs → list_any p (if t then x ∷ filter keep xs else filter keep xs) ≡ (t && p x || list_any (λ x. keep x && p x) xs)
    by true rest = ap (λ b. p x || b) rest
    by false rest = rest

-- each number once passes where it passed
others : (p : ℕ → Bool) (x : ℕ) → p x ≡ false → (xs : List ℕ) → list_any p (filter (λ y. not (y == x)) xs) ≡ list_any p xs
others p x none [] = refl
others p x none (y ∷ xs) = by (y == x) refl (others p x none xs)
  where
    by : (t : Bool) → (y == x) ≡ t → list_any p (filter (λ y. not (y == x)) xs) ≡ list_any p xs
        → list_any p (if not t then y ∷ filter (λ y. not (y == x)) xs else filter (λ y. not (y == x)) xs) ≡ (p y || list_any p xs)
    by true is rest = rest ∙ ap (λ b. b || list_any p xs) (sym (ap p (eqb-true y x is) ∙ none))
    by false is rest = ap (λ b. p y || b) rest

pub any_once : (p : ℕ → Bool) (xs : List ℕ) → list_any p (each_once xs) ≡ list_any p xs
any_once p [] = refl
any_once p (x ∷ xs) = by (p x) refl (any_once p xs)
  where
    by : (t : Bool) → p x ≡ t → list_any p (each_once xs) ≡ list_any p xs → (p x || list_any p (filter (λ y. not (y == x)) (each_once xs))) ≡ (p x || list_any p xs)
    by true is rest = rw is refl
    by false is rest = rw is (others p x is (each_once xs) ∙ rest)

-- ---- one value

module _ (y : Value-F Value) where
  abbrev pub has : ValueKind → Bool
  has kind = is_of_kind_at kind.depth kind.sort y

  pub instance_is : (n : ℕ) → is_of_sort (k.Entity n) y ≡ fitting.is_instance y
  instance_is n = by y
    where
      by : (z : Value-F Value) → is_of_sort (k.Entity n) z ≡ fitting.is_instance z
      by (Value-F.Inst place) = refl
      by _ = refl

  pub item_is : (n : ℕ) → is_of_sort (k.Enumeration n) y ≡ fitting.is_item_of n y
  item_is n = by y
    where
      by : (z : Value-F Value) → is_of_sort (k.Enumeration n) z ≡ fitting.is_item_of n z
      by (Value-F.Item enumeration place) = refl
      by _ = refl

  aggregate_is : is_of_sort k.Aggregate y ≡ fitting.is_aggregate y
  aggregate_is = by y
    where
      by : (z : Value-F Value) → is_of_sort k.Aggregate z ≡ fitting.is_aggregate z
      by (Value-F.Agg kind elements) = refl
      by _ = refl

  simple_is : (simple : SimpleType) → list_any has (of_simple simple) ≡ fitting.is_of_simple simple y
  simple_is simple = by simple y
    where
      by : (simple : SimpleType) (z : Value-F Value) → list_any (λ (kind : ValueKind). is_of_kind_at kind.depth kind.sort z) (of_simple simple) ≡ fitting.is_of_simple simple z
      by s.Integer (Value-F.Int n) = refl
      by s.Integer _ = refl
      by s.Real (Value-F.Int n) = refl
      by s.Real (Value-F.Dec d) = refl
      by s.Real _ = refl
      by s.Number (Value-F.Int n) = refl
      by s.Number (Value-F.Dec d) = refl
      by s.Number _ = refl
      by (s.String width) (Value-F.Str text) = refl
      by (s.String width) _ = refl
      by (s.Binary width) (Value-F.Bin bits) = refl
      by (s.Binary width) _ = refl
      by s.Boolean (Value-F.Log x) = refl
      by s.Boolean _ = refl
      by s.Logical (Value-F.Log x) = refl
      by s.Logical _ = refl

  simple_own : (simple : SimpleType) → own (of_simple simple) ≡ of_simple simple
  simple_own s.Integer = refl
  simple_own s.Real = refl
  simple_own s.Number = refl
  simple_own (s.String width) = refl
  simple_own (s.Binary width) = refl
  simple_own s.Boolean = refl
  simple_own s.Logical = refl

  -- no kind of elements is one of the aggregate itself
  deeper_have : (kinds : Kinds) → list_any has (own (map deeper kinds)) ≡ false
  deeper_have [] = refl
  deeper_have (kind ∷ kinds) = deeper_have kinds

  aggregate_own : (kinds : Kinds) → list_any has (own (itself k.Aggregate ∷ map deeper kinds)) ≡ fitting.is_aggregate y
  aggregate_own kinds = ap (λ b. is_of_sort k.Aggregate y || b) (deeper_have kinds) ∙ or_none (is_of_sort k.Aggregate y) ∙ aggregate_is

  -- the kinds of a type that is written out are those of the values that are of it
  pub written_own : (f : NamedDataType-F NamedDataType) → list_any has (own (of_layer (map-NamedDataType NamedDataType Kinds of_type f))) ≡ fitting.is_of_written f y
  written_own (NamedDataType-F.Simple simple) = ap (list_any has) (simple_own simple) ∙ simple_is simple
  written_own (NamedDataType-F.Named (t.Entity n)) = or_none (is_of_sort (k.Entity n) y) ∙ instance_is n
  written_own (NamedDataType-F.Named (t.Defined n)) = refl
  written_own (NamedDataType-F.Array bounds optional unique element) = aggregate_own (of_type element)
  written_own (NamedDataType-F.List bounds unique element) = aggregate_own (of_type element)
  written_own (NamedDataType-F.Bag bounds element) = aggregate_own (of_type element)
  written_own (NamedDataType-F.Set bounds element) = aggregate_own (of_type element)
  written_own (NamedDataType-F.Aggregate element) = aggregate_own (of_type element)
  written_own NamedDataType-F.Generic = refl

-- ---- the type that a type renames

abbrev pub named_in : {A : Type 0} → NamedDataType-F A → List ℕ
named_in (NamedDataType-F.Named (t.Defined n)) = n ∷ []
named_in _ = []

deeper_named : (kinds : Kinds) → filter_map alternative (map deeper kinds) ≡ []
deeper_named [] = refl
deeper_named (kind ∷ kinds) = deeper_named kinds

simple_named : (simple : SimpleType) → filter_map alternative (of_simple simple) ≡ []
simple_named s.Integer = refl
simple_named s.Real = refl
simple_named s.Number = refl
simple_named (s.String width) = refl
simple_named (s.Binary width) = refl
simple_named s.Boolean = refl
simple_named s.Logical = refl

pub written_named : (f : NamedDataType-F NamedDataType) → filter_map alternative (of_layer (map-NamedDataType NamedDataType Kinds of_type f)) ≡ named_in f
written_named (NamedDataType-F.Simple simple) = simple_named simple
written_named (NamedDataType-F.Named (t.Entity n)) = refl
written_named (NamedDataType-F.Named (t.Defined n)) = refl
written_named (NamedDataType-F.Array bounds optional unique element) = deeper_named (of_type element)
written_named (NamedDataType-F.List bounds unique element) = deeper_named (of_type element)
written_named (NamedDataType-F.Bag bounds element) = deeper_named (of_type element)
written_named (NamedDataType-F.Set bounds element) = deeper_named (of_type element)
written_named (NamedDataType-F.Aggregate element) = deeper_named (of_type element)
written_named NamedDataType-F.Generic = refl

pub of_type_out : (d : NamedDataType) → of_type d ≡ of_layer (map-NamedDataType NamedDataType Kinds of_type (out-NamedDataType d))
unfolding of_type
of_type_out d = fold_out-NamedDataType Kinds of_layer d
