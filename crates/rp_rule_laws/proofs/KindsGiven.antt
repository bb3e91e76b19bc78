-- What a value is declared with leaves its kind.
use Rattle.std.proofs.Common.{◌≡◌, ℕ, ℤ, zero, suc, Bool, true, false, not, ◌||◌, ◌==◌, if◌then◌else◌, List, map, Option, Some, None, refl, sym, ◌∙◌, ap, subst}
use Rattle.std.proofs.lemmas.Bool.{false≢true}
use Rattle.ex_kinds.specs.Kinds.{of_type}
use Rattle.ex_kinds.specs.Types.{of_types, some_plain}
use Rattle.ex_kinds.specs.declared.kind.Sort.{Sort}
use Rattle.ex_kinds.specs.declared.kind.ValueKind.{ValueKind}
use Rattle.ex_named.specs.declared.expression.NamedDataType.{NamedDataType, NamedDataType-F, out-NamedDataType}
use Rattle.ex_named.specs.declared.reference.TypeName.TheVariants as t
use Rattle.ex_resolve.specs.Proved.{held_types}
use Rattle.ex_schemas.specs.Schemas.{Checked}
use Rattle.graphs.specs.Graphs.{IsAcyclic}
use Rattle.rp_meaning.specs.declared.schema.DefinedType.{DefinedType}
use Rattle.rp_meaning.specs.Bare.{bare, carried, is_indeterminate, is_indeterminate_in}
use Rattle.rp_meaning.specs.Compiled.{compiled}
use Rattle.rp_meaning.specs.Types as types
use Rattle.rp_operators.proofs.Parts.{inside-Agg, inside-Named, inside-rolls, under-part}
use Rattle.rp_operators.proofs.Sights.{bare-Agg, bare-Indet, bare-Named, bare-itself, is_bare}
use Rattle.rp_operators.specs.Ends.{an_aggregate, elements_under, inside, under}
use Rattle.rp_rule_laws.proofs.KindsAgree.{by_kinds}
use Rattle.rp_rule_laws.specs.Kinds.{is_of_kind, is_of_kind_at, is_of_type}
use Rattle.rp_value.specs.Elements.{Elements}
use Rattle.rp_value.specs.declared.value.AggregateKind.{AggregateKind}
use Rattle.rp_value.specs.declared.value.AggregateKind.TheVariants as a
use Rattle.ex_kinds.specs.declared.kind.Sort.TheVariants as k
use Rattle.rp_value.specs.declared.value.Value.{Value, out-Value}
use Rattle.rp_value.specs.declared.value.Value.TheFolds.{ind-Value, map-Value}
use Rattle.rp_value.specs.declared.value.Value.TheOpen.{Value-F}
use Rattle.rp_value.specs.declared.value.Value.TheVariants as v
use Rattle.rp_value.specs.declared.value.Value.TheViews.{roll-Value}

-- ---- the outline of a value decides its kinds: what it is without defined types, and of an aggregate that it is one

abbrev outline_of : Value-F Value → Value-F Value
outline_of (Value-F.Agg kind xs) = an_aggregate
outline_of x = x

abbrev outline : Value → Value-F Value
outline x = outline_of (out-Value (bare x))

aggregate_sort : (sort : Sort) (kind : AggregateKind) (xs : Elements Value) → is_of_kind_at zero sort an_aggregate ≡ is_of_kind_at zero sort (Value-F.Agg kind xs)
aggregate_sort k.Aggregate kind xs = refl
aggregate_sort _ kind xs = refl

decides : (depth : ℕ) (sort : Sort) (y : Value-F Value) → is_of_kind_at depth sort (outline_of y) ≡ is_of_kind_at depth sort y
decides zero sort (Value-F.Agg kind xs) = aggregate_sort sort kind xs
decides zero sort _ = refl
decides (suc depth) sort y = refl

same_kinds : (x y : Value) → outline x ≡ outline y → (kind : ValueKind) → is_of_kind x kind ≡ is_of_kind y kind
same_kinds x y same kind = sym (decides kind.depth kind.sort (out-Value (bare x))) ∙ ap (is_of_kind_at kind.depth kind.sort) same ∙ decides kind.depth kind.sort (out-Value (bare y))

same_type : (schema : Checked) (data_type : NamedDataType) (x y : Value) → outline x ≡ outline y → is_of_type schema data_type x ≡ is_of_type schema data_type y
same_type schema data_type x y same = ap (λ test. some_plain (of_types schema.named.schema.types) test (of_type data_type)) (λ i kind. same_kinds x y same kind i)

outline-Agg : (kind : AggregateKind) (xs : Elements Value) → outline (v.Agg kind xs) ≡ an_aggregate
outline-Agg kind xs = ap outline_of (sym (bare-Agg (v.Agg kind xs) kind xs refl))

outline-Named : (n : ℕ) (x : Value) → outline (v.Named n x) ≡ outline x
outline-Named n x = ap outline_of (sym (bare-Named (v.Named n x) n x refl))

outline-bare : (x : Value) → outline (bare x) ≡ outline x
outline-bare x = ap (λ z. outline_of (out-Value z)) (bare-itself (bare x) (is_bare x))

-- ---- what a type leaves

module _ (defined : List DefinedType) where
  of_kind_outline : (kind : AggregateKind) (low : ℤ) (items : List Value) → outline (types.of_kind (kind, low) items) ≡ an_aggregate
  of_kind_outline a.Array low items = outline-Agg a.Array _
  of_kind_outline a.List low items = outline-Agg a.List _
  of_kind_outline a.Bag low items = outline-Agg a.Bag _
  of_kind_outline a.Set low items = outline-Agg a.Set _
  of_kind_outline a.Initializer low items = outline-Agg a.Initializer _

  as_aggregate_outline : (declared : Option (AggregateKind × ℤ)) (kind : AggregateKind) (low : ℤ) (items : List Value) → outline (types.as_aggregate declared kind low items) ≡ an_aggregate
  as_aggregate_outline None kind low items = outline-Agg kind _
  as_aggregate_outline (Some declared) a.Initializer low items = of_kind_outline declared.0 declared.1 items
  as_aggregate_outline (Some declared) kind low items = outline-Agg kind _

  elements_outline : (declared : Option types.AggregateType) (kind : AggregateKind) (xs : Elements Value) → outline (elements_under defined declared kind xs) ≡ an_aggregate
  elements_outline None kind xs = outline-Agg kind _
  elements_outline (Some of) kind xs = as_aggregate_outline of.kind kind xs.low _

  module _ (declared : Option types.AggregateType) where
    abbrev Keeps : Value → Type 0
    Keeps x = outline (inside defined declared x) ≡ outline x

    abbrev Kept : Type 0
    Kept = (x : Value) × Keeps x

    layer_keeps : (y : Value-F Kept) → Keeps (roll-Value (map-Value Kept Value (λ p. p.0) y))
    layer_keeps (Value-F.Agg kind ps) =
        let xs : Elements Value = record { low = ps.low; items = map (λ p. p.0) ps.items } in
        ap outline (inside-Agg defined declared _ kind xs (v.rolls-Agg kind xs)) ∙ elements_outline declared kind xs ∙ sym (outline-Agg kind xs) ∙ ap outline (sym (v.rolls-Agg kind xs))
    layer_keeps (Value-F.Named n p) =
        ap outline (inside-Named defined declared _ n p.0 (v.rolls-Named n p.0)) ∙ outline-Named n (inside defined declared p.0) ∙ p.1 ∙ sym (outline-Named n p.0) ∙ ap outline (sym (v.rolls-Named n p.0))
    layer_keeps _ = ap outline (inside-rolls defined declared _)

    inside_outline : (x : Value) → Keeps x
    inside_outline = ind-Value Keeps (λ x y is. subst (λ z. Keeps (roll-Value z)) is (layer_keeps y))

  named_by_outline : (n : ℕ) (e : types.End) (x : Value) → outline (types.named_by defined n e x) ≡ outline x
  named_by_outline n (types.Enumeration declaring) x = by (declaring == n)
    where
      by : (c : Bool) → outline (if c then bare x else v.Named n (bare x)) ≡ outline x
      by true = outline-bare x
      by false = outline-Named n (bare x) ∙ outline-bare x
  named_by_outline n (types.Select choices) x = refl
  named_by_outline n (types.Written data_type) x = outline-Named n (bare x) ∙ outline-bare x

  named_outline : (f : NamedDataType-F NamedDataType) (x : Value) → outline (types.named_in defined f x) ≡ outline x
  named_outline (NamedDataType-F.Named (t.Defined n)) x = named_by_outline n (types.end_of defined n) x
  named_outline _ x = refl

  under_outline : (data_type : NamedDataType) (x : Value) → outline (under defined data_type x) ≡ outline x
  under_outline data_type x =
      named_outline (out-NamedDataType data_type) (inside defined (types.inner_by defined (types.end defined data_type) (carried x)) x)
      ∙ inside_outline (types.inner_by defined (types.end defined data_type) (carried x)) x

-- ---- what is declared with a type

indeterminate : is_indeterminate v.Indet ≡ true
indeterminate = ap is_indeterminate_in (sym (bare-Indet v.Indet refl))

pub given_has_kind : (schema : Checked) → IsAcyclic (held_types schema.named.schema.types) → (data_type : NamedDataType) (x : Value)
    → is_indeterminate (types.given (compiled schema).types data_type x) ≡ false → is_of_type schema data_type (types.given (compiled schema).types data_type x) ≡ true
unfolding types.given
given_has_kind schema acyclic data_type x = by (is_indeterminate x) (types.fits (compiled schema).types data_type x) refl
  where
    by : (c f : Bool) → types.fits (compiled schema).types data_type x ≡ f
        → is_indeterminate (if c || not f then v.Indet else types.part_under (compiled schema).types data_type (types.part (compiled schema).types x)) ≡ false
        → is_of_type schema data_type (if c || not f then v.Indet else types.part_under (compiled schema).types data_type (types.part (compiled schema).types x)) ≡ true
    by true f fits some = absurd (false≢true (sym some ∙ indeterminate))
    by false false fits some = absurd (false≢true (sym some ∙ indeterminate))
    by false true fits some =
        same_type schema data_type (types.part_under (compiled schema).types data_type (types.part (compiled schema).types x)) x
        (ap outline (sym (under-part (compiled schema).types data_type x)) ∙ under_outline (compiled schema).types data_type x)
        ∙ sym (by_kinds schema acyclic data_type x) ∙ fits
