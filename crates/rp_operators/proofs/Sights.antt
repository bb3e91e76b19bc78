-- What is beneath the names of a value, variant by variant.
use Rattle.std.proofs.Common.{◌≡◌, ℕ, ℤ, Bool, List, [], ◌∷◌, map, Option, Some, None, true, not, refl, sym, ◌∙◌, ap, subst}
use Rattle.std.proofs.lemmas.Bool.{true≢false}
use Rattle.std.proofs.lemmas.Option.{none-some}
use Rattle.std.specs.Option.{is_some}
use Rattle.rp_numbers.specs.Decimals.{Decimal, scaled, scaled_whole}
use Rattle.rp_numbers.specs.declared.Logical.{Logical}
use Rattle.rp_meaning.specs.Bare.{bare, carried, carried_by, itself_and_bare, aggregate_in, aggregate_of}
use Rattle.rp_operations.specs.Seen.{Seen, Indeterminate, Number, Text, Bits, Truth, Item, Instance, Aggregate, with_seen, seen, instance_layer, holds_instance}
use Rattle.rp_value.specs.Elements.{Elements}
use Rattle.rp_value.specs.declared.value.AggregateKind.{AggregateKind}
use Rattle.rp_value.specs.declared.value.Value.{Value, out-Value}
use Rattle.rp_value.specs.declared.value.Value.TheFolds.{fold-Value, fold-roll-Value, ind-Value, map-Value}
use Rattle.rp_value.specs.declared.value.Value.TheOpen.{Value-F}
use Rattle.rp_value.specs.declared.value.Value.TheVariants as v
use Rattle.rp_value.specs.declared.value.Value.TheViews.{roll-Value, out-roll-Value, roll-out-Value}

-- ---- a value beside what is made of it is the value itself

module _ {B : Type 0} (kept : B → Value) (with : Value-F B → B) (keeps : (y : Value-F B) → kept (with y) ≡ roll-Value (map-Value B Value kept y)) where
  abbrev both : Value → B
  both = fold-Value B with

  abbrev IsItself : Value → Type 0
  IsItself x = kept (both x) ≡ x

  abbrev Kept : Type 0
  Kept = (x : Value) × IsItself x

  each_itself : (ps : List Kept) → map kept (map both (map (λ p. p.0) ps)) ≡ map (λ p. p.0) ps
  each_itself [] = refl
  each_itself (p ∷ ps) = λ i. p.1 i ∷ each_itself ps i

  layer_itself : (y : Value-F Kept) → map-Value B Value kept (map-Value Value B both (map-Value Kept Value (λ p. p.0) y)) ≡ map-Value Kept Value (λ p. p.0) y
  layer_itself Value-F.Indet = refl
  layer_itself (Value-F.Int n) = refl
  layer_itself (Value-F.Dec d) = refl
  layer_itself (Value-F.Str text) = refl
  layer_itself (Value-F.Bin bits) = refl
  layer_itself (Value-F.Log x) = refl
  layer_itself (Value-F.Item n place) = refl
  layer_itself (Value-F.Inst name) = refl
  layer_itself (Value-F.Agg kind elements) = λ i. Value-F.Agg kind (record { low = elements.low; items = each_itself elements.items i })
  layer_itself (Value-F.Named n p) = λ i. Value-F.Named n (p.1 i)

  pub itself : (x : Value) → IsItself x
  itself = ind-Value IsItself (λ x y is.
      ap kept (fold-roll-Value B with x)
      ∙ keeps (map-Value Value B both x)
      ∙ ap roll-Value (subst (λ z. map-Value B Value kept (map-Value Value B both z) ≡ z) is (layer_itself y)))

  pub all_itself : (xs : List Value) → map kept (map both xs) ≡ xs
  all_itself [] = refl
  all_itself (x ∷ xs) = λ i. itself x i ∷ all_itself xs i

-- ---- what is seen

sight_keeps : (y : Value-F (Value × Seen)) → (with_seen y).0 ≡ roll-Value (map-Value (Value × Seen) Value (λ p. p.0) y)
sight_keeps y = refl

abbrev sight : Value → Value × Seen
sight = fold-Value (Value × Seen) with_seen

seen-rolls : (y : Value-F Value) → (with_seen (map-Value Value (Value × Seen) sight y)).1 ≡ seen (roll-Value y)
unfolding seen
seen-rolls y = ap (λ p. p.1) (sym (fold-roll-Value (Value × Seen) with_seen y))

-- ---- what is bare

name_keeps : (y : Value-F (Value × Value)) → (itself_and_bare y).0 ≡ roll-Value (map-Value (Value × Value) Value (λ p. p.0) y)
name_keeps Value-F.Indet = refl
name_keeps (Value-F.Int n) = refl
name_keeps (Value-F.Dec d) = refl
name_keeps (Value-F.Str text) = refl
name_keeps (Value-F.Bin bits) = refl
name_keeps (Value-F.Log x) = refl
name_keeps (Value-F.Item n place) = refl
name_keeps (Value-F.Inst name) = refl
name_keeps (Value-F.Agg kind elements) = refl
name_keeps (Value-F.Named n p) = refl

abbrev named : Value → Value × Value
named = fold-Value (Value × Value) itself_and_bare

bare-rolls : (y : Value-F Value) → (itself_and_bare (map-Value Value (Value × Value) named y)).1 ≡ bare (roll-Value y)
unfolding bare
bare-rolls y = ap (λ p. p.1) (sym (fold-roll-Value (Value × Value) itself_and_bare y))

-- what carries no name is bare
lone : (y : Value-F Value) → carried_by y ≡ None → bare (roll-Value y) ≡ roll-Value y
lone Value-F.Indet is = sym (bare-rolls Value-F.Indet)
lone (Value-F.Int n) is = sym (bare-rolls (Value-F.Int n))
lone (Value-F.Dec d) is = sym (bare-rolls (Value-F.Dec d))
lone (Value-F.Str text) is = sym (bare-rolls (Value-F.Str text))
lone (Value-F.Bin bits) is = sym (bare-rolls (Value-F.Bin bits))
lone (Value-F.Log x) is = sym (bare-rolls (Value-F.Log x))
lone (Value-F.Item n place) is = sym (bare-rolls (Value-F.Item n place))
lone (Value-F.Inst name) is = sym (bare-rolls (Value-F.Inst name))
lone (Value-F.Agg kind elements) is =
    sym (bare-rolls (Value-F.Agg kind elements))
    ∙ (λ i. roll-Value (Value-F.Agg kind (record { low = elements.low; items = all_itself (λ p. p.0) itself_and_bare name_keeps elements.items i })))
lone (Value-F.Named n x) is = absurd (none-some n (sym is))

pub bare-itself : (x : Value) → carried x ≡ None → bare x ≡ x
bare-itself x is = ap bare (sym (roll-out-Value x)) ∙ lone (out-Value x) is ∙ roll-out-Value x

uncarried : (y : Value-F Value) → ((n : ℕ) (z : Value) → roll-Value y ≡ v.Named n z → ⊥) → carried_by y ≡ None
uncarried Value-F.Indet never = refl
uncarried (Value-F.Int n) never = refl
uncarried (Value-F.Dec d) never = refl
uncarried (Value-F.Str text) never = refl
uncarried (Value-F.Bin bits) never = refl
uncarried (Value-F.Log x) never = refl
uncarried (Value-F.Item n place) never = refl
uncarried (Value-F.Inst name) never = refl
uncarried (Value-F.Agg kind elements) never = refl
uncarried (Value-F.Named n x) never = absurd (never n x (v.rolls-Named n x))

pub bare-unnamed : (x : Value) → ((n : ℕ) (y : Value) → x ≡ v.Named n y → ⊥) → bare x ≡ x
bare-unnamed x never = bare-itself x (uncarried (out-Value x) (λ n y is. never n y (sym (roll-out-Value x) ∙ is)))

pub bare-under : (x : Value) (n : ℕ) (y : Value) → x ≡ v.Named n y → bare y ≡ bare x
unfolding bare
bare-under x n y is = bare-rolls (Value-F.Named n y) ∙ ap bare (v.rolls-Named n y ∙ sym is)

pub unless_some : (found : Option ℕ) (none : Bool) → is_some found ≡ not none → none ≡ true → found ≡ None
unless_some None none is so = refl
unless_some (Some n) none is so = absurd (true≢false (is ∙ ap not so))

pub named-alone : (x : Value) (n m : ℕ) (y : Value) → x ≡ v.Named n y → n ≡ m → carried y ≡ None → v.Named m (bare x) ≡ x
named-alone x n m y is same none = ap (v.Named m) (sym (bare-under x n y is) ∙ bare-itself y none) ∙ ap (λ k. v.Named k y) (sym same) ∙ sym is

-- ---- beneath the names

-- what a name changes nothing of is that of the value beneath
module _ {B : Type 0} (of : Value → B) (passes : (n : ℕ) (y : Value) → of y ≡ of (v.Named n y)) where
  abbrev Alike : Value → Type 0
  Alike x = of (bare x) ≡ of x

  layer_alike : (y : Value-F ((x : Value) × Alike x)) → Alike (roll-Value (map-Value ((x : Value) × Alike x) Value (λ p. p.0) y))
  layer_alike (Value-F.Named n p) = ap of (sym (bare-under _ n p.0 (v.rolls-Named n p.0))) ∙ p.1 ∙ passes n p.0 ∙ ap of (sym (v.rolls-Named n p.0))
  layer_alike y = ap of (lone _ refl)

  pub alike : (x : Value) → Alike x
  alike = ind-Value Alike (λ x y is. subst (λ z. Alike (roll-Value z)) is (layer_alike y))

abbrev IsBare : Value → Type 0
IsBare x = carried (bare x) ≡ None

layer_bare : (y : Value-F ((x : Value) × IsBare x)) → IsBare (roll-Value (map-Value ((x : Value) × IsBare x) Value (λ p. p.0) y))
layer_bare (Value-F.Named n p) = ap carried (sym (bare-under _ n p.0 (v.rolls-Named n p.0))) ∙ p.1
layer_bare y = ap carried (lone _ refl) ∙ ap carried_by (out-roll-Value _)

pub is_bare : (x : Value) → carried (bare x) ≡ None
is_bare = ind-Value IsBare (λ x y is. subst (λ z. IsBare (roll-Value z)) is (layer_bare y))

pub carries : (x : Value) (n : ℕ) (y : Value) → x ≡ v.Named n y → carried x ≡ None → ⊥
carries x n y is none = none-some n (sym none ∙ ap carried (is ∙ sym (v.rolls-Named n y)) ∙ ap carried_by (out-roll-Value (Value-F.Named n y)))

-- ---- variant by variant

module _ (x : Value) where
  pub sees-Indet : x ≡ v.Indet → Indeterminate ≡ seen x
  sees-Indet is = seen-rolls Value-F.Indet ∙ ap seen (v.rolls-Indet ∙ sym is)

  pub sees-Int : (n : ℤ) → x ≡ v.Int n → Number (scaled_whole n) ≡ seen x
  sees-Int n is = seen-rolls (Value-F.Int n) ∙ ap seen (v.rolls-Int n ∙ sym is)

  pub sees-Dec : (d : Decimal) → x ≡ v.Dec d → Number (scaled d) ≡ seen x
  sees-Dec d is = seen-rolls (Value-F.Dec d) ∙ ap seen (v.rolls-Dec d ∙ sym is)

  pub sees-Str : (text : List ℕ) → x ≡ v.Str text → Text text ≡ seen x
  sees-Str text is = seen-rolls (Value-F.Str text) ∙ ap seen (v.rolls-Str text ∙ sym is)

  pub sees-Bin : (bits : List Bool) → x ≡ v.Bin bits → Bits bits ≡ seen x
  sees-Bin bits is = seen-rolls (Value-F.Bin bits) ∙ ap seen (v.rolls-Bin bits ∙ sym is)

  pub sees-Log : (l : Logical) → x ≡ v.Log l → Truth l ≡ seen x
  sees-Log l is = seen-rolls (Value-F.Log l) ∙ ap seen (v.rolls-Log l ∙ sym is)

  pub sees-Item : (n place : ℕ) → x ≡ v.Item n place → Item n place ≡ seen x
  sees-Item n place is = seen-rolls (Value-F.Item n place) ∙ ap seen (v.rolls-Item n place ∙ sym is)

  pub sees-Inst : (name : ℕ) → x ≡ v.Inst name → Instance name ≡ seen x
  sees-Inst name is = seen-rolls (Value-F.Inst name) ∙ ap seen (v.rolls-Inst name ∙ sym is)

  pub sees-Agg : (kind : AggregateKind) (elements : Elements Value) → x ≡ v.Agg kind elements → Aggregate kind elements ≡ seen x
  sees-Agg kind elements is =
      (λ i. Aggregate kind (record { low = elements.low; items = sym (all_itself (λ p. p.0) with_seen sight_keeps elements.items) i }))
      ∙ seen-rolls (Value-F.Agg kind elements) ∙ ap seen (v.rolls-Agg kind elements ∙ sym is)

  pub sees-Named : (n : ℕ) (y : Value) → x ≡ v.Named n y → seen y ≡ seen x
  unfolding seen
  sees-Named n y is = seen-rolls (Value-F.Named n y) ∙ ap seen (v.rolls-Named n y ∙ sym is)

  pub bare-Indet : x ≡ v.Indet → Value-F.Indet ≡ out-Value (bare x)
  bare-Indet is = sym (out-roll-Value Value-F.Indet) ∙ ap out-Value (bare-rolls Value-F.Indet ∙ ap bare (v.rolls-Indet ∙ sym is))

  pub bare-Int : (n : ℤ) → x ≡ v.Int n → Value-F.Int n ≡ out-Value (bare x)
  bare-Int n is = sym (out-roll-Value (Value-F.Int n)) ∙ ap out-Value (bare-rolls (Value-F.Int n) ∙ ap bare (v.rolls-Int n ∙ sym is))

  pub bare-Dec : (d : Decimal) → x ≡ v.Dec d → Value-F.Dec d ≡ out-Value (bare x)
  bare-Dec d is = sym (out-roll-Value (Value-F.Dec d)) ∙ ap out-Value (bare-rolls (Value-F.Dec d) ∙ ap bare (v.rolls-Dec d ∙ sym is))

  pub bare-Str : (text : List ℕ) → x ≡ v.Str text → Value-F.Str text ≡ out-Value (bare x)
  bare-Str text is = sym (out-roll-Value (Value-F.Str text)) ∙ ap out-Value (bare-rolls (Value-F.Str text) ∙ ap bare (v.rolls-Str text ∙ sym is))

  pub bare-Bin : (bits : List Bool) → x ≡ v.Bin bits → Value-F.Bin bits ≡ out-Value (bare x)
  bare-Bin bits is = sym (out-roll-Value (Value-F.Bin bits)) ∙ ap out-Value (bare-rolls (Value-F.Bin bits) ∙ ap bare (v.rolls-Bin bits ∙ sym is))

  pub bare-Log : (l : Logical) → x ≡ v.Log l → Value-F.Log l ≡ out-Value (bare x)
  bare-Log l is = sym (out-roll-Value (Value-F.Log l)) ∙ ap out-Value (bare-rolls (Value-F.Log l) ∙ ap bare (v.rolls-Log l ∙ sym is))

  pub bare-Item : (n place : ℕ) → x ≡ v.Item n place → Value-F.Item n place ≡ out-Value (bare x)
  bare-Item n place is = sym (out-roll-Value (Value-F.Item n place)) ∙ ap out-Value (bare-rolls (Value-F.Item n place) ∙ ap bare (v.rolls-Item n place ∙ sym is))

  pub bare-Inst : (name : ℕ) → x ≡ v.Inst name → Value-F.Inst name ≡ out-Value (bare x)
  bare-Inst name is = sym (out-roll-Value (Value-F.Inst name)) ∙ ap out-Value (bare-rolls (Value-F.Inst name) ∙ ap bare (v.rolls-Inst name ∙ sym is))

  pub bare-Agg : (kind : AggregateKind) (elements : Elements Value) → x ≡ v.Agg kind elements → Value-F.Agg kind elements ≡ out-Value (bare x)
  bare-Agg kind elements is =
      (λ i. Value-F.Agg kind (record { low = elements.low; items = sym (all_itself (λ p. p.0) itself_and_bare name_keeps elements.items) i }))
      ∙ sym (out-roll-Value (Value-F.Agg kind (record { low = elements.low; items = map (λ p. p.0) (map named elements.items) })))
      ∙ ap out-Value (bare-rolls (Value-F.Agg kind elements) ∙ ap bare (v.rolls-Agg kind elements ∙ sym is))

  pub bare-Named : (n : ℕ) (y : Value) → x ≡ v.Named n y → out-Value (bare y) ≡ out-Value (bare x)
  unfolding bare
  bare-Named n y is = ap out-Value (bare-rolls (Value-F.Named n y) ∙ ap bare (v.rolls-Named n y ∙ sym is))

pub seen-bare : (x : Value) → seen (bare x) ≡ seen x
seen-bare = alike seen (λ n y. sees-Named (v.Named n y) n y refl)

held-rolls : (y : Value-F Value) → holds_instance (roll-Value y) ≡ instance_layer (map-Value Value Bool holds_instance y)
unfolding holds_instance
held-rolls y = fold-roll-Value Bool instance_layer y

held-bare : (x : Value) → holds_instance (bare x) ≡ holds_instance x
held-bare = alike holds_instance (λ n y. sym (ap holds_instance (sym (v.rolls-Named n y)) ∙ held-rolls (Value-F.Named n y)))

-- what a value is beneath its names, and what is seen of it
pub record IsBeneath (x : Value) (y : Value-F Value) : Type 0 where
  pub is : out-Value (bare x) ≡ y
  pub sees : seen x ≡ (with_seen (map-Value Value (Value × Seen) sight y)).1
  pub holds : holds_instance x ≡ instance_layer (map-Value Value Bool holds_instance y)

pub beneath : (x z : Value) (y : Value-F Value) → z ≡ bare x → z ≡ roll-Value y → IsBeneath x y
beneath x z y at rolled = record {
  is = ap out-Value (sym at ∙ rolled) ∙ out-roll-Value y;
  sees = sym (seen-bare x) ∙ ap seen (sym at ∙ rolled) ∙ sym (seen-rolls y);
  holds = sym (held-bare x) ∙ ap holds_instance (sym at ∙ rolled) ∙ held-rolls y;
}

-- a whole number without a name
pub whole : (x : Value) (n : ℤ) → x ≡ v.Int n → IsBeneath x (Value-F.Int n)
whole x n is = record {
  is = sym (bare-Int x n is);
  sees = sym (sees-Int x n is);
  holds = ap holds_instance (is ∙ sym (v.rolls-Int n)) ∙ held-rolls (Value-F.Int n);
}

aggregateless : (y : Value-F Value) → ((kind : AggregateKind) (xs : Elements Value) → roll-Value y ≡ v.Agg kind xs → ⊥) → aggregate_in y ≡ None
aggregateless Value-F.Indet never = refl
aggregateless (Value-F.Int n) never = refl
aggregateless (Value-F.Dec d) never = refl
aggregateless (Value-F.Str text) never = refl
aggregateless (Value-F.Bin bits) never = refl
aggregateless (Value-F.Log x) never = refl
aggregateless (Value-F.Item n place) never = refl
aggregateless (Value-F.Inst name) never = refl
aggregateless (Value-F.Agg kind xs) never = absurd (never kind xs (v.rolls-Agg kind xs))
aggregateless (Value-F.Named n x) never = refl

-- what is neither an aggregate nor named
pub no-aggregate : (x : Value) → ((kind : AggregateKind) (xs : Elements Value) → x ≡ v.Agg kind xs → ⊥) → ((n : ℕ) (y : Value) → x ≡ v.Named n y → ⊥) → aggregate_of x ≡ None
no-aggregate x never other =
    ap (λ z. aggregate_in (out-Value z)) (bare-unnamed x other)
    ∙ aggregateless (out-Value x) (λ kind xs is. never kind xs (sym (roll-out-Value x) ∙ is))

pub ruleset bares = (
  sees-Indet,
  sees-Int,
  sees-Dec,
  sees-Str,
  sees-Bin,
  sees-Log,
  sees-Item,
  sees-Inst,
  sees-Agg,
  sees-Named,
  bare-Indet,
  bare-Int,
  bare-Dec,
  bare-Str,
  bare-Bin,
  bare-Log,
  bare-Item,
  bare-Inst,
  bare-Agg,
  bare-Named,
)

pub ruleset bare_itself = (bare-itself)

pub ruleset named_alone = (named-alone)

pub ruleset bare_values = (bare-itself, bare-under)
