-- What is seen of a value, variant by variant.
use Rattle.std.proofs.Common.{◌≡◌, ℕ, ℤ, Bool, ◌||◌, List, [], ◌∷◌, map, refl, sym, ◌∙◌, ap, subst}
use Rattle.std.specs.List.{list_any}
use Rattle.rp_numbers.specs.Decimals.{Decimal, scaled, scaled_whole}
use Rattle.rp_numbers.specs.declared.Logical.{Logical}
use Rattle.rp_value.specs.Elements.{Elements}
use Rattle.rp_operations.specs.Seen.{Seen, Indeterminate, Number, Text, Bits, Truth, Item, Instance, Aggregate, with_seen, seen, instance_layer, holds_instance}
use Rattle.rp_value.specs.declared.value.AggregateKind.{AggregateKind}
use Rattle.rp_value.specs.declared.value.Value.{Value}
use Rattle.rp_value.specs.declared.value.Value.TheFolds.{fold-Value, fold-roll-Value, ind-Value, map-Value}
use Rattle.rp_value.specs.declared.value.Value.TheOpen.{Value-F}
use Rattle.rp_value.specs.declared.value.Value.TheVariants as v
use Rattle.rp_value.specs.declared.value.Value.TheViews.{roll-Value}

-- ---- the value beside what is seen of it is the value itself

abbrev pub both : Value → Value × Seen
both = fold-Value (Value × Seen) with_seen

abbrev IsItself : Value → Type 0
IsItself x = (both x).0 ≡ x

abbrev Kept : Type 0
Kept = (x : Value) × IsItself x

each_itself : (ps : List Kept) → map (λ p. p.0) (map both (map (λ p. p.0) ps)) ≡ map (λ p. p.0) ps
each_itself [] = refl
each_itself (p ∷ ps) = λ i. p.1 i ∷ each_itself ps i

layer_itself : (y : Value-F Kept) → map-Value (Value × Seen) Value (λ p. p.0) (map-Value Value (Value × Seen) both (map-Value Kept Value (λ p. p.0) y)) ≡ map-Value Kept Value (λ p. p.0) y
layer_itself Value-F.Indet = refl
layer_itself (Value-F.Int n) = refl
layer_itself (Value-F.Dec d) = refl
layer_itself (Value-F.Str text) = refl
layer_itself (Value-F.Bin bits) = refl
layer_itself (Value-F.Log x) = refl
layer_itself (Value-F.Item n place) = refl
layer_itself (Value-F.Inst name) = refl
layer_itself (Value-F.Agg kind elements) = λ i. Value-F.Agg kind (record { low = elements.low; items = each_itself elements.items i })
layer_itself (Value-F.Named n p) = λ i. Value-F.Named n (p.1 i)

pub itself : (x : Value) → IsItself x
itself = ind-Value IsItself (λ x y is.
    ap (λ p. p.0) (fold-roll-Value (Value × Seen) with_seen x)
    ∙ ap roll-Value (subst (λ z. map-Value (Value × Seen) Value (λ p. p.0) (map-Value Value (Value × Seen) both z) ≡ z) is (layer_itself y)))

pub all_itself : (xs : List Value) → map (λ p. p.0) (map both xs) ≡ xs
all_itself [] = refl
all_itself (x ∷ xs) = λ i. itself x i ∷ all_itself xs i

-- ---- what is seen

pub seen-rolls : (y : Value-F Value) → (with_seen (map-Value Value (Value × Seen) both y)).1 ≡ seen (roll-Value y)
unfolding seen
seen-rolls y = ap (λ p. p.1) (sym (fold-roll-Value (Value × Seen) with_seen y))

module _ (x : Value) where
  pub sees-Indet : x ≡ v.Indet → Indeterminate ≡ seen x
  sees-Indet is = seen-rolls Value-F.Indet ∙ ap seen (v.rolls-Indet ∙ sym is)

  pub sees-Int : (n : ℤ) → x ≡ v.Int n → Number (scaled_whole n) ≡ seen x
  sees-Int n is = seen-rolls (Value-F.Int n) ∙ ap seen (v.rolls-Int n ∙ sym is)

  pub sees-Dec : (d : Decimal) → x ≡ v.Dec d → Number (scaled d) ≡ seen x
  sees-Dec d is = seen-rolls (Value-F.Dec d) ∙ ap seen (v.rolls-Dec d ∙ sym is)

  pub sees-Str : (text : List ℕ) → x ≡ v.Str text → Text text ≡ seen x
  sees-Str text is = seen-rolls (Value-F.Str text) ∙ ap seen (v.rolls-Str text ∙ sym is)

  pub sees-Bin : (bits : List Bool) → x ≡ v.Bin bits → Bits bits ≡ seen x
  sees-Bin bits is = seen-rolls (Value-F.Bin bits) ∙ ap seen (v.rolls-Bin bits ∙ sym is)

  pub sees-Log : (l : Logical) → x ≡ v.Log l → Truth l ≡ seen x
  sees-Log l is = seen-rolls (Value-F.Log l) ∙ ap seen (v.rolls-Log l ∙ sym is)

  pub sees-Item : (n place : ℕ) → x ≡ v.Item n place → Item n place ≡ seen x
  sees-Item n place is = seen-rolls (Value-F.Item n place) ∙ ap seen (v.rolls-Item n place ∙ sym is)

  pub sees-Inst : (name : ℕ) → x ≡ v.Inst name → Instance name ≡ seen x
  sees-Inst name is = seen-rolls (Value-F.Inst name) ∙ ap seen (v.rolls-Inst name ∙ sym is)

  pub sees-Agg : (kind : AggregateKind) (elements : Elements Value) → x ≡ v.Agg kind elements → Aggregate kind elements ≡ seen x
  sees-Agg kind elements is =
      (λ i. Aggregate kind (record { low = elements.low; items = sym (all_itself elements.items) i }))
      ∙ seen-rolls (Value-F.Agg kind elements) ∙ ap seen (v.rolls-Agg kind elements ∙ sym is)

  pub sees-Named : (n : ℕ) (y : Value) → x ≡ v.Named n y → seen y ≡ seen x
  unfolding seen
  sees-Named n y is = seen-rolls (Value-F.Named n y) ∙ ap seen (v.rolls-Named n y ∙ sym is)

pub ruleset sees = (sees-Indet, sees-Int, sees-Dec, sees-Str, sees-Bin, sees-Log, sees-Item, sees-Inst, sees-Agg, sees-Named)

-- ---- instances

any_held : (xs : List Value) → list_any (λ b. b) (map holds_instance xs) ≡ list_any holds_instance xs
any_held [] = refl
any_held (x ∷ xs) = ap (λ b. holds_instance x || b) (any_held xs)

pub held_by_elements : (x : Value) (kind : AggregateKind) (elements : Elements Value) → x ≡ v.Agg kind elements → list_any holds_instance elements.items ≡ holds_instance x
unfolding holds_instance
held_by_elements x kind elements is =
    sym (ap holds_instance (is ∙ sym (v.rolls-Agg kind elements)) ∙ fold-roll-Value Bool instance_layer (Value-F.Agg kind elements) ∙ any_held elements.items)
