-- A value beside what is made of it is the value itself.
use Rattle.std.proofs.Common.{◌≡◌, List, [], ◌∷◌, map, refl, ◌∙◌, ap, subst}
use Rattle.rp_value.specs.declared.value.Value.{Value}
use Rattle.rp_value.specs.declared.value.Value.TheFolds.{fold-Value, fold-roll-Value, ind-Value, map-Value}
use Rattle.rp_value.specs.declared.value.Value.TheOpen.{Value-F}
use Rattle.rp_value.specs.declared.value.Value.TheViews.{roll-Value}

module _ {B : Type 0} (kept : B → Value) (with : Value-F B → B) (keeps : (y : Value-F B) → kept (with y) ≡ roll-Value (map-Value B Value kept y)) where
  abbrev both : Value → B
  both = fold-Value B with

  abbrev IsItself : Value → Type 0
  IsItself x = kept (both x) ≡ x

  abbrev Kept : Type 0
  Kept = (x : Value) × IsItself x

  each_itself : (ps : List Kept) → map kept (map both (map (λ p. p.0) ps)) ≡ map (λ p. p.0) ps
  each_itself [] = refl
  each_itself (p ∷ ps) = λ i. p.1 i ∷ each_itself ps i

  layer_itself : (y : Value-F Kept) → map-Value B Value kept (map-Value Value B both (map-Value Kept Value (λ p. p.0) y)) ≡ map-Value Kept Value (λ p. p.0) y
  layer_itself Value-F.Indet = refl
  layer_itself (Value-F.Int n) = refl
  layer_itself (Value-F.Dec d) = refl
  layer_itself (Value-F.Str text) = refl
  layer_itself (Value-F.Bin bits) = refl
  layer_itself (Value-F.Log x) = refl
  layer_itself (Value-F.Item n place) = refl
  layer_itself (Value-F.Inst name) = refl
  layer_itself (Value-F.Agg kind elements) = λ i. Value-F.Agg kind (record { low = elements.low; items = each_itself elements.items i })
  layer_itself (Value-F.Named n p) = λ i. Value-F.Named n (p.1 i)

  pub itself : (x : Value) → IsItself x
  itself = ind-Value IsItself (λ x y is.
      ap kept (fold-roll-Value B with x)
      ∙ keeps (map-Value Value B both x)
      ∙ ap roll-Value (subst (λ z. map-Value B Value kept (map-Value Value B both z) ≡ z) is (layer_itself y)))

  pub all_itself : (xs : List Value) → map kept (map both xs) ≡ xs
  all_itself [] = refl
  all_itself (x ∷ xs) = λ i. itself x i ∷ all_itself xs i
