-- `Elements` as a type that may hold the type that holds it.
use Rattle.std.specs.Prelude.{ℤ, List, [], pos, Option, Some, None}
use mathlib.Core.Path.{◌≡◌, refl, sym, ap}
use mathlib.Core.Logic.{◌⊎◌, inl, inr}
use mathlib.Core.Former.{Former, this, const, pair, or, list, via, children}
use base.Stored.{code_map, gcons, coded_ℤ}
use denote.RattleType.{RattleType}
use denote.HoleLaws.{Alike}
use denote.HolePlaces.{Recodes, struct_places, enum_places, eachs, laid}
use denote.Hole.Carrier.{listed, list-listed}
use denote.Hole.Fix.{over}
use denote.Param.Weighed.{Weighed, most, List-puts}
use denote.Model.Placed.{held, view_places}
use Rattle.std.specs.contracts.option.Option as option
use Rattle.sqlite_items.specs.formers.items.Items as items_former
use Rattle.shared.specs.contracts.Shared as shared
use Rattle.shared.specs.formers.Shared as shared_former
use Rattle.rp_value.specs.Elements.{Elements}
use Rattle.rp_value.specs.Held.{elements_of}
use Rattle.rp_value.specs.declared.elements.Numbered.{Numbered}
use Rattle.rp_value.specs.contracts.elements.Numbered as numbered
use Rattle.rp_value.specs.declared.elements.Elements.TheInside.{Inside}
use Rattle.rp_value.specs.declared.elements.Elements.TheView.{view, invariant}
use Rattle.rp_value.specs.contracts.elements.Elements as C
use Rattle.rp_value.specs.contracts.elements.Elements.TheInside as I

abbrev split : {X : Type 0} → Elements X → ℤ × List X
split e = (e.low, e.items)

abbrev join : {X : Type 0} → ℤ × List X → Elements X
join v = record { low = v.0; items = v.1 }

abbrev pub the_former : Former {0} → Former {0}
the_former g = via (pair (const ℤ) (list g)) (λ X. Elements (g.Of X)) (λ X. split) (λ X. join) (λ X e. refl) (λ X v. refl)

abbrev pub the_weighed : {g : Former {0}} → Weighed g → Weighed (the_former g)
the_weighed w = record { weight = λ X μ e. most (w.weight X μ) e.items; puts = λ X μ e. List-puts w X μ e.items }

pub the_empty : Elements ⊥
the_empty = record { low = pos 1; items = [] }

abbrev pub the_items : (X : Type 0) → Elements X → List X
the_items X e = e.items

pub the_items_listed : (X : Type 0) (e : Elements X) → listed _ (children (the_former this) X e) ≡ the_items X e
the_items_listed X e = list-listed X e.items

module _ {X : Type 0} where
  abbrev split_held : Option (Numbered X) → Unit {0} ⊎ (ℤ × List X)
  split_held None = inl tt
  split_held (Some n) = inr (n.low, n.items)

  abbrev join_held : Unit {0} ⊎ (ℤ × List X) → Option (Numbered X)
  join_held (inl u) = None
  join_held (inr v) = Some (record { low = v.0; items = v.1 })

  join-split : (o : Option (Numbered X)) → join_held (split_held o) ≡ o
  join-split None = refl
  join-split (Some n) = refl

  split-join : (o : Unit {0} ⊎ (ℤ × List X)) → split_held (join_held o) ≡ o
  split-join (inl u) = refl
  split-join (inr v) = refl

abbrev blocks : Former {0}
blocks = via (or (const (Unit {0})) (pair (const ℤ) (list this))) (λ X. Option (Numbered X)) (λ X. split_held) (λ X. join_held) (λ X. join-split) (λ X. split-join)

abbrev fields : Former {0}
fields = via blocks Inside (λ X a. a.held) (λ X v. record { held = v }) (λ X a. refl) (λ X v. refl)

module _ (X : Type 0) where
  keeps : (o : Option (Numbered X)) → held (the_former this) X (elements_of o) ≡ held blocks X o
  keeps None = refl
  keeps (Some n) = refl

  module _ (Y : Type 0) (h : X → Y) where
    natural : (o : Option (Numbered X)) → elements_of (blocks.map X Y h o) ≡ (the_former this).map X Y h (elements_of o)
    natural None = refl
    natural (Some n) = refl

module _ (R S : RattleType) (h : R.Denot → S.Denot) where
  abbrev numbered_over : Numbered R.Denot → Numbered S.Denot
  numbered_over n = record { low = n.low; items = (items_former.the_former this).map R.Denot S.Denot h n.items }

  variant : (o : Option (Numbered R.Denot))
      → (option.enum (shared.the_row (numbered.the_row S))).as_values (blocks.map R.Denot S.Denot h o)
      ≡ eachs (option.enum (shared.the_row (numbered.the_row R))).parts (option.enum (shared.the_row (numbered.the_row S))).parts (tt, ((numbered_over, tt), tt)) ((option.enum (shared.the_row (numbered.the_row R))).as_values o)
  variant None = refl
  variant (Some n) = refl

  numbered_places : Alike R S h → Alike (numbered.the_row R) (numbered.the_row S) numbered_over
  numbered_places a = struct_places (numbered.the_type R) (numbered.the_type S) ((λ n. n), ((items_former.the_former this).map R.Denot S.Denot h, tt)) numbered_over (λ d. refl) refl
      ((refl, (λ n. refl, λ n. refl)), (laid _ _ _ (items_former.the_places R S h a), tt))

  block_places : Alike R S h → Alike (option.the_row (shared.the_row (numbered.the_row R))) (option.the_row (shared.the_row (numbered.the_row S))) (blocks.map R.Denot S.Denot h)
  block_places a = enum_places (option.enum (shared.the_row (numbered.the_row R))) (option.enum (shared.the_row (numbered.the_row S))) (tt, ((numbered_over, tt), tt)) (blocks.map R.Denot S.Denot h) variant refl
      (tt, ((laid _ _ _ (shared_former.the_places (numbered.the_row R) (numbered.the_row S) numbered_over (numbered_places a)), tt), tt))

  pub the_places : Alike R S h → Alike (C.the_row R) (C.the_row S) ((the_former this).map R.Denot S.Denot h)
  the_places a = view_places fields (the_former this) view (λ X Y k u. natural X Y k u.held) (λ X u. keeps X u.held) R.Denot S.Denot h (C.the_row R).coded (C.the_row S).coded
      (invariant R.Denot) (invariant S.Denot) (λ u p q. refl) (λ u p q. refl) (λ u e. tt) (λ u e. tt)
      (over (I.the_row R)) (over (I.the_row S))
      (struct_places (I.the_type R) (I.the_type S) (blocks.map R.Denot S.Denot h, tt) _ (λ d. refl) refl (laid _ _ _ (block_places a), tt))

  pub the_codes_placed : Recodes R S h → Recodes (C.the_row R) (C.the_row S) ((the_former this).map R.Denot S.Denot h)
  the_codes_placed e d = ap (gcons (coded_ℤ.code d.low)) (sym (code_map R.coded.code S.coded.code h (λ x. sym (e x)) d.items))
