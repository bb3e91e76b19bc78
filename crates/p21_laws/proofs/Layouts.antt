-- The layout of an instance is that of the set of its entities.
use Rattle.std.proofs.Common.{◌≡◌, ℕ, suc, Bool, true, false, not, if◌then◌else◌, List, [], length, find, Option, Some, None, is_some, unwrap_or, refl, sym, ◌∙◌, ap, subst}
use Rattle.std.specs.List.{flat_map, list_all, list_any}
use Rattle.std.specs.Option.{option_map}
use Rattle.plain_data.specs.Numbers.{is_among}
use Rattle.ex_named.specs.declared.declaration.NamedEntity.{NamedEntity}
use Rattle.ex_slots.specs.Slots.{derived_by, is_derived, is_explicit_at}
use Rattle.ex_subtypes.specs.Legal.{graph, is_closed, refusal}
use Rattle.ex_subtypes.specs.declared.legal.Illegal.{Illegal}
use Rattle.ex_subtypes.specs.declared.legal.Illegal.TheVariants.{NotClosed}
use Rattle.ex_types.specs.Checked.{Checked}
use Rattle.graphs.proofs.Certain.{each_passes}
use Rattle.graphs.proofs.Rises.{Closed, line_within_closed}
use Rattle.graphs.specs.Graphs.{each_once, line_within, supertypes}
use Rattle.ex_layouts.specs.Entities.{ascending, is_legal, line_of}
use Rattle.ex_layouts.specs.Layouts.{leaf}
use Rattle.p21_laws.proofs.Sets.{AreSame, all_same, any_flat, any_same, found, in_once, in_selected, none_same, selected_same}
use Rattle.p21_laws.specs.Schemas.{IsAccepted}

ascending_same : (ns ms : List ℕ) → AreSame ns ms → ascending ns ≡ ascending ms
unfolding ascending
ascending_same ns ms same = selected_same ns ms same

in_ascending : (ns : List ℕ) → AreSame (ascending ns) ns
unfolding ascending
in_ascending ns = in_selected ns

-- what no refusal says of its first test
not_refused : (test : Bool) (others : Option Illegal) → not (is_some (if not test then Some NotClosed else others)) ≡ true → test ≡ true
not_refused true others e = refl
not_refused false others e = cc

closed_set : (entities : List NamedEntity) (set : List ℕ) → not (is_some (refusal entities set)) ≡ true → is_closed (graph entities) set ≡ true
unfolding refusal
closed_set entities set e = not_refused (is_closed (graph entities) set) _ e

module _ (schema : Checked) where
  abbrev entities : List NamedEntity
  entities = schema.named.schema.entities

  -- which places these entities redeclare in DERIVE
  abbrev pub derived_among : List ℕ → ℕ → ℕ → Bool
  derived_among ns = is_derived (flat_map (derived_by entities) ns)

  pub derived_same : (ns ms : List ℕ) → AreSame ns ms → derived_among ns ≡ derived_among ms
  derived_same ns ms same = λ i entity place.
      (any_flat (is_explicit_at entity place) (derived_by entities) ns
      ∙ any_same (λ n. list_any (is_explicit_at entity place) (derived_by entities n)) ns ms same
      ∙ sym (any_flat (is_explicit_at entity place) (derived_by entities) ms)) i

  pub legal_same : (ns ms : List ℕ) → AreSame ns ms → is_legal schema ns ≡ is_legal schema ms
  legal_same ns ms same = ap (λ set. not (is_some (refusal entities set))) (ascending_same ns ms same)

  -- ---- the leaf

  abbrev is_over : List ℕ → ℕ → Bool
  is_over ns entity = list_all (is_among (line_of schema entity)) ns

  pub leaf_is : (ns : List ℕ) (entity : ℕ) → leaf schema ns ≡ Some entity → (is_among ns entity ≡ true) × (list_all (is_among (line_of schema entity)) ns ≡ true)
  unfolding leaf
  leaf_is ns entity e = found (is_over ns) ns entity e

  pub no_leaf_same : (ns ms : List ℕ) → AreSame ns ms → leaf schema ns ≡ None → leaf schema ms ≡ None
  unfolding leaf
  no_leaf_same ns ms same none =
      ap (λ p. find p ms) (λ i entity. all_same (is_among (line_of schema entity)) ms ns (λ n. sym (same n)) i) ∙ none_same (is_over ns) ns ms same none

  -- ---- the entities above a leaf

  closed_legal : (ns : List ℕ) → is_legal schema ns ≡ true → Closed (graph entities) ns
  closed_legal ns legal m a there above =
      let set = closed_set entities (ascending ns) legal in
      let each = each_passes (λ e. list_all (is_among (ascending ns)) (supertypes (graph entities) e)) (ascending ns) set m (in_ascending ns m ∙ there) in
      sym (in_ascending ns a) ∙ each_passes (is_among (ascending ns)) (supertypes (graph entities) m) each a above

  in_lines : (ns : List ℕ) (g : List (List ℕ)) (entity n : ℕ) (o : Option (List ℕ)) → line_within (suc (length g)) g entity ≡ o → Closed g ns → is_among ns entity ≡ true
      → is_among (unwrap_or (option_map each_once o) []) n ≡ true → is_among ns n ≡ true
  in_lines ns g entity n None is closed there e = cc
  in_lines ns g entity n (Some l) is closed there e = line_within_closed g ns closed (suc (length g)) entity l is there n (in_once l n e)

  pub line_same : IsAccepted schema.named → (ns : List ℕ) (entity : ℕ) → is_legal schema ns ≡ true → leaf schema ns ≡ Some entity → AreSame ns (line_of schema entity)
  line_same accepted ns entity legal is n =
      let at = leaf_is ns entity is in
      let closed : Closed schema.named.supertypes ns = subst (λ g. Closed g ns) (sym accepted.graph) (closed_legal ns legal) in
      both_ways (is_among ns n) (is_among (line_of schema entity) n)
      (λ there. each_passes (is_among (line_of schema entity)) ns at.1 n there)
      (λ there. in_lines ns schema.named.supertypes entity n (line_within (suc (length schema.named.supertypes)) schema.named.supertypes entity) refl closed at.0 there)
    where
      both_ways : (a b : Bool) → (a ≡ true → b ≡ true) → (b ≡ true → a ≡ true) → a ≡ b
      both_ways true b to from = sym (to refl)
      both_ways false true to from = from refl
      both_ways false false to from = refl
