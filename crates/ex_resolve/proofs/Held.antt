-- No type of a schema that is accepted holds itself but through an entity.
use Rattle.std.proofs.Common.{◌≡◌, ℕ, suc, Bool, true, false, if◌then◌else◌, List, [], ◌∷◌, ◌++◌, map, length, Option, Some, None, Ok, refl, sym, ap, subst, ◌∙◌}
use Rattle.std.proofs.lemmas.List.{length-map}
use Rattle.std.specs.List.{cons_option, flat_map, list_any}
use Rattle.ex_tree.specs.declared.expression.Name.{Name}
use Rattle.ex_tree.specs.declared.data_type.DataType.{DataType, roll-DataType, map-DataType}
use Rattle.ex_tree.specs.declared.data_type.DataType.TheFolds.{fold-roll-DataType, fold_out-DataType, ind-DataType}
use Rattle.ex_tree.specs.declared.data_type.DataType.TheOpen.{DataType-F}
use Rattle.ex_tree.specs.declared.data_type.DataType.TheViews.{out-DataType}
use Rattle.ex_tree.specs.declared.data_type.ArrayBounds.{ArrayBounds}
use Rattle.ex_tree.specs.declared.data_type.Bounds.{Bounds}
use Rattle.ex_tree.specs.declared.data_type.SimpleType.{SimpleType}
use Rattle.ex_tree.specs.declared.declaration.Schema.{Schema}
use Rattle.ex_tree.specs.declared.declaration.TypeDeclaration.{TypeDeclaration}
use Rattle.ex_tree.specs.declared.declaration.UnderlyingType.{UnderlyingType}
use Rattle.ex_tree.specs.declared.declaration.UnderlyingType.TheVariants as u
use Rattle.ex_named.specs.declared.declaration.NamedSchema.{NamedSchema}
use Rattle.ex_named.specs.declared.declaration.NamedType.{NamedType}
use Rattle.ex_named.specs.declared.declaration.NamedUnderlying.{NamedUnderlying}
use Rattle.ex_named.specs.declared.declaration.NamedUnderlying.TheVariants as nu
use Rattle.ex_named.specs.declared.expression.NamedDataType.{NamedDataType}
use Rattle.ex_named.specs.declared.expression.NamedDataType.TheFolds.{fold-roll-NamedDataType}
use Rattle.ex_named.specs.declared.expression.NamedDataType.TheOpen.{NamedDataType-F}
use Rattle.ex_named.specs.declared.expression.NamedDataType.TheVariants as nd
use Rattle.ex_named.specs.declared.fault.NameFaultKind.TheVariants.{CyclicType}
use Rattle.ex_named.specs.declared.reference.Declared.{Declared}
use Rattle.ex_named.specs.declared.reference.Declared.TheVariants as d
use Rattle.ex_named.specs.declared.reference.TypeName.{TypeName}
use Rattle.ex_named.specs.declared.reference.TypeName.TheVariants as t
use Rattle.ex_named.specs.DataTypes.{data_type, data_type_layer}
use Rattle.ex_named.specs.Outcomes.{Outcome, given, each, refused}
use Rattle.ex_named.specs.Scopes.{Declarations, and_then, as_defined, as_type, declared, or_undeclared, type_name}
use Rattle.graphs.specs.Graphs.{IsAcyclic, is_ancestor, numbers_from}
use Rattle.graphs.proofs.Marks.{acyclic_from_marks}
use Rattle.ex_declarations.specs.Declared as tree
use Rattle.ex_declarations.specs.Declared.{declarations, named_in, named_in_layer, type_graph, type_named, types}
use Rattle.ex_bind_entities.specs.Entities.{named_type, renamed, underlying, underlying_data}
use Rattle.ex_resolve.proofs.Wholes.{given_ok, both_ok, Gave, each_ok, meant}
use Rattle.ex_resolve.proofs.Accepted.{GaveNumbered, each_numbered_ok, gave_map, Parts}
use Rattle.ex_resolve.specs.Proved.{held_by, held_in, held_in_layer, held_types, type_of_name}
use Rattle.ex_resolve.specs.Schemas.{named_types}

-- ---- what a type holds, variant by variant

held_named : (x : TypeName) → held_in (nd.Named x) ≡ type_of_name x
unfolding held_in
held_named x = ap held_in (sym (nd.rolls-Named x)) ∙ fold-roll-NamedDataType (List ℕ) held_in_layer (NamedDataType-F.Named x)

module _ (schema : Declarations) where
  -- ---- names of types

  by_declared : (o : Option Declared) (x : TypeName) → and_then o (as_type schema) ≡ Some x → type_of_name x ≡ cons_option (and_then o (as_defined schema)) []
  by_declared None x h = absurd cc
  by_declared (Some (d.Entity j)) x h = let e : t.Entity j ≡ x = cc in ap type_of_name (sym e)
  by_declared (Some (d.Type j)) x h = let e : t.Defined j ≡ x = cc in ap type_of_name (sym e)
  by_declared (Some (d.Constant j)) x h = absurd cc
  by_declared (Some (d.Function j)) x h = absurd cc
  by_declared (Some (d.Rule j)) x h = absurd cc

  name_held : (n : Name) (x : TypeName) → type_name schema n ≡ Ok x → type_of_name x ≡ type_named schema n
  name_held n x h = by_declared (declared schema n.text) x (meant n _ x h)

  selected : (ns : List Name) (xs : List TypeName) → Gave (type_name schema) ns xs → flat_map type_of_name xs ≡ flat_map (type_named schema) ns
  selected [] [] h = refl
  selected [] (x ∷ xs) h = absurd h
  selected (n ∷ ns) [] h = absurd h
  selected (n ∷ ns) (x ∷ xs) h = ap (λ l. l ++ flat_map type_of_name xs) (name_held n x h.0) ∙ ap (λ l. type_named schema n ++ l) (selected ns xs h.1)

  -- ---- types of attributes

  abbrev HoldsSame : DataType → Type 0
  HoldsSame x = (y : NamedDataType) → data_type schema x ≡ Ok y → held_in y ≡ named_in schema x

  -- a type that holds what its element's type holds
  wrapped : (z : DataType) (make : NamedDataType → NamedDataType) → ((e : NamedDataType) → held_in (make e) ≡ held_in e) → (x : DataType) → HoldsSame x
      → data_type schema z ≡ given make (data_type schema x) → named_in schema z ≡ named_in schema x → HoldsSame z
  wrapped z make same x holds bound named y h =
      let found = given_ok make (data_type schema x) y (sym bound ∙ h) in
      ap held_in (sym found.1.1) ∙ same found.0 ∙ holds found.0 found.1.0 ∙ sym named

  simple_same : (simple : SimpleType) → HoldsSame (roll-DataType (DataType-F.Simple simple))
  unfolding data_type named_in held_in
  simple_same simple y h =
      let bound : data_type schema (roll-DataType (DataType-F.Simple simple)) ≡ Ok (nd.Simple simple) = fold-roll-DataType (Outcome NamedDataType) (data_type_layer schema) (DataType-F.Simple simple) in
      let e : nd.Simple simple ≡ y = cc in
      ap held_in (sym e) ∙ ap held_in (sym (nd.rolls-Simple simple)) ∙ fold-roll-NamedDataType (List ℕ) held_in_layer (NamedDataType-F.Simple simple)
      ∙ sym (fold-roll-DataType (List ℕ) (named_in_layer schema) (DataType-F.Simple simple))

  generic_same : HoldsSame (roll-DataType DataType-F.Generic)
  unfolding data_type named_in held_in
  generic_same y h =
      let bound : data_type schema (roll-DataType DataType-F.Generic) ≡ Ok nd.Generic = fold-roll-DataType (Outcome NamedDataType) (data_type_layer schema) DataType-F.Generic in
      let e : nd.Generic ≡ y = cc in
      ap held_in (sym e) ∙ ap held_in (sym nd.rolls-Generic) ∙ fold-roll-NamedDataType (List ℕ) held_in_layer NamedDataType-F.Generic
      ∙ sym (fold-roll-DataType (List ℕ) (named_in_layer schema) DataType-F.Generic)

  named_same : (n : Name) → HoldsSame (roll-DataType (DataType-F.Named n))
  unfolding data_type named_in
  named_same n y h =
      let bound : data_type schema (roll-DataType (DataType-F.Named n)) ≡ given nd.Named (type_name schema n) = fold-roll-DataType (Outcome NamedDataType) (data_type_layer schema) (DataType-F.Named n) in
      let found = given_ok nd.Named (type_name schema n) y (sym bound ∙ h) in
      ap held_in (sym found.1.1) ∙ held_named found.0 ∙ name_held n found.0 found.1.0
      ∙ sym (fold-roll-DataType (List ℕ) (named_in_layer schema) (DataType-F.Named n))

  array_same : (bounds : ArrayBounds) (optional unique : Bool) (x : DataType) → HoldsSame x → HoldsSame (roll-DataType (DataType-F.Array bounds optional unique x))
  unfolding data_type named_in held_in
  array_same bounds optional unique x holds = wrapped (roll-DataType (DataType-F.Array bounds optional unique x)) (nd.Array bounds optional unique)
      (λ e. ap held_in (sym (nd.rolls-Array bounds optional unique e)) ∙ fold-roll-NamedDataType (List ℕ) held_in_layer (NamedDataType-F.Array bounds optional unique e)) x holds
      (fold-roll-DataType (Outcome NamedDataType) (data_type_layer schema) (DataType-F.Array bounds optional unique x))
      (fold-roll-DataType (List ℕ) (named_in_layer schema) (DataType-F.Array bounds optional unique x))

  list_same : (bounds : Bounds) (unique : Bool) (x : DataType) → HoldsSame x → HoldsSame (roll-DataType (DataType-F.List bounds unique x))
  unfolding data_type named_in held_in
  list_same bounds unique x holds = wrapped (roll-DataType (DataType-F.List bounds unique x)) (nd.List bounds unique)
      (λ e. ap held_in (sym (nd.rolls-List bounds unique e)) ∙ fold-roll-NamedDataType (List ℕ) held_in_layer (NamedDataType-F.List bounds unique e)) x holds
      (fold-roll-DataType (Outcome NamedDataType) (data_type_layer schema) (DataType-F.List bounds unique x))
      (fold-roll-DataType (List ℕ) (named_in_layer schema) (DataType-F.List bounds unique x))

  bag_same : (bounds : Bounds) (x : DataType) → HoldsSame x → HoldsSame (roll-DataType (DataType-F.Bag bounds x))
  unfolding data_type named_in held_in
  bag_same bounds x holds = wrapped (roll-DataType (DataType-F.Bag bounds x)) (nd.Bag bounds)
      (λ e. ap held_in (sym (nd.rolls-Bag bounds e)) ∙ fold-roll-NamedDataType (List ℕ) held_in_layer (NamedDataType-F.Bag bounds e)) x holds
      (fold-roll-DataType (Outcome NamedDataType) (data_type_layer schema) (DataType-F.Bag bounds x))
      (fold-roll-DataType (List ℕ) (named_in_layer schema) (DataType-F.Bag bounds x))

  set_same : (bounds : Bounds) (x : DataType) → HoldsSame x → HoldsSame (roll-DataType (DataType-F.Set bounds x))
  unfolding data_type named_in held_in
  set_same bounds x holds = wrapped (roll-DataType (DataType-F.Set bounds x)) (nd.Set bounds)
      (λ e. ap held_in (sym (nd.rolls-Set bounds e)) ∙ fold-roll-NamedDataType (List ℕ) held_in_layer (NamedDataType-F.Set bounds e)) x holds
      (fold-roll-DataType (Outcome NamedDataType) (data_type_layer schema) (DataType-F.Set bounds x))
      (fold-roll-DataType (List ℕ) (named_in_layer schema) (DataType-F.Set bounds x))

  aggregate_same : (x : DataType) → HoldsSame x → HoldsSame (roll-DataType (DataType-F.Aggregate x))
  unfolding data_type named_in held_in
  aggregate_same x holds = wrapped (roll-DataType (DataType-F.Aggregate x)) nd.Aggregate
      (λ e. ap held_in (sym (nd.rolls-Aggregate e)) ∙ fold-roll-NamedDataType (List ℕ) held_in_layer (NamedDataType-F.Aggregate e)) x holds
      (fold-roll-DataType (Outcome NamedDataType) (data_type_layer schema) (DataType-F.Aggregate x))
      (fold-roll-DataType (List ℕ) (named_in_layer schema) (DataType-F.Aggregate x))

  abbrev Proved : Type 0
  Proved = (x : DataType) × HoldsSame x

  -- one layer, given what takes the proofs away
  layer_same : (m : DataType-F Proved → DataType-F DataType)
      → ((s : SimpleType) → m (DataType-F.Simple s) ≡ DataType-F.Simple s) → ((n : Name) → m (DataType-F.Named n) ≡ DataType-F.Named n)
      → ((b : ArrayBounds) (o u : Bool) (e : Proved) → m (DataType-F.Array b o u e) ≡ DataType-F.Array b o u e.0)
      → ((b : Bounds) (u : Bool) (e : Proved) → m (DataType-F.List b u e) ≡ DataType-F.List b u e.0)
      → ((b : Bounds) (e : Proved) → m (DataType-F.Bag b e) ≡ DataType-F.Bag b e.0) → ((b : Bounds) (e : Proved) → m (DataType-F.Set b e) ≡ DataType-F.Set b e.0)
      → ((e : Proved) → m (DataType-F.Aggregate e) ≡ DataType-F.Aggregate e.0) → m DataType-F.Generic ≡ DataType-F.Generic
      → (x : DataType-F DataType) (y : DataType-F Proved) → m y ≡ x → HoldsSame (roll-DataType x)
  layer_same m simple named array list bag set aggregate generic x (DataType-F.Simple s) is = subst (λ z. HoldsSame (roll-DataType z)) (sym (simple s) ∙ is) (simple_same s)
  layer_same m simple named array list bag set aggregate generic x (DataType-F.Named n) is = subst (λ z. HoldsSame (roll-DataType z)) (sym (named n) ∙ is) (named_same n)
  layer_same m simple named array list bag set aggregate generic x (DataType-F.Array b o u e) is = subst (λ z. HoldsSame (roll-DataType z)) (sym (array b o u e) ∙ is) (array_same b o u e.0 e.1)
  layer_same m simple named array list bag set aggregate generic x (DataType-F.List b u e) is = subst (λ z. HoldsSame (roll-DataType z)) (sym (list b u e) ∙ is) (list_same b u e.0 e.1)
  layer_same m simple named array list bag set aggregate generic x (DataType-F.Bag b e) is = subst (λ z. HoldsSame (roll-DataType z)) (sym (bag b e) ∙ is) (bag_same b e.0 e.1)
  layer_same m simple named array list bag set aggregate generic x (DataType-F.Set b e) is = subst (λ z. HoldsSame (roll-DataType z)) (sym (set b e) ∙ is) (set_same b e.0 e.1)
  layer_same m simple named array list bag set aggregate generic x (DataType-F.Aggregate e) is = subst (λ z. HoldsSame (roll-DataType z)) (sym (aggregate e) ∙ is) (aggregate_same e.0 e.1)
  layer_same m simple named array list bag set aggregate generic x DataType-F.Generic is = subst (λ z. HoldsSame (roll-DataType z)) (sym generic ∙ is) generic_same

  holds_same : (x : DataType) → HoldsSame x
  holds_same = ind-DataType HoldsSame (λ x y is. layer_same (map-DataType Proved DataType (λ p. p.0)) (λ s. refl) (λ n. refl) (λ b o u e. refl) (λ b u e. refl) (λ b e. refl) (λ b e. refl) (λ e. refl) refl x y is)

  -- ---- what a declaration holds

  renamed_same : (graph : List (List ℕ)) (n : Name) (y : NamedDataType) → renamed schema graph n ≡ Ok y → held_in y ≡ type_named schema n
  renamed_same graph n y h =
      let found = given_ok (λ k. nd.Named (t.Defined k)) (or_undeclared n (and_then (declared schema n.text) (as_defined schema))) y h in
      let is = meant n (and_then (declared schema n.text) (as_defined schema)) found.0 found.1.0 in
      ap held_in (sym found.1.1) ∙ held_named (t.Defined found.0) ∙ ap (λ o. cons_option o []) (sym is)

  data_same : (graph : List (List ℕ)) (o : DataType-F DataType) (x : DataType) → out-DataType x ≡ o → (y : NamedDataType)
      → (elim o as (λ v. Outcome NamedDataType) [ DataType-F.Named n ↦ renamed schema graph n | _ ↦ data_type schema x ]) ≡ Ok y → held_in y ≡ named_in schema x
  unfolding named_in
  data_same graph (DataType-F.Named n) x is y h =
      let named = rw is at (fold_out-DataType (List ℕ) (named_in_layer schema) x) in
      renamed_same graph n y h ∙ sym named
  data_same graph (DataType-F.Simple s) x is y h = holds_same x y h
  data_same graph (DataType-F.Array b o u e) x is y h = holds_same x y h
  data_same graph (DataType-F.List b u e) x is y h = holds_same x y h
  data_same graph (DataType-F.Bag b e) x is y h = holds_same x y h
  data_same graph (DataType-F.Set b e) x is y h = holds_same x y h
  data_same graph (DataType-F.Aggregate e) x is y h = holds_same x y h
  data_same graph DataType-F.Generic x is y h = holds_same x y h

  underlying_same : (graph : List (List ℕ)) (x : UnderlyingType) (y : NamedUnderlying) → underlying schema graph x ≡ Ok y → held_by y ≡ tree.held_types schema x
  unfolding underlying
  underlying_same graph (u.Enumeration names) y h = let found = given_ok _ _ y h in ap held_by (sym found.1.1)
  underlying_same graph (u.Select names) y h =
      let found = given_ok nu.Select (each (type_name schema) names) y h in
      ap held_by (sym found.1.1) ∙ selected names found.0 (each_ok (type_name schema) names found.0 found.1.0)
  underlying_same graph (u.Data x) y h =
      let found = given_ok nu.Data (underlying_data schema graph x) y h in
      ap held_by (sym found.1.1) ∙ data_same graph (out-DataType x) x refl found.0 found.1.0

accepted_if : (b : Bool) (at : ℕ) (x : Unit {0}) → (if b then refused CyclicType at else Ok (tt {0})) ≡ Ok x → b ≡ false
accepted_if true at x h = absurd cc
accepted_if false at x h = refl

module _ (schema : Declarations) (graph held : List (List ℕ)) where
  not_cyclic_of : (k : ℕ) (x : TypeDeclaration) (y : NamedType) → named_type schema graph held k x ≡ Ok y → is_ancestor held k k ≡ false
  unfolding named_type
  not_cyclic_of k x y h =
      let whole = given_ok _ _ y h in
      let parts = both_ok _ _ whole.0 whole.1.0 in
      let pair = given_ok _ _ whole.0.0 parts.0 in
      accepted_if (is_ancestor held k k) x.name.at _ (both_ok _ _ pair.0 pair.1.0).0

  none_cyclic : (k : ℕ) (xs : List TypeDeclaration) (ys : List NamedType) → GaveNumbered (named_type schema graph held) k xs ys
      → list_any (λ b. b) (map (λ n. is_ancestor held n n) (numbers_from k (length xs))) ≡ false
  none_cyclic k [] ys h = refl
  none_cyclic k (x ∷ xs) [] h = absurd h
  none_cyclic k (x ∷ xs) (y ∷ ys) h = rw (not_cyclic_of k x y h.0) (none_cyclic (suc k) xs ys h.1)

  held_same : (k : ℕ) (x : TypeDeclaration) (y : NamedType) → named_type schema graph held k x ≡ Ok y → held_by y.underlying ≡ tree.held_types schema x.underlying
  unfolding named_type
  held_same k x y h =
      let whole = given_ok _ _ y h in
      let parts = both_ok _ _ whole.0 whole.1.0 in
      let body = both_ok _ _ whole.0.1 parts.1 in
      ap (λ z. held_by z.underlying) (sym whole.1.1) ∙ underlying_same schema graph x.underlying whole.0.1.0 body.0

pub no_type_holds_itself : (t : Schema) (found : NamedSchema) → Parts t found → IsAcyclic (held_types found.types)
unfolding named_types held_types type_graph
no_type_holds_itself t found parts =
    let schema = declarations t in
    let graph = type_graph schema (types t) in
    let gave = each_numbered_ok (named_type schema [] graph) (types t) found.types parts.types in
    let size : length graph ≡ length (types t) = length-map (types t) _ in
    let acyclic : IsAcyclic graph = acyclic_from_marks graph (map (λ k. is_ancestor graph k k) (numbers_from 0 (length graph))) (λ b. b) refl refl
    (ap (λ n. list_any (λ b. b) (map (λ k. is_ancestor graph k k) (numbers_from 0 n))) size ∙ none_cyclic schema [] graph 0 (types t) found.types gave) in
    subst IsAcyclic (sym (gave_map (named_type schema [] graph) (λ x. held_by x.underlying) (λ x. tree.held_types schema x.underlying) (held_same schema [] graph) 0 (types t) found.types gave)) acyclic
