-- What values mean by their form.
use Rattle.std.proofs.Common.{◌≡◌, ℕ, List, None, Some, ◌⊎◌, inl, inr, refl, sym, ◌∙◌, ap}
use Rattle.ex_named.specs.declared.declaration.NamedType.{NamedType}
use Rattle.p21_tree.specs.declared.value.Value as tree
use Rattle.p21_tree.specs.declared.value.Value.TheFolds as trees
use Rattle.p21_tree.specs.declared.value.Value.TheOpen.{Value-F}
use Rattle.p21_tree.specs.declared.value.Value.TheVariants as t
use Rattle.p21_tree.specs.declared.value.Value.TheViews as views
use Rattle.rp_value.specs.declared.value.Value.TheVariants as v
use Rattle.ex_selects.specs.Ends.{Target}
use Rattle.p21_values.specs.Taking.{Meaning, bare_at, layer, meaning, named, place, reference}
use Rattle.ex_selects.specs.declared.levels.Level.{Level}
use Rattle.p21_values.specs.Deciding.{alone, alone_by, rows, rows_by, rows_of_list}

-- it holds no others, and is no reference
pub record IsToken (x : tree.Value) : Type 0 where
  pub unset : x ≡ t.Unset → ⊥
  pub derived : x ≡ t.Derived → ⊥
  pub reference : (name : ℕ) → x ≡ t.Reference name → ⊥
  pub list : (xs : List tree.Value) → x ≡ t.List xs → ⊥
  pub typed : (keyword : List ℕ) (y : tree.Value) → x ≡ t.Typed keyword y → ⊥

module _ (types : List NamedType) where
  -- what a value of this form means
  abbrev means : Value-F tree.Value → Meaning
  means f = layer types (trees.map-Value tree.Value Meaning (meaning types) f)

  meant : (x : tree.Value) (f : Value-F tree.Value) → x ≡ views.roll-Value f → meaning types x ≡ means f
  unfolding meaning
  meant x f is = ap (meaning types) is ∙ trees.fold-roll-Value Meaning (layer types) f

  pub unset_placed : (x : tree.Value) (to : Target) → x ≡ t.Unset → Some v.Indet ≡ place (meaning types x) to
  unset_placed x to is = sym (ap (λ m. place m to) (meant x Value-F.Unset (is ∙ sym t.rolls-Unset)))

  pub nothing_fits : (x : tree.Value) (to : Target) → (x ≡ t.Unset) ⊎ (x ≡ t.Derived) → None ≡ (meaning types x).fit to
  nothing_fits x to (inl is) = sym (ap (λ m. m.fit to) (meant x Value-F.Unset (is ∙ sym t.rolls-Unset)))
  nothing_fits x to (inr is) = sym (ap (λ m. m.fit to) (meant x Value-F.Derived (is ∙ sym t.rolls-Derived)))

  pub reference_meaning : (x : tree.Value) (name : ℕ) → x ≡ t.Reference name → reference types name ≡ meaning types x
  reference_meaning x name is = sym (meant x (Value-F.Reference name) (is ∙ sym (t.rolls-Reference name)))

  pub typed_meaning : (x : tree.Value) (keyword : List ℕ) (y : tree.Value) → x ≡ t.Typed keyword y → named types keyword (meaning types y) ≡ meaning types x
  typed_meaning x keyword y is = sym (meant x (Value-F.Typed keyword y) (is ∙ sym (t.rolls-Typed keyword y)))

  alone_means : (x : tree.Value) (f : Value-F tree.Value) → x ≡ views.roll-Value f → alone types x ≡ alone_by types f (means f).plain
  alone_means x f is =
      ap (λ g. alone_by types g (meaning types x).plain) (ap tree.out-Value is ∙ views.out-roll-Value f) ∙ ap (λ m. alone_by types f m.plain) (meant x f is)

  token_means : (x : tree.Value) (f : Value-F tree.Value) → x ≡ views.roll-Value f → IsToken x → (to : Target)
      → (bare_at types (alone_by types f (means f).plain) to.base ≡ (means f).fit to) × (bare_at types (alone_by types f (means f).plain) to.base ≡ place (means f) to)
  token_means x Value-F.Unset is token to = absurd (token.unset (is ∙ t.rolls-Unset))
  token_means x Value-F.Derived is token to = absurd (token.derived (is ∙ t.rolls-Derived))
  token_means x (Value-F.Integer text) is token to = (refl, refl)
  token_means x (Value-F.Real text) is token to = (refl, refl)
  token_means x (Value-F.Text text) is token to = (refl, refl)
  token_means x (Value-F.Item text) is token to = (refl, refl)
  token_means x (Value-F.Binary text) is token to = (refl, refl)
  token_means x (Value-F.Reference name) is token to = absurd (token.reference name (is ∙ t.rolls-Reference name))
  token_means x (Value-F.List xs) is token to = absurd (token.list xs (is ∙ t.rolls-List xs))
  token_means x (Value-F.Typed keyword y) is token to = absurd (token.typed keyword y (is ∙ t.rolls-Typed keyword y))

  pub token_fits : (x : tree.Value) (to : Target) → IsToken x → bare_at types (alone types x) to.base ≡ (meaning types x).fit to
  token_fits x to token =
      let f = tree.out-Value x in
      let is = sym (views.roll-out-Value x) in
      ap (λ g. bare_at types g to.base) (alone_means x f is) ∙ (token_means x f is token to).0 ∙ sym (ap (λ m. m.fit to) (meant x f is))

  pub token_placed : (x : tree.Value) (to : Target) → IsToken x → bare_at types (alone types x) to.base ≡ place (meaning types x) to
  token_placed x to token =
      let f = tree.out-Value x in
      let is = sym (views.roll-out-Value x) in
      ap (λ g. bare_at types g to.base) (alone_means x f is) ∙ (token_means x f is token to).1 ∙ sym (ap (λ m. place m to) (meant x f is))

  held_means : (x : tree.Value) (f : Value-F tree.Value) → x ≡ views.roll-Value f → (x ≡ t.Unset → ⊥) → (to : Target) → place (means f) to ≡ (means f).fit to
  held_means x Value-F.Unset is held to = absurd (held (is ∙ t.rolls-Unset))
  held_means x Value-F.Derived is held to = refl
  held_means x (Value-F.Integer text) is held to = refl
  held_means x (Value-F.Real text) is held to = refl
  held_means x (Value-F.Text text) is held to = refl
  held_means x (Value-F.Item text) is held to = refl
  held_means x (Value-F.Binary text) is held to = refl
  held_means x (Value-F.Reference name) is held to = refl
  held_means x (Value-F.List xs) is held to = refl
  held_means x (Value-F.Typed keyword y) is held to = refl

  pub held_placed : (x : tree.Value) (to : Target) → (x ≡ t.Unset → ⊥) → place (meaning types x) to ≡ (meaning types x).fit to
  held_placed x to held =
      let f = tree.out-Value x in
      let is = sym (views.roll-out-Value x) in
      ap (λ m. place m to) (meant x f is) ∙ held_means x f is held to ∙ sym (ap (λ m. m.fit to) (meant x f is))

  pub list_rows : (levels : List Level) (x : tree.Value) (xs : List tree.Value) → x ≡ t.List xs → rows_of_list types levels xs ≡ rows types levels x
  list_rows levels x xs is =
      sym (ap (λ f. rows_by f (rows_of_list types levels)) (ap tree.out-Value (is ∙ sym (t.rolls-List xs)) ∙ views.out-roll-Value (Value-F.List xs)))
