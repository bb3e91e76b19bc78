-- Instances of one layout have the same attributes.
use Rattle.std.proofs.Common.{◌≡◌, ℕ, zero, suc, ◌+◌, Bool, false, List, [], ◌∷◌, ◌++◌, map, length, length-append, take, Option, Some, None, slice_get, slice_set, refl, sym, ap, ◌∙◌, subst, arith}
use Rattle.std.proofs.lemmas.List.{length-set}
use Rattle.std.proofs.lemmas.Option.{slice_get-map}
use Rattle.std.specs.Option.{option_map, option_map_or}
use Rattle.ex_named.specs.declared.reference.AttributePlace.{AttributePlace}
use Rattle.rp_meaning.specs.declared.domain.ReadValue.{ReadValue}
use Rattle.rp_meaning.specs.declared.schema.Schema.{Schema}
use Rattle.rp_meaning.specs.Populations.{Instance, Stored, as_read, stored}
use Rattle.rp_rules.specs.declared.layouts.Layouts.{Layouts}
use Rattle.rp_rules.specs.declared.types.Walk.{Walk}
use Rattle.rp_rules.specs.Layouts.{Keeps, Lays, attributes_at, layout_at}
use Rattle.rp_rules.specs.Plan.{Tells, may_have_any, no_plan}
use Rattle.rp_rules.specs.Walks.{Leads}
use Rattle.rp_rules.proofs.Untried.{untold}
use Rattle.rp_value.specs.declared.value.Value.{Value}

-- ---- the attributes of one

as-many : (differing : List ReadValue) (xs : List Value) → length (as_read differing xs) ≡ length xs
as-many [] xs = refl
as-many (r ∷ differing) xs = as-many differing (slice_set xs r.place r.value) ∙ length-set xs r.place r.value

attributes-stored : (attributes : List AttributePlace) (xs ys : List Value) → length ys ≡ length xs → map (λ (x : Stored). x.attribute) (stored attributes xs ys) ≡ take (length xs) attributes
attributes-stored [] [] ys many = refl
attributes-stored [] (x ∷ xs) ys many = refl
attributes-stored (a ∷ attributes) [] ys many = refl
attributes-stored (a ∷ attributes) (x ∷ xs) [] many = absurd (omega (arith, many))
attributes-stored (a ∷ attributes) (x ∷ xs) (y ∷ ys) many = ap (λ (others : List AttributePlace). a ∷ others) (attributes-stored attributes xs ys (omega (arith, many)))

pub attributes-got : (population : List Instance) (place : ℕ) (i : Instance) (entities : List ℕ) (attributes : List AttributePlace) (xs : List Value) (differing : List ReadValue)
    → record { entities = entities; values = stored attributes xs (as_read differing xs) } ≡ i → Some i ≡ slice_get population place → take (length xs) attributes ≡ attributes_at population place
attributes-got population place i entities attributes xs differing is got =
    sym (attributes-stored attributes xs (as_read differing xs) (as-many differing xs))
    ∙ ap (λ (i : Instance). map (λ (x : Stored). x.attribute) i.values) is
    ∙ ap (λ (o : Option Instance). option_map_or (λ (i : Instance). map (λ (x : Stored). x.attribute) i.values) o []) got

-- ---- examples and numbers

kept : {A : Type 0} (f : ℕ → A) (xs ys : List ℕ) (number : ℕ) (y : A) → option_map f (slice_get xs number) ≡ Some y → option_map f (slice_get (xs ++ ys) number) ≡ Some y
kept f [] ys number y is = absurd (cc)
kept f (x ∷ xs) ys zero y is = is
kept f (x ∷ xs) ys (suc number) y is = kept f xs ys number y is

last-of : (xs : List ℕ) (x : ℕ) → slice_get (xs ++ x ∷ []) (length xs) ≡ Some x
last-of [] x = refl
last-of (y ∷ xs) x = last-of xs x

pub one-longer : (xs : List ℕ) (x count : ℕ) → length xs ≡ count → length (xs ++ x ∷ []) ≡ count + 1
one-longer xs x count is = length-append xs (x ∷ []) ∙ ap (λ (n : ℕ). n + 1) is

-- what holds of each and of one behind them
each-more : (P : ℕ → ℕ → Type 0) (xs : List ℕ) (x : ℕ) → ((at y : ℕ) → slice_get xs at ≡ Some y → P at y) → P (length xs) x → (at y : ℕ) → slice_get (xs ++ x ∷ []) at ≡ Some y → P at y
each-more P [] x all last zero y got =
    let same : x ≡ y = cc in
    subst (P 0) same last
each-more P [] x all last (suc at) y got = absurd (cc)
each-more P (z ∷ xs) x all last zero y got = all zero y got
each-more P (z ∷ xs) x all last (suc at) y got = each-more (λ at y. P (suc at) y) xs x (λ at y got. all (suc at) y got) last at y got

module _ (population : List Instance) where
  pub keeps-more : (examples : List ℕ) (at : ℕ) → Keeps population examples (examples ++ at ∷ [])
  keeps-more examples at number layout is = kept (attributes_at population) examples (at ∷ []) number layout is

  pub layout-last : (examples : List ℕ) (at : ℕ) → layout_at population (examples ++ at ∷ []) (length examples) ≡ Some (attributes_at population at)
  layout-last examples at = ap (option_map (attributes_at population)) (last-of examples at)

  -- one instance more
  pub lays-more : (layouts : Layouts) (examples : List ℕ) (number : ℕ) → Lays population layouts → Keeps population layouts.examples examples → layout_at population examples number ≡ Some (attributes_at population (length layouts.numbers))
      → Lays population (record { numbers = layouts.numbers ++ number ∷ []; examples = examples })
  lays-more layouts examples number lays keeps last = each-more (λ at y. layout_at population examples y ≡ Some (attributes_at population at)) layouts.numbers number (λ at y got. keeps y (attributes_at population at) (lays at y got)) last

-- ---- walks

said-by : (f : ℕ → List AttributePlace) (p : List AttributePlace → Bool) (o : Option ℕ) (layout : List AttributePlace) (b : Bool) → option_map f o ≡ Some layout → option_map (λ at. p (f at)) o ≡ Some b → p layout ≡ b
said-by f p None layout b is said = absurd (cc)
said-by f p (Some at) layout b is said =
    let same : f at ≡ layout = cc in
    let says : p (f at) ≡ b = cc in
    ap p (sym same) ∙ says

module _ (schema : Schema) (population : List Instance) (number : ℕ) where
  pub leads-everywhere : (numbers : List ℕ) → Leads schema population number numbers (record { plan = no_plan; layouts = [] })
  leads-everywhere numbers = record { tells = untold schema number; skips = λ at layout got says. absurd (cc) }

  pub leads-by : (layouts : Layouts) (walk : Walk) → Lays population layouts → Tells schema number walk.plan
      → walk.layouts ≡ map (λ at. may_have_any walk.plan (attributes_at population at)) layouts.examples → Leads schema population number layouts.numbers walk
  leads-by layouts walk lays tells is = record {
    tells = tells;
    skips = λ at layout got says.
        let of : ℕ → Bool = λ at. may_have_any walk.plan (attributes_at population at) in
        let said : option_map of (slice_get layouts.examples layout) ≡ Some false = sym (slice_get-map of layouts.examples layout) ∙ ap (λ (bs : List Bool). slice_get bs layout) (sym is) ∙ says in
        said-by (attributes_at population) (may_have_any walk.plan) (slice_get layouts.examples layout) (attributes_at population at) false (lays at layout got) said;
  }
