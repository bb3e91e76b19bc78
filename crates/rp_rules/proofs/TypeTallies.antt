-- The culprits of a rule of a defined type, attribute by attribute.
use Rattle.std.proofs.Common.{◌≡◌, ℕ, zero, suc, ◌+◌, ◌<◌, ◌≤◌, ◌==◌, Bool, true, false, List, [], ◌∷◌, ◌++◌, map, filter, length, drop, get_or, Option, Some, None, slice_get, slice_set, refl, sym, ap, ◌∙◌, arith, if◌then◌else◌}
use Rattle.std.proofs.lemmas.Bool.Decides.{nat_tests}
use Rattle.std.proofs.lemmas.List.{map-append}
use Rattle.std.proofs.lemmas.List.Elements.{filter-append}
use Rattle.std.specs.Option.{option_map_or}
use Rattle.ex_named.specs.declared.reference.AttributePlace.{AttributePlace}
use Rattle.rp_faults.specs.Declarations.{declared_types, last_read}
use Rattle.rp_meaning.specs.declared.domain.ReadValue.{ReadValue}
use Rattle.rp_meaning.specs.declared.rule.Rule.{Rule}
use Rattle.rp_meaning.specs.declared.rule.Rule.TheVariants as r
use Rattle.rp_meaning.specs.declared.schema.Schema.{Schema}
use Rattle.rp_meaning.specs.Bare.{aggregate_of, is_indeterminate}
use Rattle.rp_meaning.specs.Expressions.{World}
use Rattle.rp_meaning.specs.Faults.{Held, held_from, held_of, is_checked}
use Rattle.rp_meaning.specs.Populations.{Instance, Stored, as_read, stored}
use Rattle.rp_meaning.specs.Report.{of_attribute}
use Rattle.rp_meaning.specs.Sequence.{Candidate, Ended, Trial, each_after, one, verdict_of}
use Rattle.rp_meaning.specs.TypeRules.{is_tried}
use Rattle.rp_rules.specs.declared.culprits.Culprits.{Culprits}
use Rattle.rp_rules.specs.declared.verdicts.Verdicts.{Verdicts}
use Rattle.rp_rules.specs.Endings.{verdicts_of, with_verdict}
use Rattle.rp_rules.proofs.Steps.{drop-got, drop-none, drop-past, drop-read, none-behind}
use Rattle.rp_rules.proofs.Tallied.{verdicts-more}
use Rattle.rp_rules.proofs.Values.{values-scalar, values-unset}
use Rattle.rp_rules.specs.Tallies.{tallied, with_culprit}
use Rattle.rp_rules.specs.TypeTallies.{candidates_among, candidates_at, candidates_by, candidates_in, candidates_of, trials_in}
use Rattle.rp_value.specs.declared.value.Value.{Value}

-- ---- candidates one after the other

pub tallied-append : (world : World) (found : Culprits) (xs ys : List Candidate) (used : ℕ)
    → tallied world found (xs ++ ys) used ≡ tallied world (tallied world found xs used).0 ys (tallied world found xs used).1
tallied-append world found [] ys used = refl
tallied-append world found (x ∷ xs) ys used =
    tallied-append world (with_culprit found x.0 (verdicts_of (each_after world [] x.1 used).0)) xs ys (each_after world [] x.1 used).1

-- ---- values that are read in place of others

-- of values, the first of which has this place
abbrev reads : List ReadValue → ℕ → List Value → List Value
reads differing slot [] = []
reads differing slot (x ∷ xs) = last_read x differing slot ∷ reads differing (slot + 1) xs

last-by : (differing : List ReadValue) (r : ReadValue) (slot : ℕ) (x : Value) (b : Bool) → (r.place == slot) ≡ b → last_read x (r ∷ differing) slot ≡ last_read (if b then r.value else x) differing slot
last-by differing r slot x b is = ap (λ (b : Bool). last_read (if b then r.value else x) differing slot) is

-- behind the place it is read nowhere
reads-behind : (differing : List ReadValue) (r : ReadValue) (slot : ℕ) (xs : List Value) → r.place < slot → reads differing slot xs ≡ reads (r ∷ differing) slot xs
reads-behind differing r slot [] less = refl
reads-behind differing r slot (x ∷ xs) less =
    let other : (r.place == slot) ≡ false = grind (arith, nat_tests, less) in
    λ i. sym (last-by differing r slot x false other) i ∷ reads-behind differing r (slot + 1) xs (omega (arith, less)) i

reads-set : (differing : List ReadValue) (r : ReadValue) (slot k : ℕ) (xs : List Value) → r.place ≡ slot + k → reads differing slot (slice_set xs k r.value) ≡ reads (r ∷ differing) slot xs
reads-set differing r slot k [] at = refl
reads-set differing r slot zero (x ∷ xs) at =
    let same : (r.place == slot) ≡ true = grind (arith, nat_tests, at) in
    λ i. sym (last-by differing r slot x true same) i ∷ reads-behind differing r (slot + 1) xs (omega (arith, at)) i
reads-set differing r slot (suc k) (x ∷ xs) at =
    let other : (r.place == slot) ≡ false = grind (arith, nat_tests, at) in
    λ i. sym (last-by differing r slot x false other) i ∷ reads-set differing r (slot + 1) k xs (omega (arith, at)) i

reads-none : (slot : ℕ) (xs : List Value) → xs ≡ reads [] slot xs
reads-none slot [] = refl
reads-none slot (x ∷ xs) = ap (λ (ys : List Value). x ∷ ys) (reads-none (slot + 1) xs)

reads-are : (differing : List ReadValue) (xs : List Value) → as_read differing xs ≡ reads differing 0 xs
reads-are [] xs = reads-none 0 xs
reads-are (r ∷ differing) xs = reads-are differing (slice_set xs r.place r.value) ∙ reads-set differing r 0 r.place xs (omega arith)

-- ---- the candidates of a rule

module _ (schema : Schema) (population : List Instance) (number place : ℕ) where
  pub candidates-append : (hs others : List Held) → candidates_of schema population number place (hs ++ others) ≡ candidates_of schema population number place hs ++ candidates_of schema population number place others
  candidates-append hs others =
      ap (map (of_attribute schema population (r.Type number place) number)) (filter-append (is_checked schema) hs others)
      ∙ map-append (of_attribute schema population (r.Type number place) number) (filter (is_checked schema) hs) (filter (is_checked schema) others)

  module _ (at : ℕ) (i : Instance) (differing : List ReadValue) where
    among-reads : (slot : ℕ) (attributes : List AttributePlace) (written : List Value)
        → candidates_among schema population number place at i differing slot attributes written ≡ candidates_in schema population number place at i (stored attributes written (reads differing slot written))
    among-reads slot [] written = refl
    among-reads slot (a ∷ attributes) [] = refl
    among-reads slot (a ∷ attributes) (x ∷ written) =
        let s : Stored = record { attribute = a; written = x; read = last_read x differing slot } in
        let h : Held = record { place = at; instance = i; value = s } in
        let others : List Held = map (λ (x : Stored). record { place = at; instance = i; value = x }) (stored attributes written (reads differing (slot + 1) written)) in
        ap (λ (cs : List Candidate). candidates_by schema population number place at i a x (last_read x differing slot) ++ cs) (among-reads (slot + 1) attributes written)
        ∙ sym (candidates-append (h ∷ []) others)

    among-all : (attributes : List AttributePlace) (written : List Value)
        → candidates_among schema population number place at i differing 0 attributes written ≡ candidates_in schema population number place at i (stored attributes written (as_read differing written))
    among-all attributes written =
        among-reads 0 attributes written ∙ ap (λ (read : List Value). candidates_in schema population number place at i (stored attributes written read)) (sym (reads-are differing written))

    -- one attribute more
    pub among-step : (attributes : List AttributePlace) (written : List Value) (slot : ℕ) (a : AttributePlace) (x : Value) → slot < length attributes → a ≡ get_or attributes slot a → slot < length written → x ≡ get_or written slot x
        → candidates_among schema population number place at i differing slot (drop slot attributes) (drop slot written)
        ≡ candidates_by schema population number place at i a x (last_read x differing slot) ++ candidates_among schema population number place at i differing (slot + 1) (drop (slot + 1) attributes) (drop (slot + 1) written)
    among-step attributes written slot a x h is less read = λ k. candidates_among schema population number place at i differing slot (drop-read attributes slot a h is k) (drop-read written slot x less read k)

    among-none : (slot : ℕ) (attributes : List AttributePlace) → candidates_among schema population number place at i differing slot attributes [] ≡ []
    among-none slot [] = refl
    among-none slot (a ∷ attributes) = refl

    pub among-end : (attributes : List AttributePlace) (written : List Value) (slot : ℕ) → length written ≤ slot → candidates_among schema population number place at i differing slot (drop slot attributes) (drop slot written) ≡ []
    among-end attributes written slot h =
        ap (candidates_among schema population number place at i differing slot (drop slot attributes)) (drop-past written slot h) ∙ among-none slot (drop slot attributes)

  -- one instance more
  from-got : (at : ℕ) (i : Instance) → slice_get population at ≡ Some i
      → candidates_of schema population number place (held_from at (drop at population))
      ≡ candidates_in schema population number place at i i.values ++ candidates_of schema population number place (held_from (at + 1) (drop (at + 1) population))
  unfolding held_from
  from-got at i read =
      ap (λ (is : List Instance). candidates_of schema population number place (held_from at is)) (drop-got population at i read)
      ∙ candidates-append (held_of at i) (held_from (at + 1) (drop (at + 1) population))

  from-none : (at : ℕ) → slice_get population at ≡ None → candidates_of schema population number place (held_from at (drop at population)) ≡ []
  unfolding held_from
  from-none at none = ap (λ (is : List Instance). candidates_of schema population number place (held_from at is)) (drop-none population at none)

  from-by : (at : ℕ) (o : Option Instance) → slice_get population at ≡ o
      → candidates_of schema population number place (held_from at (drop at population))
      ≡ option_map_or (λ (i : Instance). candidates_in schema population number place at i i.values) o [] ++ candidates_of schema population number place (held_from (at + 1) (drop (at + 1) population))
  from-by at (Some i) read = from-got at i read
  from-by at None none = from-none at none ∙ sym (from-none (at + 1) (none-behind population at none))

  from-step : (at : ℕ) → candidates_of schema population number place (held_from at (drop at population))
      ≡ candidates_at schema population number place at ++ candidates_of schema population number place (held_from (at + 1) (drop (at + 1) population))
  from-step at = from-by at (slice_get population at) refl

  pub from-past : (at : ℕ) → length population ≤ at → candidates_of schema population number place (held_from at (drop at population)) ≡ []
  unfolding held_from
  from-past at h = ap (λ (is : List Instance). candidates_of schema population number place (held_from at is)) (drop-past population at h)

  -- ---- what is tallied

  module _ (world : World) (found : Culprits) (used : ℕ) where
    abbrev after : List Candidate → Culprits × ℕ
    after cs = tallied world found cs used

    pub attributes-step : (at : ℕ) (i : Instance) (differing : List ReadValue) (attributes : List AttributePlace) (written : List Value) (slot : ℕ) (a : AttributePlace) (x : Value)
        → slot < length attributes → a ≡ get_or attributes slot a → slot < length written → x ≡ get_or written slot x
        → after (candidates_among schema population number place at i differing slot (drop slot attributes) (drop slot written))
        ≡ tallied world (after (candidates_by schema population number place at i a x (last_read x differing slot))).0 (candidates_among schema population number place at i differing (slot + 1) (drop (slot + 1) attributes) (drop (slot + 1) written)) (after (candidates_by schema population number place at i a x (last_read x differing slot))).1
    attributes-step at i differing attributes written slot a x h is less read =
        ap after (among-step at i differing attributes written slot a x h is less read)
        ∙ tallied-append world found (candidates_by schema population number place at i a x (last_read x differing slot)) (candidates_among schema population number place at i differing (slot + 1) (drop (slot + 1) attributes) (drop (slot + 1) written)) used

    pub attributes-end : (at : ℕ) (i : Instance) (differing : List ReadValue) (attributes : List AttributePlace) (written : List Value) (slot : ℕ) → length written ≤ slot
        → after (candidates_among schema population number place at i differing slot (drop slot attributes) (drop slot written)) ≡ (found, used)
    attributes-end at i differing attributes written slot h = ap after (among-end at i differing attributes written slot h)

    pub attributes-whole : (at : ℕ) (i : Instance) (entities : List ℕ) (differing : List ReadValue) (attributes : List AttributePlace) (written : List Value)
        → record { entities = entities; values = stored attributes written (as_read differing written) } ≡ i
        → after (candidates_among schema population number place at i differing 0 attributes written) ≡ after (candidates_in schema population number place at i i.values)
    attributes-whole at i entities differing attributes written is =
        ap after (among-all at i differing attributes written ∙ ap (λ (j : Instance). candidates_in schema population number place at i j.values) is)

    pub attributes-past : (at : ℕ) (i : Instance) (differing : List ReadValue) (attributes : List AttributePlace) (written : List Value) (slot : ℕ) → length attributes ≤ slot
        → after (candidates_among schema population number place at i differing slot (drop slot attributes) (drop slot written)) ≡ (found, used)
    attributes-past at i differing attributes written slot h =
        ap (λ (left : List AttributePlace). after (candidates_among schema population number place at i differing slot left (drop slot written))) (drop-past attributes slot h)

    pub instances-step : (at : ℕ) → after (candidates_of schema population number place (held_from at (drop at population)))
        ≡ tallied world (after (candidates_at schema population number place at)).0 (candidates_of schema population number place (held_from (at + 1) (drop (at + 1) population))) (after (candidates_at schema population number place at)).1
    instances-step at =
        ap after (from-step at)
        ∙ tallied-append world found (candidates_at schema population number place at) (candidates_of schema population number place (held_from (at + 1) (drop (at + 1) population))) used

    pub instances-past : (at : ℕ) → length population ≤ at → after (candidates_of schema population number place (held_from at (drop at population))) ≡ (found, used)
    instances-past at h = ap after (from-past at h)

  -- ---- one attribute

  module _ (at : ℕ) (i : Instance) (a : AttributePlace) (x y : Value) where
    abbrev one_held : Held
    one_held = record { place = at; instance = i; value = record { attribute = a; written = x; read = y } }

    pub by-unchecked : is_checked schema one_held ≡ false → candidates_by schema population number place at i a x y ≡ []
    by-unchecked is = rw is refl

    pub by-checked : is_checked schema one_held ≡ true → candidates_by schema population number place at i a x y ≡ of_attribute schema population (r.Type number place) number one_held ∷ []
    by-checked is = rw is refl

-- ---- the values in one

abbrev pub noted : World → Verdicts → List Trial → ℕ → Verdicts × ℕ
noted world v [] used = (v, used)
noted world v (t ∷ ts) used = noted world (with_verdict v (verdict_of (one world t used).0)) ts (one world t used).1

pub noted-all : (world : World) (found : List Ended) (ts : List Trial) (used : ℕ)
    → noted world (verdicts_of found) ts used ≡ (verdicts_of (each_after world found ts used).0, (each_after world found ts used).1)
noted-all world found [] used = refl
noted-all world found (t ∷ ts) used =
    ap (λ (v : Verdicts). noted world v ts (one world t used).1) (sym (verdicts-more found (one world t used).0)) ∙ noted-all world (found ++ (one world t used).0 ∷ []) ts (one world t used).1

-- one value more
pub noted-step : (world : World) (rule : Rule) (v : Verdicts) (xs : List Value) (i : ℕ) (x : Value) (used : ℕ) → i < length xs → x ≡ get_or xs i x
    → noted world v (map (λ x. (rule, x)) (drop i xs)) used
    ≡ noted world (with_verdict v (verdict_of (one world (rule, x) used).0)) (map (λ x. (rule, x)) (drop (i + 1) xs)) (one world (rule, x) used).1
noted-step world rule v xs i x used h is = ap (λ (ys : List Value). noted world v (map (λ x. (rule, x)) ys) used) (drop-read xs i x h is)

pub noted-end : (world : World) (rule : Rule) (v : Verdicts) (xs : List Value) (i used : ℕ) → length xs ≤ i → noted world v (map (λ x. (rule, x)) (drop i xs)) used ≡ (v, used)
noted-end world rule v xs i used h = ap (λ (ys : List Value). noted world v (map (λ x. (rule, x)) ys) used) (drop-past xs i h)

-- ---- a value that is no aggregate

module _ (schema : Schema) (population : List Instance) (number place : ℕ) (entities : List ℕ) (a : AttributePlace) (x y : Value) where
  abbrev one_trial : Value → Trial
  one_trial z = (r.Type number place, z)

  abbrev by_declarations : Bool
  by_declarations = is_tried schema.types population number (declared_types schema entities a) x y

  pub trials-unset : is_indeterminate y ≡ true → trials_in schema population number place entities a x y ≡ []
  trials-unset is = ap (map one_trial) (values-unset schema.types population number (declared_types schema entities a) x y is)

  trials-by : (b : Bool) → is_indeterminate y ≡ false → aggregate_of y ≡ None → by_declarations ≡ b → trials_in schema population number place entities a x y ≡ map one_trial (if b then y ∷ [] else [])
  trials-by b set scalar is = ap (map one_trial) (values-scalar schema.types population number (declared_types schema entities a) x y set scalar ∙ ap (λ (b : Bool). if b then y ∷ [] else []) is)

  pub trials-none : is_indeterminate y ≡ false → aggregate_of y ≡ None → by_declarations ≡ false → trials_in schema population number place entities a x y ≡ []
  trials-none set scalar is = trials-by false set scalar is

  pub trials-one : is_indeterminate y ≡ false → aggregate_of y ≡ None → by_declarations ≡ true → trials_in schema population number place entities a x y ≡ (r.Type number place, y) ∷ []
  trials-one set scalar is = trials-by true set scalar is

pub ruleset scalars = (trials-unset, trials-none, trials-one)
