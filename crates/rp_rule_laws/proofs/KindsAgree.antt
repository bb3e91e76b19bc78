-- Values fit the types of a schema by their kinds.
use Rattle.std.proofs.Common.{◌≡◌, ℕ, zero, suc, ◌<◌, Bool, true, false, not, ◌||◌, ◌&&◌, ◌==◌, if◌then◌else◌, List, [], ◌∷◌, length, map, filter, get_or, slice_get, Option, Some, None, option_map, ⊎_elim, refl, sym, ◌∙◌, ap, subst}
use Rattle.std.proofs.lemmas.Bool.{cases_Bool, eq-eqb, false≢true}
use Rattle.std.proofs.lemmas.List.Folds.{list_any-append}
use Rattle.std.proofs.lemmas.Option.{slice_get_cases}
use Rattle.std.specs.List.{cons_option, filter_map, flat_map, list_any}
use Rattle.std.specs.Option.{option_map_or}
use Rattle.plain_data.specs.Numbers.{is_among, numbered, numbered_from}
use Rattle.ex_kinds.proofs.Tests.{meaning_of_itself, plain_by_meanings}
use Rattle.ex_kinds.specs.Kinds.{Kinds, itself, of_layer, of_name, of_type}
use Rattle.ex_kinds.specs.Types.{alternative, alternatives, declared, meanings_by, of_types, of_underlying, own, some_meaning, stays}
use Rattle.ex_kinds.specs.declared.kind.Sort.TheVariants as k
use Rattle.ex_kinds.specs.declared.kind.ValueKind.{ValueKind}
use Rattle.ex_named.specs.declared.declaration.NamedSchema.{NamedSchema}
use Rattle.ex_named.specs.declared.declaration.NamedType.{NamedType}
use Rattle.ex_named.specs.declared.declaration.NamedUnderlying.{NamedUnderlying}
use Rattle.ex_named.specs.declared.declaration.NamedUnderlying.TheVariants as u
use Rattle.ex_named.specs.declared.expression.NamedDataType.{NamedDataType, NamedDataType-F, out-NamedDataType}
use Rattle.ex_named.specs.declared.expression.NamedDataType.TheFolds.{map-NamedDataType}
use Rattle.ex_named.specs.declared.reference.TypeName.{TypeName}
use Rattle.ex_named.specs.declared.reference.TypeName.TheVariants as t
use Rattle.ex_renamings.specs.Renamings.{end, is_listed, is_select, lists_members, renamed, renamed_by, renamed_by_data}
use Rattle.ex_resolve.specs.Proved.{held_by, held_in, held_in_layer, held_types, type_of_name}
use Rattle.ex_schemas.specs.Schemas.{Checked}
use Rattle.graphs.specs.Graphs.{IsAcyclic, family, supertypes}
use Rattle.graphs.proofs.Sets.{or_left, or_right}
use Rattle.rp_meaning.specs.declared.schema.DefinedType.{DefinedType}
use Rattle.rp_meaning.specs.declared.schema.Underlying.TheVariants as b
use Rattle.rp_meaning.specs.Bare.{bare}
use Rattle.rp_meaning.specs.Compiled.{compiled, defined_type}
use Rattle.rp_meaning.specs.CompiledTypes.{all_members, choices, chosen_entities, chosen_types, defined_in, entity_in, members, name_in, named_by, selection, selects, underlying, underlying_by}
use Rattle.rp_meaning.specs.Types as fitting
use Rattle.rp_rule_laws.proofs.KindsEnds.{at_or, end_again, held_out, holds, length-map, own_end, renamed_is}
use Rattle.rp_rule_laws.proofs.KindsReached.{each, unfolded}
use Rattle.rp_rule_laws.proofs.KindsWritten.{any_kept, any_map, any_once, has, instance_is, item_is, named_in, of_type_out, or_again, or_none, written_named, written_own}
use Rattle.rp_rule_laws.specs.Kinds.{is_of_kind, is_of_type}
use Rattle.rp_value.specs.declared.value.Value.{Value, out-Value}
use Rattle.rp_value.specs.declared.value.Value.TheOpen.{Value-F}

-- ---- lists

numbered_next : {A B : Type 0} (f : ℕ → A → B) (k : ℕ) (xs : List A) → numbered_from f (suc k) xs ≡ numbered_from (λ j x. f (suc j) x) k xs
numbered_next f k [] = refl
numbered_next f k (x ∷ xs) = ap (λ l. f (suc k) x ∷ l) (numbered_next f (suc k) xs)

numbered_get : {A B : Type 0} (f : ℕ → A → B) (xs : List A) (k : ℕ) → slice_get (numbered f xs) k ≡ option_map (f k) (slice_get xs k)
numbered_get f [] k = refl
numbered_get f (x ∷ xs) zero = refl
numbered_get f (x ∷ xs) (suc k) = ap (λ l. slice_get l k) (numbered_next f zero xs) ∙ numbered_get (λ j y. f (suc j) y) xs k

numbered_or : {A B : Type 0} (f : ℕ → A → B) (d : B) (xs : List A) (k : ℕ) → get_or (numbered f xs) k d ≡ option_map_or (f k) (slice_get xs k) d
numbered_or f d [] k = refl
numbered_or f d (x ∷ xs) zero = refl
numbered_or f d (x ∷ xs) (suc k) = ap (λ l. get_or l k d) (numbered_next f zero xs) ∙ numbered_or (λ j y. f (suc j) y) d xs k

numbered_length : {A B : Type 0} (f : ℕ → A → B) (xs : List A) → length (numbered f xs) ≡ length xs
numbered_length f [] = refl
numbered_length f (x ∷ xs) = ap suc (ap length (numbered_next f zero xs) ∙ numbered_length (λ j y. f (suc j) y) xs)

mapped_or : {A B : Type 0} (f : A → B) (xs : List A) (k : ℕ) (d : A) → get_or (map f xs) k (f d) ≡ f (get_or xs k d)
mapped_or f [] k d = refl
mapped_or f (x ∷ xs) zero d = refl
mapped_or f (x ∷ xs) (suc k) d = mapped_or f xs k d

any_flat : {A B : Type 0} (p : B → Bool) (f : A → List B) (xs : List A) → list_any p (flat_map f xs) ≡ list_any (λ x. list_any p (f x)) xs
any_flat p f [] = refl
any_flat p f (x ∷ xs) = list_any-append p (f x) (flat_map f xs) ∙ ap (λ c. list_any p (f x) || c) (any_flat p f xs)

any_same : (f g : ℕ → Bool) (xs : List ℕ) → ((n : ℕ) → is_among xs n ≡ true → f n ≡ g n) → list_any f xs ≡ list_any g xs
any_same f g [] same = refl
any_same f g (x ∷ xs) same =
    ap (λ c. c || list_any f xs) (same x (or_left (x == x) (is_among xs x) (eq-eqb x x refl)))
    ∙ ap (λ c. g x || c) (any_same f g xs (λ n there. same n (or_right (x == n) (is_among xs n) there)))

or_swap : (a b c : Bool) → (a || (b || c)) ≡ (b || (a || c))
or_swap true true c = refl
or_swap true false c = refl
or_swap false b c = refl

or_both : (a b c d : Bool) → ((a || b) || (c || d)) ≡ ((a || c) || (b || d))
or_both true b c d = refl
or_both false true true d = refl
or_both false true false d = refl
or_both false false c d = refl

-- ---- one schema, one value

module _ (s : NamedSchema) (acyclic : IsAcyclic (held_types s.types)) (made : List DefinedType) (are : made ≡ numbered (defined_type s) s.types) (y : Value-F Value) where
  abbrev types : List NamedType
  types = s.types

  abbrev all : List Kinds
  all = of_types types

  abbrev graph : List (List ℕ)
  graph = alternatives all

  -- ---- by kinds

  declared_is : (m : ℕ) → declared all m ≡ option_map_or (λ x. of_underlying m x.underlying) (slice_get types m) []
  unfolding of_types
  declared_is m = numbered_or (λ n x. of_underlying n x.underlying) [] types m

  steps_are : (m : ℕ) → supertypes graph m ≡ filter_map alternative (declared all m)
  steps_are m = mapped_or (filter_map alternative) all m []

  abbrev own_has : ℕ → Bool
  own_has m = list_any (has y) (own (declared all m))

  many : length graph ≡ length types
  unfolding of_types
  many = length-map (filter_map alternative) all ∙ numbered_length (λ n x. of_underlying n x.underlying) types

  inside : (m : ℕ) → own_has m ≡ true → m < length graph
  inside m passes = ⊎_elim
      (λ within. subst (λ n. m < n) (sym many) within.1)
      (λ past. let none : own_has m ≡ false = ap (λ l. list_any (has y) (own l)) (declared_is m ∙ ap (λ o. option_map_or (λ x. of_underlying m x.underlying) o []) past.1) in absurd (false≢true (sym none ∙ passes)))
      (slice_get_cases types m).1

  -- whether a type, or one that it is by renaming or selection, has a kind of the value's
  abbrev above : ℕ → Bool
  above m = list_any own_has (family graph m)

  one_up : (m : ℕ) → above m ≡ (own_has m || list_any above (supertypes graph m))
  one_up m = unfolded graph own_has inside m

  meaning_of_type : (kind : ValueKind) (n : ℕ) → alternative kind ≡ Some n → some_meaning all (has y) kind ≡ above n
  unfolding some_meaning
  meaning_of_type kind n is = ap (λ o. list_any (has y) (meanings_by all kind o)) is ∙ any_flat (has y) (λ m. own (declared all m)) (family graph n)

  kinds_are : (kinds : Kinds) → list_any (some_meaning all (has y)) kinds ≡ (list_any (has y) (own kinds) || list_any above (filter_map alternative kinds))
  kinds_are [] = refl
  kinds_are (kind ∷ kinds) = by (alternative kind) refl (kinds_are kinds)
    where
      by : (o : Option ℕ) → alternative kind ≡ o → list_any (some_meaning all (has y)) kinds ≡ (list_any (has y) (own kinds) || list_any above (filter_map alternative kinds))
          → (some_meaning all (has y) kind || list_any (some_meaning all (has y)) kinds)
          ≡ (list_any (has y) (if stays o then kind ∷ own kinds else own kinds) || list_any above (cons_option o (filter_map alternative kinds)))
      by None is rest =
          ap (λ c. c || list_any (some_meaning all (has y)) kinds) (sym (meaning_of_itself all (has y) kind is))
          ∙ ap (λ c. has y kind || c) rest
          ∙ or_again (has y kind) (list_any (has y) (own kinds)) (list_any above (filter_map alternative kinds))
      by (Some n) is rest =
          ap (λ c. c || list_any (some_meaning all (has y)) kinds) (meaning_of_type kind n is)
          ∙ ap (λ c. above n || c) rest
          ∙ or_swap (above n) (list_any (has y) (own kinds)) (list_any above (filter_map alternative kinds))

  -- ---- by what types are behind all names

  abbrev fits_end : ℕ → Bool
  fits_end m = fitting.is_of_kind made (fitting.end_of made m) y

  abbrev is_of_end : ℕ → Bool
  is_of_end m = fitting.is_of_end made (fitting.end_of made m) y

  abbrev end_by : ℕ → Option NamedType → fitting.End
  end_by m None = fitting.Written (fitting.defined m)
  end_by m (Some x) = fitting.end_by (defined_type s m x) (underlying types m)

  end_is : (m : ℕ) → fitting.end_of made m ≡ end_by m (slice_get types m)
  unfolding fitting.end_of
  end_is m =
      ap (λ l. option_map_or (λ (x : DefinedType). fitting.end_by x x.underlying) (slice_get l m) (fitting.Written (fitting.defined m))) are
      ∙ ap (λ o. option_map_or (λ (x : DefinedType). fitting.end_by x x.underlying) o (fitting.Written (fitting.defined m))) (numbered_get (defined_type s) types m)
      ∙ by (slice_get types m)
    where
      by : (o : Option NamedType) → option_map_or (λ (x : DefinedType). fitting.end_by x x.underlying) (option_map (defined_type s m) o) (fitting.Written (fitting.defined m)) ≡ end_by m o
      by None = refl
      by (Some x) = refl

  -- ---- what SELECTs choose from

  abbrev chooses : TypeName → Bool
  chooses (t.Entity n) = fitting.is_instance y
  chooses (t.Defined n) = not (is_select types n) && is_of_end n

  abbrev lists : ℕ → Bool
  lists m = list_any chooses (members types m)

  abbrev chosen : ℕ → Bool
  chosen m = list_any (λ n. is_select types n && lists n) (family (selection types) m)

  either_chosen : (names : List TypeName) → (list_any (λ (n : ℕ). fitting.is_instance y) (filter_map entity_in names) || list_any is_of_end (filter (λ n. not (is_select types n)) (filter_map defined_in names))) ≡ list_any chooses names
  either_chosen [] = refl
  either_chosen (t.Entity n ∷ names) =
      sym (or_again (fitting.is_instance y) (list_any (λ (n : ℕ). fitting.is_instance y) (filter_map entity_in names)) (list_any is_of_end (filter (λ n. not (is_select types n)) (filter_map defined_in names))))
      ∙ ap (λ c. fitting.is_instance y || c) (either_chosen names)
  either_chosen (t.Defined n ∷ names) = by (is_select types n) (either_chosen names)
    where
      entities : Bool
      entities = list_any (λ (n : ℕ). fitting.is_instance y) (filter_map entity_in names)

      rest : List ℕ
      rest = filter (λ n. not (is_select types n)) (filter_map defined_in names)

      by : (c : Bool) → (entities || list_any is_of_end rest) ≡ list_any chooses names → (entities || list_any is_of_end (if not c then n ∷ rest else rest)) ≡ (not c && is_of_end n || list_any chooses names)
      by true e = e
      by false e = or_swap entities (is_of_end n) (list_any is_of_end rest) ∙ ap (λ d. is_of_end n || d) e

  chosen_is : (m : ℕ) → list_any (fitting.is_of_choice made y) (choices types m) ≡ chosen m
  chosen_is m =
      list_any-append (fitting.is_of_choice made y) (map t.Entity (chosen_entities types m)) (map t.Defined (chosen_types types m))
      ∙ ap (λ c. c || list_any (fitting.is_of_choice made y) (map t.Defined (chosen_types types m)))
      (any_map (fitting.is_of_choice made y) t.Entity (chosen_entities types m) ∙ any_once (λ n. fitting.is_instance y) (filter_map entity_in (all_members types m)))
      ∙ ap (λ c. list_any (λ (n : ℕ). fitting.is_instance y) (filter_map entity_in (all_members types m)) || c)
      (any_map (fitting.is_of_choice made y) t.Defined (chosen_types types m) ∙ any_once is_of_end (filter (λ n. not (is_select types n)) (filter_map defined_in (all_members types m))))
      ∙ either_chosen (all_members types m)
      ∙ any_flat chooses (members types) (selects types m)
      ∙ any_kept (is_select types) lists (family (selection types) m)

  member_steps : (m : ℕ) → supertypes (selection types) m ≡ filter_map defined_in (members types m)
  member_steps m = numbered_or (λ number x. filter_map defined_in (members types number)) [] types m ∙ by (slice_get types m) refl
    where
      by : (o : Option NamedType) → slice_get types m ≡ o → option_map_or (λ (x : NamedType). filter_map defined_in (members types m)) o [] ≡ filter_map defined_in (members types m)
      by (Some x) is = refl
      by None is = none (is_select types m) ∙ ap (λ o. filter_map defined_in (if is_select types m then option_map_or (λ (x : NamedType). named_by x.underlying) o [] else [])) (sym is)
        where
          none : (c : Bool) → [] ≡ filter_map defined_in (if c then [] else [])
          none true = refl
          none false = refl

  select_inside : (m : ℕ) → (is_select types m && lists m) ≡ true → m < length (selection types)
  select_inside m passes = ⊎_elim
      (λ within. subst (λ n. m < n) (sym (numbered_length (λ number x. filter_map defined_in (members types number)) types)) within.1)
      (λ past. absurd (false≢true (none (is_select types m) ∙ ap (λ o. is_select types m && list_any chooses (if is_select types m then option_map_or (λ (x : NamedType). named_by x.underlying) o [] else [])) (sym past.1) ∙ passes)))
      (slice_get_cases types m).1
    where
      none : (c : Bool) → false ≡ (c && list_any chooses (if c then [] else []))
      none true = refl
      none false = refl

  chosen_up : (m : ℕ) → chosen m ≡ (is_select types m && lists m || list_any chosen (filter_map defined_in (members types m)))
  chosen_up m = unfolded (selection types) (λ n. is_select types n && lists n) select_inside m ∙ ap (λ l. is_select types m && lists m || list_any chosen l) (member_steps m)

  none_chosen : (m : ℕ) → is_select types m ≡ false → chosen m ≡ false
  none_chosen m never = chosen_up m ∙ ap (λ c. c && list_any chooses (if c then option_map_or (λ (x : NamedType). named_by x.underlying) (slice_get types m) [] else []) || list_any chosen (filter_map defined_in (if c then option_map_or (λ (x : NamedType). named_by x.underlying) (slice_get types m) [] else []))) never

  -- ---- the ends of SELECTs and of others

  lists_is : (m : ℕ) → lists_members types m ≡ option_map_or (λ x. is_listed x.underlying) (slice_get types m) false
  lists_is m = at_or (λ x. is_listed x.underlying) types m false

  own_none : (m : ℕ) → slice_get types m ≡ None → end types m ≡ m
  own_none m is = own_end types m (renamed_is types m ∙ ap (λ o. option_map_or (λ x. renamed_by m x.underlying) o m) is)

  underlying_is : (m : ℕ) (o : Option NamedType) → slice_get types (end types m) ≡ o → underlying types m ≡ option_map_or (λ x. underlying_by (end types m) x.underlying) o b.Select
  underlying_is m o is = ap (λ o. option_map_or (λ x. underlying_by (end types m) x.underlying) o b.Select) is

  -- whether a value is of a type that is no SELECT
  abbrev plainly : ℕ → NamedUnderlying → Bool
  plainly n (u.Enumeration items) = fitting.is_item_of n y
  plainly n (u.Select names) = false
  plainly n (u.Data d) = fitting.is_of_written (out-NamedDataType d) y

  abbrev fits_plainly : ℕ → Bool
  fits_plainly m = option_map_or (λ x. plainly (end types m) x.underlying) (slice_get types (end types m)) false

  abbrev AreBoth : fitting.End → Bool → Type 0
  AreBoth e c = (fitting.is_of_kind made e y ≡ c) × (fitting.is_of_end made e y ≡ c)

  named_fits : (m : ℕ) → fitting.is_of_written (out-NamedDataType (fitting.defined m)) y ≡ false
  unfolding out-NamedDataType denote.Hole.Carrier.out
  named_fits m = refl

  not_select : (m : ℕ) → is_select types m ≡ false → AreBoth (fitting.end_of made m) (fits_plainly m)
  not_select m never = subst (λ e. AreBoth e (fits_plainly m)) (sym (end_is m)) (by (slice_get types m) refl)
    where
      behind : (x : NamedType) (o : Option NamedType) → slice_get types (end types m) ≡ o → AreBoth (fitting.end_by (defined_type s m x) (option_map_or (λ x. underlying_by (end types m) x.underlying) o b.Select)) (option_map_or (λ x. plainly (end types m) x.underlying) o false)
      behind x None at = (chosen_is m ∙ none_chosen m never, refl)
      behind x (Some z) at = by_underlying z.underlying (sym (lists_is (end types m) ∙ ap (λ o. option_map_or (λ x. is_listed x.underlying) o false) at) ∙ never)
        where
          by_underlying : (d : NamedUnderlying) → is_listed d ≡ false → AreBoth (fitting.end_by (defined_type s m x) (underlying_by (end types m) d)) (plainly (end types m) d)
          by_underlying (u.Enumeration items) none = (refl, refl)
          by_underlying (u.Select names) none = absurd (false≢true (sym none))
          by_underlying (u.Data d) none = (refl, refl)

      by : (o : Option NamedType) → slice_get types m ≡ o → AreBoth (end_by m o) (fits_plainly m)
      by None is =
          let none : fits_plainly m ≡ false = ap (λ n. option_map_or (λ x. plainly n x.underlying) (slice_get types n) false) (own_none m is) ∙ ap (λ o. option_map_or (λ x. plainly m x.underlying) o false) is in
          (named_fits m ∙ sym none, named_fits m ∙ sym none)
      by (Some x) is = behind x (slice_get types (end types m)) refl

  of_select : (m : ℕ) → is_select types m ≡ true → fits_end m ≡ chosen m
  of_select m sure = ap (λ e. fitting.is_of_kind made e y) (end_is m) ∙ by (slice_get types m) refl ∙ chosen_is m
    where
      chosen_among : Bool
      chosen_among = list_any (fitting.is_of_choice made y) (choices types m)

      listed : (o : Option NamedType) → slice_get types (end types m) ≡ o → option_map_or (λ x. is_listed x.underlying) o false ≡ true
      listed o at = ap (λ o. option_map_or (λ x. is_listed x.underlying) o false) (sym at) ∙ sym (lists_is (end types m)) ∙ sure

      behind : (x : NamedType) (o : Option NamedType) → option_map_or (λ x. is_listed x.underlying) o false ≡ true → fitting.is_of_kind made (fitting.end_by (defined_type s m x) (option_map_or (λ x. underlying_by (end types m) x.underlying) o b.Select)) y ≡ chosen_among
      behind x None some = refl
      behind x (Some z) some = by_underlying z.underlying some
        where
          by_underlying : (d : NamedUnderlying) → is_listed d ≡ true → fitting.is_of_kind made (fitting.end_by (defined_type s m x) (underlying_by (end types m) d)) y ≡ chosen_among
          by_underlying (u.Enumeration items) some = absurd (false≢true some)
          by_underlying (u.Select names) some = refl
          by_underlying (u.Data d) some = absurd (false≢true some)

      by : (o : Option NamedType) → slice_get types m ≡ o → fitting.is_of_kind made (end_by m o) y ≡ chosen_among
      by None is = absurd (false≢true (listed None (ap (slice_get types) (own_none m is) ∙ is)))
      by (Some x) is = behind x (slice_get types (end types m)) (listed (slice_get types (end types m)) refl)

  -- a SELECT chooses what is of a member
  of_member : (n : ℕ) → (chooses (t.Defined n) || chosen n) ≡ fits_end n
  of_member n = ⊎_elim
      (λ (sure : is_select types n ≡ true). ap (λ c. not c && is_of_end n || chosen n) sure ∙ sym (of_select n sure))
      (λ (never : is_select types n ≡ false).
      ap (λ c. not c && is_of_end n || chosen n) never ∙ ap (λ c. is_of_end n || c) (none_chosen n never) ∙ or_none (is_of_end n)
      ∙ (not_select n never).1 ∙ sym (not_select n never).0)
      (cases_Bool (is_select types n))

  -- ---- one step behind a name

  abbrev by_step : Kinds → Bool
  by_step kinds = list_any (has y) (own kinds) || list_any fits_end (filter_map alternative kinds)

  of_names : (names : List TypeName) → (list_any chooses names || list_any chosen (filter_map defined_in names)) ≡ by_step (map of_name names)
  of_names [] = refl
  of_names (t.Entity n ∷ names) =
      sym (or_again (fitting.is_instance y) (list_any chooses names) (list_any chosen (filter_map defined_in names)))
      ∙ ap (λ c. fitting.is_instance y || c) (of_names names)
      ∙ ap (λ c. c || by_step (map of_name names)) (sym (instance_is y n))
      ∙ or_again (has y (itself (k.Entity n))) (list_any (has y) (own (map of_name names))) (list_any fits_end (filter_map alternative (map of_name names)))
  of_names (t.Defined n ∷ names) =
      or_both (chooses (t.Defined n)) (list_any chooses names) (chosen n) (list_any chosen (filter_map defined_in names))
      ∙ ap (λ c. c || (list_any chooses names || list_any chosen (filter_map defined_in names))) (of_member n)
      ∙ ap (λ c. fits_end n || c) (of_names names)
      ∙ or_swap (fits_end n) (list_any (has y) (own (map of_name names))) (list_any fits_end (filter_map alternative (map of_name names)))

  of_data : (p : ℕ → Bool) (d : NamedDataType) → (list_any (has y) (own (of_type d)) || list_any p (filter_map alternative (of_type d))) ≡ (fitting.is_of_written (out-NamedDataType d) y || list_any p (named_in (out-NamedDataType d)))
  of_data p d =
      ap (λ l. list_any (has y) (own l) || list_any p (filter_map alternative l)) (of_type_out d)
      ∙ ap (λ c. c || list_any p (filter_map alternative (of_layer (map-NamedDataType NamedDataType Kinds of_type (out-NamedDataType d))))) (written_own y (out-NamedDataType d))
      ∙ ap (λ l. fitting.is_of_written (out-NamedDataType d) y || list_any p l) (written_named (out-NamedDataType d))

  -- a type that isn't another's name is its own end
  own_plainly : (m : ℕ) (x : NamedType) → slice_get types m ≡ Some x → renamed_by m x.underlying ≡ m → fits_plainly m ≡ plainly m x.underlying
  own_plainly m x at own =
      ap (λ n. option_map_or (λ x. plainly n x.underlying) (slice_get types n) false) (own_end types m (renamed_is types m ∙ ap (λ o. option_map_or (λ x. renamed_by m x.underlying) o m) at ∙ own))
      ∙ ap (λ o. option_map_or (λ x. plainly m x.underlying) o false) at

  own_listed : (m : ℕ) (x : NamedType) → slice_get types m ≡ Some x → renamed_by m x.underlying ≡ m → is_select types m ≡ is_listed x.underlying
  own_listed m x at own =
      ap (lists_members types) (own_end types m (renamed_is types m ∙ ap (λ o. option_map_or (λ x. renamed_by m x.underlying) o m) at ∙ own))
      ∙ lists_is m ∙ ap (λ o. option_map_or (λ x. is_listed x.underlying) o false) at

  members_are : (m : ℕ) (x : NamedType) → slice_get types m ≡ Some x → is_select types m ≡ true → members types m ≡ named_by x.underlying
  members_are m x at sure =
      ap (λ c. if c then option_map_or (λ (x : NamedType). named_by x.underlying) (slice_get types m) [] else []) sure
      ∙ ap (λ o. option_map_or (λ (x : NamedType). named_by x.underlying) o []) at

  chosen_by : (m : ℕ) (x : NamedType) → slice_get types m ≡ Some x → is_select types m ≡ true → fits_end m ≡ (list_any chooses (named_by x.underlying) || list_any chosen (filter_map defined_in (named_by x.underlying)))
  chosen_by m x at sure =
      of_select m sure ∙ chosen_up m ∙ ap (λ c. c && lists m || list_any chosen (filter_map defined_in (members types m))) sure
      ∙ ap (λ l. list_any chooses l || list_any chosen (filter_map defined_in l)) (members_are m x at sure)

  -- one that is another's name is what that one is
  renaming : (m n : ℕ) (x : NamedType) (d : NamedDataType) → slice_get types m ≡ Some x → x.underlying ≡ u.Data d → renamed types m ≡ n → name_in (out-NamedDataType d) ≡ t.Defined n ∷ [] → fits_end m ≡ fits_end n
  renaming m n x d at is next name =
      let same : end types n ≡ end types m = ap (end types) (sym next) ∙ end_again types acyclic m in
      ⊎_elim
      (λ (sure : is_select types m ≡ true).
      chosen_by m x at sure
      ∙ ap (λ (z : NamedUnderlying). list_any chooses (named_by z) || list_any chosen (filter_map defined_in (named_by z))) is
      ∙ ap (λ l. list_any chooses l || list_any chosen (filter_map defined_in l)) name
      ∙ ap (λ c. c || (chosen n || false)) (or_none (chooses (t.Defined n))) ∙ ap (λ c. chooses (t.Defined n) || c) (or_none (chosen n)) ∙ of_member n)
      (λ (never : is_select types m ≡ false).
      (not_select m never).0
      ∙ ap (λ k. option_map_or (λ x. plainly k x.underlying) (slice_get types k) false) (sym same)
      ∙ sym (not_select n (ap (lists_members types) same ∙ never)).0)
      (cases_Bool (is_select types m))

  plain_data : (m : ℕ) (x : NamedType) (d : NamedDataType) → slice_get types m ≡ Some x → x.underlying ≡ u.Data d → renamed_by_data m (out-NamedDataType d) ≡ m → fits_end m ≡ fitting.is_of_written (out-NamedDataType d) y
  plain_data m x d at is stays =
      let itself : renamed_by m x.underlying ≡ m = ap (renamed_by m) is ∙ stays in
      (not_select m (own_listed m x at itself ∙ ap is_listed is)).0 ∙ own_plainly m x at itself ∙ ap (plainly m) is

  by_data : (m : ℕ) (x : NamedType) (d : NamedDataType) → slice_get types m ≡ Some x → x.underlying ≡ u.Data d → (f : NamedDataType-F NamedDataType) → out-NamedDataType d ≡ f
      → fits_end m ≡ (fitting.is_of_written f y || list_any fits_end (named_in f))
  by_data m x d at is (NamedDataType-F.Named (t.Defined n)) out =
      let next : renamed types m ≡ n = renamed_is types m ∙ ap (λ o. option_map_or (λ x. renamed_by m x.underlying) o m) at ∙ ap (renamed_by m) is ∙ ap (renamed_by_data m) out in
      renaming m n x d at is next (ap name_in out) ∙ sym (or_none (fits_end n))
  by_data m x d at is f out =
      plain_data m x d at is (ap (renamed_by_data m) out) ∙ ap (λ g. fitting.is_of_written g y) out ∙ sym (or_none (fitting.is_of_written f y))

  one_step : (m : ℕ) → fits_end m ≡ (own_has m || list_any fits_end (supertypes graph m))
  one_step m =
      by (slice_get types m) refl
      ∙ ap by_step (sym (declared_is m))
      ∙ ap (λ l. own_has m || list_any fits_end l) (sym (steps_are m))
    where
      by_underlying : (x : NamedType) → slice_get types m ≡ Some x → (d : NamedUnderlying) → x.underlying ≡ d → fits_end m ≡ by_step (of_underlying m d)
      by_underlying x at (u.Enumeration items) is =
          let itself : renamed_by m x.underlying ≡ m = ap (renamed_by m) is in
          (not_select m (own_listed m x at itself ∙ ap is_listed is)).0 ∙ own_plainly m x at itself ∙ ap (plainly m) is
          ∙ sym (or_none (has y (record { depth = zero; sort = k.Enumeration m }) || false) ∙ or_none (has y (record { depth = zero; sort = k.Enumeration m })) ∙ item_is y m)
      by_underlying x at (u.Select names) is =
          let sure : is_select types m ≡ true = own_listed m x at (ap (renamed_by m) is) ∙ ap is_listed is in
          chosen_by m x at sure
          ∙ ap (λ (z : NamedUnderlying). list_any chooses (named_by z) || list_any chosen (filter_map defined_in (named_by z))) is
          ∙ of_names names
      by_underlying x at (u.Data d) is = by_data m x d at is (out-NamedDataType d) refl ∙ sym (of_data fits_end d)

      by : (o : Option NamedType) → slice_get types m ≡ o → fits_end m ≡ by_step (option_map_or (λ x. of_underlying m x.underlying) o [])
      by None is =
          let never : is_select types m ≡ false = ap (lists_members types) (own_none m is) ∙ lists_is m ∙ ap (λ o. option_map_or (λ x. is_listed x.underlying) o false) is in
          (not_select m never).0
          ∙ ap (λ n. option_map_or (λ x. plainly n x.underlying) (slice_get types n) false) (own_none m is)
          ∙ ap (λ o. option_map_or (λ x. plainly m x.underlying) o false) is
      by (Some x) is = by_underlying x is x.underlying refl

  -- ---- both

  names_held : (names : List TypeName) → filter_map alternative (map of_name names) ≡ flat_map type_of_name names
  names_held [] = refl
  names_held (t.Entity n ∷ names) = names_held names
  names_held (t.Defined n ∷ names) = ap (λ l. n ∷ l) (names_held names)

  form_held : (f : NamedDataType-F NamedDataType) (n : ℕ) → is_among (named_in f) n ≡ true → is_among (held_in_layer (map-NamedDataType NamedDataType (List ℕ) held_in f)) n ≡ true
  form_held (NamedDataType-F.Named (t.Defined j)) n there = there
  form_held _ n there = absurd (false≢true there)

  declared_held : (m : ℕ) (d : NamedUnderlying) (n : ℕ) → is_among (filter_map alternative (of_underlying m d)) n ≡ true → is_among (held_by d) n ≡ true
  declared_held m (u.Enumeration items) n there = absurd (false≢true there)
  declared_held m (u.Select names) n there = ap (λ l. is_among l n) (sym (names_held names)) ∙ there
  declared_held m (u.Data d) n there =
      ap (λ l. is_among l n) (held_out d)
      ∙ form_held (out-NamedDataType d) n (ap (λ l. is_among l n) (sym (ap (filter_map alternative) (of_type_out d) ∙ written_named (out-NamedDataType d))) ∙ there)

  -- a type holds what it renames or selects
  is_held : (m n : ℕ) → is_among (supertypes graph m) n ≡ true → is_among (supertypes (held_types types) m) n ≡ true
  is_held m n there =
      ap (λ l. is_among l n) (holds types m)
      ∙ by (slice_get types m) (ap (λ l. is_among l n) (sym (steps_are m ∙ ap (filter_map alternative) (declared_is m))) ∙ there)
    where
      by : (o : Option NamedType) → is_among (filter_map alternative (option_map_or (λ x. of_underlying m x.underlying) o [])) n ≡ true → is_among (option_map_or (λ x. held_by x.underlying) o []) n ≡ true
      by None e = absurd (false≢true e)
      by (Some x) e = declared_held m x.underlying n e

  agree : (m : ℕ) → fits_end m ≡ above m
  agree = each (held_types types) acyclic (λ m. fits_end m ≡ above m)
      (λ m same. one_step m ∙ ap (λ c. own_has m || c) (any_same fits_end above (supertypes graph m) (λ n there. same n (is_held m n there))) ∙ sym (one_up m))

  pub fits_is : (d : NamedDataType) → fitting.is_of_kind made (fitting.end made d) y ≡ list_any (some_meaning all (has y)) (of_type d)
  fits_is d = by (out-NamedDataType d) refl ∙ sym (of_data above d) ∙ sym (kinds_are (of_type d))
    where
      by : (f : NamedDataType-F NamedDataType) → out-NamedDataType d ≡ f → fitting.is_of_kind made (fitting.end_in made d f) y ≡ (fitting.is_of_written f y || list_any above (named_in f))
      by (NamedDataType-F.Named (t.Defined n)) out = agree n ∙ sym (or_none (above n))
      by f out = ap (λ g. fitting.is_of_written g y) out ∙ sym (or_none (fitting.is_of_written f y))

types_are : (schema : Checked) → (compiled schema).types ≡ numbered (defined_type schema.named.schema) schema.named.schema.types
unfolding compiled
types_are schema = refl

pub by_kinds : (schema : Checked) → IsAcyclic (held_types schema.named.schema.types) → (data_type : NamedDataType) (x : Value) → fitting.fits (compiled schema).types data_type x ≡ is_of_type schema data_type x
unfolding fitting.fits
by_kinds schema acyclic data_type x =
    fits_is schema.named.schema acyclic (compiled schema).types (types_are schema) (out-Value (bare x)) data_type
    ∙ plain_by_meanings (of_types schema.named.schema.types) (is_of_kind x) (of_type data_type)
