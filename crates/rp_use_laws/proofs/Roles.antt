-- The names of roles: a request takes one apart, and a schema has each in one piece.
use Rattle.std.proofs.Common.{◌≡◌, ◌≤◌, ◌+◌, ℕ, zero, suc, Bool, true, false, ◌&&◌, ◌||◌, if◌then◌else◌, List, [], ◌∷◌, ◌++◌, append_assoc, length, map, filter, Option, Some, None, option_map, All, refl, sym, ◌∙◌, ap, arith}
use Rattle.std.specs.Option.{option_or}
use Rattle.std.proofs.lemmas.Bool.{and_from, and_parts}
use Rattle.std.proofs.lemmas.Bool.Decides.{nat_tests}
use Rattle.std.proofs.lemmas.List.{length-append}
use Rattle.std.proofs.lemmas.List.Elements.{All-cons, filter-append}
use Rattle.std.proofs.lemmas.List.Folds.{find-append}
use Rattle.std.proofs.lemmas.List.Splits.{join_with_byte-slice_split, slice_split_at}
use Rattle.std.proofs.lemmas.Slice.Eq.{bytes_eq-Decides}
use Rattle.std.specs.List.{AllByRecursion, find, flat_map, join_with_byte, list_all, list_any, slice_split}
use Rattle.std.specs.Char.{is_ascii_uppercase}
use Rattle.std.specs.Str.{bytes_eq}
use Rattle.plain_data.specs.Numbers.{numbered, numbered_from}
use Rattle.ex_named.specs.declared.declaration.NamedEntity.{NamedEntity}
use Rattle.ex_named.specs.declared.reference.AttributePlace.{AttributePlace}
use Rattle.ex_named.specs.declared.declaration.NamedSchema.{NamedSchema}
use Rattle.ex_resolve.specs.Proved.{DeclaresOnce, count}
use Rattle.ex_schemas.specs.Schemas.{entity_names}
use Rattle.name_tables.specs.Names.{named, place_of}
use Rattle.ex_tree.specs.Identifiers.{is_identifier, is_identifier_byte}
use Rattle.rp_code.specs.declared.role.NamedRole.{NamedRole}
use Rattle.rp_code.specs.declared.role.Role.TheVariants as r
use Rattle.rp_meaning.specs.CompiledNames.{joined, roles_of, inherited_rows}
use Rattle.rp_population.specs.Uses.{is_full_stop}
use Rattle.rp_use_laws.proofs.Lists.{given, numbered_next, one_way}

-- ---- names without a full stop

abbrev pub IsPlainName : List ℕ → Type 0
IsPlainName name = All (λ byte. is_full_stop byte ≡ false) name

plain_letter : (b : ℕ) → is_ascii_uppercase b ≡ true → is_full_stop b ≡ false
plain_letter b is = grind (arith, nat_tests)

plain_byte : (b : ℕ) → is_identifier_byte b ≡ true → is_full_stop b ≡ false
plain_byte b is = grind (arith, nat_tests)

no_byte : IsPlainName []
no_byte k d less = absurd (omega arith)

plain_bytes : (bs : List ℕ) → list_all is_identifier_byte bs ≡ true → IsPlainName bs
plain_bytes [] all = no_byte
plain_bytes (b ∷ bs) all =
    let both = and_parts (is_identifier_byte b) (list_all is_identifier_byte bs) all in
    All-cons (λ byte. is_full_stop byte ≡ false) b bs (plain_byte b both.0) (plain_bytes bs both.1)

-- an identifier has no full stop
pub plain_name : (name : List ℕ) → is_identifier name ≡ true → IsPlainName name
unfolding is_identifier
plain_name [] is = cc
plain_name (b ∷ bs) is =
    let both = and_parts (is_ascii_uppercase b) (list_all is_identifier_byte bs) is in
    All-cons (λ byte. is_full_stop byte ≡ false) b bs (plain_letter b both.0) (plain_bytes bs both.1)

-- ---- the names of entities

count_both : (name : List ℕ) (ns ms : List (List ℕ)) → count name (ns ++ ms) ≡ count name ns + count name ms
count_both name ns ms = ap length (filter-append (λ n. bytes_eq n name) ns ms) ∙ length-append (filter (λ n. bytes_eq n name) ns) (filter (λ n. bytes_eq n name) ms)

third_of_all : (name : List ℕ) (a b c d e : List (List ℕ)) → count name (a ++ b ++ c ++ d ++ e) ≤ 1 → count name c ≤ 1
third_of_all name a b c d e all =
    let four = count_both name (a ++ b ++ c ++ d) e in
    let three = count_both name (a ++ b ++ c) d in
    let two = count_both name (a ++ b) c in
    omega arith

-- no two entities have one name
pub entities_once : (s : NamedSchema) → DeclaresOnce s → (name : List ℕ) → count name (entity_names s.entities) ≤ 1
entities_once s once name =
    let constants : List (List ℕ) = map (λ c. c.name.text) s.constants in
    let types : List (List ℕ) = map (λ t. t.name.text) s.types in
    let functions : List (List ℕ) = map (λ f. f.name.text) s.functions in
    let rules : List (List ℕ) = map (λ r. r.name.text) s.rules in
    let all : count name (constants ++ types ++ entity_names s.entities ++ functions ++ rules) ≤ 1 = once name in
    third_of_all name constants types (entity_names s.entities) functions rules all

-- ---- three names in one piece

abbrev pub in_one : List ℕ → List ℕ → List ℕ → List ℕ
in_one first second third = joined (joined first second) third

in_row : (first second third : List ℕ) → in_one first second third ≡ first ++ 46 ∷ (second ++ 46 ∷ third)
in_row first second third = append_assoc first (46 ∷ second) (46 ∷ third)

pub parts_of : (first second third : List ℕ) → IsPlainName first → IsPlainName second → slice_split is_full_stop (in_one first second third) ≡ first ∷ second ∷ slice_split is_full_stop third
parts_of first second third plain also =
    ap (slice_split is_full_stop) (in_row first second third)
    ∙ slice_split_at is_full_stop first 46 (second ++ 46 ∷ third) plain refl
    ∙ ap (λ l. first ∷ l) (slice_split_at is_full_stop second 46 third also refl)

module _ (text first second third : List ℕ) (split : slice_split is_full_stop text ≡ first ∷ second ∷ third ∷ []) where
  joins : text ≡ in_one first second third
  joins =
      sym (join_with_byte-slice_split 46 text) ∙ ap (join_with_byte 46) split ∙ sym (in_row first second third)

  other_parts : (one other : List ℕ) → IsPlainName first → IsPlainName one → in_one first one other ≡ text → (one ≡ second) × (other ≡ third)
  other_parts one other plain also same =
      let parts : first ∷ one ∷ slice_split is_full_stop other ≡ first ∷ second ∷ third ∷ [] = sym (parts_of first one other plain also) ∙ ap (slice_split is_full_stop) same ∙ split in
      let last : slice_split is_full_stop other ≡ third ∷ [] = cc in
      (cc, sym (join_with_byte-slice_split 46 other) ∙ ap (join_with_byte 46) last)

  -- the text is these names in one piece where they are its parts
  spells : (one other : List ℕ) → IsPlainName first → IsPlainName one → bytes_eq (in_one first one other) text ≡ (bytes_eq one second && bytes_eq other third)
  spells one other plain also = one_way (bytes_eq (in_one first one other) text) (bytes_eq one second && bytes_eq other third)
      (λ same.
      let parts = other_parts one other plain also ((bytes_eq-Decides (in_one first one other) text).0 same) in
      and_from (bytes_eq one second) (bytes_eq other third) ((bytes_eq-Decides one second).1 parts.0) ((bytes_eq-Decides other third).1 parts.1))
      (λ both.
      let parts = and_parts (bytes_eq one second) (bytes_eq other third) both in
      (bytes_eq-Decides (in_one first one other) text).1
      (ap (λ l. in_one first l other) ((bytes_eq-Decides one second).0 parts.0) ∙ ap (in_one first second) ((bytes_eq-Decides other third).0 parts.1) ∙ sym joins))

  -- ---- the role of the text

  abbrev is_role : NamedRole → Bool
  is_role x = bytes_eq x.name text

  module _ (entities : List NamedEntity) (supertypes : List (List ℕ)) (plain : IsPlainName first) where
    abbrev rows : ℕ → List (List ℕ × AttributePlace)
    rows number = inherited_rows entities supertypes number

    -- the role of an entity of this name, by one of its attributes
    abbrev role_by : ℕ → List ℕ → List ℕ × AttributePlace → NamedRole
    role_by number name x = record { name = joined (joined first name) x.0; role = r.Of number (named x.0 (rows number)) }

    abbrev has_name : List (List ℕ × AttributePlace) → Bool
    has_name rs = list_any (λ r. bytes_eq r.0 third) rs

    abbrev pub the_role : ℕ → NamedRole
    the_role number = record { name = text; role = r.Of number (named third (rows number)) }

    abbrev role_if : Bool → ℕ → Option NamedRole
    role_if t number = if t then Some (the_role number) else None

    abbrev pub answer : ℕ → Option NamedRole
    answer number = role_if (has_name (rows number)) number

    in_rows : (number : ℕ) (name : List ℕ) → IsPlainName name → (t : Bool) → bytes_eq name second ≡ t → (rs : List (List ℕ × AttributePlace))
        → find is_role (map (role_by number name) rs) ≡ (if t then role_if (has_name rs) number else None)
    in_rows number name also true is [] = refl
    in_rows number name also false is [] = refl
    in_rows number name also true is (x ∷ rs) =
        ap (λ b. if b then Some (role_by number name x) else find is_role (map (role_by number name) rs)) (spells name x.0 plain also ∙ ap (λ b. b && bytes_eq x.0 third) is)
        ∙ by (in_rows number name also true is rs) (bytes_eq x.0 third) refl
      where
        by : find is_role (map (role_by number name) rs) ≡ role_if (has_name rs) number → (u : Bool) → bytes_eq x.0 third ≡ u
            → (if true && u then Some (role_by number name x) else find is_role (map (role_by number name) rs)) ≡ role_if (u || has_name rs) number
        by rest true same =
            let row : x.0 ≡ third = (bytes_eq-Decides x.0 third).0 same in
            let entity : name ≡ second = (bytes_eq-Decides name second).0 is in
            let spelled : in_one first name x.0 ≡ text = ap (λ l. in_one first l x.0) entity ∙ ap (in_one first second) row ∙ sym joins in
            λ i. Some (record { name = spelled i; role = r.Of number (named (row i) (rows number)) })
        by rest false same = rest
    in_rows number name also false is (x ∷ rs) =
        ap (λ b. if b then Some (role_by number name x) else find is_role (map (role_by number name) rs)) (spells name x.0 plain also ∙ ap (λ b. b && bytes_eq x.0 third) is)
        ∙ in_rows number name also false is rs

    -- what is found of each entity
    abbrev Finds : (ℕ → NamedEntity → List NamedRole) → (ℕ → Option NamedRole) → List NamedEntity → Type 0
    Finds made answers es = (k : ℕ) → AllByRecursion (λ (x : NamedEntity). find is_role (made k x) ≡ (if bytes_eq x.name.text second then answers k else None)) es

    none_found : (made : ℕ → NamedEntity → List NamedRole) (answers : ℕ → Option NamedRole) (k : ℕ) (es : List NamedEntity) → Finds made answers es → count second (entity_names es) ≤ 0
        → find is_role (flat_map (λ roles. roles) (numbered_from made k es)) ≡ None
    none_found made answers k [] finds few = refl
    none_found made answers k (x ∷ es) finds few = by (none_found made answers (suc k) es (λ j. (finds j).1)) (bytes_eq x.name.text second) refl
      where
        by : (count second (entity_names es) ≤ 0 → find is_role (flat_map (λ roles. roles) (numbered_from made (suc k) es)) ≡ None) → (t : Bool) → bytes_eq x.name.text second ≡ t
            → find is_role (made k x ++ flat_map (λ roles. roles) (numbered_from made (suc k) es)) ≡ None
        by rest true is = let one : count second (entity_names (x ∷ es)) ≡ suc (count second (entity_names es)) = rw is refl in absurd (omega arith)
        by rest false is =
            let same : count second (entity_names (x ∷ es)) ≡ count second (entity_names es) = rw is refl in
            find-append is_role (made k x) (flat_map (λ roles. roles) (numbered_from made (suc k) es))
            ∙ ap (λ o. option_or o (find is_role (flat_map (λ roles. roles) (numbered_from made (suc k) es)))) ((finds k).0 ∙ ap (λ t. if t then answers k else None) is)
            ∙ rest (omega arith)

    no_more : (o : Option NamedRole) → option_or o None ≡ o
    no_more None = refl
    no_more (Some x) = refl

    found_at : (made : ℕ → NamedEntity → List NamedRole) (answers : ℕ → Option NamedRole) (n : ℕ) (es : List NamedEntity) → Finds made answers es → count second (entity_names es) ≤ 1
        → place_of second (entity_names es) ≡ Some n → find is_role (flat_map (λ roles. roles) (numbered made es)) ≡ answers n
    found_at made answers n [] finds once place = cc
    found_at made answers n (x ∷ es) finds once place =
        find-append is_role (made zero x) (flat_map (λ roles. roles) (numbered_from made (suc zero) es))
        ∙ ap (λ o. option_or o (find is_role (flat_map (λ roles. roles) (numbered_from made (suc zero) es)))) (finds zero).0
        ∙ by (λ m. found_at (λ k y. made (suc k) y) (λ k. answers (suc k)) m es (λ k. (finds (suc k)).1)) (bytes_eq x.name.text second) refl
      where
        by : ((m : ℕ) → count second (entity_names es) ≤ 1 → place_of second (entity_names es) ≡ Some m → find is_role (flat_map (λ roles. roles) (numbered (λ k y. made (suc k) y) es)) ≡ answers (suc m))
            → (t : Bool) → bytes_eq x.name.text second ≡ t
            → option_or (if t then answers zero else None) (find is_role (flat_map (λ roles. roles) (numbered_from made (suc zero) es))) ≡ answers n
        by rest true is =
            let one : count second (entity_names (x ∷ es)) ≡ suc (count second (entity_names es)) = rw is refl in
            let here : place_of second (entity_names (x ∷ es)) ≡ Some zero = rw is refl in
            let first_is : zero ≡ n = cc in
            ap (option_or (answers zero)) (none_found made answers (suc zero) es (λ k. (finds k).1) (omega arith)) ∙ no_more (answers zero) ∙ ap answers first_is
        by rest false is =
            let same : count second (entity_names (x ∷ es)) ≡ count second (entity_names es) = rw is refl in
            let there : place_of second (entity_names (x ∷ es)) ≡ option_map suc (place_of second (entity_names es)) = rw is refl in
            let found = given suc (place_of second (entity_names es)) n (sym there ∙ place) in
            ap (λ l. find is_role (flat_map (λ roles. roles) l)) (numbered_next made zero es) ∙ rest found.0 (omega arith) found.1.0 ∙ ap answers found.1.1

    abbrev made_by : ℕ → NamedEntity → List NamedRole
    made_by k x = roles_of entities supertypes k (joined first x.name.text)

    abbrev are_identified : List NamedEntity → Bool
    are_identified es = list_all (λ e. is_identifier e.name.text) es

    all_found : (es : List NamedEntity) → are_identified es ≡ true → Finds made_by answer es
    all_found [] names k = tt
    all_found (x ∷ es) names k =
        let both = and_parts (is_identifier x.name.text) (are_identified es) names in
        (in_rows k x.name.text (plain_name x.name.text both.0) (bytes_eq x.name.text second) refl (rows k), all_found es both.1 k)

    -- the first role of this name is that of the entity, if this has such an attribute
    pub role_found : (n : ℕ) → are_identified entities ≡ true → count second (entity_names entities) ≤ 1 → place_of second (entity_names entities) ≡ Some n
        → find is_role (flat_map (λ roles. roles) (numbered made_by entities)) ≡ answer n
    role_found n names once place = found_at made_by answer n entities (all_found entities names) once place
