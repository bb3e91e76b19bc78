-- Keywords, each once, and the numbers that they stand for.
use Rattle.std.proofs.Common.{◌≡◌, ℕ, suc, Bool, true, false, ◌||◌, ◌==◌, List, [], ◌∷◌, ◌++◌, map, Option, Some, None, is_some, option_map, slice_get, ⊎_elim, refl, sym, ◌∙◌, ap, subst}
use Rattle.std.proofs.lemmas.Bool.{cases_Bool, eqb-true}
use Rattle.std.proofs.lemmas.List.Folds.{list_any-append}
use Rattle.std.proofs.lemmas.Slice.Eq.{bytes_eq-Decides}
use Rattle.std.specs.List.{list_any}
use Rattle.std.specs.Str.{bytes_eq}
use Rattle.plain_data.specs.Numbers.{is_among}
use Rattle.ex_types.specs.Checked.{Checked, entity_names}
use Rattle.graphs.proofs.Sets.{either}
use Rattle.name_tables.specs.Names.{place_of}
use Rattle.p21_mappings.specs.Instances.{keywords, repeats}
use Rattle.p21_values.specs.Taking.{all_there, with_first}
use Rattle.p21_laws.proofs.Firsts.{split}
use Rattle.ex_layouts.specs.Entities.{entity_spelled}
use Rattle.p21_tree.specs.declared.instance.Record.{Record}
use Rattle.p21_laws.proofs.Names.{place_has}
use Rattle.p21_laws.proofs.Order.{OnceBy, neither}
use Rattle.p21_laws.proofs.Pairs.{AllBoth}
use Rattle.p21_laws.proofs.Sets.{behind, here}

abbrev has : List ℕ → List (List ℕ) → Bool
has k ks = list_any (λ x. bytes_eq x k) ks

mapped : (o : Option ℕ) → is_some (option_map suc o) ≡ is_some o
mapped None = refl
mapped (Some n) = refl

place_some : (k : List ℕ) (ks : List (List ℕ)) → is_some (place_of k ks) ≡ has k ks
place_some k [] = refl
place_some k (x ∷ ks) = ⊎_elim
    (λ (same : bytes_eq x k ≡ true). rw same refl)
    (λ (other : bytes_eq x k ≡ false). rw other (mapped (place_of k ks) ∙ place_some k ks))
    (cases_Bool (bytes_eq x k))

or_none : (b : Bool) → b ≡ false → (b || false) ≡ false
or_none false e = refl
or_none true e = e

abbrev pub itself : ℕ → ℕ
itself n = n

-- ---- of numbers that have names of their own

module _ (key : ℕ → List ℕ) (all : List ℕ) (apart : (n m : ℕ) → is_among all n ≡ true → is_among all m ≡ true → key n ≡ key m → n ≡ m) where
  one_more : (before : List (List ℕ)) (n m : ℕ) (ns : List ℕ) → is_among all n ≡ true → is_among all m ≡ true → is_among ns n ≡ false → is_among ns m ≡ true → has (key m) before ≡ false → has (key m) (before ++ key n ∷ []) ≡ false
  one_more before n m ns in_n in_m new there none =
      let other : bytes_eq (key n) (key m) ≡ false = ⊎_elim
      (λ (same : bytes_eq (key n) (key m) ≡ true).
      let is : n ≡ m = apart n m in_n in_m ((bytes_eq-Decides (key n) (key m)).0 same) in
      let both : true ≡ false = sym there ∙ ap (is_among ns) (sym is) ∙ new in
      cc)
      (λ (other : bytes_eq (key n) (key m) ≡ false). other)
      (cases_Bool (bytes_eq (key n) (key m))) in
      list_any-append (λ x. bytes_eq x (key m)) before (key n ∷ []) ∙ ap (λ b. b || (bytes_eq (key n) (key m) || false)) none ∙ or_none (bytes_eq (key n) (key m)) other

  pub none_repeat : (before : List (List ℕ)) (ns : List ℕ) → ((n : ℕ) → is_among ns n ≡ true → is_among all n ≡ true) → ((n : ℕ) → is_among ns n ≡ true → has (key n) before ≡ false) → OnceBy itself ns → repeats before (map key ns) ≡ false
  none_repeat before [] within new once = refl
  none_repeat before (n ∷ ns) within new once =
      ap (λ b. b || repeats (before ++ key n ∷ []) (map key ns)) (place_some (key n) before ∙ new n (here n ns))
      ∙ none_repeat (before ++ key n ∷ []) ns (λ m there. within m (behind n m ns there))
      (λ m there. one_more before n m ns (within n (here n ns)) (within m (behind n m ns there)) once.0 there (new m (behind n m ns there)))
      once.1

-- ---- of keywords that do not repeat

module _ (names : List (List ℕ)) where
  abbrev Stands : ℕ → List ℕ → Type 0
  Stands n k = place_of k names ≡ Some n

  same_place : (j k : List ℕ) (m n : ℕ) → Stands m j → Stands n k → n ≡ m → j ≡ k
  same_place j k m n is_j is_k same =
      let both : Some j ≡ Some k = sym (place_has j names m is_j) ∙ ap (slice_get names) (sym same) ∙ place_has k names n is_k in
      cc

  is_last : (k : List ℕ) (before : List (List ℕ)) → has k (before ++ k ∷ []) ≡ false → true ≡ false
  is_last k before none =
      let parts = neither (has k before) (bytes_eq k k || false) (sym (list_any-append (λ x. bytes_eq x k) before (k ∷ [])) ∙ none) in
      let other = neither (bytes_eq k k) false parts.1 in
      sym ((bytes_eq-Decides k k).1 refl) ∙ other.0

  pub once_read : (before : List (List ℕ)) (ns : List ℕ) (ks : List (List ℕ)) → AllBoth Stands ns ks → repeats before ks ≡ false
      → OnceBy itself ns × ((n : ℕ) → is_among ns n ≡ true → (k : List ℕ) → Stands n k → has k before ≡ false)
  once_read before [] [] p e = (tt, λ n there k is. cc)
  once_read before [] (k ∷ ks) p e = absurd p
  once_read before (n ∷ ns) [] p e = absurd p
  once_read before (n ∷ ns) (k ∷ ks) p e =
      let parts = neither (is_some (place_of k before)) (repeats (before ++ k ∷ []) ks) e in
      let later = once_read (before ++ k ∷ []) ns ks p.1 parts.1 in
      let first : has k before ≡ false = sym (place_some k before) ∙ parts.0 in
      let new : is_among ns n ≡ false = ⊎_elim
      (λ (there : is_among ns n ≡ true). let both = is_last k before (later.1 n there k p.0) in cc)
      (λ (other : is_among ns n ≡ false). other)
      (cases_Bool (is_among ns n)) in (
        (new, later.0),
        λ m there j is. ⊎_elim
            (λ (same : (n == m) ≡ true). ap (λ k. has k before) (same_place j k m n is p.0 (eqb-true n m same)) ∙ first)
            (λ (rest : is_among ns m ≡ true).
            (neither (has j before) (bytes_eq k j || false) (sym (list_any-append (λ x. bytes_eq x j) before (k ∷ [])) ∙ later.1 m rest j is)).0)
            (either (n == m) (is_among ns m) there),
      )

-- ---- the entities of the parts of a mapping

module _ (schema : Checked) where
  abbrev pub Names : ℕ → Record → Type 0
  Names n r = entity_spelled schema r.keyword ≡ Some n

  pub numbers_found : (rs : List Record) (ns : List ℕ) → all_there (map (λ r. entity_spelled schema r.keyword) rs) ≡ Some ns → AllBoth Names ns rs
  numbers_found [] ns e = let same : [] ≡ ns = cc in subst (λ ns. AllBoth Names ns []) same tt
  numbers_found (r ∷ rs) ns e =
      let s = split (entity_spelled schema r.keyword) (all_there (map (λ r. entity_spelled schema r.keyword) rs)) ns e in
      subst (λ ns. AllBoth Names ns (r ∷ rs)) s.is (s.is_head, numbers_found rs s.tail s.is_tail)

  pub keywords_stand : (ns : List ℕ) (rs : List Record) → AllBoth Names ns rs → AllBoth (Stands (entity_names schema.named.schema.entities)) ns (keywords rs)
  keywords_stand [] [] p = tt
  keywords_stand [] (r ∷ rs) p = absurd p
  keywords_stand (n ∷ ns) [] p = absurd p
  keywords_stand (n ∷ ns) (r ∷ rs) p = (p.0, keywords_stand ns rs p.1)

  pub all_found : (made : ℕ → Record) (ns : List ℕ) → ((n : ℕ) → is_among ns n ≡ true → Names n (made n)) → all_there (map (λ r. entity_spelled schema r.keyword) (map made ns)) ≡ Some ns
  all_found made [] each = refl
  all_found made (n ∷ ns) each =
      ap (λ o. with_first o (all_there (map (λ r. entity_spelled schema r.keyword) (map made ns)))) (each n (here n ns))
      ∙ ap (with_first (Some n)) (all_found made ns (λ m there. each m (behind n m ns there)))
