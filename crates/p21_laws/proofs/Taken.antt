-- What a type takes of a value, it takes again from the tree of what it took, which nests no deeper and is well spelled.
use Rattle.std.proofs.Common.{◌≡◌, ℕ, ℤ, suc, ◌≤◌, Bool, true, false, not, ◌||◌, ◌==◌, if◌then◌else◌, List, [], ◌∷◌, ◌++◌, map, filter, Option, Some, None, option_map, slice_get, Result, Ok, Err, FitsSigned, refl, sym, ◌∙◌, ap, subst, arith}
use mir.Syntax.{w64}
use Rattle.std.proofs.lemmas.Bool.Decides.{nat_tests}
use Rattle.std.specs.Fmt.{signed_decimal}
use Rattle.std.specs.List.{cons_option, filter_map}
use Rattle.std.specs.Str.{str_to_ascii_uppercase}
use Rattle.plain_data.specs.Numbers.{is_among}
use Rattle.ex_named.specs.declared.declaration.NamedType.{NamedType}
use Rattle.ex_named.specs.declared.expression.NamedDataType.{NamedDataType}
use Rattle.ex_tree.specs.declared.data_type.SimpleType.TheVariants as simple
use Rattle.ex_renamings.specs.Renamings as selects
use Rattle.graphs.specs.Graphs.{family}
use Rattle.name_tables.specs.Names.{place_of}
use Rattle.p21_spelling.proofs.Runs.{both_hold, first_holds, second_holds}
use Rattle.p21_spelling.proofs.Values.{spelling_roll}
use Rattle.p21_spelling.proofs.Written.{written_integer, written_real, written_text}
use Rattle.p21_spelling.specs.Tokens.{is_name, is_word}
use Rattle.p21_spelling.specs.Values as spellings
use Rattle.p21_spelling.specs.Values.{Spelling, all_spelled, deepest, leaf, list, spelling, typed}
use Rattle.p21_escapes.proofs.Escapes.{decoded-encoded}
use Rattle.p21_escapes.specs.Decoding.{decoded}
use Rattle.p21_escapes.specs.Encoding.{encoded}
use Rattle.p21_tree.specs.declared.value.Value as tree
use Rattle.p21_tree.specs.declared.value.Value.TheFolds.{ind-Value, map-Value}
use Rattle.p21_tree.specs.declared.value.Value.TheOpen.{Value-F}
use Rattle.p21_tree.specs.declared.value.Value.TheViews.{roll-Value}
use Rattle.ex_selects.specs.Ends.{Base, Plain, Instance, Aggregate, Enumeration, Select, Nothing, Target, base_of, choices, chooses_instances, inside, selection, target}
use Rattle.p21_values.specs.Taking as taking
use Rattle.p21_values.specs.Taking.{Meaning, all_there, bare, bare_at, bound, by_choice, chosen, is_that, meaning, named_by, none, of_binary, of_integer, of_item, of_list, of_real, of_text, only, place, reference_at, with_first}
use Rattle.ex_selects.specs.Items.{items, type_named}
use Rattle.p21_values.specs.Tokens.{bits, boolean, integer, logical, ok}
use Rattle.p21_canonical.specs.Binaries.{binary}
use Rattle.p21_canonical.specs.Trees.{item_name, logical_name, type_name, value_tree}
use Rattle.rp_numbers.proofs.Rereading.{read_again}
use Rattle.rp_numbers.specs.Decimals.{Decimal, IsNormal}
use Rattle.rp_numbers.specs.Spelling.{parse}
use Rattle.rp_numbers.specs.Written.{written}
use Rattle.rp_numbers.specs.declared.Logical.{Logical}
use Rattle.rp_value.specs.Elements.{Elements}
use Rattle.rp_value.specs.declared.value.AggregateKind.{AggregateKind}
use Rattle.rp_value.specs.declared.value.Value.{Value}
use Rattle.rp_value.specs.declared.value.Value.TheVariants as v
use Rattle.p21_laws.proofs.Firsts.{split}
use Rattle.p21_laws.proofs.Bits.{bits_again, bits_spelled}
use Rattle.p21_laws.proofs.Decimals.{parse_normal}
use Rattle.p21_laws.proofs.Ends.{IsTarget, inside-base, inside_is, is_select, no_select, none_there, target_is}
use Rattle.p21_laws.proofs.Forms.{again, shown, meaning_roll, again-Indet, again-Int, again-Dec, again-Str, again-Bin, again-Log, again-Item, again-Inst, again-Agg, again-Named, shown-Indet, shown-Int, shown-Dec, shown-Str, shown-Bin, shown-Log, shown-Item, shown-Inst, shown-Agg, shown-Named}
use Rattle.p21_laws.proofs.Items.{boolean_again, item_is, item_is_word, letter_is_word, logical_again, upper_twice}
use Rattle.p21_laws.proofs.Names.{given, name_again, name_is_word, named_there}
use Rattle.p21_laws.proofs.Numbers.{integer_again, integer_fits}
use Rattle.p21_laws.proofs.Texts.{decoded_text}
use Rattle.p21_laws.specs.Types.{AreTypes}

-- ---- members of lists

same_number : (k : ℕ) → (k == k) ≡ true
same_number k = grind (arith, nat_tests)

is_number : (j k : ℕ) → (j == k) ≡ true → j ≡ k
is_number j k e = grind (arith, nat_tests)

or_first : (a b : Bool) → a ≡ true → (a || b) ≡ true
or_first a b e = rw e refl

or_second : (a b : Bool) → b ≡ true → (a || b) ≡ true
or_second true b e = refl
or_second false b e = e

kept_by : (f : ℕ → Bool) (x k : ℕ) (xs : List ℕ) (t s : Bool) → f x ≡ t → (x == k) ≡ s → (is_among (filter f xs) k ≡ true → f k ≡ true) → is_among (if t then x ∷ filter f xs else filter f xs) k ≡ true → f k ≡ true
kept_by f x k xs true true is this later e = ap f (sym (is_number x k this)) ∙ is
kept_by f x k xs true false is other later e = let rest : is_among (x ∷ filter f xs) k ≡ is_among (filter f xs) k = rw other refl in later (sym rest ∙ e)
kept_by f x k xs false s is same later e = later e

among_kept : (f : ℕ → Bool) (xs : List ℕ) (k : ℕ) → is_among (filter f xs) k ≡ true → f k ≡ true
among_kept f [] k e = cc
among_kept f (x ∷ xs) k e = kept_by f x k xs (f x) (x == k) refl refl (among_kept f xs k) e

turned : (t : Bool) → not t ≡ true → t ≡ false
turned true e = cc
turned false e = refl

ok_is : {A E : Type 0} (r : Result A E) (a : A) → ok r ≡ Some a → r ≡ Ok a
ok_is (Ok b) a e = let same : b ≡ a = cc in ap Ok same
ok_is (Err why) a e = cc

module _ (types : List NamedType) (are : AreTypes types) where
  -- no SELECT is among what SELECTs choose from
  choice_plain : (n k : ℕ) → is_among (choices types n) k ≡ true → is_select (base_of types k) ≡ false
  unfolding choices
  choice_plain n k there = no_select types k (turned (selects.is_select types k) (among_kept (λ k. not (selects.is_select types k)) (family (selection types) n) k there))

  -- what a type of this base took of what was spelled so
  record Taken (s : Spelling) (base : Base) (w : Value) : Type 0 where
    is_value : (again types w).is_unset ≡ false
    takes : (x : Target) → x.base ≡ base → IsTarget types x → (again types w).fit x ≡ Some w
    spelled : s.is_spelled ≡ true → (shown types w).is_spelled ≡ true
    levels : (shown types w).levels ≤ s.levels
    inside : is_select base ≡ false → (shown types w).levels_in_keyword ≤ s.levels

  of_more : (s more : Spelling) (base : Base) (w : Value) → (more.is_spelled ≡ true → s.is_spelled ≡ true) → s.levels ≤ more.levels → Taken s base w → Taken more base w
  of_more s more base w is deeper taken = record {
    is_value = taken.is_value;
    takes = taken.takes;
    spelled = λ e. taken.spelled (is e);
    levels = (let less = taken.levels in omega arith);
    inside = λ plain. (let less = taken.inside plain in omega arith);
  }

  -- ---- without a keyword

  -- what a base that is no SELECT takes
  at_base : (plain : Base → Option Value) (base : Base) → is_select base ≡ false → bare_at types plain base ≡ plain base
  at_base plain (Select number) e = cc
  at_base plain (Plain s) e = refl
  at_base plain Instance e = refl
  at_base plain (Aggregate kind low element) e = refl
  at_base plain (Enumeration number) e = refl
  at_base plain Nothing e = refl

  bare_takes : (plain : Base → Option Value) (base : Base) (w : Value) → again types w ≡ bare types plain → is_select base ≡ false → plain base ≡ Some w
      → (x : Target) → x.base ≡ base → (again types w).fit x ≡ Some w
  bare_takes plain base w is single takes x same = ap (λ (m : Meaning). m.fit x) is ∙ ap (bare_at types plain) same ∙ at_base plain base single ∙ takes

  leaf_taken : (s : Spelling) (plain : Base → Option Value) (base : Base) (w : Value) (text : List ℕ) (test : Bool) → again types w ≡ bare types plain → shown types w ≡ leaf text test → test ≡ true
      → is_select base ≡ false → plain base ≡ Some w → Taken s base w
  leaf_taken s plain base w text test is shows passes single takes =
      let flat : (shown types w).levels ≡ 0 = ap (λ (s : Spelling). s.levels) shows in
      let flat_inside : (shown types w).levels_in_keyword ≡ 0 = ap (λ (s : Spelling). s.levels_in_keyword) shows in
      record {
        is_value = ap (λ m. m.is_unset) is;
        takes = λ x same target. bare_takes plain base w is single takes x same;
        spelled = λ e. ap (λ (s : Spelling). s.is_spelled) shows ∙ passes;
        levels = omega arith;
        inside = λ plain. omega arith;
      }

  module _ (s : Spelling) where
    int_taken : (base : Base) (z : ℤ) → FitsSigned w64 z → is_select base ≡ false → of_integer (signed_decimal z) base ≡ Some (v.Int z) → Taken s base (v.Int z)
    int_taken base z fits single takes = leaf_taken s (of_integer (signed_decimal z)) base (v.Int z) (signed_decimal z) _ (again-Int types z) (shown-Int types z) (written_integer z fits) single takes

    dec_taken : (base : Base) (d : Decimal) → IsNormal d → is_select base ≡ false → of_real (written d) base ≡ Some (v.Dec d) → Taken s base (v.Dec d)
    dec_taken base d normal single takes = leaf_taken s (of_real (written d)) base (v.Dec d) (written d) _ (again-Dec types d) (shown-Dec types d) (written_real d normal) single takes

    -- a decimal that was read of a token
    real_of : (base : Base) (token : List ℕ) (w : Value) → is_select base ≡ false → ((d : Decimal) → of_real (written d) base ≡ option_map v.Dec (ok (parse (written d)))) → option_map v.Dec (ok (parse token)) ≡ Some w → Taken s base w
    real_of base token w single says e =
        let found = given v.Dec (ok (parse token)) w e in
        let normal = parse_normal token found.0 (ok_is (parse token) found.0 found.1.0) in
        subst (Taken s base) found.1.1 (dec_taken base found.0 normal single (says found.0 ∙ ap (λ r. option_map v.Dec (ok r)) (read_again found.0 normal)))

    integer_of : (base : Base) (token : List ℕ) (w : Value) → is_select base ≡ false → ((z : ℤ) → of_integer (signed_decimal z) base ≡ option_map v.Int (integer (signed_decimal z))) → option_map v.Int (integer token) ≡ Some w → Taken s base w
    integer_of base token w single says e =
        let found = given v.Int (integer token) w e in
        subst (Taken s base) found.1.1 (int_taken base found.0 (integer_fits token found.0 found.1.0) single (says found.0 ∙ ap (option_map v.Int) (integer_again token found.0 found.1.0)))

    integer_taken : (token : List ℕ) (base : Base) (w : Value) → of_integer token base ≡ Some w → is_select base ≡ false → Taken s base w
    integer_taken token (Plain simple.Integer) w e single = integer_of (Plain simple.Integer) token w refl (λ z. refl) e
    integer_taken token (Plain simple.Number) w e single = integer_of (Plain simple.Number) token w refl (λ z. refl) e
    integer_taken token (Plain simple.Real) w e single = real_of (Plain simple.Real) (token ++ 46 ∷ []) w refl (λ d. refl) e
    integer_taken token _ w e single = cc

    real_taken : (token : List ℕ) (base : Base) (w : Value) → of_real token base ≡ Some w → is_select base ≡ false → Taken s base w
    real_taken token (Plain simple.Number) w e single = real_of (Plain simple.Number) token w refl (λ d. refl) e
    real_taken token (Plain simple.Real) w e single = real_of (Plain simple.Real) token w refl (λ d. refl) e
    real_taken token _ w e single = cc

    text_taken : (token : List ℕ) (base : Base) (w : Value) → of_text token base ≡ Some w → is_select base ≡ false → Taken s base w
    text_taken token (Plain (simple.String width)) w e single =
        let found = given v.Str (ok (decoded token)) w e in
        let text : List ℕ = found.0 in
        let utf8 = decoded_text token text (ok_is (decoded token) text found.1.0) in
        subst (Taken s (Plain (simple.String width))) found.1.1
        (leaf_taken s (of_text (encoded text)) (Plain (simple.String width)) (v.Str text) _ _ (again-Str types text) (shown-Str types text) (written_text text utf8) refl
        (ap (λ r. option_map v.Str (ok r)) (decoded-encoded text utf8)))
    text_taken token _ w e single = cc

    binary_taken : (token : List ℕ) (base : Base) (w : Value) → of_binary token base ≡ Some w → is_select base ≡ false → Taken s base w
    binary_taken token (Plain (simple.Binary width)) w e single =
        let same : v.Bin (bits token) ≡ w = cc in
        subst (Taken s (Plain (simple.Binary width))) same
        (leaf_taken s (of_binary (binary (bits token))) (Plain (simple.Binary width)) (v.Bin (bits token)) _ _ (again-Bin types (bits token)) (shown-Bin types (bits token)) (bits_spelled (bits token)) refl
        (ap (λ b. Some (v.Bin b)) (bits_again (bits token))))
    binary_taken token _ w e single = cc

    -- ---- items: of a token in upper case

    log_taken : (base : Base) (x : Logical) → is_select base ≡ false → of_item types (str_to_ascii_uppercase (logical_name x)) base ≡ Some (v.Log x) → Taken s base (v.Log x)
    log_taken base x single takes = leaf_taken s (of_item types (str_to_ascii_uppercase (logical_name x))) base (v.Log x) _ _ (again-Log types x) (shown-Log types x) (letter_is_word x) single takes

    item_taken : (token : List ℕ) → str_to_ascii_uppercase token ≡ token → (base : Base) (w : Value) → of_item types token base ≡ Some w → is_select base ≡ false → Taken s base w
    item_taken token upper (Plain simple.Boolean) w e single =
        let found = given v.Log (boolean token) w e in
        subst (Taken s (Plain simple.Boolean)) found.1.1 (log_taken (Plain simple.Boolean) found.0 refl (ap (option_map v.Log) (boolean_again token found.0 found.1.0)))
    item_taken token upper (Plain simple.Logical) w e single =
        let found = given v.Log (logical token) w e in
        subst (Taken s (Plain simple.Logical)) found.1.1 (log_taken (Plain simple.Logical) found.0 refl (ap (option_map v.Log) (logical_again found.0)))
    item_taken token upper (Enumeration n) w e single =
        let found = given (v.Item n) (place_of token (items types n)) w e in
        let name = item_is types n found.0 token found.1.0 in
        let written_upper : str_to_ascii_uppercase (item_name types n found.0) ≡ token = ap str_to_ascii_uppercase name ∙ upper in
        subst (Taken s (Enumeration n)) found.1.1
        (leaf_taken s (of_item types (str_to_ascii_uppercase (item_name types n found.0))) (Enumeration n) (v.Item n found.0) _ _ (again-Item types n found.0) (shown-Item types n found.0)
        (ap is_word name ∙ item_is_word types are n found.0 token found.1.0) refl
        (ap (λ token. of_item types token (Enumeration n)) written_upper ∙ ap (option_map (v.Item n)) found.1.0))
    item_taken token upper _ w e single = cc

    -- ---- references

    reference_is : (n : ℕ) (base : Base) → (s.is_spelled ≡ true → is_name n ≡ true) → reference_at types n base ≡ Some (v.Inst n) → Taken s base (v.Inst n)
    reference_is n base name takes =
        let flat : (shown types (v.Inst n)).levels ≡ 0 = ap (λ (s : Spelling). s.levels) (shown-Inst types n) in
        let flat_inside : (shown types (v.Inst n)).levels_in_keyword ≡ 0 = ap (λ (s : Spelling). s.levels_in_keyword) (shown-Inst types n) in
        record {
          is_value = ap (λ m. m.is_unset) (again-Inst types n);
          takes = λ x same target. ap (λ (m : Meaning). m.fit x) (again-Inst types n) ∙ ap (reference_at types n) same ∙ takes;
          spelled = λ e. ap (λ (s : Spelling). s.is_spelled) (shown-Inst types n) ∙ name e;
          levels = omega arith;
          inside = λ plain. omega arith;
        }

    chosen_if : (n : ℕ) (w : Value) (t : Bool) → (if t then Some (v.Inst n) else None) ≡ Some w → (v.Inst n ≡ w) × ((if t then Some (v.Inst n) else None) ≡ Some (v.Inst n))
    chosen_if n w true e = (cc, refl)
    chosen_if n w false e = cc

    reference_taken : (n : ℕ) (base : Base) (w : Value) → (s.is_spelled ≡ true → is_name n ≡ true) → reference_at types n base ≡ Some w → Taken s base w
    reference_taken n Instance w name e = let same : v.Inst n ≡ w = cc in subst (Taken s Instance) same (reference_is n Instance name refl)
    reference_taken n (Select number) w name e =
        let found = chosen_if n w (chooses_instances types number) e in
        subst (Taken s (Select number)) found.0 (reference_is n (Select number) name found.1)
    reference_taken n _ w name e = cc

    -- ---- a value under the name of what a SELECT chooses from

    not_own : (k n : ℕ) (x : Target) (name : Option ℕ) → x.name ≡ name → is_select (base_of types k) ≡ false → x.base ≡ Select n → IsTarget types x → is_that types name k ≡ false
    not_own k n x None is plain same target = refl
    not_own k n x (Some j) is plain same target = by_test (j == k) refl
      where
        by_test : (t : Bool) → (j == k) ≡ t → (j == k) ≡ false
        by_test false e = e
        by_test true e =
            let select : is_select (base_of types k) ≡ true = ap (λ k. is_select (base_of types k)) (sym (is_number j k e)) ∙ ap is_select (sym (target j is)) ∙ ap is_select same in
            cc

    named_taken : (n k : ℕ) (u : Value) (d : NamedType) → slice_get types k ≡ Some d → is_among (choices types n) k ≡ true → Taken s (base_of types k) u → Taken s (Select n) (v.Named k u)
    named_taken n k u d is there inner =
        let plain = choice_plain n k there in
        let deep : (shown types (v.Named k u)).levels ≡ (shown types u).levels_in_keyword = ap (λ (s : Spelling). s.levels) (shown-Named types k u) in
        let less = inner.inside plain in
        record {
          is_value = ap (λ m. m.is_unset) (again-Named types k u);
          takes = λ x same target.
              ap (λ (m : Meaning). m.fit x) (again-Named types k u)
              ∙ ap (λ o. named_by types (again types u) o x) (name_again types are k d is)
              ∙ ap (λ t. if t then (again types u).fit (inside types k) else chosen types (again types u) k x.base) (not_own k n x x.name refl plain same target)
              ∙ ap (chosen types (again types u) k) same
              ∙ ap (λ t. if t then option_map (v.Named k) ((again types u).fit (inside types k)) else None) there
              ∙ ap (option_map (v.Named k)) (inner.takes (inside types k) (inside-base types are.held k) (inside_is types k));
          spelled = λ e.
              ap (λ (s : Spelling). s.is_spelled) (shown-Named types k u)
              ∙ both_hold (is_word (type_name types k)) (shown types u).is_spelled (name_is_word types are k d is) (inner.spelled e);
          levels = omega arith;
          inside = λ single. cc;
        }

    -- ---- the only one that takes it

    only_is : (ws : List Value) (w : Value) → only ws ≡ Some w → ws ≡ w ∷ []
    only_is [] w e = cc
    only_is (x ∷ []) w e = let same : x ≡ w = cc in ap (λ x. x ∷ []) same
    only_is (x ∷ y ∷ ws) w e = cc

    record Chosen (plain : Base → Option Value) (ks : List ℕ) (w : Value) : Type 0 where
      number : ℕ
      value : Value
      there : is_among ks number ≡ true
      takes : plain (base_of types number) ≡ Some value
      is : v.Named number value ≡ w

    chosen_at : (plain : Base → Option Value) (k : ℕ) (ks : List ℕ) (w : Value) (o : Option Value) → plain (base_of types k) ≡ o → (filter_map (by_choice types plain) ks ≡ w ∷ [] → Chosen plain ks w)
        → cons_option (option_map (v.Named k) o) (filter_map (by_choice types plain) ks) ≡ w ∷ [] → Chosen plain (k ∷ ks) w
    chosen_at plain k ks w None is later e =
        let c = later e in
        record { number = c.number; value = c.value; there = or_second (k == c.number) (is_among ks c.number) c.there; takes = c.takes; is = c.is }
    chosen_at plain k ks w (Some u) is later e =
        let same : v.Named k u ≡ w = cc in
        record { number = k; value = u; there = or_first (k == k) (is_among ks k) (same_number k); takes = is; is = same }

    chosen_of : (plain : Base → Option Value) (ks : List ℕ) (w : Value) → filter_map (by_choice types plain) ks ≡ w ∷ [] → Chosen plain ks w
    chosen_of plain [] w e = cc
    chosen_of plain (k ∷ ks) w e = chosen_at plain k ks w (plain (base_of types k)) refl (chosen_of plain ks w) e

    declared : (plain : Base → Option Value) (k : ℕ) (u : Value) (o : Option NamedType) → plain Nothing ≡ None → plain (base_of types k) ≡ Some u → slice_get types k ≡ o → (d : NamedType) × (slice_get types k ≡ Some d)
    declared plain k u None nothing e is = let single : None ≡ Some u = sym nothing ∙ ap plain (sym (none_there types are.held k is)) ∙ e in cc
    declared plain k u (Some d) nothing e is = (d, is)

    module _ (plain : Base → Option Value) (nothing : plain Nothing ≡ None) (all : (base : Base) (w : Value) → plain base ≡ Some w → is_select base ≡ false → Taken s base w) where
      bare_taken : (base : Base) (w : Value) → bare_at types plain base ≡ Some w → Taken s base w
      bare_taken (Select n) w e =
          let c = chosen_of plain (choices types n) w (only_is (filter_map (by_choice types plain) (choices types n)) w e) in
          let d = declared plain c.number c.value (slice_get types c.number) nothing c.takes refl in
          subst (Taken s (Select n)) c.is (named_taken n c.number c.value d.0 d.1 c.there (all (base_of types c.number) c.value c.takes (choice_plain n c.number c.there)))
      bare_taken (Plain simple) w e = all (Plain simple) w e refl
      bare_taken Instance w e = all Instance w e refl
      bare_taken (Aggregate kind low element) w e = all (Aggregate kind low element) w e refl
      bare_taken (Enumeration n) w e = all (Enumeration n) w e refl
      bare_taken Nothing w e = all Nothing w e refl

  -- ---- a value of a file

  abbrev GoodBy : Meaning → Spelling → Type 0
  GoodBy m s = (s.levels ≤ s.levels_in_keyword) × ((y : Target) (w : Value) → IsTarget types y → m.fit y ≡ Some w → Taken s y.base w)

  abbrev IsGood : tree.Value → Type 0
  IsGood x = GoodBy (meaning types x) (spelling x)

  -- ---- `$`, or a value

  record Placed (s : Spelling) (y : Target) (w : Value) : Type 0 where
    takes : place (again types w) y ≡ Some w
    spelled : s.is_spelled ≡ true → (shown types w).is_spelled ≡ true
    levels : (shown types w).levels ≤ s.levels

  unset_placed : (s : Spelling) (y : Target) → Placed s y v.Indet
  unset_placed s y =
      let flat : (shown types v.Indet).levels ≡ 0 = ap (λ (s : Spelling). s.levels) (shown-Indet types) in
      record { takes = ap (λ m. place m y) (again-Indet types); spelled = λ e. ap (λ (s : Spelling). s.is_spelled) (shown-Indet types); levels = omega arith }

  placed_by : (x : tree.Value) (y : Target) (w : Value) (t : Bool) → IsGood x → IsTarget types y → (if t then Some v.Indet else (meaning types x).fit y) ≡ Some w → Placed (spelling x) y w
  placed_by x y w true good target e = let same : v.Indet ≡ w = cc in subst (Placed (spelling x) y) same (unset_placed (spelling x) y)
  placed_by x y w false good target e =
      let taken = good.1 y w target e in
      record {
        takes = ap (λ t. if t then Some v.Indet else (again types w).fit y) taken.is_value ∙ taken.takes y refl target;
        spelled = taken.spelled;
        levels = taken.levels;
      }

  placed : (x : tree.Value) (y : Target) (w : Value) → IsGood x → IsTarget types y → place (meaning types x) y ≡ Some w → Placed (spelling x) y w
  placed x y w good target e = placed_by x y w (meaning types x).is_unset good target e

  -- ---- lists

  record AllPlaced (ss : List Spelling) (y : Target) (ws : List Value) : Type 0 where
    takes : all_there (map (λ m. place m y) (map (again types) ws)) ≡ Some ws
    spelled : all_spelled ss ≡ true → all_spelled (map (shown types) ws) ≡ true
    levels : deepest (map (shown types) ws) ≤ deepest ss

  one_more : (s : Spelling) (ss : List Spelling) (y : Target) (w : Value) (ws : List Value) → Placed s y w → AllPlaced ss y ws → AllPlaced (s ∷ ss) y (w ∷ ws)
  one_more s ss y w ws first others = record {
    takes = ap (λ o. with_first o (all_there (map (λ m. place m y) (map (again types) ws)))) first.takes ∙ ap (with_first (Some w)) others.takes;
    spelled = λ e.
        both_hold (shown types w).is_spelled (all_spelled (map (shown types) ws)) (first.spelled (first_holds s.is_spelled (all_spelled ss) e)) (others.spelled (second_holds s.is_spelled (all_spelled ss) e));
    levels = (let less = first.levels in let few = others.levels in omega arith);
  }

  abbrev trees_of : List ((x : tree.Value) × IsGood x) → List tree.Value
  trees_of ps = map (λ p. p.0) ps

  all_placed : (ps : List ((x : tree.Value) × IsGood x)) (y : Target) (ws : List Value) → IsTarget types y → all_there (map (λ m. place m y) (map (meaning types) (trees_of ps))) ≡ Some ws
      → AllPlaced (map spelling (trees_of ps)) y ws
  all_placed [] y ws target e = let same : [] ≡ ws = cc in subst (AllPlaced [] y) same (record { takes = refl; spelled = λ e. refl; levels = omega arith })
  all_placed (p ∷ ps) y ws target e =
      let s = split (place (meaning types p.0) y) (all_there (map (λ m. place m y) (map (meaning types) (trees_of ps)))) ws e in
      subst (AllPlaced (spelling p.0 ∷ map spelling (trees_of ps)) y) s.is
      (one_more (spelling p.0) (map spelling (trees_of ps)) y s.head s.tail (placed p.0 y s.head p.1 target s.is_head) (all_placed ps y s.tail target s.is_tail))

  agg_taken : (ss : List Spelling) (kind : AggregateKind) (low : ℤ) (element : NamedDataType) (ws : List Value) → AllPlaced ss (target types element) ws
      → Taken (list ss) (Aggregate kind low element) (v.Agg kind (record { low = low; items = ws }))
  agg_taken ss kind low element ws all =
      let e : Elements Value = record { low = low; items = ws } in
      let deep : (shown types (v.Agg kind e)).levels ≡ suc (deepest (map (shown types) ws)) = ap (λ (s : Spelling). s.levels) (shown-Agg types kind e) in
      let deep_inside : (shown types (v.Agg kind e)).levels_in_keyword ≡ suc (deepest (map (shown types) ws)) = ap (λ (s : Spelling). s.levels_in_keyword) (shown-Agg types kind e) in
      let few = all.levels in
      record {
        is_value = ap (λ m. m.is_unset) (again-Agg types kind e);
        takes = λ x same target.
            bare_takes (of_list types (map (again types) ws)) (Aggregate kind low element) (v.Agg kind e) (again-Agg types kind e) refl
            (ap (option_map (λ (xs : List Value). v.Agg kind (record { low = low; items = xs }))) all.takes) x same;
        spelled = λ e. ap (λ (s : Spelling). s.is_spelled) (shown-Agg types kind (record { low = low; items = ws })) ∙ all.spelled e;
        levels = omega arith;
        inside = λ plain. omega arith;
      }

  list_taken : (ps : List ((x : tree.Value) × IsGood x)) (base : Base) (w : Value) → of_list types (map (meaning types) (trees_of ps)) base ≡ Some w → is_select base ≡ false → Taken (list (map spelling (trees_of ps))) base w
  list_taken ps (Aggregate kind low element) w e single =
      let found = given (λ (xs : List Value). v.Agg kind (record { low = low; items = xs })) (all_there (map (λ m. place m (target types element)) (map (meaning types) (trees_of ps)))) w e in
      subst (Taken (list (map spelling (trees_of ps))) (Aggregate kind low element)) found.1.1
      (agg_taken (map spelling (trees_of ps)) kind low element found.0 (all_placed ps (target types element) found.0 (target_is types element) found.1.0))
  list_taken ps _ w e single = cc

  -- ---- keywords

  module _ (keyword : List ℕ) (x : tree.Value) (good : IsGood x) where
    abbrev under : Spelling
    under = typed keyword (spelling x)

    of_inner : (base : Base) (w : Value) → Taken (spelling x) base w → Taken under base w
    of_inner base w taken = of_more (spelling x) under base w (λ e. second_holds (is_word keyword) (spelling x).is_spelled e) good.0 taken

    behind_name : (k : ℕ) (w : Value) → (meaning types x).fit (inside types k) ≡ Some w → Taken under (base_of types k) w
    behind_name k w e = subst (λ base. Taken under base w) (inside-base types are.held k) (of_inner (inside types k).base w (good.1 (inside types k) w (inside_is types k) e))

    chosen_by : (n k : ℕ) (w : Value) (t : Bool) (d : NamedType) → slice_get types k ≡ Some d → is_among (choices types n) k ≡ t
        → (if t then option_map (v.Named k) ((meaning types x).fit (inside types k)) else None) ≡ Some w → Taken under (Select n) w
    chosen_by n k w true d is there e =
        let found = given (v.Named k) ((meaning types x).fit (inside types k)) w e in
        subst (Taken under (Select n)) found.1.1 (named_taken under n k found.0 d is there (behind_name k found.0 found.1.0))
    chosen_by n k w false d is there e = cc

    chosen_taken : (k : ℕ) (d : NamedType) → slice_get types k ≡ Some d → (base : Base) (w : Value) → chosen types (meaning types x) k base ≡ Some w → Taken under base w
    chosen_taken k d is (Select n) w e = chosen_by n k w (is_among (choices types n) k) d is refl e
    chosen_taken k d is _ w e = cc

    own_name : (k : ℕ) (y : Target) (name : Option ℕ) → y.name ≡ name → is_that types name k ≡ true → IsTarget types y → y.base ≡ base_of types k
    own_name k y None is own target = cc
    own_name k y (Some j) is own target = target j is ∙ ap (base_of types) (is_number j k own)

    named_by_test : (k : ℕ) (d : NamedType) → slice_get types k ≡ Some d → (y : Target) (w : Value) (t : Bool) → IsTarget types y → is_that types y.name k ≡ t
        → (if t then (meaning types x).fit (inside types k) else chosen types (meaning types x) k y.base) ≡ Some w → Taken under y.base w
    named_by_test k d is y w true target own e = subst (λ base. Taken under base w) (sym (own_name k y y.name refl own target)) (behind_name k w e)
    named_by_test k d is y w false target own e = chosen_taken k d is y.base w e

    named_by_type : (o : Option ℕ) → type_named types keyword ≡ o → (y : Target) (w : Value) → IsTarget types y → named_by types (meaning types x) o y ≡ Some w → Taken under y.base w
    named_by_type None is y w target e = cc
    named_by_type (Some k) is y w target e = let d = named_there types keyword k is in named_by_test k d.0 d.1 y w (is_that types y.name k) target refl e

  -- ---- all

  abbrev LayerGood : Value-F tree.Value → Type 0
  LayerGood z = GoodBy (taking.layer types (map-Value tree.Value Meaning (meaning types) z)) (spellings.layer (map-Value tree.Value Spelling spelling z))

  flat : (n : ℕ) → n ≤ n
  flat n = omega arith

  layer_good : (y : Value-F ((x : tree.Value) × IsGood x)) → LayerGood (map-Value ((x : tree.Value) × IsGood x) tree.Value (λ p. p.0) y)
  layer_good Value-F.Unset = (flat 0, λ y w target e. cc)
  layer_good Value-F.Derived = (flat 0, λ y w target e. cc)
  layer_good (Value-F.Integer t) = (flat 0, λ y w target e. let s = spellings.layer (Value-F.Integer t) in bare_taken s (of_integer t) refl (integer_taken s t) y.base w e)
  layer_good (Value-F.Real t) = (flat 0, λ y w target e. let s = spellings.layer (Value-F.Real t) in bare_taken s (of_real t) refl (real_taken s t) y.base w e)
  layer_good (Value-F.Text t) = (flat 0, λ y w target e. let s = spellings.layer (Value-F.Text t) in bare_taken s (of_text t) refl (text_taken s t) y.base w e)
  layer_good (Value-F.Item t) = (
    flat 0,
    λ y w target e.
        let s = spellings.layer (Value-F.Item t) in
        bare_taken s (of_item types (str_to_ascii_uppercase t)) refl (item_taken s (str_to_ascii_uppercase t) (upper_twice t)) y.base w e,
  )
  layer_good (Value-F.Binary t) = (flat 0, λ y w target e. let s = spellings.layer (Value-F.Binary t) in bare_taken s (of_binary t) refl (binary_taken s t) y.base w e)
  layer_good (Value-F.Reference n) = (flat 0, λ y w target e. reference_taken (spellings.layer (Value-F.Reference n)) n y.base w (λ is. is) e)
  layer_good (Value-F.List ps) = (
    flat (suc (deepest (map spelling (trees_of ps)))),
    λ y w target e.
        bare_taken (list (map spelling (trees_of ps))) (of_list types (map (meaning types) (trees_of ps))) refl (list_taken ps) y.base w e,
  )
  layer_good (Value-F.Typed keyword p) = (more (spelling p.0).levels_in_keyword, λ y w target e. named_by_type keyword p.0 p.1 (type_named types keyword) refl y w target e)
    where
      more : (n : ℕ) → n ≤ suc n
      more n = omega arith

  is_good : (x : tree.Value) → IsGood x
  is_good = ind-Value IsGood (λ x y is.
      subst (λ (m : Meaning). GoodBy m (spelling (roll-Value x))) (sym (meaning_roll types x))
      (subst (GoodBy (taking.layer types (map-Value tree.Value Meaning (meaning types) x))) (sym (spelling_roll x)) (subst LayerGood is (layer_good y))))

  -- ---- the laws

  bound_placed : (d : NamedDataType) (x : tree.Value) (w : Value) → bound types d x ≡ Some w → Placed (spelling x) (target types d) w
  unfolding bound
  bound_placed d x w e = placed x (target types d) w (is_good x) (target_is types d) e

  pub bound_again : (d : NamedDataType) (x : tree.Value) (w : Value) → bound types d x ≡ Some w → bound types d (value_tree types w) ≡ Some w
  unfolding bound
  bound_again d x w e = (bound_placed d x w e).takes

  pub bound_levels : (d : NamedDataType) (x : tree.Value) (w : Value) → bound types d x ≡ Some w → (spelling (value_tree types w)).levels ≤ (spelling x).levels
  bound_levels d x w e = (bound_placed d x w e).levels

  pub bound_spelled : (d : NamedDataType) (x : tree.Value) (w : Value) → bound types d x ≡ Some w → (spelling x).is_spelled ≡ true → (spelling (value_tree types w)).is_spelled ≡ true
  bound_spelled d x w e = (bound_placed d x w e).spelled

pub ruleset taken = (bound_again, bound_levels, bound_spelled)
