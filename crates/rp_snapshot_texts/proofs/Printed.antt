-- What is written of rows is printed as UTF-8, and read as these tokens.
use Rattle.std.proofs.Common.{◌≡◌, ℕ, ◌<◌, ◌^◌, Bool, true, List, [], ◌∷◌, ◌++◌, IsUtf8, codes, decimal, refl, sym, ap, subst, ◌∙◌, append_assoc}
use Rattle.std.specs.List.{AllByRecursion, flat_map}
use Rattle.std.proofs.lemmas.Fmt.{IsAscii-decimal}
use Rattle.std.proofs.lemmas.Str.{IsUtf8-append, IsUtf8-nil, IsUtf8-from_ascii}
use Rattle.json.specs.Token.{Token, begin_object, end_object, begin_array, end_array, key, string, number}
use Rattle.json.specs.Lex.{tokens}
use Rattle.json.specs.Print.{ends, print, print_from, token_text, ArePrintable, IsPrintable}
use Rattle.json.proofs.Printed.Decimals.{IsNumber-decimal}
use Rattle.json.proofs.Printed.Tokens.{tokens-print}
use Rattle.json.proofs.Printed.Utf8.{are_ascii, IsUtf8-are_ascii, IsUtf8-key, IsUtf8-quoted, IsUtf8-separator}
use Rattle.serde_json.specs.Written.{compact_text}
use Rattle.serde_json.proofs.Texts.{print-outline}
use Rattle.rp_content.specs.declared.link.Link.{Link}
use Rattle.rp_rows.specs.declared.rows.Level.{Level}
use Rattle.rp_rows.specs.declared.rows.Level.TheVariants.{Read, Group, Write}
use Rattle.rp_rows.specs.declared.rows.Grant.{Grant}
use Rattle.rp_rows.specs.declared.rows.Key.{Key}
use Rattle.rp_rows.specs.declared.rows.ModelContent.{ModelContent}
use Rattle.rp_rows.specs.Rows.{Model, GroupRow}
use Rattle.rp_snapshot_rows.specs.Written.{level_word, group_data}
use Rattle.rp_json.specs.Tokens.{tokens_of, listed}
use Rattle.rp_json.proofs.ListLemmas.{items_tokens-map}
use Rattle.rp_snapshot_rows.specs.Tokens.{grant_tokens, reader_tokens, link_tokens, member_tokens, tail_tokens, behind_grants, model_tokens, behind_readers, group_tokens}
use Rattle.rp_snapshot_rows.specs.Again.{HasNumbers}
use Rattle.rp_snapshot_rows.proofs.Forms.{model_written, group_written}
use Rattle.rp_snapshot_texts.specs.Texts.{model_by, rows_data}
use Rattle.rp_snapshot_texts.specs.Again.{from_models, rows_tokens, IsTextGrant, IsTextKey, IsTextLink, IsTextGroup, IsTextModel}

-- a token that can be printed, as UTF-8
abbrev IsGood : Token → Type 0
IsGood t = IsPrintable t × IsUtf8 (token_text t)

abbrev AreGood : List Token → Type 0
AreGood = AllByRecursion IsGood

good_both : (ts us : List Token) → AreGood ts → AreGood us → AreGood (ts ++ us)
good_both [] us one other = other
good_both (t ∷ ts) us one other = (one.0, good_both ts us one.1 other)

good_each : {X : Type 0} (each : X → List Token) (P : X → Type 0) (of : (x : X) → P x → AreGood (each x)) (xs : List X) → AllByRecursion P xs → AreGood (listed each xs)
good_each each P of [] all = ((tt, IsUtf8-are_ascii _ refl), tt)
good_each each P of (x ∷ xs) all = subst AreGood (sym (append_assoc (each x) (flat_map each xs) (end_array ∷ []))) (good_both (each x) (listed each xs) (of x all.0) (good_each each P of xs all.1))

good_printable : (ts : List Token) → AreGood ts → ArePrintable ts
unfolding ArePrintable
good_printable [] good = tt
good_printable (t ∷ ts) good = (good.0.0, good_printable ts good.1)

good_utf8 : (after : Bool) (ts : List Token) → AreGood ts → IsUtf8 (print_from after ts)
unfolding print_from
good_utf8 after [] good = IsUtf8-nil
good_utf8 after (t ∷ ts) good = IsUtf8-append _ _ (IsUtf8-separator after t) (IsUtf8-append _ _ good.0.1 (good_utf8 (ends t) ts good.1))

-- ---- single tokens

good_string : (s : List ℕ) → IsUtf8 s → IsGood (string s)
good_string s u = (tt, IsUtf8-quoted s u)

-- a key of ASCII letters
word : (s : List ℕ) → are_ascii s ≡ true → IsGood (key s)
word s e = (tt, IsUtf8-key s (IsUtf8-are_ascii s e))

good_number : (n : ℕ) → n < 2 ^ 64 → IsGood (number (decimal n))
good_number n h = (IsNumber-decimal n h, IsUtf8-from_ascii (decimal n) (IsAscii-decimal n h))

open_brace : IsGood begin_object
open_brace = (tt, IsUtf8-are_ascii _ refl)

close_brace : IsGood end_object
close_brace = (tt, IsUtf8-are_ascii _ refl)

open_bracket : IsGood begin_array
open_bracket = (tt, IsUtf8-are_ascii _ refl)

close_bracket : IsGood end_array
close_bracket = (tt, IsUtf8-are_ascii _ refl)

-- ---- items of lists

word_utf8 : (l : Level) → IsUtf8 (level_word l)
word_utf8 Read = IsUtf8-are_ascii _ refl
word_utf8 Group = IsUtf8-are_ascii _ refl
word_utf8 Write = IsUtf8-are_ascii _ refl

good_grant : (g : Grant) → IsTextGrant g → AreGood (grant_tokens g)
good_grant g u = (open_bracket, (good_string g.partner u, (good_string (level_word g.level) (word_utf8 g.level), (close_bracket, tt))))

good_reader : (g : Grant) → IsTextGrant g → AreGood (reader_tokens g)
good_reader g u = (good_string g.partner u, tt)

good_member : (k : Key) → IsTextKey k → AreGood (member_tokens k)
good_member k u = (open_bracket, (good_string k.owner u.0, (good_string k.name u.1, (close_bracket, tt))))

-- its texts are texts, and its numbers are of 64 bits
abbrev IsWholeLink : Link → Type 0
IsWholeLink l = IsTextLink l × HasNumbers l

both_all : {X : Type 0} (P Q : X → Type 0) (xs : List X) → AllByRecursion P xs → AllByRecursion Q xs → AllByRecursion (λ x. P x × Q x) xs
both_all P Q [] p q = tt
both_all P Q (x ∷ xs) p q = ((p.0, q.0), both_all P Q xs p.1 q.1)

good_link : (l : Link) → IsTextLink l × HasNumbers l → AreGood (link_tokens l)
good_link l h = (
  open_brace,
  (
    word (codes "instance") refl,
    (
      good_number l.target h.1.1,
      (
        word (codes "model") refl,
        (
          good_string l.model h.0.1,
          (
            word (codes "name") refl,
            (
              good_number l.name h.1.0,
              (word (codes "owner") refl, (good_string l.owner h.0.0, (close_brace, tt))),
            ),
          ),
        ),
      ),
    ),
  ),
)

-- ---- rows

good_tail : (owner name schema : List ℕ) → IsUtf8 owner → IsUtf8 name → IsUtf8 schema → AreGood (tail_tokens owner name schema)
good_tail owner name schema o n s = (word (codes "name") refl, (good_string name n, (word (codes "owner") refl, (good_string owner o, (word (codes "schema") refl, (good_string schema s, (close_brace, tt)))))))

good_model : (file : ModelContent → List ℕ) (m : Model) → IsTextModel file m → AreGood (tokens_of (model_by file m))
good_model file m h =
    let links = good_each link_tokens IsWholeLink good_link m.holds.content.links (both_all IsTextLink HasNumbers m.holds.content.links h.links h.numbers.1) in
    let tail = good_tail m.owner m.name m.holds.schema h.owner h.name h.schema in
    let behind : AreGood (behind_grants m) = (
      word (codes "greatest") refl,
      (good_number m.holds.greatest h.numbers.0, (word (codes "links") refl, (open_bracket, good_both (listed link_tokens m.holds.content.links) (tail_tokens m.owner m.name m.holds.schema) links tail))),
    ) in
    let grants = good_each grant_tokens IsTextGrant good_grant m.grants h.grants in
    let whole : AreGood (model_tokens (file m.holds) m) = (
      open_brace,
      (word (codes "file") refl, (good_string (file m.holds) h.written, (word (codes "grants") refl, (open_bracket, good_both (listed grant_tokens m.grants) (behind_grants m) grants behind)))),
    ) in
    subst AreGood (sym (model_written (file m.holds) m)) whole

good_group : (g : GroupRow) → IsTextGroup g → AreGood (tokens_of (group_data g))
good_group g h =
    let members = good_each member_tokens IsTextKey good_member g.holds.members h.members in
    let tail = good_tail g.owner g.name g.holds.schema h.owner h.name h.schema in
    let behind : AreGood (behind_readers g) = (word (codes "members") refl, (open_bracket, good_both (listed member_tokens g.holds.members) (tail_tokens g.owner g.name g.holds.schema) members tail)) in
    let grants = good_each reader_tokens IsTextGrant good_reader g.grants h.grants in
    let whole : AreGood (group_tokens g) = (open_brace, (word (codes "grants") refl, (open_bracket, good_both (listed reader_tokens g.grants) (behind_readers g) grants behind))) in
    subst AreGood (sym (group_written g)) whole

-- ---- the whole

rows_written : (file : ModelContent → List ℕ) (groups : List GroupRow) (models : List Model) → tokens_of (rows_data file groups models) ≡ rows_tokens file groups models
rows_written file groups models = rw (items_tokens-map group_data groups, items_tokens-map (model_by file) models) refl

good_rows : (file : ModelContent → List ℕ) (groups : List GroupRow) (models : List Model) → AllByRecursion IsTextGroup groups → AllByRecursion (IsTextModel file) models → AreGood (rows_tokens file groups models)
good_rows file groups models gs ms =
    let listed_models = good_each (λ m. tokens_of (model_by file m)) (IsTextModel file) (good_model file) models ms in
    let models_on : AreGood (from_models file models) = good_both (listed (λ m. tokens_of (model_by file m)) models) (end_object ∷ []) listed_models (close_brace, tt) in
    let listed_groups = good_each (λ g. tokens_of (group_data g)) IsTextGroup good_group groups gs in
    (open_brace, (word (codes "groups") refl, (open_bracket, good_both (listed (λ g. tokens_of (group_data g)) groups) (key (codes "models") ∷ begin_array ∷ from_models file models) listed_groups (word (codes "models") refl, (open_bracket, models_on)))))

printed : (file : ModelContent → List ℕ) (groups : List GroupRow) (models : List Model) → compact_text (rows_data file groups models) ≡ print (rows_tokens file groups models)
printed file groups models = sym (print-outline (rows_data file groups models)) ∙ ap print (rows_written file groups models)

pub rows_are_text : (file : ModelContent → List ℕ) (groups : List GroupRow) (models : List Model) → AllByRecursion IsTextGroup groups → AllByRecursion (IsTextModel file) models → IsUtf8 (compact_text (rows_data file groups models))
rows_are_text file groups models gs ms = subst IsUtf8 (sym (printed file groups models)) (good_utf8 _ (rows_tokens file groups models) (good_rows file groups models gs ms))

pub rows_are_read : (file : ModelContent → List ℕ) (groups : List GroupRow) (models : List Model) → AllByRecursion IsTextGroup groups → AllByRecursion (IsTextModel file) models → tokens (compact_text (rows_data file groups models)) ≡ rows_tokens file groups models
rows_are_read file groups models gs ms = ap tokens (printed file groups models) ∙ tokens-print (rows_tokens file groups models) (good_printable (rows_tokens file groups models) (good_rows file groups models gs ms))
