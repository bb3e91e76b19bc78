-- The files of a delivery, one after another.
use Rattle.std.proofs.Common.{◌≡◌, ◌⊎◌, ◌<◌, ◌≤◌, ◌+◌, ℕ, zero, suc, Bool, true, false, List, [], ◌∷◌, ◌++◌, length, get_or, take, drop, map, Option, Some, None, IfSome, Ok, refl, sym, ap, subst, ◌∙◌, append_assoc, append-nil, inl, inr, ⊎_elim, arith}
use Rattle.std.specs.Prelude.{nat_le, if◌then◌else◌}
use Rattle.std.proofs.lemmas.Bool.Decides.{nat_tests}
use Rattle.std.proofs.lemmas.List.{take_all, map_more}
use Rattle.ex_types.specs.Checked.{Checked}
use Rattle.std.specs.Str.{is_utf8}
use Rattle.rp_files.specs.Files.{Held, file_at}
use Rattle.rp_plain.specs.declared.messages.Reply.TheVariants.{Refused}
use Rattle.rp_plain.specs.declared.messages.Refusal.TheVariants.{BadRequest}
use Rattle.rp_plain.specs.declared.messages.Reply.{Reply}
use Rattle.rp_plain.specs.Plain.{Plain}
use Rattle.rp_plain.specs.Meaning.{schema_name}
use Rattle.rp_delivery.specs.Choice.{place_named}
use Rattle.rp_delivery.specs.Requests.{create, put, puts, validation, is_refused, Taken, IsAnswer, Makes}
use Rattle.rp_delivery.specs.Deliveries.{IsText, AreTexts, IsUnasked, name_of, schema_of, place_for, ArePut, EndsWith, turns, IsDelivered}
use Rattle.rp_delivery.proofs.TurnLemmas.{taken_append, answer_behind, answer_before}

-- ---- texts

texts_more : (files : Option Held) (paths texts : List (List ℕ)) (path text : List ℕ) → AreTexts files paths texts → IsText files path text → AreTexts files (paths ++ path ∷ []) (texts ++ text ∷ [])
texts_more files [] [] path text all is = (is, tt)
texts_more files [] (t ∷ ts) path text all is = absurd all
texts_more files (p ∷ ps) [] path text all is = absurd all
texts_more files (p ∷ ps) (t ∷ ts) path text all is = (all.0, texts_more files ps ts path text all.1 is)

length_more : (texts : List (List ℕ)) (text : List ℕ) → length (texts ++ text ∷ []) ≡ length texts + 1
length_more [] text = refl
length_more (t ∷ ts) text =
    let more = length_more ts text in
    omega (arith, more)

-- ---- the schema

-- the name of the schema that the text behind these is put by
name_more : (schemas : List Checked) (texts : List (List ℕ)) (text : List ℕ) (before place n : ℕ) → n ≡ length texts + 1 → name_of schemas before ≡ schema_of schemas texts
    → place ≡ place_for schemas n before text → name_of schemas place ≡ schema_of schemas (texts ++ text ∷ [])
name_more schemas [] text before place n number name is = ap (name_of schemas) (is ∙ ap (λ k. place_for schemas k before text) number)
name_more schemas (t ∷ ts) text before place n number name is =
    let later : nat_le n 1 ≡ false = grind (arith, nat_tests, number) in
    ap (name_of schemas) (is ∙ ap (λ first. if first then place_named schemas text else before) later) ∙ name

-- ---- turns

puts_more : (schema : List ℕ) (n k : ℕ) (texts : List (List ℕ)) (text : List ℕ) → k ≡ length texts + n → puts schema n (texts ++ text ∷ []) ≡ puts schema n texts ++ create schema k ∷ put k text ∷ []
puts_more schema n k [] text is =
    let here : n ≡ k = omega (arith, is) in
    ap (λ x. create schema x ∷ put x text ∷ []) here
puts_more schema n k (t ∷ ts) text is =
    let next : k ≡ length ts + (n + 1) = omega (arith, is) in
    ap (λ xs. create schema n ∷ put n t ∷ xs) (puts_more schema (n + 1) k ts text next)

-- those before go by the same schema
puts_before : (schemas : List Checked) (texts : List (List ℕ)) (text : List ℕ) → puts (schema_of schemas (texts ++ text ∷ [])) 1 texts ≡ puts (schema_of schemas texts) 1 texts
puts_before schemas [] text = refl
puts_before schemas (t ∷ ts) text = refl

-- the turns of these texts, of which the last has this number
puts_of : (schemas : List Checked) (texts : List (List ℕ)) (text : List ℕ) (place n : ℕ) → n ≡ length texts + 1 → name_of schemas place ≡ schema_of schemas (texts ++ text ∷ [])
    → puts (schema_of schemas (texts ++ text ∷ [])) 1 (texts ++ text ∷ []) ≡ puts (schema_of schemas texts) 1 texts ++ create (name_of schemas place) n ∷ put n text ∷ []
puts_of schemas texts text place n number name =
    puts_more (schema_of schemas (texts ++ text ∷ [])) 1 n texts text number
    ∙ ap (λ xs. xs ++ create (schema_of schemas (texts ++ text ∷ [])) n ∷ put n text ∷ []) (puts_before schemas texts text)
    ∙ ap (λ x. puts (schema_of schemas texts) 1 texts ++ create x n ∷ put n text ∷ []) (sym name)

-- ---- one file more

module _ (files : Option Held) (schemas : List Checked) (old new : Plain) (before place n : ℕ) (path text : List ℕ) (is : IsText files path text) (chosen : place ≡ place_for schemas n before text) where
  pub put_more : (reply : Reply) → Makes old new (create (name_of schemas place) n ∷ put n text ∷ []) reply → is_refused reply ≡ false
      → (r : Plain) (paths : List (List ℕ)) → ArePut files r old schemas paths before n → ArePut files r new schemas (paths ++ path ∷ []) place (n + 1)
  put_more reply makes not r paths were =
      let name = name_more schemas were.texts text before place n were.number were.name chosen in
      let longer = length_more were.texts text in
      let number = were.number in
      record {
        texts = were.texts ++ text ∷ [];
        held = texts_more files paths were.texts path text were.held is;
        number = omega (arith, longer, number);
        name = name;
        taken = subst (λ ts. Taken r ts new) (sym (puts_of schemas were.texts text place n were.number name))
            (taken_append r old new (puts (schema_of schemas were.texts) 1 were.texts) (create (name_of schemas place) n ∷ put n text ∷ []) were.taken (makes.taken not));
      }

  turns_of : (r : Plain) (reply : Reply) (texts left : List (List ℕ)) (schema : List ℕ) → is_refused reply ≡ true → IsAnswer r (puts schema 1 texts) reply → IsAnswer r (turns schema texts left) reply
  turns_of r reply texts [] schema refused a = answer_before r (puts schema 1 texts) (validation schema (length texts)) reply refused a
  turns_of r reply texts (p ∷ ps) schema refused a = a

  pub put_refused : (reply : Reply) → Makes old new (create (name_of schemas place) n ∷ put n text ∷ []) reply → is_refused reply ≡ true
      → (r : Plain) (paths left : List (List ℕ)) → ArePut files r old schemas paths before n → IsDelivered files r schemas (paths ++ path ∷ left) reply
  put_refused reply makes refused r paths left were =
      let name = name_more schemas were.texts text before place n were.number were.name chosen in
      record {
        read = paths ++ path ∷ [];
        left = left;
        are = sym (append_assoc paths (path ∷ []) left);
        texts = were.texts ++ text ∷ [];
        held = texts_more files paths were.texts path text were.held is;
        answer = inl (turns_of r reply (were.texts ++ text ∷ []) left (schema_of schemas (were.texts ++ text ∷ [])) refused
            (subst (λ ts. IsAnswer r ts reply) (sym (puts_of schemas were.texts text place n were.number name))
            (answer_behind r old (puts (schema_of schemas were.texts) 1 were.texts) (create (name_of schemas place) n ∷ put n text ∷ []) reply were.taken makes.answer)));
        ends = inr refused;
      }

-- what is in no request is refused
unasked_refused : (files : Option Held) (path : List ℕ) (reply : Reply) → IsUnasked files path reply → is_refused reply ≡ true
unasked_refused None path reply is = ⊎_elim (λ large. ap is_refused large) (λ bad. ap is_refused bad) is
unasked_refused (Some held) path reply is = ⊎_elim (λ large. ap is_refused large.1) (λ bad. ap is_refused bad.3) is

-- a file that is in no request
pub unasked : (files : Option Held) (schemas : List Checked) (old : Plain) (before n : ℕ) (path : List ℕ) (reply : Reply) → IsUnasked files path reply
    → (r : Plain) (paths left : List (List ℕ)) → ArePut files r old schemas paths before n → IsDelivered files r schemas (paths ++ path ∷ left) reply
unasked files schemas old before n path reply is r paths left were = record {
  read = paths;
  left = path ∷ left;
  are = refl;
  texts = were.texts;
  held = were.held;
  answer = inr (old, were.taken, path, left, refl, is);
  ends = inr (unasked_refused files path reply is);
}

-- ---- all files

-- none yet
pub none_put : (files : Option Held) (r : Plain) (schemas : List Checked) → ArePut files r r schemas [] 0 1
none_put files r schemas = record { texts = []; held = tt; number = refl; name = refl; taken = refl }

-- the validation behind all
pub validated : (files : Option Held) (r now : Plain) (schemas : List Checked) (paths : List (List ℕ)) (place n count : ℕ) (reply : Reply) → ArePut files r now schemas paths place n → n ≡ count + 1
    → IsAnswer now (validation (name_of schemas place) count) reply → IsDelivered files r schemas paths reply
validated files r now schemas paths place n count reply were number a =
    let so_many : count ≡ length were.texts = omega (arith, were.number, number) in
    record {
      read = paths;
      left = [];
      are = sym (append-nil paths);
      texts = were.texts;
      held = were.held;
      answer = inl (answer_behind r now (puts (schema_of schemas were.texts) 1 were.texts) (validation (schema_of schemas were.texts) (length were.texts)) reply were.taken
          (subst (λ k. IsAnswer now (validation (schema_of schemas were.texts) k) reply) so_many (subst (λ x. IsAnswer now (validation x count) reply) were.name a)));
      ends = inl refl;
    }

-- ---- paths

-- those in front of one, that one, and those behind it
path_there : {A : Type 0} (f : A → List ℕ) (xs : List A) (i : ℕ) (d : A) → i < length xs → map f xs ≡ map f (take i xs) ++ f (get_or xs i d) ∷ map f (drop (suc i) xs)
path_there f [] i d within = absurd (omega (arith, within))
path_there f (y ∷ ys) zero d within = refl
path_there f (y ∷ ys) (suc i) d within = ap (λ zs. f y ∷ zs) (path_there f ys i d (omega (arith, within)))

-- ---- schemas

pub name_there : (schemas : List Checked) (n : ℕ) (s : Checked) → n < length schemas → s ≡ get_or schemas n s → name_of schemas n ≡ schema_name s
name_there [] n s within is = absurd (omega (arith, within))
name_there (x ∷ xs) zero s within is = ap schema_name (sym is)
name_there (x ∷ xs) (suc n) s within is = name_there xs n s (omega (arith, within)) is

pub name_past : (schemas : List Checked) (n : ℕ) → length schemas ≤ n → name_of schemas n ≡ []
name_past [] n past = refl
name_past (x ∷ xs) zero past = absurd (omega (arith, past))
name_past (x ∷ xs) (suc n) past = name_past xs n (omega (arith, past))

-- ---- all files, by their paths

module _ {A : Type 0} (path : A → List ℕ) (files : Option Held) (schemas : List Checked) (r old : Plain) (before : ℕ) (xs : List A) (i : ℕ) (d : A) (within : i < length xs)
    (were : ArePut files r old schemas (map path (take i xs)) before (i + 1)) where
  pub ended : (reply : Reply) → EndsWith files schemas old before (i + 1) (path (get_or xs i d)) reply → IsDelivered files r schemas (map path xs) reply
  ended reply ends = subst (λ ps. IsDelivered files r schemas ps reply) (sym (path_there path xs i d within)) (ends r (map path (take i xs)) (map path (drop (suc i) xs)) were)

pub all_put : {A : Type 0} (path : A → List ℕ) (files : Option Held) (schemas : List Checked) (r now : Plain) (place : ℕ) (xs : List A) (i : ℕ) (reply : Reply) → length xs ≤ i → i ≤ length xs
    → ArePut files r now schemas (map path (take i xs)) place (i + 1) → IsAnswer now (validation (name_of schemas place) (length xs)) reply → IsDelivered files r schemas (map path xs) reply
all_put path files schemas r now place xs i reply past within were a =
    let number : i + 1 ≡ length xs + 1 = omega (arith, past, within) in
    validated files r now schemas (map path xs) place (i + 1) (length xs) reply (subst (λ ys. ArePut files r now schemas (map path ys) place (i + 1)) (take_all i xs past) were) number a

-- ---- a file that is in no request

-- since it isn't UTF-8
pub no_text : (files : Option Held) (path bytes : List ℕ) → IfSome files (λ held. file_at held path ≡ Ok bytes) → (is_utf8 bytes ≡ true → ⊥) → IsUnasked files path (Refused BadRequest)
no_text None path bytes known not = inr refl
no_text (Some held) path bytes known not = inr (bytes, known, by_cases (is_utf8 bytes) not, refl)
  where
    by_cases : (b : Bool) → (b ≡ true → ⊥) → b ≡ false
    by_cases true not = absurd (not refl)
    by_cases false not = refl
