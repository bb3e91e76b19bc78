-- What was written is what is read.
use Rattle.std.proofs.Common.{◌≡◌, ℕ, ◌<◌, ◌^◌, true, false, List, [], ◌∷◌, ◌++◌, length, Option, Some, Result, Ok, Err, codes, decimal, refl, sym, ap, ◌∙◌, append-nil, append_assoc, lt-ltb}
use Rattle.std.proofs.lemmas.Slice.Eq.{bytes_eq-Decides}
use Rattle.std.proofs.lemmas.Fmt.{decimal_is_IsNumeral, decimal_nonempty}
use Rattle.fast_float.specs.Text.{Parts, scan, digits_of, IsWellFormed}
use Rattle.fast_float.proofs.Writing.{scan-text_of}
use Rattle.serde_json.specs.Read.{is_integer}
use Rattle.json.specs.Token.{Token, begin_object, begin_array, key, string, number}
use Rattle.plain_data.specs.declared.failure.Failure.{Failure}
use Rattle.plain_data.specs.declared.failure.Failure.TheVariants.{NoMemory, Fault}
use Rattle.rp_content.specs.declared.link.Link.{Link}
use Rattle.rp_rows.specs.declared.rows.Level.{Level}
use Rattle.rp_rows.specs.declared.rows.Level.TheVariants.{Read, Group, Write}
use Rattle.rp_rows.specs.declared.rows.Grant.{Grant}
use Rattle.rp_rows.specs.declared.rows.Key.{Key}
use Rattle.rp_rows.specs.Rows.{key_of, Model, GroupRow}
use Rattle.rp_snapshot_rows.specs.declared.lack.Lack.{Lack}
use Rattle.rp_json.specs.Written.{link_data}
use Rattle.rp_json.specs.Tokens.{listed, tokens_of}
use Rattle.rp_json.proofs.ListLemmas.{items_tokens-map}
use Rattle.rp_snapshot_rows.specs.Written.{level_word, grant_data, reader_data, member_data, model_data, group_data}
use Rattle.rp_snapshot_rows.specs.Tokens.{grant_tokens, reader_tokens, member_tokens, link_tokens, tail_tokens, behind_grants, behind_file, model_tokens, behind_readers, group_tokens}
use Rattle.rp_snapshot_rows.specs.Again.{Again, Passed, HasNumbers, IsToRead}
use Rattle.rp_snapshot_rows.specs.Reading.{Fails, Gives, Passes, level_of, pair_at, grant_at, reader_at, member_at, link_at, text_at, list_at, first_list_at, numbered_at, whole_at, whole_of, file_at, greatest_at, tail_at}

-- ---- what can't be read isn't there

pub no_fault : {Y : Type 0} (e : Failure Lack) (read : Option Y) (y : Y) → Fails e read → read ≡ Some y → e ≡ NoMemory
no_fault NoMemory read y fails is = refl
no_fault (Fault lack) read y fails is = absurd (cc)

pub some_is : {A : Type 0} (x y : A) → Some x ≡ Some y → x ≡ y
some_is x y e = cc

-- a value and the tokens behind it are those
pub both_are : {A : Type 0} (x y : A × List Token) → Some x ≡ Some y → (x.0 ≡ y.0) × (x.1 ≡ y.1)
both_are {A = A} x y e = let is = some_is x y e in (ap (λ (p : A × List Token). p.0) is, ap (λ (p : A × List Token). p.1) is)

-- what reading gives is what was written
pub given_again : {X Y : Type 0} (view : X → Y) (r : Result X (Failure Lack)) (read : Option (Y × List Token)) (y : Y) (new rest : List Token) → Gives view r new read → read ≡ Some (y, rest) → Again view r y new rest
given_again view (Ok x) read y new rest gives is = both_are (view x, new) (y, rest) (sym gives ∙ is)
given_again view (Err e) read y new rest gives is = no_fault e read (y, rest) gives is

pub passed_again : (r : Result (Unit {0}) (Failure Lack)) (read : Option (List Token)) (new rest : List Token) → Passes r new read → read ≡ Some rest → Passed r new rest
passed_again (Ok x) read new rest passes is = some_is new rest (sym passes ∙ is)
passed_again (Err e) read new rest passes is = no_fault e read rest passes is

-- ---- numbers

abbrev digits : List ℕ → Parts
digits ds = record { whole = ds; point = false; fraction = []; exponent_negative = false; exponent = []; len = length (ds ++ []) }

whole_again : (n : ℕ) → n < 2 ^ 64 → whole_of (decimal n) ≡ Some n
whole_again n h =
    let e = decimal_is_IsNumeral n h in
    let some = decimal_nonempty n h in
    let formed : IsWellFormed (digits (decimal n)) = record { whole_digits = e.0.1; fraction_digits = tt; exponent_digits = tt; no_point = λ _. refl; no_exponent = λ _. refl; len_is = refl } in
    let scanned : scan (decimal n) ≡ digits (decimal n) = ap scan (sym (append-nil (decimal n))) ∙ scan-text_of (digits (decimal n)) formed in
    let whole : is_integer (digits (decimal n)) ≡ true = rw (lt-ltb _ _ some) refl in
    let value : digits_of (digits (decimal n)) ≡ n = rw append-nil e.1 in
    rw scanned (rw (whole, value) (rw (lt-ltb _ _ h) refl))

-- ---- items of lists

level_again : (l : Level) → level_of (level_word l) ≡ Some l
level_again Read = refl
level_again Group = refl
level_again Write = refl

pub grant_again : (g : Grant) (ts : List Token) → grant_at (grant_tokens g ++ ts) ≡ Some (g, ts)
unfolding grant_at pair_at
grant_again g ts = rw (level_again g.level) refl

pub reader_again : (g : Grant) (ts : List Token) → IsToRead g → reader_at (reader_tokens g ++ ts) ≡ Some (g, ts)
unfolding reader_at
reader_again g ts reads = ap (λ l. Some (record { partner = g.partner; level = l }, ts)) (sym reads)

pub member_again : (k : Key) (ts : List Token) → member_at (member_tokens k ++ ts) ≡ Some (k, ts)
unfolding member_at pair_at
member_again k ts = refl

pub link_again : (l : Link) (ts : List Token) → HasNumbers l → link_at (link_tokens l ++ ts) ≡ Some (l, ts)
unfolding link_at numbered_at text_at whole_at
link_again l ts fits = rw (whole_again l.target fits.1, whole_again l.name fits.0) refl

-- ---- rows

pub file_again : (file : List ℕ) (ts : List Token) → file_at (begin_object ∷ key (codes "file") ∷ string file ∷ ts) ≡ Some (file, ts)
unfolding file_at text_at
file_again file ts = refl

pub list_again : (name : List ℕ) (ts : List Token) → list_at name (key name ∷ begin_array ∷ ts) ≡ Some ts
unfolding list_at
list_again name ts = rw ((bytes_eq-Decides name name).1 refl) refl

pub first_list_again : (name : List ℕ) (ts : List Token) → first_list_at name (begin_object ∷ key name ∷ begin_array ∷ ts) ≡ Some ts
unfolding first_list_at
first_list_again name ts = list_again name ts

pub greatest_again : (n : ℕ) (ts : List Token) → n < 2 ^ 64 → greatest_at (key (codes "greatest") ∷ number (decimal n) ∷ key (codes "links") ∷ begin_array ∷ ts) ≡ Some (n, ts)
unfolding greatest_at whole_at list_at
greatest_again n ts h = rw (whole_again n h) refl

pub tail_again : (owner name schema : List ℕ) (ts : List Token) → tail_at (tail_tokens owner name schema ++ ts) ≡ Some ((key_of owner name, schema), ts)
unfolding tail_at text_at
tail_again owner name schema ts = refl

-- ---- what is written of rows, as tokens

pub model_written : (file : List ℕ) (m : Model) → tokens_of (model_data file m) ≡ model_tokens file m
model_written file m = rw (items_tokens-map grant_data m.grants, items_tokens-map link_data m.holds.content.links) refl

pub group_written : (g : GroupRow) → tokens_of (group_data g) ≡ group_tokens g
group_written g = rw (items_tokens-map reader_data g.grants, items_tokens-map member_data g.holds.members) refl

-- ---- rows, part by part

pub file_read : (file : List ℕ) (m : Model) (rest : List Token) → file_at (tokens_of (model_data file m) ++ rest) ≡ Some (file, behind_file m ++ rest)
file_read file m rest = ap (λ ts. file_at (ts ++ rest)) (model_written file m) ∙ file_again file (behind_file m ++ rest)

pub grants_opened : (m : Model) (rest : List Token) → list_at (codes "grants") (behind_file m ++ rest) ≡ Some (listed grant_tokens m.grants ++ (behind_grants m ++ rest))
grants_opened m rest = list_again (codes "grants") _ ∙ ap (λ ts. Some ts) (append_assoc (listed grant_tokens m.grants) (behind_grants m) rest)

pub greatest_read : (m : Model) (rest : List Token) → m.holds.greatest < 2 ^ 64 → greatest_at (behind_grants m ++ rest) ≡ Some (m.holds.greatest, listed link_tokens m.holds.content.links ++ (tail_tokens m.owner m.name m.holds.schema ++ rest))
greatest_read m rest h = greatest_again m.holds.greatest _ h ∙ ap (λ ts. Some (m.holds.greatest, ts)) (append_assoc (listed link_tokens m.holds.content.links) (tail_tokens m.owner m.name m.holds.schema) rest)

pub readers_opened : (g : GroupRow) (rest : List Token) → first_list_at (codes "grants") (tokens_of (group_data g) ++ rest) ≡ Some (listed reader_tokens g.grants ++ (behind_readers g ++ rest))
readers_opened g rest =
    ap (λ ts. first_list_at (codes "grants") (ts ++ rest)) (group_written g) ∙ first_list_again (codes "grants") _
    ∙ ap (λ ts. Some ts) (append_assoc (listed reader_tokens g.grants) (behind_readers g) rest)

pub members_opened : (g : GroupRow) (rest : List Token) → list_at (codes "members") (behind_readers g ++ rest) ≡ Some (listed member_tokens g.holds.members ++ (tail_tokens g.owner g.name g.holds.schema ++ rest))
members_opened g rest = list_again (codes "members") _ ∙ ap (λ ts. Some ts) (append_assoc (listed member_tokens g.holds.members) (tail_tokens g.owner g.name g.holds.schema) rest)
