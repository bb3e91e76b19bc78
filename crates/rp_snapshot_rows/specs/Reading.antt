-- Reading from left to right: a value and the tokens behind it, where what stands first has the form.
use Rattle.std.specs.Prelude.{◌≡◌, ◌^◌, ℕ, List, ◌∷◌, ◌&&◌, nat_lt, codes, Option, Some, None, option_map, Result, Ok, Err, if◌then◌else◌}
use Rattle.std.specs.Str.{bytes_eq}
use Rattle.json.specs.Token.{Token, begin_object, end_object, begin_array, end_array, key, string, number}
use Rattle.fast_float.specs.Text.{scan, digits_of}
use Rattle.serde_json.specs.Read.{is_integer}
use Rattle.plain_data.specs.declared.failure.Failure.{Failure}
use Rattle.plain_data.specs.declared.failure.Failure.TheVariants.{NoMemory, Fault}
use Rattle.rp_content.specs.declared.link.Link.{Link}
use Rattle.rp_rows.specs.declared.rows.Level.{Level}
use Rattle.rp_rows.specs.declared.rows.Level.TheVariants.{Read, Group, Write}
use Rattle.rp_rows.specs.declared.rows.Grant.{Grant}
use Rattle.rp_rows.specs.declared.rows.Key.{Key}
use Rattle.rp_snapshot_rows.specs.declared.lack.Lack.{Lack}

infixl 10 ◌>>=◌
abbrev pub ◌>>=◌ : {A B : Type 0} → Option A → (A → Option B) → Option B
None >>= f = None
(Some x) >>= f = f x

-- ---- one token

abbrev pub after_begin_object : List Token → Option (List Token)
after_begin_object (begin_object ∷ ts) = Some ts
after_begin_object _ = None

abbrev pub after_end_object : List Token → Option (List Token)
after_end_object (end_object ∷ ts) = Some ts
after_end_object _ = None

abbrev pub after_begin_array : List Token → Option (List Token)
after_begin_array (begin_array ∷ ts) = Some ts
after_begin_array _ = None

abbrev pub after_end_array : List Token → Option (List Token)
after_end_array (end_array ∷ ts) = Some ts
after_end_array _ = None

abbrev pub after_key : List ℕ → List Token → Option (List Token)
after_key name (key k ∷ ts) = if bytes_eq k name then Some ts else None
after_key name _ = None

abbrev pub string_at : List Token → Option (List ℕ × List Token)
string_at (string s ∷ ts) = Some (s, ts)
string_at _ = None

-- the whole number that a text is, below 2 ^ 64
abbrev pub whole_of : List ℕ → Option ℕ
whole_of s = if is_integer (scan s) && nat_lt (digits_of (scan s)) (2 ^ 64) then Some (digits_of (scan s)) else None

abbrev pub number_at : List Token → Option (ℕ × List Token)
number_at (number s ∷ ts) = option_map (λ n. (n, ts)) (whole_of s)
number_at _ = None

-- ---- members of objects

unfoldable pub text_at : List ℕ → List Token → Option (List ℕ × List Token)
text_at name ts = do
  behind ← after_key name ts
  string_at behind

unfoldable pub whole_at : List ℕ → List Token → Option (ℕ × List Token)
whole_at name ts = do
  behind ← after_key name ts
  number_at behind

-- the bracket that opens the list of this name
unfoldable pub list_at : List ℕ → List Token → Option (List Token)
list_at name ts = do
  behind ← after_key name ts
  after_begin_array behind

-- the brace of an object, and the bracket that opens its first list
unfoldable pub first_list_at : List ℕ → List Token → Option (List Token)
first_list_at name ts = do
  opened ← after_begin_object ts
  list_at name opened

-- a number and a text, of these names
unfoldable pub numbered_at : (whole text : List ℕ) → List Token → Option ((ℕ × List ℕ) × List Token)
numbered_at whole text ts = do
  first ← whole_at whole ts
  second ← text_at text first.1
  Some ((first.0, second.0), second.1)

-- ---- items of lists

abbrev pub level_of : List ℕ → Option Level
level_of word = if bytes_eq word (codes "read") then Some Read else (if bytes_eq word (codes "group") then Some Group else (if bytes_eq word (codes "write") then Some Write else None))

unfoldable pub pair_at : List Token → Option ((List ℕ × List ℕ) × List Token)
pair_at ts = do
  opened ← after_begin_array ts
  first ← string_at opened
  second ← string_at first.1
  behind ← after_end_array second.1
  Some ((first.0, second.0), behind)

unfoldable pub grant_at : List Token → Option (Grant × List Token)
grant_at ts = do
  pair ← pair_at ts
  level ← level_of pair.0.1
  Some (record { partner = pair.0.0; level = level }, pair.1)

unfoldable pub reader_at : List Token → Option (Grant × List Token)
reader_at ts = do
  partner ← string_at ts
  Some (record { partner = partner.0; level = Read }, partner.1)

unfoldable pub member_at : List Token → Option (Key × List Token)
member_at ts = do
  pair ← pair_at ts
  Some (record { owner = pair.0.0; name = pair.0.1 }, pair.1)

unfoldable pub link_at : List Token → Option (Link × List Token)
link_at ts = do
  opened ← after_begin_object ts
  target ← numbered_at (codes "instance") (codes "model") opened
  source ← numbered_at (codes "name") (codes "owner") target.1
  behind ← after_end_object source.1
  Some (record { name = source.0.0; owner = source.0.1; model = target.0.1; target = target.0.0 }, behind)

-- ---- rows

-- the file of a model
unfoldable pub file_at : List Token → Option (List ℕ × List Token)
file_at ts = do
  opened ← after_begin_object ts
  text_at (codes "file") opened

-- what a model has between its grants and its links: its greatest name
unfoldable pub greatest_at : List Token → Option (ℕ × List Token)
greatest_at ts = do
  greatest ← whole_at (codes "greatest") ts
  opened ← list_at (codes "links") greatest.1
  Some (greatest.0, opened)

-- the name, the owner and the schema of a row, and its end: its key and its schema
unfoldable pub tail_at : List Token → Option ((Key × List ℕ) × List Token)
tail_at ts = do
  name ← text_at (codes "name") ts
  owner ← text_at (codes "owner") name.1
  schema ← text_at (codes "schema") owner.1
  closed ← after_end_object schema.1
  Some ((record { owner = owner.0; name = name.0 }, schema.0), closed)

-- ---- what a function returned is what reading gives, unless memory ran out

abbrev pub Fails : {Y : Type 0} → Failure Lack → Option Y → Type 0
Fails NoMemory read = Unit {0}
Fails (Fault lack) read = read ≡ None

abbrev pub Gives : {X Y : Type 0} → (X → Y) → Result X (Failure Lack) → List Token → Option (Y × List Token) → Type 0
Gives view (Ok x) new read = read ≡ Some (view x, new)
Gives view (Err e) new read = Fails e read

abbrev pub Passes : Result (Unit {0}) (Failure Lack) → List Token → Option (List Token) → Type 0
Passes (Ok x) new read = read ≡ Some new
Passes (Err e) new read = Fails e read
