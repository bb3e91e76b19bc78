-- What names have, once a value is put behind those of its name.
use Rattle.std.proofs.Common.{◌≡◌, ℕ, ◌==◌, true, false, cond, List, [], ◌++◌, if◌then◌else◌, Bor, Option, None, Some, Result, Ok, Err, OnOk, OnErr, arith, ap, refl}
use Rattle.std.specs.BTreeMap.{BTreeMap, get, is_at}
use Rattle.std.specs.Global.{Vec}
use Rattle.std.specs.Option.{option_map_or, UnwrapsOrElse}
use Rattle.std.specs.Ordering.{nat_cmp}
use Rattle.std.specs.Cmp.{unsigned_tied}
use Rattle.std.specs.Str.{bytes_eq}
use Rattle.std.proofs.lemmas.Bool.Decides.{nat_tests}
use Rattle.std.proofs.lemmas.Slice.Eq.{bytes_eq-Decides}
use Rattle.name_tables.specs.declared.rows.Hashed.{Hashed}
use Rattle.name_tables.specs.Names.{values_of}
use Rattle.name_tables.specs.Hashes.{hash_of, first_at, values_in}

-- the map with a value at the hash of a name
abbrev pub IsPut : {A : Type 0} → BTreeMap ℕ (Hashed A) → List ℕ → Hashed A → BTreeMap ℕ (Hashed A) → Type 0
IsPut old name w new = (other : List ℕ) → first_at other new ≡ (if hash_of name == hash_of other then Some w else first_at other old)

pub is_put : {A : Type 0} (old new : BTreeMap ℕ (Hashed A)) (name : List ℕ) (w : Hashed A) (h : ℕ) → h ≡ hash_of name
    → ((q : ℕ) → get nat_cmp new q ≡ cond (is_at (nat_cmp h) q) (Some w) (get nat_cmp old q))
    → IsPut old name w new
is_put old new name w h hashed written other =
    let at = written (hash_of other) in
    let tied = unsigned_tied h (hash_of other) in
    grind (arith, at, tied, hashed)

same_hash : {A : Type 0} (old : BTreeMap ℕ (Hashed A)) (name other : List ℕ) → hash_of name ≡ hash_of other → first_at name old ≡ first_at other old
same_hash old name other same = ap (λ h. get nat_cmp old h) same

-- what the first name of the hash is and has, or a new one would be and have
pub record Stood {A : Type 0} (old : BTreeMap ℕ (Hashed A)) (name : List ℕ) (first : Hashed A) : Type 0 where
  pub named : first.name.now ≡ option_map_or (λ f. f.name.now) (first_at name old) name
  pub valued : first.values.items ≡ option_map_or (λ f. f.values.items) (first_at name old) []

-- the first of a hash, or the new one
pub named_by : {A : Type 0} (o e : Option (Hashed A)) (P : Hashed A → Type 0) (first : Hashed A) (name : List ℕ) → e ≡ o → UnwrapsOrElse e P first → ((v : Hashed A) → P v → v.name.now ≡ name)
    → first.name.now ≡ option_map_or (λ f. f.name.now) o name
named_by o None P first name same is new = rw (← same) (new first is)
named_by o (Some f) P first name same is new = rw (← same) (ap (λ x. x.name.now) is)

abbrev pub Alone : {A : Type 0} → BTreeMap ℕ (Hashed A) → BTreeMap (Bor (List ℕ)) (Vec A) → Type 0
Alone old others = (other : List ℕ) → first_at other old ≡ None → values_of other others ≡ []

module _ {A : Type 0} (old new : BTreeMap ℕ (Hashed A)) (others : BTreeMap (Bor (List ℕ)) (Vec A)) (name : List ℕ) (first : Hashed A) (stood : Stood old name first) (alone : Alone old others) where
  -- a value behind those of the first name of its hash
  pub put_first : (w : Hashed A) (added : List A) → IsPut old name w new → w.name.now ≡ first.name.now → bytes_eq first.name.now name ≡ true → w.values.items ≡ first.values.items ++ added
      → (other : List ℕ) → values_in other new others ≡ (if bytes_eq name other then values_in other old others ++ added else values_in other old others)
  put_first w added put own is pushed other =
      let hash = same_hash old name other in
      let tests = bytes_eq-Decides name other in
      let same = (bytes_eq-Decides first.name.now name).0 is in
      grind (arith, nat_tests, put other, own, same, pushed, stood.named, stood.valued, alone other, tests.0, tests.1, hash)

  -- nothing is put
  pub put_nothing : (more : BTreeMap (Bor (List ℕ)) (Vec A)) → IsPut old name first new → ((other : List ℕ) → values_of other more ≡ values_of other others)
      → (other : List ℕ) → values_in other new more ≡ values_in other old others
  put_nothing more put same other =
      let hash = same_hash old name other in
      let tests = bytes_eq-Decides name other in
      grind (arith, nat_tests, put other, same other, stood.named, stood.valued, alone other, tests.0, tests.1, hash)

  -- a value behind those of another name, whose hash a name has already
  put_other : (more : BTreeMap (Bor (List ℕ)) (Vec A)) (added : List A) → IsPut old name first new → bytes_eq first.name.now name ≡ false
      → ((other : List ℕ) → values_of other more ≡ (if bytes_eq name other then values_of other others ++ added else values_of other others))
      → (other : List ℕ) → values_in other new more ≡ (if bytes_eq name other then values_in other old others ++ added else values_in other old others)
  put_other more added put is has other =
      let hash = same_hash old name other in
      let tests = bytes_eq-Decides name other in
      let own = bytes_eq-Decides name name in
      grind (arith, nat_tests, put other, has other, is, stood.named, stood.valued, own.1 refl, tests.0, tests.1, hash)

  module _ {E : Type 0} (more : BTreeMap (Bor (List ℕ)) (Vec A)) (put : IsPut old name first new) where
    pub other_ok : (r : Result (Unit {0}) E) (added : List A) → bytes_eq first.name.now name ≡ false
        → ((other : List ℕ) → OnOk r (values_of other more ≡ (if bytes_eq name other then values_of other others ++ added else values_of other others)))
        → (other : List ℕ) → OnOk r (values_in other new more ≡ (if bytes_eq name other then values_in other old others ++ added else values_in other old others))
    other_ok (Ok done) added is has other = put_other more added put is has other
    other_ok (Err e) added is has other = tt

    pub other_err : (r : Result (Unit {0}) E)
        → ((other : List ℕ) → OnErr r (values_of other more ≡ values_of other others))
        → (other : List ℕ) → OnErr r (values_in other new more ≡ values_in other old others)
    other_err (Ok done) has other = tt
    other_err (Err e) has other = put_nothing more put has other

-- the names whose hash nothing has are still none of the others
module _ {A : Type 0} (old new : BTreeMap ℕ (Hashed A)) (others : BTreeMap (Bor (List ℕ)) (Vec A)) (name : List ℕ) (alone : Alone old others) where
  pub put_alone : (more : BTreeMap (Bor (List ℕ)) (Vec A)) (w : Hashed A) → IsPut old name w new → ((other : List ℕ) → bytes_eq name other ≡ false → values_of other more ≡ values_of other others) → Alone new more
  put_alone more w put same other =
      let hash = same_hash old name other in
      let tests = bytes_eq-Decides name other in
      grind (arith, nat_tests, put other, same other, alone other, tests.0, tests.1, hash)

  pub other_alone : {E : Type 0} (more : BTreeMap (Bor (List ℕ)) (Vec A)) (w : Hashed A) → IsPut old name w new → (r : Result (Unit {0}) E) (added : List A)
      → ((other : List ℕ) → OnOk r (values_of other more ≡ (if bytes_eq name other then values_of other others ++ added else values_of other others)))
      → ((other : List ℕ) → OnErr r (values_of other more ≡ values_of other others))
      → Alone new more
  other_alone more w put (Ok done) added has same = put_alone more w put (λ other differs. rw differs at (has other))
  other_alone more w put (Err e) added has same = put_alone more w put (λ other differs. same other)
