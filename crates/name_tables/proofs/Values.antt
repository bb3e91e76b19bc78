-- What stands beside names, once a value is put behind those of its name.
use Rattle.std.proofs.Common.{◌≡◌, ℕ, List, ◌++◌, if◌then◌else◌, Bor, Some, arith}
use Rattle.std.specs.BTreeMap.{BTreeMap, get_by}
use Rattle.std.specs.Cmp.Lexicographic.{slice_cmp}
use Rattle.std.specs.Global.{Vec}
use Rattle.std.specs.Map.{update}
use Rattle.std.specs.Ordering.{nat_cmp}
use Rattle.std.specs.Str.{bytes_eq}
use Rattle.std.proofs.lemmas.Slice.Eq.{bytes_eq-Decides}
use Rattle.name_tables.specs.Names.{values_of}

pub values_of-update : {A : Type 0} (old new : BTreeMap (Bor (List ℕ)) (Vec A)) (name : List ℕ) (values : Vec A) (added : List A)
    → ((other : List ℕ) → get_by (λ n. slice_cmp nat_cmp other n.now) new ≡ update bytes_eq (λ o. get_by (λ n. slice_cmp nat_cmp o n.now) old) name (Some values) other)
    → values.items ≡ values_of name old ++ added
    → (other : List ℕ) → values_of other new ≡ (if bytes_eq name other then values_of other old ++ added else values_of other old)
values_of-update old new name values added written pushed other =
    grind (arith, written other, pushed, (bytes_eq-Decides name other).0)
