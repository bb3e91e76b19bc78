-- The keys of a map, and the members that it stands for.
use Rattle.std.proofs.Common.{◌≡◌, ℕ, List, [], ◌∷◌, Bool, map, string_bytes, Bor, bytes_eq, refl}
use Rattle.std.specs.List.{list_any, list_all}
use Rattle.std.specs.Map.{keys_of}
use Rattle.serde_json.specs.View.{members_view}
use Rattle.serde_json.proofs.Views.{Entry}
use Rattle.shallow_json.specs.Keys.{has_only}

list_any-map : {X Y : Type 0} (p : X → Bool) (h : Y → X) (ys : List Y) → list_any p (map h ys) ≡ list_any (λ y. p (h y)) ys
list_any-map p h [] = refl
list_any-map p h (y ∷ ys) = rw (list_any-map p h ys)

pub has_only-members_view : (keys : List (Bor (List ℕ))) (es : List Entry)
    → list_all (λ k. list_any (λ key. bytes_eq key.now (string_bytes k)) keys) (keys_of es) ≡ has_only (map (λ key. key.now) keys) (members_view es)
has_only-members_view keys [] = refl
has_only-members_view keys (e ∷ es) =
    rw (list_any-map (λ key. bytes_eq key (string_bytes e.0)) (λ (key : Bor (List ℕ)). key.now) keys, has_only-members_view keys es)
