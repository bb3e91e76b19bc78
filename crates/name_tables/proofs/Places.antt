-- Where names stand, once one is put behind them.
use Rattle.std.proofs.Common.{◌≡◌, true, false, ℕ, suc, List, [], ◌∷◌, ◌++◌, length, None, Some, if◌then◌else◌, refl, ap, arith, Bor}
use Rattle.std.specs.Option.{option_map, option_or}
use Rattle.std.specs.Str.{bytes_eq}
use Rattle.std.proofs.lemmas.List.{map-append}
use Rattle.name_tables.specs.Names.{place_of, bytes_of}

-- a name further on is found where no name before it is the same
pub place_of-push : (name new : List ℕ) (names : List (List ℕ)) → place_of name (names ++ new ∷ []) ≡ option_or (place_of name names) (if bytes_eq new name then Some (length names) else None)
place_of-push name new [] = elim (bytes_eq new name) as (λ t. (if t then Some 0 else option_map suc None) ≡ (if t then Some 0 else None)) [ true ↦ refl | false ↦ refl ]
place_of-push name new (n ∷ names) = grind (arith, place_of-push name new names)

pub bytes_of-push : (names : List (Bor (List ℕ))) (new : Bor (List ℕ)) → bytes_of (names ++ new ∷ []) ≡ bytes_of names ++ new.now ∷ []
bytes_of-push names new = map-append (λ n. n.now) names (new ∷ [])

pub length-bytes_of : (names : List (Bor (List ℕ))) → length (bytes_of names) ≡ length names
length-bytes_of [] = refl
length-bytes_of (n ∷ names) = ap suc (length-bytes_of names)
