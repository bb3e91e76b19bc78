-- What is written of the header and around the data, one piece after another.
use Rattle.std.proofs.Common.{◌≡◌, ℕ, List, [], ◌∷◌, ◌++◌, map, refl, ap, append_assoc}
use Rattle.std.specs.Prelude.{codes}
use Rattle.std.specs.List.{flat_map}
use Rattle.p21_spelling.specs.Files.{line, schema_text}
use Rattle.p21_spelling.specs.Tokens.{enclosed, quoted}

pub map_twice : {A B C : Type 0} (f : B → C) (g : A → B) (xs : List A) → map f (map g xs) ≡ map (λ x. f (g x)) xs
map_twice f g [] = refl
map_twice f g (x ∷ xs) = ap (λ l. f (g x) ∷ l) (map_twice f g xs)

pub schema_written : (old a b e : List ℕ) → a ≡ old ++ codes "FILE_SCHEMA((" → b ≡ a ++ quoted e → b ++ codes "));\n" ≡ old ++ line (schema_text e)
schema_written old a b e e1 e2 = rw (e2, e1) (simp append_assoc)

pub entity_written : (old a b word t : List ℕ) → a ≡ old ++ word → b ≡ a ++ enclosed t → b ++ codes ";\n" ≡ old ++ line (word ++ enclosed t)
entity_written old a b word t e1 e2 = rw (e2, e1) (simp append_assoc)

pub lines_written : (old a b c d t u v w x : List ℕ) → a ≡ old ++ line t → b ≡ a ++ line u → c ≡ b ++ line v → d ≡ c ++ line w
    → d ++ line x ≡ old ++ flat_map line (t ∷ u ∷ v ∷ w ∷ x ∷ [])
lines_written old a b c d t u v w x e1 e2 e3 e4 = rw (e4, e3, e2, e1) (simp append_assoc)
