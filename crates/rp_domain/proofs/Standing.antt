-- Extents, by what was put into the rows of entities.
use Rattle.std.proofs.Common.{◌≡◌, ℕ, ◌+◌, ◌<◌, ◌==◌, ◌||◌, Bool, true, false, List, [], ◌∷◌, ◌++◌, map, filter, drop, length, replicate, get_or, if◌then◌else◌, Option, Some, None, append_assoc, refl, sym, ◌∙◌, ap, arith}
use Rattle.std.proofs.lemmas.List.{map-append}
use Rattle.std.proofs.lemmas.Bool.Decides.{nat_tests}
use Rattle.plain_data.specs.Numbers.{is_among}
use Rattle.rp_value.specs.declared.value.Value.{Value}
use Rattle.rp_value.specs.declared.value.Value.TheVariants as v
use Rattle.rp_meaning.specs.Populations.{Instance, instances, places_from}
use Rattle.rp_meaning.specs.Uses.{each_once, once_after}
use Rattle.rp_domain.specs.Rows.{of_number, put_all}
use Rattle.rp_domain.specs.Standing.{standing, standing_from, once_behind}
use Rattle.rp_domain.proofs.Put.{as-many, no-rows, put_all-append}
use Rattle.rp_domain.proofs.Uses.{drop-read}

either : {A : Type 0} (t : Bool) (a b c d : A) → a ≡ c → b ≡ d → (if t then a else b) ≡ (if t then c else d)
either true a b c d p q = p
either false a b c d p q = q

abbrev seconds : List (ℕ × ℕ) → List ℕ
seconds = map (λ (p : ℕ × ℕ). p.1)

abbrev of : ℕ → List (ℕ × ℕ) → List (ℕ × ℕ)
of entity pairs = filter (λ (p : ℕ × ℕ). p.0 == entity) pairs

-- behind an instance it doesn't count once more
after-same-by : (entity place x : ℕ) (rest : List (ℕ × ℕ)) (t : Bool) → once_after place (seconds (if t then (x, place) ∷ of entity rest else of entity rest)) ≡ once_after place (seconds (of entity rest))
after-same-by entity place x rest true = let is : (place == place) ≡ true = grind (arith, nat_tests) in rw is refl
after-same-by entity place x rest false = refl

after-same : (entity place : ℕ) (entities : List ℕ) (rest : List (ℕ × ℕ)) → once_after place (of_number entity (standing place entities ++ rest)) ≡ once_after place (of_number entity rest)
after-same entity place [] rest = refl
after-same entity place (x ∷ entities) rest = after-same-by entity place x (standing place entities ++ rest) (x == entity) ∙ after-same entity place entities rest

-- the first of those that follow
each-by : (entity place x : ℕ) (entities : List ℕ) (rest : List (ℕ × ℕ)) (t : Bool)
    → each_once (of_number entity (standing place entities ++ rest)) ≡ (if is_among entities entity then place ∷ once_after place (of_number entity rest) else each_once (of_number entity rest))
    → each_once (seconds (if t then (x, place) ∷ of entity (standing place entities ++ rest) else of entity (standing place entities ++ rest)))
    ≡ (if t then place ∷ once_after place (of_number entity rest) else (if is_among entities entity then place ∷ once_after place (of_number entity rest) else each_once (of_number entity rest)))
each-by entity place x entities rest true others = ap (λ (ps : List ℕ). place ∷ ps) (after-same entity place entities rest)
each-by entity place x entities rest false others = others

or-then : {A : Type 0} (t u : Bool) (a b : A) → (if t then a else (if u then a else b)) ≡ (if t || u then a else b)
or-then true u a b = refl
or-then false u a b = refl

each-standing : (entity place : ℕ) (entities : List ℕ) (rest : List (ℕ × ℕ))
    → each_once (of_number entity (standing place entities ++ rest)) ≡ (if is_among entities entity then place ∷ once_after place (of_number entity rest) else each_once (of_number entity rest))
each-standing entity place [] rest = refl
each-standing entity place (x ∷ entities) rest =
    each-by entity place x entities rest (x == entity) (each-standing entity place entities rest)
    ∙ or-then (x == entity) (is_among entities entity) (place ∷ once_after place (of_number entity rest)) (each_once (of_number entity rest))

after-by : (entity last place x : ℕ) (entities : List ℕ) (rest : List (ℕ × ℕ)) (t : Bool) → (place == last) ≡ false
    → once_after last (of_number entity (standing place entities ++ rest)) ≡ (if is_among entities entity then place ∷ once_after place (of_number entity rest) else once_after last (of_number entity rest))
    → once_after last (seconds (if t then (x, place) ∷ of entity (standing place entities ++ rest) else of entity (standing place entities ++ rest)))
    ≡ (if t then place ∷ once_after place (of_number entity rest) else (if is_among entities entity then place ∷ once_after place (of_number entity rest) else once_after last (of_number entity rest)))
after-by entity last place x entities rest true is others = rw is (ap (λ (ps : List ℕ). place ∷ ps) (after-same entity place entities rest))
after-by entity last place x entities rest false is others = others

after-standing : (entity last place : ℕ) (entities : List ℕ) (rest : List (ℕ × ℕ)) → (place == last) ≡ false
    → once_after last (of_number entity (standing place entities ++ rest)) ≡ (if is_among entities entity then place ∷ once_after place (of_number entity rest) else once_after last (of_number entity rest))
after-standing entity last place [] rest is = refl
after-standing entity last place (x ∷ entities) rest is =
    after-by entity last place x entities rest (x == entity) is (after-standing entity last place entities rest is)
    ∙ or-then (x == entity) (is_among entities entity) (place ∷ once_after place (of_number entity rest)) (once_after last (of_number entity rest))

after-all : (entity last at : ℕ) (population : List Instance) → last < at → once_after last (of_number entity (standing_from at population)) ≡ places_from entity at population
unfolding standing_from places_from
after-all entity last at [] h = refl
after-all entity last at (i ∷ others) h =
    let rest = standing_from (at + 1) others in
    let other : (at == last) ≡ false = grind (arith, nat_tests, h) in
    after-standing entity last at i.entities rest other
    ∙ either (is_among i.entities entity) (at ∷ once_after at (of_number entity rest)) (once_after last (of_number entity rest)) (at ∷ places_from entity (at + 1) others) (places_from entity (at + 1) others) (ap (λ (ps : List ℕ). at ∷ ps) (after-all entity at (at + 1) others (omega arith))) (after-all entity last (at + 1) others (omega arith))

pub extent_is : (entity at : ℕ) (population : List Instance) → each_once (of_number entity (standing_from at population)) ≡ places_from entity at population
unfolding standing_from places_from
extent_is entity at [] = refl
extent_is entity at (i ∷ others) =
    let rest = standing_from (at + 1) others in
    each-standing entity at i.entities rest
    ∙ either (is_among i.entities entity) (at ∷ once_after at (of_number entity rest)) (each_once (of_number entity rest)) (at ∷ places_from entity (at + 1) others) (places_from entity (at + 1) others) (ap (λ (ps : List ℕ). at ∷ ps) (after-all entity at (at + 1) others (omega arith))) (extent_is entity (at + 1) others)

-- ---- turn by turn

pub standing_step : (rows : List (List ℕ)) (xs : List Instance) (i : ℕ) (x : Instance) → i < length xs → x ≡ get_or xs i x
    → put_all rows (standing_from i (drop i xs)) ≡ put_all (put_all rows (standing i x.entities)) (standing_from (i + 1) (drop (i + 1) xs))
unfolding standing_from
standing_step rows xs i x h is = rw (drop-read xs i x h is) (put_all-append rows (standing i x.entities) (standing_from (i + 1) (drop (i + 1) xs)))

once-by : (last place : ℕ) (rest : List ℕ) (t : Bool) → (place == last) ≡ t
    → (if t then once_after last rest else place ∷ once_after place rest) ≡ (if t then [] else place ∷ []) ++ once_after place rest
once-by last place rest true is = let same : place ≡ last = grind (arith, nat_tests, is) in ap (λ p. once_after p rest) (sym same)
once-by last place rest false is = refl

once-behind : (last : Option ℕ) (place : ℕ) (rest : List ℕ) → once_behind last (place ∷ rest) ≡ once_behind last (place ∷ []) ++ once_after place rest
once-behind None place rest = refl
once-behind (Some last) place rest = once-by last place rest (place == last) refl

pub once_step : (found : List Value) (last : Option ℕ) (places : List ℕ) (i place : ℕ) → i < length places → place ≡ get_or places i place
    → found ++ instances (once_behind last (drop i places)) ≡ (found ++ instances (once_behind last (place ∷ []))) ++ instances (once_behind (Some place) (drop (i + 1) places))
once_step found last places i place h is =
    let rest = drop (i + 1) places in
    ap (λ ps. found ++ instances (once_behind last ps)) (drop-read places i place h is)
    ∙ ap (λ ps. found ++ instances ps) (once-behind last place rest)
    ∙ ap (λ xs. found ++ xs) (map-append (λ p. v.Inst p) (once_behind last (place ∷ [])) (once_after place rest))
    ∙ sym (append_assoc found (instances (once_behind last (place ∷ []))) (instances (once_after place rest)))

-- rows that were filled, by how many they are
pub rows_of : (n : ℕ) (rows : List (List ℕ)) (pairs : List (ℕ × ℕ)) → rows ≡ put_all (replicate n []) pairs → rows ≡ put_all (replicate (length rows) []) pairs
rows_of n rows pairs is = is ∙ ap (λ (m : ℕ). put_all (replicate m []) pairs) (sym (ap length is ∙ as-many n pairs))

pub none-of : (rows : List (List ℕ)) (pairs : List (ℕ × ℕ)) → rows ≡ [] → rows ≡ put_all (replicate (length rows) []) pairs
none-of rows pairs none = rw none (sym (no-rows pairs))
