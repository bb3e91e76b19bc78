-- What an expression names.
use Rattle.std.proofs.Common.{◌≡◌, ℕ, List, [], ◌∷◌, ◌++◌, map, refl, sym, ◌∙◌, ap, subst}
use Rattle.std.specs.List.{flat_map}
use Rattle.ex_subtypes.specs.declared.build.Mention.{Mention}
use Rattle.ex_subtypes.specs.declared.choices.Connective.{Connective}
use Rattle.ex_subtypes.specs.declared.choices.Connective.TheVariants.{OneOf, And, AndOr}
use Rattle.ex_named.specs.declared.declaration.NamedSupertype.{NamedSupertype}
use Rattle.ex_named.specs.declared.declaration.NamedSupertype.TheFolds.{fold-roll-NamedSupertype, ind-NamedSupertype, map-NamedSupertype}
use Rattle.ex_named.specs.declared.declaration.NamedSupertype.TheOpen.{NamedSupertype-F}
use Rattle.ex_named.specs.declared.declaration.NamedSupertype.TheVariants as s
use Rattle.ex_named.specs.declared.declaration.NamedSupertype.TheViews.{roll-NamedSupertype}
use Rattle.ex_subtypes.specs.Combinations.{Saying, nothing, layer, saying, names, join, joined}
use Rattle.ex_subtypes.specs.Faults.{mentions, mention_layer}
use Rattle.ex_subtypes.proofs.Joins.{named-joined}
use Rattle.ex_subtypes.proofs.Soundness.{saying_roll}

-- ---- mentions by the forms of an expression

mentions_roll : (x : NamedSupertype-F NamedSupertype) → mentions (roll-NamedSupertype x) ≡ mention_layer (map-NamedSupertype NamedSupertype (List Mention) mentions x)
unfolding mentions
mentions_roll x = fold-roll-NamedSupertype (List Mention) mention_layer x

flat_map-map : (xs : List NamedSupertype) → flat_map (λ m. m) (map mentions xs) ≡ flat_map mentions xs
flat_map-map [] = refl
flat_map-map (x ∷ xs) = ap (λ l. mentions x ++ l) (flat_map-map xs)

pub mentions-Entity : (x : NamedSupertype) (e at : ℕ) → x ≡ s.Entity e at → mentions x ≡ (record { entity = e; at = at }) ∷ []
mentions-Entity x e at is = ap mentions is ∙ ap mentions (sym (s.rolls-Entity e at)) ∙ mentions_roll (NamedSupertype-F.Entity e at)

pub mentions-OneOf : (x : NamedSupertype) (parts : List NamedSupertype) → x ≡ s.OneOf parts → mentions x ≡ flat_map mentions parts
mentions-OneOf x parts is = ap mentions is ∙ ap mentions (sym (s.rolls-OneOf parts)) ∙ mentions_roll (NamedSupertype-F.OneOf parts) ∙ flat_map-map parts

pub mentions-And : (x : NamedSupertype) (parts : List NamedSupertype) → x ≡ s.And parts → mentions x ≡ flat_map mentions parts
mentions-And x parts is = ap mentions is ∙ ap mentions (sym (s.rolls-And parts)) ∙ mentions_roll (NamedSupertype-F.And parts) ∙ flat_map-map parts

pub mentions-AndOr : (x : NamedSupertype) (parts : List NamedSupertype) → x ≡ s.AndOr parts → mentions x ≡ flat_map mentions parts
mentions-AndOr x parts is = ap mentions is ∙ ap mentions (sym (s.rolls-AndOr parts)) ∙ mentions_roll (NamedSupertype-F.AndOr parts) ∙ flat_map-map parts

-- ---- the names are those of the mentions

abbrev pub entities_of : List Mention → List ℕ
entities_of ms = map (λ m. m.entity) ms

abbrev SameNames : NamedSupertype → Type 0
SameNames x = names x ≡ entities_of (mentions x)

map-append : (ms ns : List Mention) → entities_of (ms ++ ns) ≡ entities_of ms ++ entities_of ns
map-append [] ns = refl
map-append (m ∷ ms) ns = ap (λ l. m.entity ∷ l) (map-append ms ns)

all_same : (ps : List ((x : NamedSupertype) × SameNames x)) → flat_map names (map (λ e. e.0) ps) ≡ entities_of (flat_map (λ m. m) (map mentions (map (λ e. e.0) ps)))
all_same [] = refl
all_same (p ∷ ps) = ap (λ l. l ++ flat_map names (map (λ e. e.0) ps)) p.1 ∙ ap (λ l. entities_of (mentions p.0) ++ l) (all_same ps) ∙ sym (map-append (mentions p.0) (flat_map (λ m. m) (map mentions (map (λ e. e.0) ps))))

joined_same : (way : Connective) (ps : List ((x : NamedSupertype) × SameNames x)) → (joined nothing (join way) (map saying (map (λ e. e.0) ps))).named ≡ entities_of (flat_map (λ m. m) (map mentions (map (λ e. e.0) ps)))
joined_same way ps = named-joined way (map (λ e. e.0) ps) ∙ all_same ps

layer_same : (y : NamedSupertype-F ((x : NamedSupertype) × SameNames x)) → (let x : NamedSupertype-F NamedSupertype = map-NamedSupertype ((x : NamedSupertype) × SameNames x) NamedSupertype (λ e. e.0) y in
    (layer (map-NamedSupertype NamedSupertype Saying saying x)).named ≡ entities_of (mention_layer (map-NamedSupertype NamedSupertype (List Mention) mentions x)))
layer_same (NamedSupertype-F.Entity e at) = refl
layer_same (NamedSupertype-F.OneOf ps) = joined_same OneOf ps
layer_same (NamedSupertype-F.And ps) = joined_same And ps
layer_same (NamedSupertype-F.AndOr ps) = joined_same AndOr ps

pub same_names : (x : NamedSupertype) → SameNames x
same_names = ind-NamedSupertype SameNames (λ x y is.
    let P : NamedSupertype-F NamedSupertype → Type 0 = λ z. (layer (map-NamedSupertype NamedSupertype Saying saying z)).named ≡ entities_of (mention_layer (map-NamedSupertype NamedSupertype (List Mention) mentions z)) in
    ap (λ p. p.named) (saying_roll x) ∙ subst P is (layer_same y) ∙ ap entities_of (sym (mentions_roll x)))
