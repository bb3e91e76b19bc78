-- Supertype expressions that can't be read: an entity named twice, or one that is no direct subtype (ISO 10303-11:1994, 9.2.4).
use Rattle.std.specs.Prelude.{ℕ, Bool, true, false, not, ◌&&◌, ◌||◌, ◌==◌, nat_lt, if◌then◌else◌, List, [], ◌∷◌, ◌++◌, fold, Option, Some, None, Result, Ok, Err}
use Rattle.std.specs.List.{flat_map}
use Rattle.plain_data.specs.Numbers.{is_among, numbered}
use Rattle.ex_named.specs.declared.declaration.NamedEntity.{NamedEntity}
use Rattle.ex_named.specs.declared.declaration.NamedSupertype.{NamedSupertype}
use Rattle.ex_named.specs.declared.declaration.NamedSupertype.TheFolds.{fold-NamedSupertype}
use Rattle.ex_named.specs.declared.declaration.NamedSupertype.TheOpen.{NamedSupertype-F}
use Rattle.ex_subtypes.specs.declared.build.Mention.{Mention}
use Rattle.ex_subtypes.specs.declared.build.SubtypeFault.{SubtypeFault}
use Rattle.ex_subtypes.specs.declared.build.SubtypeFaultKind.{SubtypeFaultKind}
use Rattle.ex_subtypes.specs.declared.build.SubtypeFaultKind.TheVariants.{NamedTwice, NotDirectSubtype}
use Rattle.ex_subtypes.specs.Legal.{constraints_of, is_direct_subtype}

-- ---- what an expression names, in order

abbrev pub mention : ℕ → ℕ → List Mention
mention entity at = record { entity = entity; at = at } ∷ []

abbrev pub mention_layer : NamedSupertype-F (List Mention) → List Mention
mention_layer (NamedSupertype-F.Entity e at) = mention e at
mention_layer (NamedSupertype-F.OneOf parts) = flat_map (λ m. m) parts
mention_layer (NamedSupertype-F.And parts) = flat_map (λ m. m) parts
mention_layer (NamedSupertype-F.AndOr parts) = flat_map (λ m. m) parts

unfoldable pub mentions : NamedSupertype → List Mention
mentions = fold-NamedSupertype (List Mention) mention_layer

-- ---- faults

abbrev pub fault : SubtypeFaultKind → ℕ → SubtypeFault
fault kind at = record { kind = kind; at = at }

-- what is wrong with a mention, where these entities are named before it
abbrev pub faults_at : (ℕ → Bool) → List ℕ → Mention → List SubtypeFault
faults_at is_subtype before m =
    if is_among before m.entity then fault NamedTwice m.at ∷ []
    else if is_subtype m.entity then []
    else fault NotDirectSubtype m.at ∷ []

abbrev pub faults_after : (ℕ → Bool) → List ℕ → List Mention → List SubtypeFault
faults_after is_subtype before [] = []
faults_after is_subtype before (m ∷ ms) = faults_at is_subtype before m ++ faults_after is_subtype (m.entity ∷ before) ms

-- those of an expression of an entity that has these direct subtypes
abbrev pub faults_of : (ℕ → Bool) → NamedSupertype → List SubtypeFault
faults_of is_subtype x = faults_after is_subtype [] (mentions x)

-- those of an entity's expressions
abbrev pub entity_faults : List NamedEntity → ℕ → NamedEntity → List SubtypeFault
entity_faults entities number e = flat_map (faults_of (is_direct_subtype entities number)) (constraints_of e)

-- those of all expressions
abbrev pub faults : List NamedEntity → List SubtypeFault
faults entities = flat_map (λ fs. fs) (numbered (entity_faults entities) entities)

-- ---- the first fault

abbrev pub is_twice : SubtypeFaultKind → Bool
is_twice NamedTwice = true
is_twice NotDirectSubtype = false

-- by the offset, NamedTwice first at one offset
abbrev pub is_before : SubtypeFault → SubtypeFault → Bool
is_before f g = nat_lt f.at g.at || ((f.at == g.at) && (is_twice f.kind && not (is_twice g.kind)))

abbrev pub sooner : Option SubtypeFault → SubtypeFault → Option SubtypeFault
sooner None f = Some f
sooner (Some first) f = if is_before f first then Some f else Some first

unfoldable pub first_fault : List NamedEntity → Option SubtypeFault
first_fault entities = fold sooner None (faults entities)

-- what is made where all expressions can be read, or the fault of least offset
abbrev pub built_by : {A : Type 0} → A → Option SubtypeFault → Result A SubtypeFault
built_by made None = Ok made
built_by made (Some f) = Err f
