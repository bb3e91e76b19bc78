-- What an index keeps beside instances and links, and what candidates are. Too many may be kept, never too few.
use Rattle.std.specs.Prelude.{◌≡◌, ℕ, Bool, true, false, ◌&&◌, ◌||◌, ◌==◌, List, [], ◌∷◌, map, Option, Some, None, ⊤}
use Rattle.std.specs.List.{flat_map, list_any, AllByRecursion}
use Rattle.std.specs.List.Sorted.{IsNonDecreasingBy}
use Rattle.plain_data.specs.Numbers.{is_among, numbered}
use Rattle.rp_content.specs.declared.content.Content.{Content}
use Rattle.rp_content.specs.declared.instance.Entities.{Entities}
use Rattle.rp_content.specs.declared.instance.Entities.TheVariants.{Leaf, Several}
use Rattle.rp_content.specs.declared.instance.Instance.{Instance}
use Rattle.rp_content.specs.declared.link.Link.{Link}
use Rattle.rp_rows.specs.Contents.{references_of}
use Rattle.rp_index.specs.declared.index.Index.{Index}
use Rattle.rp_index.specs.declared.kinds.Kind.{Kind}
use Rattle.rp_index.specs.declared.pairs.Pairs.{Pairs}
use Rattle.rp_index.specs.Pairs.{has_pair, HasAll}

-- ---- what is entered of instances and of links

-- each name that an instance refers to, with its own
abbrev pub uses_of : Instance → List (ℕ × ℕ)
uses_of i = map (λ n. (n, i.name)) (references_of i)

-- the entities that are written with an instance
abbrev pub written : Entities → List ℕ
written (Leaf entity) = entity ∷ []
written (Several all) = all

-- each of these, with the instance's name
abbrev pub kinds_of : Instance → List (ℕ × ℕ)
kinds_of i = map (λ e. (e, i.name)) (written i.entities)

-- the name of a link's target in its model, with the place of the link
abbrev pub lead : ℕ → Link → ℕ × ℕ
lead place l = (l.target, place)

-- ---- what is kept

abbrev pub is_in_kind : ℕ × ℕ → Kind → Bool
is_in_kind q k = (k.entity == q.0) && is_among k.names.items q.1

-- whether a name is under an entity
abbrev pub is_under : List Kind → ℕ × ℕ → Bool
is_under kinds q = list_any (is_in_kind q) kinds

-- whether a pair is among those that came first, or those that came since
abbrev pub has : Pairs → ℕ × ℕ → Bool
has x q = has_pair x.settled.items q || has_pair x.fresh.keys q

-- those that came first stand in the order of their firsts
abbrev pub IsInOrder : Pairs → Type 0
IsInOrder x = IsNonDecreasingBy (λ (q : ℕ × ℕ). q.0) x.settled.items

pub record Covers (x : Index) (instances : List Instance) (links : List Link) : Type 0 where
  pub uses : HasAll (has x.uses) (flat_map uses_of instances)
  pub uses_order : IsInOrder x.uses
  pub kinds : HasAll (is_under x.kinds.items) (flat_map kinds_of instances)
  pub leads : HasAll (has x.leads) (numbered lead links)
  pub leads_order : IsInOrder x.leads

-- an index, if there is one, covers a content
abbrev pub IsIndexOf : Content → Option Index → Type 0
IsIndexOf content None = ⊤
IsIndexOf content (Some x) = Covers x content.instances content.links

-- ---- candidates

-- whoever isn't among these refers to none of the names
abbrev pub AreUsersAmong : List ℕ → List ℕ → List Instance → Type 0
AreUsersAmong names users instances = AllByRecursion (λ i. is_among users i.name ≡ false → list_any (is_among names) (references_of i) ≡ false) instances

-- each instance is under each of the entities that are written with it
abbrev pub AreKindsOf : List Instance → List Kind → Type 0
AreKindsOf instances kinds = HasAll (is_under kinds) (flat_map kinds_of instances)

-- a link that leads to an instance of this name, in any model, stands at one of the places
abbrev pub AreLeadsAmong : ℕ → List ℕ → List Link → Type 0
AreLeadsAmong target places links = AllByRecursion (λ q. (q.0 == target) ≡ true → is_among places q.1 ≡ true) (numbered lead links)
