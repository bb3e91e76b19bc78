-- The instances and the links that a model holds: their names, and what they refer to.
use Rattle.std.specs.Prelude.{ℕ, max, List, [], ◌∷◌, map, fold}
use Rattle.std.specs.List.{flat_map}
use Rattle.rp_content.specs.declared.content.Content.{Content}
use Rattle.rp_content.specs.declared.instance.Instance.{Instance}
use Rattle.rp_content.specs.declared.link.Link.{Link}
use Rattle.rp_value.specs.declared.value.Value.{Value}
use Rattle.rp_value.specs.declared.value.Value.TheFolds.{fold-Value}
use Rattle.rp_value.specs.declared.value.Value.TheOpen.{Value-F}

abbrev pub instance_name : Instance → ℕ
instance_name i = i.name

abbrev pub names : List Instance → List ℕ
names = map instance_name

-- the greatest of a number and the names
abbrev pub greatest_name : ℕ → List Instance → ℕ
greatest_name start instances = fold max start (names instances)

abbrev pub link_name : Link → ℕ
link_name l = l.name

abbrev pub link_names : List Link → List ℕ
link_names = map link_name

-- the greatest of a number and the names that a content defines
abbrev pub greatest_of : ℕ → Content → ℕ
greatest_of start content = fold max (greatest_name start content.instances) (link_names content.links)

-- the names that one level of a value refers to, given those of the values in it
abbrev pub referred : Value-F (List ℕ) → List ℕ
referred (Value-F.Inst name) = name ∷ []
referred (Value-F.Agg kind elements) = flat_map (λ found. found) elements.items
referred (Value-F.Named n found) = found
referred _ = []

-- the names that a value refers to, at any depth, from the left
abbrev pub references : Value → List ℕ
references = fold-Value (List ℕ) referred

-- the names that an instance refers to
abbrev pub references_of : Instance → List ℕ
references_of i = flat_map references i.values
