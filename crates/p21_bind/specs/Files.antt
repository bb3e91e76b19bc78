-- What a file holds, by the schema that it is of, or the first fault of its instances (ISO 10303-21:2002, clauses 8 to 10).
use Rattle.std.specs.Prelude.{ℕ, ◌<◌, Bool, false, ◌||◌, ◌==◌, List, [], ◌∷◌, ◌++◌, Result, Ok, Err}
use Rattle.std.specs.List.{AllByRecursion}
use Rattle.plain_data.specs.Numbers.{is_among}
use Rattle.ex_schemas.specs.Schemas.{Checked}
use Rattle.p21_instances.specs.Instances.{names}
use Rattle.p21_tree.specs.declared.fault.InstanceFault.{InstanceFault}
use Rattle.p21_tree.specs.declared.header.Header as spelled_header
use Rattle.p21_tree.specs.declared.instance.Instance as tree
use Rattle.p21_tree.specs.declared.raw.Raw.{Raw}
use Rattle.rp_content.specs.declared.content.Content.{Content}
use Rattle.rp_content.specs.declared.instance.Instance.{Instance}
use Rattle.p21_mappings.specs.Instances.{Mapped, instance}
use Rattle.p21_mappings.specs.Contents.{content}

-- ---- the instances

abbrev pub Instances : Type 0
Instances = Result (List Instance) InstanceFault

-- a fault is told with the name of its instance
abbrev pub told : ℕ → Mapped Instance → Result Instance InstanceFault
told name (Ok x) = Ok x
told name (Err kind) = Err (record { instance = name; kind = kind })

abbrev pub behind : List Instance → Instances → Instances
behind found (Ok xs) = Ok (found ++ xs)
behind found (Err fault) = Err fault

abbrev pub first_of : Result Instance InstanceFault → Instances → Instances
first_of (Ok x) others = behind (x ∷ []) others
first_of (Err fault) others = Err fault

abbrev pub bound_by : spelled_header.Header → Instances → Result Content InstanceFault
bound_by h (Ok xs) = Ok (content h xs)
bound_by h (Err fault) = Err fault

module _ (schema : Checked) where
  -- one, where these names are defined in the file and those stood before
  abbrev pub one : (ℕ → Bool) → (ℕ → Bool) → tree.Instance → Result Instance InstanceFault
  one defined stood x = told x.name (instance schema defined (stood x.name) x)

  -- the instances behind those whose names stood before, or the first fault of the first faulty one
  abbrev pub instances_after : (ℕ → Bool) → (ℕ → Bool) → List tree.Instance → Instances
  instances_after defined stood [] = Ok []
  instances_after defined stood (x ∷ xs) = first_of (one defined stood x) (instances_after defined (λ n. (x.name == n) || stood n) xs)

  -- in the order of the file; they may refer to one another and to the names that are linked
  unfoldable pub instances : List ℕ → List tree.Instance → Instances
  instances linked xs = instances_after (is_among (names xs ++ linked)) (λ n. false) xs

  -- the content of a model that the file is put into, where these names are linked, or the first fault
  unfoldable pub bound_file : List ℕ → Raw → Result Content InstanceFault
  bound_file linked raw = bound_by raw.header (instances linked raw.instances)

-- each stands before those with greater names
abbrev pub AreAscending : List Instance → Type 0
AreAscending [] = Unit {0}
AreAscending (i ∷ is) = AllByRecursion (λ (j : Instance). i.name < j.name) is × AreAscending is
