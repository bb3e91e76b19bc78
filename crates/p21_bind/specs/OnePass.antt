-- What the instances of a file are while it is read, before all names are known: as if each name that they refer to were defined,
-- and none stood before.
use Rattle.std.specs.Prelude.{◌≡◌, ℕ, Bool, true, false, if◌then◌else◌, List, [], ◌∷◌, Option, Some, None, Result, Ok, Err}
use Rattle.std.specs.List.{flat_map}
use Rattle.ex_schemas.specs.Schemas.{Checked}
use Rattle.p21_instances.specs.Instances.{names}
use Rattle.p21_grammar.specs.Schemas.{is_of_schema}
use Rattle.p21_tree.specs.declared.fault.FileFault.{FileFault}
use Rattle.p21_tree.specs.declared.fault.InstanceFault.{InstanceFault}
use Rattle.p21_tree.specs.declared.instance.Instance as tree
use Rattle.p21_tree.specs.declared.raw.Raw.{Raw}
use Rattle.rp_content.specs.declared.content.Content.{Content}
use Rattle.p21_bind.specs.declared.loading.Loading.{Loading}
use Rattle.p21_bind.specs.Files.{Instances, first_of, one, bound_file}
use Rattle.p21_mappings.specs.Referred.{mapping_references}

abbrev pub any_name : ℕ → Bool
any_name name = true

abbrev pub no_name : ℕ → Bool
no_name name = false

-- each by itself
abbrev pub apart : Checked → List tree.Instance → Instances
apart schema [] = Ok []
apart schema (x ∷ xs) = first_of (one schema any_name no_name x) (apart schema xs)

-- what they refer to
abbrev pub all_references : List tree.Instance → List ℕ
all_references = flat_map (λ x. mapping_references x.mapping)

-- The first becomes the second by these instances.
pub record Becomes (first : Loading) (xs : List tree.Instance) (now : Loading) : Type 0 where
  pub layouts : now.layouts ≡ first.layouts
  pub names : names xs ≡ now.names.items
  pub references : all_references xs ≡ now.references.items
  pub instances : apart first.layouts xs ≡ Ok now.instances.items

-- ---- a whole file

abbrev pub found : Result Content InstanceFault → Option Content
found (Ok content) = Some content
found (Err fault) = None

-- what a file of the schema of this name holds, where these names are linked, and neither the file nor an instance has a fault
abbrev pub loaded : Checked → List ℕ → List ℕ → Result Raw FileFault → Option Content
loaded schema name linked (Ok raw) = if is_of_schema name raw then found (bound_file schema linked raw) else None
loaded schema name linked (Err fault) = None
