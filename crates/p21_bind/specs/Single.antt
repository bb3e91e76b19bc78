-- One instance by itself, as a request brings it (ISO 10303-21:2002, 10.2).
use Rattle.std.specs.Prelude.{ℕ, Bool, false, Result}
use Rattle.ex_schemas.specs.Schemas.{Checked}
use Rattle.p21_tree.specs.declared.fault.InstanceFault.{InstanceFault}
use Rattle.p21_tree.specs.declared.instance.Mapping.{Mapping}
use Rattle.rp_content.specs.declared.instance.Instance.{Instance}
use Rattle.p21_mappings.specs.Instances.{instance}
use Rattle.p21_bind.specs.Files.{told}

-- The instance of this name that the mapping is, or its first fault, under the name. A reference may name what is defined: the
-- instances and links of the model as it was before the request. Of this name no instance stood before.
unfoldable pub bound_instance : Checked → (ℕ → Bool) → ℕ → Mapping → Result Instance InstanceFault
bound_instance schema defined name m = told name (instance schema defined false (record { name = name; mapping = m }))
