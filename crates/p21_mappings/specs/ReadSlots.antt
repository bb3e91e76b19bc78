-- Values by slots as they are read: what the declared type comes to is found once, and not for each value.
use Rattle.std.specs.Prelude.{ℕ, Bool, if◌then◌else◌, List, Err}
use Rattle.std.specs.List.{list_all, zip}
use Rattle.ex_layouts.specs.declared.read_slot.ReadSlot.{ReadSlot}
use Rattle.ex_schemas.specs.Schemas.{Checked}
use Rattle.p21_instances.specs.Instances.{references}
use Rattle.p21_tree.specs.declared.fault.InstanceFaultKind.TheVariants.{NotDerived}
use Rattle.p21_tree.specs.declared.instance.Record.{Record}
use Rattle.p21_tree.specs.declared.value.Value.{Value as SpelledValue}
use Rattle.p21_values.specs.Taking.{meaning, place}
use Rattle.rp_value.specs.declared.value.Value.{Value}
use Rattle.p21_mappings.specs.Instances.{Mapped, defined, derived_value, each, has_star}

module _ (schema : Checked) (is_defined : ℕ → Bool) where
  -- the value of a slot, or the first that holds of what is wrong with it at any depth
  abbrev pub slot_value : ReadSlot × SpelledValue → Mapped Value
  slot_value s =
      if s.0.is_derived then derived_value s.1
      else if has_star s.1 then Err NotDerived
      else defined schema is_defined (place (meaning schema.named.schema.types s.1) s.0.expected) (list_all is_defined (references s.1))

  -- the values of a record
  abbrev pub record_values : List ReadSlot × Record → Mapped (List Value)
  record_values p = each slot_value (zip p.0 p.1.values)
