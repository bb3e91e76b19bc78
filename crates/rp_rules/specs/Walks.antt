-- Where the rules of a defined type may be tried, by the layouts of instances.
use Rattle.std.specs.Prelude.{◌≡◌, ℕ, false, List, Some, slice_get}
use Rattle.rp_meaning.specs.declared.schema.Schema.{Schema}
use Rattle.rp_meaning.specs.Populations.{Instance}
use Rattle.rp_rules.specs.declared.types.Walk.{Walk}
use Rattle.rp_rules.specs.Layouts.{attributes_at}
use Rattle.rp_rules.specs.Plan.{Tells, may_have_any}

module _ (schema : Schema) (population : List Instance) (number : ℕ) (numbers : List ℕ) where
  -- Its plan tells of attributes, and where it says that nothing may be tried in the layout of an instance, nothing may in this one.
  pub record Leads (walk : Walk) : Type 0 where
    pub tells : Tells schema number walk.plan
    pub skips : (at layout : ℕ) → slice_get numbers at ≡ Some layout → slice_get walk.layouts layout ≡ Some false → may_have_any walk.plan (attributes_at population at) ≡ false
