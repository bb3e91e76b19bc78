-- What a change makes of the models, and why it is refused.
use Rattle.std.specs.Prelude.{ℕ, Bool, ◌||◌, nat_le, nat_lt, List, length, Option, Some, None, is_some, if◌then◌else◌}
use Rattle.rp_content.specs.declared.content.Content.{Content}
use Rattle.rp_rows.specs.declared.rows.Key.{Key}
use Rattle.rp_rows.specs.declared.rows.ModelContent.{ModelContent}
use Rattle.rp_store.specs.declared.changes.Change.{Change}
use Rattle.rp_store.specs.declared.changes.Change.TheVariants.{Create, Remove, Put, Add, Set, DropInstance}
use Rattle.rp_store.specs.declared.changes.StoreFault.{StoreFault}
use Rattle.rp_store.specs.declared.changes.StoreFault.TheVariants.{Exists, Absent, TooMany, NoSuchInstance, InUse}
use Rattle.rp_rows.specs.Instances.{max_instances, max_name, instance_of, is_used, with_instance, without_instance}
use Rattle.rp_store.specs.Models.{Held, held_at, with_model, edited}
use Rattle.rp_store.specs.Contents.{new_model, refilled, added}

abbrev pub when : Bool → StoreFault → Option StoreFault
when holds why = if holds then Some why else None

-- the model that it changes
abbrev pub key_of : Change → Key
key_of (Create k schema) = k
key_of (Remove k) = k
key_of (Put k content) = k
key_of (Add k entities values) = k
key_of (Set k i) = k
key_of (DropInstance k n) = k

-- why it is refused in the model, or that there is none
abbrev pub tested : (ModelContent → Option StoreFault) → Option ModelContent → Option StoreFault
tested test None = Some Absent
tested test (Some h) = test h

-- the links of a model
abbrev pub max_links : ℕ
max_links = 10000

-- more instances than a model may have, or more links
abbrev pub holds_too_many : Content → Bool
holds_too_many content = nat_lt max_instances (length content.instances) || nat_lt max_links (length content.links)

abbrev pub is_full : ModelContent → Option StoreFault
is_full h = when (nat_le max_name h.greatest || nat_le max_instances (length h.content.instances)) TooMany

abbrev pub is_missing : ℕ → ModelContent → Option StoreFault
is_missing n h = if is_some (instance_of n h.content.instances) then None else Some NoSuchInstance

abbrev pub is_needed : ℕ → ModelContent → Option StoreFault
is_needed n h = if is_some (instance_of n h.content.instances) then when (is_used n h.content.instances) InUse else Some NoSuchInstance

-- the first that holds of why a change is refused, if any does
abbrev pub fault : Change → List Held → Option StoreFault
fault (Create k schema) ms = when (is_some (held_at k ms)) Exists
fault (Remove k) ms = tested (λ h. None) (held_at k ms)
fault (Put k content) ms = tested (λ h. when (holds_too_many content) TooMany) (held_at k ms)
fault (Add k entities values) ms = tested is_full (held_at k ms)
fault (Set k i) ms = tested (is_missing i.name) (held_at k ms)
fault (DropInstance k n) ms = tested (is_needed n) (held_at k ms)

-- the models after a change
abbrev pub changed : Change → List Held → List Held
changed (Create k schema) ms = with_model k (Some (new_model schema)) ms
changed (Remove k) ms = with_model k None ms
changed (Put k content) ms = edited k (refilled content) ms
changed (Add k entities values) ms = edited k (added entities values) ms
changed (Set k i) ms = edited k (with_instance i) ms
changed (DropInstance k n) ms = edited k (without_instance n) ms
