-- Requests on groups.
use Rattle.rp_plain.specs.declared.messages.Request.{Request}
use Rattle.rp_plain.specs.declared.messages.Request.TheVariants.{CreateGroup, DeleteGroup, GrantGroup, RevokeGroup, Include, Exclude, Members, Extent, Users, Validate}

-- it names a group
abbrev pub IsOnGroup : Request → Type 0
IsOnGroup (CreateGroup name schema) = Unit {0}
IsOnGroup (DeleteGroup name) = Unit {0}
IsOnGroup (GrantGroup name to) = Unit {0}
IsOnGroup (RevokeGroup name to) = Unit {0}
IsOnGroup (Include group model) = Unit {0}
IsOnGroup (Exclude group model) = Unit {0}
IsOnGroup (Members group) = Unit {0}
IsOnGroup (Extent group entity) = Unit {0}
IsOnGroup (Users group of role) = Unit {0}
IsOnGroup (Validate group) = Unit {0}
IsOnGroup _ = ⊥
