-- The step that a partner's request makes.
use Rattle.std.specs.Prelude.{List, [], Option, Some, None}
use Rattle.rp_rows.specs.Rows.{Text}
use Rattle.rp_plain.specs.declared.messages.Request.{Request}
use Rattle.rp_plain.specs.declared.messages.Request.TheVariants.{CreateModel, DeleteModel, Put, Export, Names, Get, Add, Set, DropInstance, ListItems, GrantModel, RevokeModel, CreateGroup, DeleteGroup, GrantGroup, RevokeGroup, Include, Exclude, Members, Extent, Users, Validate, Schemas, CheckSchema}
use Rattle.rp_plain.specs.declared.messages.Refusal.{Refusal}
use Rattle.rp_plain.specs.declared.messages.Reply.{Reply}
use Rattle.rp_plain.specs.declared.messages.Reply.TheVariants.{Refused}
use Rattle.rp_plain.specs.Plain.{Plain}
use Rattle.rp_plain.specs.Edits.{Edit, changed}
use Rattle.rp_plain.specs.Readers.{Readers, asked}
use Rattle.rp_plain.specs.Meaning.{Meaning, first_some}
use Rattle.rp_plain.specs.Models.{create_model, delete_model}
use Rattle.rp_plain.specs.Grants.{grant_model, revoke_model, grant_group, revoke_group}
use Rattle.rp_plain.specs.Groups.{create_group, delete_group, include, exclude}
use Rattle.rp_plain.specs.Populations.{members, extent, users, validate}
use Rattle.rp_plain.specs.Files.{put, export}
use Rattle.rp_plain.specs.Lists.{names, list_items, schemas}
use Rattle.rp_plain.specs.Instances.{get, add, set, drop_instance}
use Rattle.rp_plain.specs.Checks.{check_schema}

-- what c's request means, where he is told this
abbrev pub meaning : Readers → Text → Request → Meaning
meaning a c (CreateModel name schema) = create_model a c name schema
meaning a c (DeleteModel name) = delete_model a c name
meaning a c (Put model file links) = put a model file links
meaning a c (Export model links) = export a model links
meaning a c (Names model) = names a model
meaning a c (Get model instance) = get a model instance
meaning a c (Add model text) = add a model text
meaning a c (Set model instance text) = set a model instance text
meaning a c (DropInstance model instance) = drop_instance a model instance
meaning a c ListItems = list_items a
meaning a c (GrantModel name to level) = grant_model a c name to level
meaning a c (RevokeModel name to) = revoke_model a c name to
meaning a c (CreateGroup name schema) = create_group a c name schema
meaning a c (DeleteGroup name) = delete_group a c name
meaning a c (GrantGroup name to) = grant_group a c name to
meaning a c (RevokeGroup name to) = revoke_group a c name to
meaning a c (Include group model) = include a c group model
meaning a c (Exclude group model) = exclude a c group model
meaning a c (Members group) = members a group
meaning a c (Extent group entity) = extent a group entity
meaning a c (Users group place role) = users a group place role
meaning a c (Validate group) = validate a group
meaning a c Schemas = schemas a
meaning a c (CheckSchema text) = check_schema text

-- a reply, and what is changed
pub record Outcome : Type 0 where
  pub reply : Reply
  pub edits : List Edit

-- the first refusal that holds, and nothing is changed; else the reply and the edits
abbrev pub outcome : Meaning → Option Refusal → Outcome
outcome m None = record { reply = m.reply; edits = m.edits }
outcome m (Some refusal) = record { reply = Refused refusal; edits = [] }

abbrev pub answer : Readers → Text → Request → Outcome
answer a c q = outcome (meaning a c q) (first_some (meaning a c q).tests)

-- the reply to c's request, and the repository after it
abbrev pub reply_to : Plain → Text → Request → Reply
reply_to r c q = (answer (asked r c) c q).reply

abbrev pub next : Plain → Text → Request → Plain
next r c q = changed (answer (asked r c) c q).edits r
