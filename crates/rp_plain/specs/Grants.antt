-- The requests that grant and revoke.
use Rattle.std.specs.Prelude.{List, [], ◌∷◌, Some, None, if◌then◌else◌}
use Rattle.std.specs.Str.{bytes_eq}
use Rattle.rp_rows.specs.declared.rows.Level.{Level}
use Rattle.rp_rows.specs.declared.rows.Level.TheVariants.{Read}
use Rattle.rp_rows.specs.Rows.{Text, key_of}
use Rattle.rp_rows.specs.Alterations.{Grants}
use Rattle.rp_plain.specs.declared.messages.Reply.TheVariants.{Done}
use Rattle.rp_plain.specs.Readers.{Readers}
use Rattle.rp_plain.specs.Edits.{Edit, EditModel, EditGroup}
use Rattle.rp_plain.specs.Meaning.{Meaning, names_fault, is_no_partner, unseen}

-- a grant to the owner changes nothing
abbrev pub unless_own : Text → Text → Edit → List Edit
unless_own c to e = if bytes_eq to c then [] else e ∷ []

-- it replaces the former level
abbrev pub grant_model : Readers → Text → Text → Text → Level → Meaning
grant_model a c name to l = record {
  tests = names_fault name to ∷ is_no_partner a to ∷ unseen (a.model_right (key_of c name)) ∷ [];
  reply = Done;
  edits = unless_own c to (EditModel (key_of c name) (Grants to (Some l)));
}

abbrev pub revoke_model : Readers → Text → Text → Text → Meaning
revoke_model a c name to = record {
  tests = names_fault name to ∷ is_no_partner a to ∷ unseen (a.model_right (key_of c name)) ∷ [];
  reply = Done;
  edits = EditModel (key_of c name) (Grants to None) ∷ [];
}

-- a group is granted to be read
abbrev pub grant_group : Readers → Text → Text → Text → Meaning
grant_group a c name to = record {
  tests = names_fault name to ∷ is_no_partner a to ∷ unseen (a.group_right (key_of c name)) ∷ [];
  reply = Done;
  edits = unless_own c to (EditGroup (key_of c name) (Grants to (Some Read)));
}

abbrev pub revoke_group : Readers → Text → Text → Text → Meaning
revoke_group a c name to = record {
  tests = names_fault name to ∷ is_no_partner a to ∷ unseen (a.group_right (key_of c name)) ∷ [];
  reply = Done;
  edits = EditGroup (key_of c name) (Grants to None) ∷ [];
}
