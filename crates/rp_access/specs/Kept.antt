-- What is kept of rights: under the key of each model the grants on it, and the groups.
use Rattle.std.specs.Prelude.{List}
use Rattle.rp_rows.specs.declared.rows.Grant.{Grant}
use Rattle.rp_store.specs.declared.keyed.Entry.{Entry}
use Rattle.rp_store.specs.Entries.{Entries}
use Rattle.rp_sight.specs.Kept.{KeptGroups}

-- a model's key, and the grants on it
abbrev pub Rights : Type 0
Rights = Entry (List Grant)

pub record KeptAccess : Type 0 where
  pub models : Entries (List Grant)
  pub groups : KeptGroups
