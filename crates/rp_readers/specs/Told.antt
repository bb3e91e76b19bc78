-- What a partner's requests are told of what a repository holds.
use Rattle.rp_rows.specs.declared.rows.Right.{Right}
use Rattle.std.specs.Prelude.{Bool}
use Rattle.rp_rows.specs.declared.rows.Key.{Key}
use Rattle.rp_rows.specs.Rows.{Model, GroupRow}
use Rattle.rp_plain.specs.declared.lists.Member.{Member}
use Rattle.rp_plain.specs.declared.lists.Item.{Item}
use Rattle.rp_plain.specs.Plain.{Plain}
use Rattle.rp_plain.specs.Readers.{Readers, asked}
use Rattle.rp_readers.specs.declared.readers.Readers.{Readers as HeldReaders}

abbrev pub plain_of : HeldReaders → Plain
plain_of s = record { schemas = s.schemas.now; partners = s.partners.now; models = s.models.now.rows; groups = s.access.now.groups.rows }

unfoldable pub told : HeldReaders → Readers
told s = asked (plain_of s) s.caller.now

-- a model and a group that are seen, with what may be done with them, as they are told
abbrev pub model_told : Model × Right → Item
model_told s = record { owner = s.0.owner; name = s.0.name; schema = s.0.holds.schema; right = s.1 }

abbrev pub group_told : GroupRow × Right → Item
group_told s = record { owner = s.0.owner; name = s.0.name; schema = s.0.holds.schema; right = s.1 }

abbrev pub member_told : Key × Bool → Member
member_told m = record { model = m.0; counts = m.1 }
