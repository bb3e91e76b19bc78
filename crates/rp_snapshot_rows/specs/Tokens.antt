-- The tokens of what is written.
use Rattle.std.specs.Prelude.{ℕ, List, [], ◌∷◌, ◌++◌, codes, decimal}
use Rattle.json.specs.Token.{Token, begin_object, end_object, begin_array, key, string, number}
use Rattle.rp_content.specs.declared.link.Link.{Link}
use Rattle.rp_rows.specs.declared.rows.Grant.{Grant}
use Rattle.rp_rows.specs.declared.rows.Key.{Key}
use Rattle.rp_rows.specs.Rows.{Model, GroupRow}
use Rattle.rp_json.specs.Written.{link_data}
use Rattle.rp_json.specs.Tokens.{tokens_of, listed}
use Rattle.rp_snapshot_rows.specs.Written.{grant_data, reader_data, member_data}

-- ---- items of lists

abbrev pub grant_tokens : Grant → List Token
grant_tokens g = tokens_of (grant_data g)

abbrev pub reader_tokens : Grant → List Token
reader_tokens g = tokens_of (reader_data g)

abbrev pub link_tokens : Link → List Token
link_tokens l = tokens_of (link_data l)

abbrev pub member_tokens : Key → List Token
member_tokens k = tokens_of (member_data k)

-- ---- rows

-- the name, the owner and the schema of a row, and its end
abbrev pub tail_tokens : List ℕ → List ℕ → List ℕ → List Token
tail_tokens owner name schema =
    key (codes "name") ∷ string name ∷ key (codes "owner") ∷ string owner ∷ key (codes "schema") ∷ string schema ∷ end_object ∷ []

-- what a model has behind its grants: its greatest name, its links and the rest
abbrev pub behind_grants : Model → List Token
behind_grants m =
    key (codes "greatest") ∷ number (decimal m.holds.greatest) ∷ key (codes "links") ∷ begin_array ∷ (listed link_tokens m.holds.content.links
    ++ tail_tokens m.owner m.name m.holds.schema)

-- what it has behind its file
abbrev pub behind_file : Model → List Token
behind_file m = key (codes "grants") ∷ begin_array ∷ (listed grant_tokens m.grants ++ behind_grants m)

abbrev pub model_tokens : List ℕ → Model → List Token
model_tokens file m = begin_object ∷ key (codes "file") ∷ string file ∷ behind_file m

-- what a group has behind its grants
abbrev pub behind_readers : GroupRow → List Token
behind_readers g =
    key (codes "members") ∷ begin_array ∷ (listed member_tokens g.holds.members ++ tail_tokens g.owner g.name g.holds.schema)

abbrev pub group_tokens : GroupRow → List Token
group_tokens g = begin_object ∷ key (codes "grants") ∷ begin_array ∷ (listed reader_tokens g.grants ++ behind_readers g)
