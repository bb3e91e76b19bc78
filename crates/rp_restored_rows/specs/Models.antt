-- Tests of models, and what is taken of their files.
use Rattle.std.specs.Prelude.{◌≡◌, ℕ, not, nat_le, nat_lt, List, length, Option, Some, None, Result, Ok, Err}
use Rattle.std.specs.List.{list_all}
use Rattle.std.specs.Ordering.{nat_cmp}
use Rattle.plain_data.specs.Numbers.{is_among}
use Rattle.plain_data.specs.declared.failure.Failure.{Failure}
use Rattle.plain_data.specs.declared.failure.Failure.TheVariants.{NoMemory}
use Rattle.ex_types.specs.Checked.{Checked}
use Rattle.p21_laws.specs.Contents.{IsRead}
use Rattle.rp_content.specs.declared.content.Content.{Content}
use Rattle.rp_content.specs.declared.link.Link.{Link}
use Rattle.rp_rows.specs.declared.rows.Key.{Key}
use Rattle.rp_rows.specs.Contents.{names, link_name, link_names}
use Rattle.rp_rows.specs.Instances.{max_instances, max_name}
use Rattle.rp_rows.specs.Names.{is_name}
use Rattle.rp_rows.specs.Rows.{Text, same_key, Model}
use Rattle.rp_plain.specs.Links.{max_links, target_model}
use Rattle.rp_plain.specs.Meaning.{has_text, schema_named}
use Rattle.rp_snapshot_rows.specs.declared.rows.SavedModel.{SavedModel}
use Rattle.rp_restored_rows.specs.declared.lack.RowLack.{RowLack}
use Rattle.rp_restored_rows.specs.declared.lack.RowLack.TheVariants as lack
use Rattle.rp_restored_rows.specs.declared.models.RestoredModel.{RestoredModel}
use Rattle.rp_restored_rows.specs.Tests.{checks, lack_or, ascends, row_lack}

-- ---- rows

-- the row that a model is
abbrev pub model_of : RestoredModel → Model
model_of x = record { owner = x.key.owner; name = x.key.name; holds = x.holds; grants = x.grants }

-- what was read of a model, what its file has, and its links beside it
abbrev pub joins : SavedModel → Content → Model
joins s c = record {
  owner = s.key.owner;
  name = s.key.name;
  holds = record { schema = s.schema; greatest = s.greatest; content = record { header = c.header; instances = c.instances; links = s.links } };
  grants = s.grants;
}

-- ---- tests

abbrev pub links_lack : List Text → Key → ℕ → List Link → Option RowLack
links_lack partners k greatest links =
    checks (not (nat_lt max_links (length links))) lack.TooManyLinks
    (checks (ascends nat_cmp link_name links) lack.LinksOutOfOrder
    (checks (list_all (λ l. has_text partners l.owner) links) lack.UnknownLinkOwner
    (checks (list_all (λ l. is_name l.model) links) lack.BadLinkModel
    (checks (list_all (λ l. not (same_key k (target_model l))) links) lack.LinkToItself
    (checks (list_all (λ l. nat_le l.target max_name) links) lack.LinkTargetTooLong
    (checks (list_all (λ l. nat_le l.name greatest) links) lack.LinkAboveGreatest
    None))))))

abbrev pub head_lack : List Text → SavedModel → Option RowLack
head_lack partners s =
    lack_or (row_lack partners s.key s.grants)
    (checks (not (nat_lt max_name s.greatest)) lack.GreatestTooLong
    (links_lack partners s.key s.greatest s.links))

abbrev pub content_lack : SavedModel → Content → Option RowLack
content_lack s c =
    checks (not (nat_lt max_instances (length c.instances))) lack.TooManyInstances
    (checks (list_all (λ i. nat_le i.name s.greatest) c.instances) lack.InstanceAboveGreatest
    (checks (list_all (λ l. not (is_among (names c.instances) l.name)) s.links) lack.LinkDefined
    None))

-- ---- files

-- what is read of a text; where something can be, no fault is told
abbrev pub Reads : Checked → List ℕ → Text → Result Content (Failure RowLack) → Type 0
Reads schema linked text (Ok c) = IsRead schema linked text c
Reads schema linked text (Err e) = (c : Content) → IsRead schema linked text c → e ≡ NoMemory

-- the file of a model has this, and the model lacks nothing
pub record IsTaken (schemas : List Checked) (partners : List Text) (s : SavedModel) (file : Text) (c : Content) : Type 0 where
  pub head : head_lack partners s ≡ None
  pub schema : Checked
  pub loaded : schema_named schemas s.schema ≡ Some schema
  pub read : IsRead schema (link_names s.links) file c
  pub fits : content_lack s c ≡ None

-- so it is; or there is no such content, or memory is wanting
abbrev pub Takes : List Checked → List Text → SavedModel → Text → Result Content (Failure RowLack) → Type 0
Takes schemas partners s file (Ok c) = IsTaken schemas partners s file c
Takes schemas partners s file (Err e) = (c : Content) → IsTaken schemas partners s file c → e ≡ NoMemory

-- this model was restored, unless memory was wanting
abbrev pub Restores : Result RestoredModel (Failure RowLack) → Model → Type 0
Restores (Ok x) m = model_of x ≡ m
Restores (Err e) m = e ≡ NoMemory
