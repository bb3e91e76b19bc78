-- What the requests of one partner are told of a repository. They read it in no other way.
use Rattle.std.specs.Prelude.{ℕ, List, [], map, filter, length, Option, Some, None}
use Rattle.ex_types.specs.Checked.{Checked}
use Rattle.rp_rows.specs.declared.rows.Key.{Key}
use Rattle.rp_rows.specs.declared.rows.Right.{Right}
use Rattle.rp_rows.specs.declared.rows.Right.TheVariants.{Unseen}
use Rattle.rp_rows.specs.declared.rows.Listing.{Listing}
use Rattle.rp_rows.specs.declared.rows.ModelContent.{ModelContent}
use Rattle.rp_rows.specs.Rows.{Text, Row, row_key, Model, GroupRow}
use Rattle.rp_rows.specs.Sight.{owns, level, sees, group_right, sees_group, counts}
use Rattle.rp_population.specs.Populations.{Counted}
use Rattle.rp_plain.specs.declared.lists.Item.{Item}
use Rattle.rp_plain.specs.Plain.{Plain, model_at, group_at}

pub record Readers : Type 0 where
  pub schemas : List Checked
  pub partners : List (List ℕ)
  -- what he may do with the model, with the group
  pub model_right : Key → Right
  pub group_right : Key → Right
  -- what it holds, if he sees it
  pub content : Key → Option ModelContent
  pub listing : Key → Option Listing
  -- the models that count in a group that he sees, in their order
  pub counted : Key → List Counted
  -- how many he owns
  pub model_count : ℕ
  pub group_count : ℕ
  -- all that he sees
  pub models : List Item
  pub groups : List Item

abbrev pub right_at : List GroupRow → Text → Option Model → Right
right_at gs c None = Unseen
right_at gs c (Some m) = level gs c m

abbrev pub group_right_at : Text → Option GroupRow → Right
group_right_at c None = Unseen
group_right_at c (Some g) = group_right c g

abbrev pub held : {A : Type 0} → Option (Row A) → Option A
held None = None
held (Some x) = Some x.holds

abbrev pub model_item : List GroupRow → Text → Model → Item
model_item gs c m = record { owner = m.owner; name = m.name; schema = m.holds.schema; right = level gs c m }

abbrev pub group_item : Text → GroupRow → Item
group_item c g = record { owner = g.owner; name = g.name; schema = g.holds.schema; right = group_right c g }

abbrev pub as_counted : Model → Counted
as_counted m = record { model = row_key m; content = m.holds.content }

abbrev pub counted_in : List Model → Option GroupRow → List Counted
counted_in ms None = []
counted_in ms (Some g) = map as_counted (filter (λ m. counts m g) ms)

abbrev pub asked : Plain → Text → Readers
asked r c = record {
  schemas = r.schemas;
  partners = r.partners;
  model_right = λ k. right_at r.groups c (model_at r c k);
  group_right = λ k. group_right_at c (group_at r c k);
  content = λ k. held (model_at r c k);
  listing = λ k. held (group_at r c k);
  counted = λ k. counted_in r.models (group_at r c k);
  model_count = length (filter (owns c) r.models);
  group_count = length (filter (owns c) r.groups);
  models = map (model_item r.groups c) (filter (sees r.groups c) r.models);
  groups = map (group_item c) (filter (sees_group c) r.groups);
}
