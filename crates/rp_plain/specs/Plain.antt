-- What a repository holds, what a partner sees of it, and what he reaches.
use Rattle.std.specs.Prelude.{ℕ, Bool, ◌&&◌, ◌||◌, List, Option, is_some}
use Rattle.std.specs.List.{find}
use Rattle.std.specs.Str.{bytes_eq}
use Rattle.ex_types.specs.Checked.{Checked}
use Rattle.rp_rows.specs.declared.rows.Key.{Key}
use Rattle.rp_rows.specs.Rows.{Text, is_row, Model, GroupRow}
use Rattle.rp_rows.specs.Sight.{sees, sees_group, seen_models, seen_groups, is_listed}

-- models and groups stand in the order of owner and name
pub record Plain : Type 0 where
  pub schemas : List Checked
  pub partners : List (List ℕ)
  pub models : List Model
  pub groups : List GroupRow

-- the repository with what c sees and nothing else
abbrev pub part : Plain → Text → Plain
part r c = record r { models = seen_models r.groups c r.models; groups = seen_groups c r.groups }

pub data Kind : Type 0 where
  OfModel : Kind
  OfGroup : Kind

-- what stands under a name, if c sees it
abbrev pub model_at : Plain → Text → Key → Option Model
model_at r c k = find (λ m. is_row k m && sees r.groups c m) r.models

abbrev pub group_at : Plain → Text → Key → Option GroupRow
group_at r c k = find (λ g. is_row k g && sees_group c g) r.groups

-- what c owns and sees, and each model that a group lists which he sees
abbrev pub reaches : Plain → Text → Kind → Key → Bool
reaches r c OfModel k = bytes_eq k.owner c || (is_some (model_at r c k) || is_listed r.groups c k)
reaches r c OfGroup k = bytes_eq k.owner c || is_some (group_at r c k)
