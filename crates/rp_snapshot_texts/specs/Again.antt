-- The tokens of the text of rows, and which rows can be read: all that are valid.
use Rattle.std.specs.Prelude.{ℕ, List, [], ◌∷◌, ◌++◌, codes}
use Rattle.std.specs.List.{AllByRecursion}
use Rattle.std.specs.Str.{IsUtf8}
use Rattle.json.specs.Token.{Token, begin_object, end_object, begin_array, key}
use Rattle.rp_content.specs.declared.link.Link.{Link}
use Rattle.rp_rows.specs.declared.rows.ModelContent.{ModelContent}
use Rattle.rp_rows.specs.declared.rows.Grant.{Grant}
use Rattle.rp_rows.specs.declared.rows.Key.{Key}
use Rattle.rp_rows.specs.Rows.{Model, GroupRow}
use Rattle.rp_snapshot_rows.specs.Written.{group_data}
use Rattle.rp_json.specs.Tokens.{tokens_of, listed}
use Rattle.rp_snapshot_rows.specs.Again.{HasModelNumbers}
use Rattle.rp_snapshot_texts.specs.Texts.{model_by}

-- what stands behind the brackets that open the lists of models and of groups
abbrev pub from_models : (ModelContent → List ℕ) → List Model → List Token
from_models file models = listed (λ m. tokens_of (model_by file m)) models ++ end_object ∷ []

abbrev pub from_groups : (ModelContent → List ℕ) → List GroupRow → List Model → List Token
from_groups file groups models = listed (λ g. tokens_of (group_data g)) groups ++ key (codes "models") ∷ begin_array ∷ from_models file models

abbrev pub rows_tokens : (ModelContent → List ℕ) → List GroupRow → List Model → List Token
rows_tokens file groups models = begin_object ∷ key (codes "groups") ∷ begin_array ∷ from_groups file groups models

-- ---- texts are texts, as in each row in memory

abbrev pub IsTextGrant : Grant → Type 0
IsTextGrant g = IsUtf8 g.partner

abbrev pub IsTextKey : Key → Type 0
IsTextKey k = IsUtf8 k.owner × IsUtf8 k.name

abbrev pub IsTextLink : Link → Type 0
IsTextLink l = IsUtf8 l.owner × IsUtf8 l.model

pub record IsTextGroup (g : GroupRow) : Type 0 where
  pub owner : IsUtf8 g.owner
  pub name : IsUtf8 g.name
  pub schema : IsUtf8 g.holds.schema
  pub grants : AllByRecursion IsTextGrant g.grants
  pub members : AllByRecursion IsTextKey g.holds.members

pub record IsTextModel (file : ModelContent → List ℕ) (m : Model) : Type 0 where
  pub owner : IsUtf8 m.owner
  pub name : IsUtf8 m.name
  pub schema : IsUtf8 m.holds.schema
  pub written : IsUtf8 (file m.holds)
  pub grants : AllByRecursion IsTextGrant m.grants
  pub links : AllByRecursion IsTextLink m.holds.content.links
  -- its numbers are of 64 bits
  pub numbers : HasModelNumbers m
