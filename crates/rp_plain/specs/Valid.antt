-- Which repositories there can be: they are valid when they are opened, and steps keep them so.
use Rattle.std.specs.Prelude.{◌≡◌, ◌≤◌, ◌⊎◌, ℕ, true, false, List, Some, None, length, filter}
use Rattle.std.specs.List.{list_all, AllByRecursion}
use Rattle.std.specs.Str.{bytes_eq}
use Rattle.std.specs.Ordering.{nat_cmp}
use Rattle.plain_data.specs.Numbers.{is_among}
use Rattle.ex_types.specs.Checked.{Checked}
use Rattle.p21_bind.specs.Origins.{IsHeaderOfFile, IsSpelled}
use Rattle.rp_content.specs.declared.content.Content.{Content}
use Rattle.rp_content.specs.declared.instance.Instance.{Instance}
use Rattle.rp_content.specs.declared.link.Link.{Link}
use Rattle.rp_content.specs.Headers.{default_header}
use Rattle.sorted_tables.specs.Table.{IsAscending}
use Rattle.rp_rows.specs.declared.rows.Level.TheVariants.{Read}
use Rattle.rp_rows.specs.declared.rows.Grant.{Grant}
use Rattle.rp_rows.specs.declared.rows.ModelContent.{ModelContent}
use Rattle.rp_rows.specs.Names.{is_name}
use Rattle.rp_rows.specs.declared.rows.Key.{Key}
use Rattle.rp_rows.specs.Rows.{text_cmp, key_cmp, same_key, grant_key, Row, row_key, Model, GroupRow}
use Rattle.rp_rows.specs.Listings.{max_models, max_groups, max_members, IsListed}
use Rattle.rp_rows.specs.Contents.{instance_name, names, link_name, greatest_of, references_of}
use Rattle.rp_rows.specs.Instances.{max_instances, max_name}
use Rattle.rp_rows.specs.Sight.{owns}
use Rattle.rp_plain.specs.Plain.{Plain}
use Rattle.rp_plain.specs.Opening.{new_fault}
use Rattle.rp_plain.specs.Meaning.{has_text, has_schema, schema_named}
use Rattle.rp_plain.specs.Links.{max_links, target_model}
use Rattle.rp_plain.specs.Instances.{is_defined}

-- ---- rows

-- another partner has the grant
pub record IsValidGrant (partners : List (List ℕ)) (owner : List ℕ) (g : Grant) : Type 0 where
  pub partner : has_text partners g.partner ≡ true
  pub other : bytes_eq owner g.partner ≡ false

-- a partner owns it, it has a name, and its grants are others', each partner's once
pub record IsValidRow {A : Type 0} (partners : List (List ℕ)) (x : Row A) : Type 0 where
  pub owner : has_text partners x.owner ≡ true
  pub name : is_name x.name ≡ true
  pub grants : IsAscending text_cmp grant_key x.grants
  pub grantees : AllByRecursion (IsValidGrant partners x.owner) x.grants

-- ---- what models hold

-- each name that the instance refers to is an instance or a link of the model
abbrev pub IsSound : Content → Instance → Type 0
IsSound x i = list_all (is_defined x) (references_of i) ≡ true

-- a link has a name of no instance, and leads to another model of a partner's; whether there is such a model now isn't asked
pub record IsValidLink (partners : List (List ℕ)) (k : Key) (x : Content) (l : Link) : Type 0 where
  pub free : is_among (names x.instances) l.name ≡ false
  pub target : l.target ≤ max_name
  pub owner : has_text partners l.owner ≡ true
  pub model : is_name l.model ≡ true
  pub other : same_key k (target_model l) ≡ false

pub record IsValidContent (schemas : List Checked) (partners : List (List ℕ)) (k : Key) (h : ModelContent) : Type 0 where
  -- one that is loaded
  pub schema : Checked
  pub loaded : schema_named schemas h.schema ≡ Some schema
  pub header : (h.content.header ≡ default_header) ⊎ IsHeaderOfFile h.content.header
  -- each name once, in order
  pub instances : IsAscending nat_cmp instance_name h.content.instances
  pub spelled : AllByRecursion (IsSpelled schema) h.content.instances
  pub sound : AllByRecursion (IsSound h.content) h.content.instances
  pub few : length h.content.instances ≤ max_instances
  -- the greatest name is no less than those in use
  pub in_use : greatest_of 0 h.content ≤ h.greatest
  pub greatest : h.greatest ≤ max_name
  -- each link's name once, in order
  pub links : IsAscending nat_cmp link_name h.content.links
  pub linked : AllByRecursion (IsValidLink partners k h.content) h.content.links
  pub few_links : length h.content.links ≤ max_links

pub record IsValidModel (schemas : List Checked) (partners : List (List ℕ)) (m : Model) : Type 0 where
  pub row : IsValidRow partners m
  pub content : IsValidContent schemas partners (row_key m) m.holds

-- ---- what groups hold

-- a partner owns the member, and it has a name
pub record IsValidMember (partners : List (List ℕ)) (k : Key) : Type 0 where
  pub owner : has_text partners k.owner ≡ true
  pub name : is_name k.name ≡ true

abbrev pub IsRead : Grant → Type 0
IsRead g = g.level ≡ Read

pub record IsValidGroup (schemas : List Checked) (partners : List (List ℕ)) (g : GroupRow) : Type 0 where
  pub row : IsValidRow partners g
  pub levels : AllByRecursion IsRead g.grants
  pub schema : has_schema schemas g.holds.schema ≡ true
  pub members : AllByRecursion (IsValidMember partners) g.holds.members
  pub order : IsListed g.holds
  pub few : length g.holds.members ≤ max_members

-- ---- repositories

-- models and groups stand in the order of owner and name, each name once
pub record IsOrdered (r : Plain) : Type 0 where
  pub models : IsAscending key_cmp row_key r.models
  pub groups : IsAscending key_cmp row_key r.groups

pub record IsValid (r : Plain) : Type 0 where
  -- names of schemas and of partners stand once, partners have names, and neither are too many
  pub opens : new_fault r.schemas r.partners ≡ None
  pub order : IsOrdered r
  pub models : AllByRecursion (IsValidModel r.schemas r.partners) r.models
  pub groups : AllByRecursion (IsValidGroup r.schemas r.partners) r.groups
  pub few_models : (owner : List ℕ) → length (filter (owns owner) r.models) ≤ max_models
  pub few_groups : (owner : List ℕ) → length (filter (owns owner) r.groups) ≤ max_groups
