-- Rows of models and of groups: what an item holds stands apart from the grants on it.
use Rattle.std.specs.Prelude.{ℕ, Bool, ◌&&◌, List}
use Rattle.std.specs.Str.{bytes_eq}
use Rattle.std.specs.Cmp.Lexicographic.{slice_cmp}
use Rattle.std.specs.declared.cmp.Ordering.{Ordering}
use Rattle.std.specs.Ordering.{nat_cmp, ordering_then}
use Rattle.sorted_tables.specs.Table.{is_at}
use Rattle.rp_rows.specs.declared.rows.Key.{Key}
use Rattle.rp_rows.specs.declared.rows.Grant.{Grant}
use Rattle.rp_rows.specs.declared.rows.ModelContent.{ModelContent}
use Rattle.rp_rows.specs.declared.rows.Listing.{Listing}

-- a text is its bytes
abbrev pub Text : Type 0
Text = List ℕ

abbrev pub text_cmp : Text → Text → Ordering
text_cmp = slice_cmp nat_cmp

-- the key of this owner and name
abbrev pub key_of : Text → Text → Key
key_of owner name = record { owner = owner; name = name }

abbrev pub key_cmp : Key → Key → Ordering
key_cmp a b = ordering_then (text_cmp a.owner b.owner) (text_cmp a.name b.name)

abbrev pub same_key : Key → Key → Bool
same_key k j = bytes_eq j.owner k.owner && bytes_eq j.name k.name

abbrev pub grant_key : Grant → Text
grant_key g = g.partner

-- what a partner owns: its name, what it holds, and who else may do what with it
pub record Row (A : Type 0) : Type 0 where
  pub owner : List ℕ
  pub name : List ℕ
  pub holds : A
  pub grants : List Grant

abbrev pub row_key : {A : Type 0} → Row A → Key
row_key x = key_of x.owner x.name

abbrev pub is_row : {A : Type 0} → Key → Row A → Bool
is_row = is_at key_cmp row_key

abbrev pub Model : Type 0
Model = Row ModelContent

abbrev pub GroupRow : Type 0
GroupRow = Row Listing
