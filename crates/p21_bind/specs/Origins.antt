-- Where a header or an instance of a model came from: a file, or the text of one instance.
use Rattle.std.specs.Prelude.{◌≡◌, ◌⊎◌, ℕ, Bool, List, ◌∷◌, ◌++◌, Ok}
use Rattle.ex_schemas.specs.Schemas.{Checked}
use Rattle.p21_grammar.specs.File.{file_of}
use Rattle.p21_mappings.specs.Contents.{header}
use Rattle.p21_read.specs.Single.{mapping_of}
use Rattle.p21_tree.specs.declared.instance.Mapping.{Mapping}
use Rattle.p21_tree.specs.declared.raw.Raw.{Raw}
use Rattle.rp_content.specs.declared.content.Content.{Content}
use Rattle.rp_content.specs.declared.header.Header.{Header}
use Rattle.rp_content.specs.declared.instance.Instance.{Instance}
use Rattle.p21_bind.specs.Files.{bound_file}
use Rattle.p21_bind.specs.Single.{bound_instance}

-- a file has this header
pub record IsHeaderOfFile (h : Header) : Type 0 where
  pub file : List ℕ
  pub raw : Raw
  pub reads : file_of file ≡ Ok raw
  pub is : h ≡ header raw.header

-- a file of the schema has this instance, where some names were linked
pub record IsInstanceOfFile (schema : Checked) (i : Instance) : Type 0 where
  pub file : List ℕ
  pub raw : Raw
  pub reads : file_of file ≡ Ok raw
  pub linked : List ℕ
  pub content : Content
  pub says : bound_file schema linked raw ≡ Ok content
  pub before : List Instance
  pub behind : List Instance
  pub stands : content.instances ≡ before ++ i ∷ behind

-- a text of one instance says this, where some names were defined
pub record IsInstanceOfText (schema : Checked) (i : Instance) : Type 0 where
  pub text : List ℕ
  pub mapping : Mapping
  pub reads : mapping_of text ≡ Ok mapping
  pub defined : ℕ → Bool
  pub says : bound_instance schema defined i.name mapping ≡ Ok i

-- some text has it: a file, or one that was added or set by itself
abbrev pub IsSpelled : Checked → Instance → Type 0
IsSpelled schema i = IsInstanceOfFile schema i ⊎ IsInstanceOfText schema i
