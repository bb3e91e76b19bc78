-- What is read of a text, where some names are linked.
use Rattle.std.specs.Prelude.{◌≡◌, ℕ, true, List, [], Ok}
use Rattle.plain_data.specs.Numbers.{is_among}
use Rattle.ex_types.specs.Checked.{Checked}
use Rattle.p21_bind.specs.Files.{bound_file}
use Rattle.p21_grammar.specs.File.{file_of}
use Rattle.p21_tree.specs.declared.raw.Raw.{Raw}
use Rattle.rp_content.specs.Headers.{default_header}
use Rattle.rp_content.specs.declared.content.Content.{Content}

-- each of these names is one of the others
abbrev pub AreAmong : List ℕ → List ℕ → Type 0
AreAmong these others = (n : ℕ) → is_among these n ≡ true → is_among others n ≡ true

-- the text is read as a file that has this content, by the schema that it is of, where these names are linked
abbrev pub IsRead : Checked → List ℕ → List ℕ → Content → Type 0
IsRead schema linked text content = (raw : Raw) × ((file_of text ≡ Ok raw) × (bound_file schema linked raw ≡ Ok content))

-- that of a model into which no file was put
abbrev pub new_content : Content
new_content = record { header = default_header; instances = []; links = [] }
