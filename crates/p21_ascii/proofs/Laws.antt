-- The canonical text of what a model holds is ASCII: it is read as its tree, so this tree is well spelled.
use Rattle.std.proofs.Common.{◌≡◌, ℕ, List, Ok, IsUtf8}
use Rattle.std.proofs.lemmas.Str.{IsUtf8-from_ascii}
use Rattle.std.specs.Str.{IsAscii}
use Rattle.ex_schemas.specs.Schemas.{Checked}
use Rattle.p21_canonical.specs.Trees.{canonical, content_tree}
use Rattle.p21_grammar.specs.File.{file_of}
use Rattle.p21_laws.proofs.Kept.{kept_tree}
use Rattle.p21_laws.specs.Kept.{IsKept}
use Rattle.p21_laws.specs.Schemas.{IsAccepted}
use Rattle.p21_spelling.proofs.WellSpelled.{file_is}
use Rattle.rp_content.specs.declared.content.Content.{Content}
use Rattle.rp_content.specs.declared.link.Link.{Link}
use Rattle.p21_ascii.proofs.Files.{canonical_ascii}

module _ (schema : Checked) where
  pub again_ascii : (c : Content) → file_of (canonical schema c) ≡ Ok (content_tree schema c) → IsAscii (canonical schema c)
  again_ascii c again = canonical_ascii schema c (file_is (content_tree schema c) (canonical schema c) again)

  -- it says nothing of links
  pub links_ascii : (c : Content) (links : List Link) → IsAscii (canonical schema c) → IsAscii (canonical schema (record c { links = links }))
  unfolding canonical
  links_ascii c links is = is

  module _ (accepted : IsAccepted schema.named) (linked : List ℕ) (c : Content) (kept : IsKept schema linked c) where
    pub kept_ascii : IsAscii (canonical schema c)
    kept_ascii = again_ascii c (kept_tree schema accepted linked c kept)

    pub kept_utf8 : IsUtf8 (canonical schema c)
    kept_utf8 = IsUtf8-from_ascii (canonical schema c) kept_ascii
