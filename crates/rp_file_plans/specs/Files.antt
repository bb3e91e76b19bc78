-- What a file for a model gives.
use Rattle.std.specs.Prelude.{◌≡◌, ◌≢◌, List, [], ◌∷◌, Option, Some, None, Result, Ok, Err, MatchResult}
use Rattle.rp_content.specs.declared.content.Content.{Content}
use Rattle.rp_content.specs.declared.link.Link.{Link}
use Rattle.rp_rows.specs.declared.rows.ModelContent.{ModelContent}
use Rattle.rp_rows.specs.declared.rows.Right.TheVariants.{Writes}
use Rattle.rp_rows.specs.declared.rows.Key.{Key}
use Rattle.rp_rows.specs.Rows.{Text}
use Rattle.rp_plain.specs.declared.messages.Refusal.{Refusal}
use Rattle.rp_plain.specs.declared.messages.Refusal.TheVariants.{NoMemory}
use Rattle.rp_plain.specs.Readers.{Readers}
use Rattle.rp_plain.specs.Meaning.{first_some, key_fault, is_no_partner, lacks}
use Rattle.rp_plain.specs.Links.{links_in_order, linking, link_refusal}
use Rattle.rp_plain.specs.Files.{BoundFile, too_large, refused, ill_linked}

-- the tests of a request that puts a text into a model which don't look into the text
abbrev pub cheap_tests : Readers → Key → Text → List (Option Refusal)
cheap_tests a k file = too_large file ∷ key_fault k ∷ is_no_partner a k.owner ∷ lacks Writes (a.model_right k) ∷ []

-- what is read of it is this, or memory is wanting
abbrev pub Reads : BoundFile → Result Content Refusal → Type 0
Reads read result = MatchResult result (λ content. read ≡ Ok content) (λ refusal. refusal ≢ NoMemory → read ≡ Err refusal)

-- the links in the order of their names, if nothing is wrong with them beside the content; or what is, or memory is wanting
abbrev pub Fits : Readers → Key → Text → List Link → Content → Result (List Link) Refusal → Type 0
Fits a k schema links content result = MatchResult result
    (λ ordered. (ordered ≡ links_in_order links) × (link_refusal a k schema links content ≡ None))
    (λ refusal. refusal ≢ NoMemory → link_refusal a k schema links content ≡ Some refusal)

-- the tests of what is read for a model, and of its links beside it, but for how many there are
abbrev pub read_tests : Readers → Key → ModelContent → List Link → BoundFile → List (Option Refusal)
read_tests a k h links read = refused read ∷ ill_linked a k (Some h) links read ∷ []

-- what is read and the links, and none of these tests holds
pub record IsLinked (a : Readers) (k : Key) (h : ModelContent) (links : List Link) (read : BoundFile) (linked : Content) : Type 0 where
  pub content : Content
  pub says : read ≡ Ok content
  pub passes : link_refusal a k h.schema links content ≡ None
  pub is : linked ≡ linking links content

-- so, or the first of the tests that holds, or memory is wanting
abbrev pub Links : Readers → Key → ModelContent → List Link → BoundFile → Result Content Refusal → Type 0
Links a k h links read result = MatchResult result (IsLinked a k h links read) (λ refusal. refusal ≢ NoMemory → first_some (read_tests a k h links read) ≡ Some refusal)
