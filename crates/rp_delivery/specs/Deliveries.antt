-- What a delivery of files answers.
use Rattle.std.specs.Prelude.{◌≡◌, ◌⊎◌, ℕ, zero, suc, true, false, List, [], ◌∷◌, ◌++◌, ◌+◌, length, nat_le, if◌then◌else◌, Option, Some, None, Ok, Err, ⊤}
use Rattle.std.specs.Str.{is_utf8}
use Rattle.ex_types.specs.Checked.{Checked}
use Rattle.rp_files.specs.declared.fault.LoadFault.TheVariants.{TooLarge as FileTooLarge}
use Rattle.rp_files.specs.Files.{Held, file_at}
use Rattle.rp_plain.specs.declared.messages.Refusal.TheVariants.{BadRequest, TooLarge}
use Rattle.rp_plain.specs.declared.messages.Reply.{Reply}
use Rattle.rp_plain.specs.declared.messages.Reply.TheVariants.{Refused}
use Rattle.rp_plain.specs.Meaning.{schema_name}
use Rattle.rp_plain.specs.Plain.{Plain}
use Rattle.rp_plain.specs.Turns.{Turn}
use Rattle.rp_delivery.specs.declared.texts.FileText.{FileText}
use Rattle.rp_delivery.specs.declared.texts.FileText.TheVariants as file
use Rattle.rp_delivery.specs.Choice.{place_named}
use Rattle.rp_delivery.specs.Requests.{Taken, IsAnswer, is_refused, puts, validation}

-- ---- files

-- the path holds this text, where it is known what paths hold
abbrev pub IsText : Option Held → List ℕ → List ℕ → Type 0
IsText None path text = ⊤
IsText (Some held) path text = file_at held path ≡ Ok text

-- each path holds its text
abbrev pub AreTexts : Option Held → List (List ℕ) → List (List ℕ) → Type 0
AreTexts files [] [] = ⊤
AreTexts files (path ∷ paths) (text ∷ texts) = IsText files path text × AreTexts files paths texts
AreTexts files [] (text ∷ texts) = ⊥
AreTexts files (path ∷ paths) [] = ⊥

-- The path holds what is in no request, and why: it is too large, or no text in UTF-8.
abbrev pub IsUnasked : Option Held → List ℕ → Reply → Type 0
IsUnasked None path reply = (reply ≡ Refused TooLarge) ⊎ (reply ≡ Refused BadRequest)
IsUnasked (Some held) path reply =
    ((file_at held path ≡ Err (FileTooLarge path)) × (reply ≡ Refused TooLarge))
    ⊎ ((text : List ℕ) × (file_at held path ≡ Ok text) × (is_utf8 text ≡ false) × (reply ≡ Refused BadRequest))

-- the text that a put takes from this path, or why there is no put
abbrev pub IsFileText : Option Held → List ℕ → FileText → Type 0
IsFileText files path (file.Text text) = IsText files path text
IsFileText files path (file.Refused refusal) = IsUnasked files path (Refused refusal)

-- ---- the schema

abbrev pub name_of : List Checked → ℕ → List ℕ
name_of [] n = []
name_of (schema ∷ schemas) zero = schema_name schema
name_of (schema ∷ schemas) (suc n) = name_of schemas n

-- the name of the schema of these texts: the one that the first of them names
abbrev pub schema_of : List Checked → List (List ℕ) → List ℕ
schema_of schemas [] = name_of schemas 0
schema_of schemas (text ∷ texts) = name_of schemas (place_named schemas text)

-- the place of the schema that the file of this number is put by: the first one's is that which it names
abbrev pub place_for : List Checked → ℕ → ℕ → List ℕ → ℕ
place_for schemas n before text = if nat_le n 1 then place_named schemas text else before

-- ---- the files that were put

-- From r on the files of these paths were put, one after another, by the schema at this place. The next one has the number n.
pub record ArePut (files : Option Held) (r now : Plain) (schemas : List Checked) (paths : List (List ℕ)) (place n : ℕ) : Type 0 where
  pub texts : List (List ℕ)
  pub held : AreTexts files paths texts
  pub number : n ≡ length texts + 1
  pub name : name_of schemas place ≡ schema_of schemas texts
  pub taken : Taken r (puts (schema_of schemas texts) 1 texts) now

-- the file of this path is put behind others
abbrev pub PutsOneMore : Option Held → List Checked → Plain → Plain → ℕ → ℕ → ℕ → List ℕ → Type 0
PutsOneMore files schemas old new before place n path = (r : Plain) (paths : List (List ℕ))
    → ArePut files r old schemas paths before n → ArePut files r new schemas (paths ++ path ∷ []) place (n + 1)

-- ---- the delivery

-- all of these texts are put, and validated where no path is left
abbrev pub turns : List ℕ → List (List ℕ) → List (List ℕ) → List Turn
turns schema texts [] = puts schema 1 texts ++ validation schema (length texts)
turns schema texts (path ∷ left) = puts schema 1 texts

-- The files of the first paths were put, one after another. The reply is that of the validation, or of the first request that was refused;
-- or it is why the next file is in no request. Where paths are left, it is a refusal.
pub record IsDelivered (files : Option Held) (r : Plain) (schemas : List Checked) (paths : List (List ℕ)) (reply : Reply) : Type 0 where
  pub read : List (List ℕ)
  pub left : List (List ℕ)
  pub are : paths ≡ read ++ left
  pub texts : List (List ℕ)
  pub held : AreTexts files read texts
  pub answer : IsAnswer r (turns (schema_of schemas texts) texts left) reply
      ⊎ ((end : Plain) × Taken r (puts (schema_of schemas texts) 1 texts) end × (path : List ℕ) × (others : List (List ℕ)) × (left ≡ path ∷ others) × IsUnasked files path reply)
  pub ends : (left ≡ []) ⊎ (is_refused reply ≡ true)

-- the reply to the file of this path ends the delivery
abbrev pub EndsWith : Option Held → List Checked → Plain → ℕ → ℕ → List ℕ → Reply → Type 0
EndsWith files schemas old before n path reply = (r : Plain) (paths left : List (List ℕ))
    → ArePut files r old schemas paths before n → IsDelivered files r schemas (paths ++ path ∷ left) reply
