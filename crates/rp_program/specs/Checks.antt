-- What is told of the text in a file.
use Rattle.std.specs.Prelude.{◌≡◌, ℕ, List, Option, Some, None, Ok, ⊤}
use Rattle.rp_files.specs.Files.{Held, file_at}

-- the text is that of the file at a path, where the folder's files are known
abbrev pub IsFile : Option Held → List ℕ → List ℕ → Type 0
IsFile None path text = ⊤
IsFile (Some held) path text = file_at held path ≡ Ok text

-- so much was told of this text
pub record OfFile (files : Option Held) (path : List ℕ) (Told : List ℕ → Type 0) : Type 0 where
  pub text : List ℕ
  pub is : IsFile files path text
  pub told : Told text
