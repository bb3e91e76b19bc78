-- What is spelled is read again.
use Rattle.std.specs.Prelude.{◌≡◌, ◌<◌, ℕ, true, List, ◌++◌, Ok}
use Rattle.text_forms.specs.Forms.{turns}
use Rattle.p21_lexemes.specs.Tokens.{Parser, lexemes}
use Rattle.p21_spelling.specs.Tokens.{is_cut}

-- A form reads a text in front of others as this tree, up to the place where they begin.
pub record Again {A : Type 0} (form : Parser A) (text : List ℕ) (tree : A) (at : ℕ) (rest : List ℕ) : Type 0 where
  pub to : ℕ
  pub reads : form (lexemes at (text ++ rest)) ≡ Ok (tree, lexemes to rest)
  pub fewer : turns (lexemes to rest) < turns (lexemes at (text ++ rest))

-- wherever the text stands, and whatever comes behind the token that it ends with
abbrev pub ReadsAgain : {A : Type 0} → Parser A → List ℕ → A → Type 0
ReadsAgain form text tree = (at : ℕ) (rest : List ℕ) → is_cut rest ≡ true → Again form text tree at rest

-- the same, where the text ends with a mark of one byte
abbrev pub ReadsAnywhere : {A : Type 0} → Parser A → List ℕ → A → Type 0
ReadsAnywhere form text tree = (at : ℕ) (rest : List ℕ) → Again form text tree at rest
