-- The bytes of an answer, in one block or in two.
use Rattle.std.specs.Prelude.{ℕ, ◌-◌, List, [], ◌++◌, length, drop}
use Rattle.rp_http.specs.declared.answers.AnswerBytes.{AnswerBytes}
use Rattle.rp_http.specs.declared.answers.AnswerBytes.TheVariants.{Fixed, Joined, Parted}

abbrev pub first_in : AnswerBytes → List ℕ
first_in (Fixed bytes) = bytes.now
first_in (Joined bytes) = bytes.items
first_in (Parted head body) = head.items

abbrev pub rest_in : AnswerBytes → List ℕ
rest_in (Fixed bytes) = []
rest_in (Joined bytes) = []
rest_in (Parted head body) = body.items

abbrev pub text_in : AnswerBytes → List ℕ
text_in (Fixed bytes) = bytes.now
text_in (Joined bytes) = bytes.items
text_in (Parted head body) = head.items ++ body.items

-- the last n of some bytes
abbrev pub last_of : ℕ → List ℕ → List ℕ
last_of n bytes = drop (length bytes - n) bytes

-- what is still to be sent: of the block that is on its way, and behind it
pub record Owed : Type 0 where
  pub first : List ℕ
  pub rest : List ℕ

abbrev pub owed_in : Owed → List ℕ
owed_in owed = owed.first ++ owed.rest
