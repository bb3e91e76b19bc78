-- What holds of runs over lines for each partner.
use Rattle.std.specs.Prelude.{◌≡◌, ℕ, List, [], ◌∷◌, map, length, nat_lt, if◌then◌else◌, Option, Some, None}
use Rattle.rp_plain.specs.Plain.{Plain, part}
use Rattle.rp_plain.specs.Turns.{Turn, Run, OthersOutside, requests_of, replies_to}
use Rattle.rp_plain.specs.Valid.{IsOrdered}
use Rattle.rp_plain.specs.declared.messages.Reply.{Reply}
use Rattle.rp_requests.specs.Asks.{asked_of}
use Rattle.rp_replies.specs.Replies.{line_of_reply}
use Rattle.rp_io.specs.Limits.{line_limit}
use Rattle.rp_repo.specs.LineRuns.{turn_for, LineRun}

-- the turn that a line asks for; a line that is no partner's request asks for none
abbrev pub turn_of : List (List ℕ) → List ℕ → Option Turn
turn_of partners line = if nat_lt line_limit (length line) then None else turn_for partners (asked_of line)

abbrev pub with_turn : Option Turn → List Turn → List Turn
with_turn None turns = turns
with_turn (Some turn) turns = turn ∷ turns

abbrev pub with_reply : Option Turn → Reply → List Reply → List Reply
with_reply None reply replies = replies
with_reply (Some turn) reply replies = reply ∷ replies

-- the turns that lines ask for
abbrev pub turns_of : List (List ℕ) → List (List ℕ) → List Turn
turns_of partners [] = []
turns_of partners (line ∷ lines) = with_turn (turn_of partners line) (turns_of partners lines)

-- the replies to those
abbrev pub replies_of : List (List ℕ) → List (List ℕ) → List Reply → List Reply
replies_of partners [] replies = []
replies_of partners (line ∷ lines) [] = []
replies_of partners (line ∷ lines) (reply ∷ replies) = with_reply (turn_of partners line) reply (replies_of partners lines replies)

-- the reply lines to c's lines
abbrev pub reply_lines_to : List ℕ → List (List ℕ) → List (List ℕ) → List Reply → List (List ℕ)
reply_lines_to c partners lines replies = map line_of_reply (replies_to c (turns_of partners lines) (replies_of partners lines replies))

-- a run over lines is a run of the turns that they ask for
abbrev pub LinesAreTurns : Type 0
LinesAreTurns = (r end : Plain) (lines : List (List ℕ)) (replies : List Reply) → LineRun r lines replies end
    → Run r (turns_of r.partners lines) (replies_of r.partners lines replies) end

-- the turns of others in a run over lines are outside for c, and no reply to c is for want of memory
abbrev pub OtherLinesOutside : Plain → List ℕ → List (List ℕ) → List Reply → Type 0
OtherLinesOutside r c lines replies = OthersOutside r c (turns_of r.partners lines) (replies_of r.partners lines replies)

-- two runs over lines that begin with the same for c, and in which he asks the same
abbrev pub TwoInputs : Type 0
TwoInputs = (r s end last : Plain) (c : List ℕ) (lines others : List (List ℕ)) (replies answers : List Reply) → IsOrdered r → IsOrdered s
    → LineRun r lines replies end → LineRun s others answers last → OtherLinesOutside r c lines replies → OtherLinesOutside s c others answers
    → part r c ≡ part s c → requests_of c (turns_of r.partners lines) ≡ requests_of c (turns_of s.partners others)
    → reply_lines_to c r.partners lines replies ≡ reply_lines_to c s.partners others answers
