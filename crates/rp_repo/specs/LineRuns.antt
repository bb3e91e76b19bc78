-- What lines mean to a repository, and runs over the lines of an input.
use Rattle.std.specs.Prelude.{◌≡◌, ℕ, Bool, true, List, [], ◌∷◌, ◌++◌, length, nat_lt, if◌then◌else◌, Option, Some, None, option_map, flat_map, ⊤}
use Rattle.std.specs.Io.KnownBytes.{Appends}
use Rattle.rp_io.specs.Front.{AppendsFront}
use Rattle.rp_io.specs.Limits.{line_limit}
use Rattle.rp_io.specs.Lines.{lines_of}
use Rattle.rp_plain.specs.Plain.{Plain}
use Rattle.rp_plain.specs.Meaning.{has_text}
use Rattle.rp_plain.specs.Runs as runs
use Rattle.rp_plain.specs.Runs.{Effect, MayReply, left_by}
use Rattle.rp_plain.specs.Turns.{Turn, effect}
use Rattle.rp_plain.specs.declared.messages.Reply.{Reply}
use Rattle.rp_plain.specs.declared.messages.Reply.TheVariants.{Refused}
use Rattle.rp_plain.specs.declared.messages.Refusal.{Refusal}
use Rattle.rp_plain.specs.declared.messages.Refusal.TheVariants.{BadRequest, TooLarge}
use Rattle.rp_requests.specs.declared.asks.RequestLine.{RequestLine}
use Rattle.rp_requests.specs.Asks.{asked_of}
use Rattle.rp_replies.specs.Replies.{line_of_reply}

-- ---- one line

-- whom a line names, if it names one of these partners
abbrev pub caller_of : List (List ℕ) → Option (List ℕ) → Option (List ℕ)
caller_of partners None = None
caller_of partners (Some name) = if has_text partners name then Some name else None

-- the turn of a request that was read, if one of these partners asks
abbrev pub turn_for : List (List ℕ) → Option RequestLine → Option Turn
turn_for partners None = None
turn_for partners (Some asked) = option_map (λ c. record { caller = c; request = asked.request }) (caller_of partners asked.caller)

-- a refusal changes nothing
abbrev pub refusal_of : Plain → Refusal → Effect
refusal_of r refusal = record { reply = Refused refusal; next = r }

-- what a line means that asks for this turn; one that asks for none is refused so
abbrev pub meant_for : Plain → Refusal → Option Turn → Effect
meant_for r refusal None = refusal_of r refusal
meant_for r refusal (Some t) = effect r t

-- what a line means: a partner's request is his turn
abbrev pub meant : Plain → List ℕ → Effect
meant r line = if nat_lt line_limit (length line) then refusal_of r TooLarge else meant_for r BadRequest (turn_for r.partners (asked_of line))

-- ---- runs

-- the most reads of a run
abbrev pub max_reads : ℕ
max_reads = 4294967295

-- a run of lines
abbrev pub LineRun : Plain → List (List ℕ) → List Reply → Plain → Type 0
LineRun = runs.Run meant

-- what is written for replies
abbrev pub text_of : List Reply → List ℕ
text_of replies = flat_map line_of_reply replies

-- a run over these lines, whose replies were written whole
pub record Replies (old new : Plain) (before after : Option (List ℕ)) (lines : List (List ℕ)) : Type 0 where
  pub replies : List Reply
  pub run : LineRun old lines replies new
  pub written : Appends before after (text_of replies)

-- a run over these lines, whose replies were written whole but for the last, of which a front was written
pub record RepliesInPart (old new : Plain) (before after : Option (List ℕ)) (lines : List (List ℕ)) : Type 0 where
  pub done : List Reply
  pub last : Reply
  pub run : LineRun old lines (done ++ last ∷ []) new
  pub front : List ℕ
  pub back : List ℕ
  pub cut : line_of_reply last ≡ front ++ back
  pub written : Appends before after (text_of done ++ front)

-- these are the first lines of the known bytes, and others may follow
abbrev pub AreFirstLines : Option (List ℕ) → List (List ℕ) → Type 0
AreFirstLines None lines = ⊤
AreFirstLines (Some bytes) lines = (others : List (List ℕ)) × (lines_of bytes ≡ lines ++ others)

abbrev pub AreAllLines : Option (List ℕ) → List (List ℕ) → Type 0
AreAllLines None lines = ⊤
AreAllLines (Some bytes) lines = lines_of bytes ≡ lines

-- ---- what the calls promise

-- the bytes are a reply line of what is meant, and the repository is what that reply leaves
pub record Answers (old new : Plain) (meaning : Effect) (bytes : List ℕ) : Type 0 where
  pub reply : Reply
  pub may : MayReply meaning reply
  pub content : new ≡ left_by old meaning reply
  pub is : bytes ≡ line_of_reply reply

-- one line, one turn, and its reply line or a front of it
pub record Serves (old new : Plain) (before after : Option (List ℕ)) (line : List ℕ) (whole : Bool) : Type 0 where
  pub reply : Reply
  pub may : MayReply (meant old line) reply
  pub content : new ≡ left_by old (meant old line) reply
  pub front : AppendsFront before after (line_of_reply reply)
  pub all : whole ≡ true → Appends before after (line_of_reply reply)

-- these lines were taken from the known bytes
abbrev pub TakesLines : Option (List ℕ) → Option (List ℕ) → List (List ℕ) → Type 0
TakesLines None after lines = ⊤
TakesLines (Some xs) None lines = ⊥
TakesLines (Some xs) (Some ys) lines = lines_of xs ≡ lines ++ lines_of ys

-- all lines were answered
abbrev pub IsWholeRun : Plain → Plain → Option (List ℕ) → Option (List ℕ) → Option (List ℕ) → ℕ → Type 0
IsWholeRun old new input before after n = (lines : List (List ℕ)) × AreAllLines input lines × Replies old new before after lines × (n ≡ length lines)

-- the first lines were answered
abbrev pub IsFirstRun : Plain → Plain → Option (List ℕ) → Option (List ℕ) → Option (List ℕ) → Type 0
IsFirstRun old new input before after = (lines : List (List ℕ)) × AreFirstLines input lines × Replies old new before after lines

-- the first lines were answered, and of the last reply a front was written
abbrev pub IsCutRun : Plain → Plain → Option (List ℕ) → Option (List ℕ) → Option (List ℕ) → Type 0
IsCutRun old new input before after = (lines : List (List ℕ)) × AreFirstLines input lines × RepliesInPart old new before after lines
