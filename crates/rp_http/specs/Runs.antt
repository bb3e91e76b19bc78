-- The messages of a connection, and what is written for them.
use Rattle.std.specs.Prelude.{◌≡◌, ℕ, ◌+◌, ◌<◌, ◌%◌, ◌^◌, ◌⊎◌, true, false, List, [], ◌∷◌, ◌++◌, length, drop, Option, Some, None, flat_map, ⊤}
use Rattle.std.specs.Io.KnownBytes.{prepend_known, Appends}
use Rattle.rp_io.specs.Held.{HasAtLeast}
use Rattle.rp_io.specs.Reads.{Reads}
use Rattle.rp_plain.specs.Plain.{Plain}
use Rattle.http_messages.specs.declared.message.Fault.{Fault}
use Rattle.http_messages.specs.Next.{Parts, Call, IsCall, IsBegun, IsAwaited, FailsBy}
use Rattle.http_routes.specs.Answers.{bare_text, fault_status}
use Rattle.rp_messages.specs.Answers.{Answer, answer_bytes}
use Rattle.rp_messages.specs.Meaning.{MessageRun}

-- ---- how an input is cut into messages

-- the bytes are these messages, and then the rest
abbrev pub Cuts : List ℕ → List Call → List ℕ → Type 0
Cuts bytes [] rest = rest ≡ bytes
Cuts bytes (c ∷ cs) rest = (n : ℕ) × IsCall bytes c n × Cuts (drop n bytes) cs rest

-- the same of bytes that may not be known
abbrev pub TakesCalls : Option (List ℕ) → Option (List ℕ) → List Call → Type 0
TakesCalls None after calls = ⊤
TakesCalls (Some xs) None calls = ⊥
TakesCalls (Some xs) (Some ys) calls = Cuts xs calls ys

-- each of them keeps the connection
abbrev pub AllStay : List Call → Type 0
AllStay [] = ⊤
AllStay (c ∷ cs) = (c.parts.stays ≡ true) × AllStay cs

-- a property of the bytes that are left, where they are known
abbrev pub OnKnown : Option (List ℕ) → (List ℕ → Type 0) → Type 0
OnKnown None P = ⊤
OnKnown (Some bytes) P = P bytes

-- no whole message, and nothing that can't become one
abbrev pub IsUnfinished : List ℕ → Type 0
IsUnfinished bytes = IsBegun bytes ⊎ ((parts : Parts) × (n : ℕ) × IsAwaited bytes parts n)

-- ---- what a connection comes to

-- what is written for answers
abbrev pub text_of : List Answer → List ℕ
text_of answers = flat_map answer_bytes answers

-- what is written where no message can come
abbrev pub fault_text : Fault → List ℕ
fault_text fault = bare_text (fault_status fault)

-- these messages were answered, and the answers written whole
pub record Answered (tokens : List (List ℕ)) (old new : Plain) (before after : Option (List ℕ)) (calls : List Call) : Type 0 where
  pub answers : List Answer
  pub run : MessageRun tokens old calls answers new
  pub written : Appends before after (text_of answers)

-- the same, but of the last answer a front was written
pub record AnsweredInPart (tokens : List (List ℕ)) (old new : Plain) (before after : Option (List ℕ)) (calls : List Call) : Type 0 where
  pub done : List Answer
  pub last : Answer
  pub run : MessageRun tokens old calls (done ++ last ∷ []) new
  pub front : List ℕ
  pub back : List ℕ
  pub cut : answer_bytes last ≡ front ++ back
  pub written : Appends before after (text_of done ++ front)

-- the messages that an input begins with were answered, and each keeps the connection
pub record IsFirstRun (tokens : List (List ℕ)) (old new : Plain) (input before after : Option (List ℕ)) : Type 0 where
  pub calls : List Call
  pub left : Option (List ℕ)
  pub takes : TakesCalls input left calls
  pub stay : AllStay calls
  pub answered : Answered tokens old new before after calls

-- A read failed, of an input of which this is left: the messages that came whole were answered, and what came after them is none.
pub record IsReadRun (tokens : List (List ℕ)) (old new : Plain) (input left before after : Option (List ℕ)) : Type 0 where
  pub first : IsFirstRun tokens old new input before after
  pub came : List ℕ
  pub unfinished : IsUnfinished came
  pub rest : first.left ≡ prepend_known came left

-- the input ended there: no more whole message, and no byte that can't be of one
abbrev pub IsEndedRun : List (List ℕ) → Plain → Plain → Option (List ℕ) → Option (List ℕ) → Option (List ℕ) → Type 0
IsEndedRun tokens old new input before after = (first : IsFirstRun tokens old new input before after) × OnKnown first.left IsUnfinished

-- the last message closes the connection; what follows it isn't read as one
pub record IsClosedRun (tokens : List (List ℕ)) (old new : Plain) (input before after : Option (List ℕ)) : Type 0 where
  pub calls : List Call
  pub last : Call
  pub left : Option (List ℕ)
  pub takes : TakesCalls input left (calls ++ last ∷ [])
  pub stay : AllStay calls
  pub closes : last.parts.stays ≡ false
  pub answered : Answered tokens old new before after (calls ++ last ∷ [])

-- after the messages stands what none begins with, and its answer was written
pub record IsRefusedRun (tokens : List (List ℕ)) (old new : Plain) (input before after : Option (List ℕ)) : Type 0 where
  pub mid : Option (List ℕ)
  pub first : IsFirstRun tokens old new input before mid
  pub fault : Fault
  pub fails : OnKnown first.left (λ rest. FailsBy rest fault)
  pub written : Appends mid after (fault_text fault)

-- a connection that was served to its end
abbrev pub IsWholeRun : List (List ℕ) → Plain → Plain → Option (List ℕ) → Option (List ℕ) → Option (List ℕ) → Type 0
IsWholeRun tokens old new input before after =
    IsEndedRun tokens old new input before after ⊎ (IsClosedRun tokens old new input before after ⊎ IsRefusedRun tokens old new input before after)

-- a write failed within the answer to the last of these messages; all before it keep the connection
pub record IsCutAnswer (tokens : List (List ℕ)) (old new : Plain) (input before after : Option (List ℕ)) : Type 0 where
  pub calls : List Call
  pub last : Call
  pub left : Option (List ℕ)
  pub takes : TakesCalls input left (calls ++ last ∷ [])
  pub stay : AllStay calls
  pub answered : AnsweredInPart tokens old new before after (calls ++ last ∷ [])
  pub some : 0 < length answered.back

-- a write failed within the answer to what no message begins with
pub record IsCutFault (tokens : List (List ℕ)) (old new : Plain) (input before after : Option (List ℕ)) : Type 0 where
  pub mid : Option (List ℕ)
  pub first : IsFirstRun tokens old new input before mid
  pub fault : Fault
  pub fails : OnKnown first.left (λ rest. FailsBy rest fault)
  pub front : List ℕ
  pub back : List ℕ
  pub cut : fault_text fault ≡ front ++ back
  pub written : Appends mid after front
  pub some : 0 < length back

abbrev pub IsCutRun : List (List ℕ) → Plain → Plain → Option (List ℕ) → Option (List ℕ) → Option (List ℕ) → Type 0
IsCutRun tokens old new input before after = IsCutAnswer tokens old new input before after ⊎ IsCutFault tokens old new input before after

-- ---- how often it reads

-- the most reads of a connection
abbrev pub max_reads : ℕ
max_reads = 1000000

-- n more reads were made, each into some room, as a field counts that begins anew at 2 ^ 64
pub record MakesSome (old new : Reads) (n : ℕ) : Type 0 where
  pub count : new.count % 2 ^ 64 ≡ (old.count + n) % 2 ^ 64

-- all reads of a connection were made, and each gave a byte
pub record RunsOut (old new : Reads) (input : Option (List ℕ)) : Type 0 where
  pub made : MakesSome old new max_reads
  pub fed : HasAtLeast input max_reads
