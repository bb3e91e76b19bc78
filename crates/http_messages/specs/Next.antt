-- What stands at the front of the bytes of a connection.
use Rattle.std.specs.Prelude.{◌≡◌, ℕ, ◌+◌, ◌<◌, ◌≤◌, List, length, take, map, slice_range, Bool, Option, Some, None}
use Rattle.std.specs.Borrow.{Bor}
use Rattle.httparse.specs.Grammar.{RequestHead, print_request}
use Rattle.httparse.specs.Spans.{name_and_value}
use Rattle.http_messages.specs.declared.framing.Framing.{Framing}
use Rattle.http_messages.specs.declared.framing.Framing.TheVariants.{Sized, BadLength, Coded}
use Rattle.http_messages.specs.declared.message.Head.{Head}
use Rattle.http_messages.specs.declared.message.Message.{Message}
use Rattle.http_messages.specs.declared.message.Fault.{Fault}
use Rattle.http_messages.specs.declared.message.Fault.TheVariants.{BadHead, BadBodyLength, BodyTooLarge, HeadTooLarge, CodedBody}
use Rattle.http_messages.specs.declared.message.Next.{Next}
use Rattle.http_messages.specs.declared.message.Next.TheVariants.{Complete, Awaits, Partial, Failed}
use Rattle.http_messages.specs.Heads.{ReadsHead, HasNoHead, NeverHasHead, MayBecomeHead}
use Rattle.http_messages.specs.Framing.{framing_of}
use Rattle.http_messages.specs.Fields.{token_in, stays_of}

-- the most bytes of a head, the empty lines in front of it counted
abbrev pub head_limit : ℕ
head_limit = 16384

-- the most bytes of a body: 16 MiB
abbrev pub body_limit : ℕ
body_limit = 16777216

-- the bytes that a head may have
abbrev pub head_of : List ℕ → List ℕ
head_of bytes = take head_limit bytes

-- the bytes begin with this head, whose fields frame the body so
pub record HasHead (bytes : List ℕ) (h : RequestHead) (framing : Framing) : Type 0 where
  pub rest : List ℕ
  pub reads : ReadsHead (head_of bytes) h rest
  pub framed : framing_of (map name_and_value h.fields) ≡ framing

-- what a head says, beside the length of its body
pub record Parts : Type 0 where
  pub method : List ℕ
  pub target : List ℕ
  pub token : Option (List ℕ)
  pub stays : Bool

-- this head says it
pub record Says (h : RequestHead) (parts : Parts) : Type 0 where
  pub method : parts.method ≡ h.method
  pub target : parts.target ≡ h.target
  pub token : parts.token ≡ token_in (map name_and_value h.fields)
  pub stays : parts.stays ≡ stays_of h.minor (map name_and_value h.fields)

-- a request as its parts
pub record Call : Type 0 where
  pub parts : Parts
  pub body : List ℕ

-- The bytes begin with a head that says this. Its body goes from the one place to the other, and may not be there yet.
pub record Announces (bytes : List ℕ) (parts : Parts) (start end : ℕ) : Type 0 where
  pub head : RequestHead
  pub size : ℕ
  pub has : HasHead bytes head (Sized size)
  pub small : size ≤ body_limit
  pub says : Says head parts
  pub front : start ≡ length (print_request head)
  pub whole : end ≡ start + size

-- the bytes begin with this request, which has n bytes
pub record IsCall (bytes : List ℕ) (call : Call) (n : ℕ) : Type 0 where
  pub start : ℕ
  pub announced : Announces bytes call.parts start n
  pub within : n ≤ length bytes
  pub body : call.body ≡ slice_range bytes start n

-- a head that isn't whole yet, and may become so
pub record IsBegun (bytes : List ℕ) : Type 0 where
  pub short : length bytes < head_limit
  pub none : HasNoHead bytes
  pub may : MayBecomeHead bytes

-- a whole head, whose request has n bytes, more than are there
pub record IsAwaited (bytes : List ℕ) (parts : Parts) (n : ℕ) : Type 0 where
  pub start : ℕ
  pub announced : Announces bytes parts start n
  pub beyond : length bytes < n

-- no request can come of the bytes, for this reason
abbrev pub FailsBy : List ℕ → Fault → Type 0
FailsBy bytes BadHead = NeverHasHead (head_of bytes)
FailsBy bytes HeadTooLarge = (head_limit ≤ length bytes) × HasNoHead (head_of bytes) × MayBecomeHead (head_of bytes)
FailsBy bytes CodedBody = (h : RequestHead) × HasHead bytes h Coded
FailsBy bytes BadBodyLength = (h : RequestHead) × HasHead bytes h BadLength
FailsBy bytes BodyTooLarge = (h : RequestHead) × (size : ℕ) × HasHead bytes h (Sized size) × (body_limit < size)

-- a token that was lent, as its bytes
abbrev pub token_bytes : Option (Bor (List ℕ)) → Option (List ℕ)
token_bytes None = None
token_bytes (Some token) = Some token.now

-- a head that was lent, as its parts
abbrev pub parts_in : Head → Parts
parts_in h = record { method = h.method.now; target = h.target.now; token = token_bytes h.token; stays = h.stays }

-- a request that was lent, as its parts
abbrev pub call_of : Message → Call
call_of m = record { parts = parts_in m.head; body = m.body.now }

abbrev pub IsNext : List ℕ → Next → Type 0
IsNext bytes (Complete message n) = IsCall bytes (call_of message) n
IsNext bytes (Awaits head n) = IsAwaited bytes (parts_in head) n
IsNext bytes Partial = IsBegun bytes
IsNext bytes (Failed fault) = FailsBy bytes fault
