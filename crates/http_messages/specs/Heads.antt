-- Heads of requests: those of the parser's grammar, but that a target is any bytes of its class, of UTF-8 or not.
use Rattle.std.specs.Prelude.{◌≡◌, ℕ, ◌<◌, ◌≤◌, List, [], ◌++◌, length, All}
use Rattle.httparse.specs.Grammar.{RequestHead, IsToken, AllPass, is_uri_byte, IsField, print_request}

-- each part is of its class
pub record IsHead (h : RequestHead) : Type 0 where
  pub method : IsToken h.method
  pub target : (0 < length h.target) × AllPass is_uri_byte h.target
  pub minor : h.minor ≤ 1
  pub fields : All IsField h.fields

-- the bytes are this head, and then the rest
abbrev pub ReadsHead : List ℕ → RequestHead → List ℕ → Type 0
ReadsHead bytes h rest = IsHead h × (bytes ≡ print_request h ++ rest)

-- no front of the bytes is a head
abbrev pub HasNoHead : List ℕ → Type 0
HasNoHead bytes = (h : RequestHead) (rest : List ℕ) → ¬ (ReadsHead bytes h rest)

-- whatever bytes follow, no front of them is a head
abbrev pub NeverHasHead : List ℕ → Type 0
NeverHasHead bytes = (more : List ℕ) → HasNoHead (bytes ++ more)

-- some bytes can follow that make a head of them
abbrev pub MayBecomeHead : List ℕ → Type 0
MayBecomeHead bytes = (more : List ℕ) × (h : RequestHead) × ReadsHead (bytes ++ more) h []
