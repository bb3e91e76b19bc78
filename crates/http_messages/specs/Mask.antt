-- The bytes of a head as the parser is given them. It refuses a target that isn't of UTF-8, so each byte past ASCII in
-- a target is made an a: what is a head then was one before, and the other way round.
use Rattle.std.specs.Prelude.{◌≡◌, ℕ, suc, ◌==◌, nat_lt, List, [], ◌∷◌, length, take, drop, if◌then◌else◌}
use Rattle.httparse.specs.Grammar.{RequestHead, print_request}
use Rattle.httparse.specs.Spans.{AreFieldsAt, span_bytes}
use Rattle.httparse.specs.declared.spans.HeaderSpan.{HeaderSpan}
use Rattle.httparse.specs.declared.spans.RequestSpans.{RequestSpans}
use Rattle.http_messages.specs.Heads.{ReadsHead}

abbrev pub plain : ℕ → ℕ
plain b = if nat_lt 127 b then 97 else b

-- within the target, which a blank ends
abbrev pub mask_target : List ℕ → List ℕ
mask_target [] = []
mask_target (b ∷ bs) = if b == 32 then b ∷ bs else plain b ∷ mask_target bs

-- Before it, where a blank ends the method. No line end is one, so the empty lines in front need no case of their own.
abbrev pub masked : List ℕ → List ℕ
masked [] = []
masked (b ∷ bs) = if b == 32 then b ∷ mask_target bs else b ∷ masked bs

-- how many bytes stand before the first blank
abbrev pub blank_at : List ℕ → ℕ
blank_at [] = 0
blank_at (b ∷ bs) = if b == 32 then 0 else suc (blank_at bs)

-- where a target begins: behind the first blank
abbrev pub target_at : List ℕ → ℕ
target_at [] = 0
target_at (b ∷ bs) = if b == 32 then 1 else suc (target_at bs)

-- the target, as far as it is there: it ends before the next blank
abbrev pub target_in : List ℕ → List ℕ
target_in bytes = take (blank_at (drop (target_at bytes) bytes)) (drop (target_at bytes) bytes)

-- The bytes begin with a head, and these spans cover its parts, but for the target, in the text that the parser was given.
pub record IsHeadAt (bytes text : List ℕ) (spans : List HeaderSpan) (r : RequestSpans) : Type 0 where
  pub head : RequestHead
  pub rest : List ℕ
  pub reads : ReadsHead bytes head rest
  pub len : r.len ≡ length (print_request head)
  pub method : span_bytes text r.method ≡ head.method
  pub target : target_in bytes ≡ head.target
  pub version : r.version ≡ head.minor
  pub fields : AreFieldsAt text spans r.headers head.fields
