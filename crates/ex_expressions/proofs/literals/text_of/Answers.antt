use Rattle.std.proofs.Common.{◌≡◌, rules, refl, sym, List, ℕ, Bool, true, false, None}
use Rattle.std.proofs.lemmas.Bool.{false≢true}
use Rattle.std.specs.Str.{is_utf8, IsUtf8}
use Rattle.std.proofs.lemmas.Str.{is_utf8-from_IsUtf8, IsUtf8-from_is_utf8, IsUtf8-string_bytes}
use Rattle.ex_forms.specs.Input as input
use Rattle.ex_expressions.proofs.literals.text_of.Goals as goal

pub returns-in-Ok : goal.returns-in-Ok
returns-in-Ok c =
    let text : IsUtf8 c.args.bytes.items = rw (sym (c.in-Ok.ensures.ok)) (IsUtf8-string_bytes c.in-Ok.text) in
    let valid = is_utf8-from_IsUtf8 c.args.bytes.items text in
    rw valid (search rules)

by_cases : (bytes : List ℕ) (b : Bool) → is_utf8 bytes ≡ b → (is_utf8 bytes ≡ true → None ≡ input.utf8 bytes) → None ≡ input.utf8 bytes
by_cases bytes true e h = h e
by_cases bytes false e h = rw e refl

pub returns : goal.returns
returns c =
    by_cases c.args.bytes.items (is_utf8 c.args.bytes.items) refl (λ valid. absurd (false≢true (c.in-Err.ensures.succeeds (IsUtf8-from_is_utf8 c.args.bytes.items valid))))
