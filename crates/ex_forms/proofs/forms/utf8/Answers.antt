use Rattle.std.proofs.Common.{◌≡◌, rules, refl, List, ℕ, Bool, true, false, None}
use Rattle.std.specs.Str.{is_utf8}
use Rattle.std.proofs.lemmas.Str.{is_utf8-from_IsUtf8, IsUtf8-from_is_utf8}
use Rattle.ex_forms.specs.Input as spec
use Rattle.ex_forms.proofs.forms.utf8.Goals as goal

pub returns-in-Ok : goal.returns-in-Ok
returns-in-Ok c =
    let valid = is_utf8-from_IsUtf8 c.args.bytes.now (search rules) in
    rw valid (search rules)

by_cases : (bytes : List ℕ) (b : Bool) → is_utf8 bytes ≡ b → (is_utf8 bytes ≡ true → None ≡ spec.utf8 bytes) → None ≡ spec.utf8 bytes
by_cases bytes true e h = h e
by_cases bytes false e h = rw e refl

pub returns-in-Err : goal.returns-in-Err
returns-in-Err c =
    by_cases c.args.bytes.now (is_utf8 c.args.bytes.now) refl (λ valid. absurd (c.in-Err.ensures.cases.0 (IsUtf8-from_is_utf8 c.args.bytes.now valid)))
