use Rattle.std.proofs.Common.{◌≡◌, ℕ, List, Bool, true, false, Some, None, option_and_then, rules, refl}
use Rattle.std.specs.Str.{is_utf8}
use Rattle.std.proofs.lemmas.Str.{is_utf8-from_IsUtf8, IsUtf8-from_is_utf8}
use Rattle.serde_json.specs.Data.{Data}
use Rattle.serde_json.specs.Find.{as_object}
use Rattle.serde_json.specs.Read.{read}
use Rattle.rp_config.specs.Configuration.{config_of, config_in}
use Rattle.rp_config.proofs.config.config_of.Goals as goal

told : (bytes : List ℕ) (v : Data) → is_utf8 bytes ≡ true → read bytes ≡ Some v → config_of bytes ≡ option_and_then config_in (as_object v)
told bytes v valid found = rw (valid, found) refl

pub returns-in-Ok-clause-ok : goal.returns-in-Ok-clause-ok
returns-in-Ok-clause-ok c =
    rw (told c.args.bytes.now _ (is_utf8-from_IsUtf8 c.args.bytes.now c.in-Ok.ensures.ok.0) c.in-Ok.ensures.ok.1) c.config_in.ensures.ok

by_cases : (bytes : List ℕ) (b : Bool) → is_utf8 bytes ≡ b → (is_utf8 bytes ≡ true → read bytes ≡ None) → config_of bytes ≡ None
by_cases bytes true e h = rw (e, h e) refl
by_cases bytes false e h = rw e refl

pub returns-in-Err-2-clause-wrong : goal.returns-in-Err-2-clause-wrong
returns-in-Err-2-clause-wrong c =
    λ _. by_cases c.args.bytes.now (is_utf8 c.args.bytes.now) refl (λ valid. c.in-Err.ensures.err (search rules) (IsUtf8-from_is_utf8 c.args.bytes.now valid))
