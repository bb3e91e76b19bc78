use Rattle.std.proofs.Common.{◌≡◌, ◌∙◌}
use Rattle.std.specs.Str.{IsValidUpTo, valid_up_to}
use Rattle.ex_lex.proofs.Text.{decided}
use Rattle.ex_lex.proofs.strings.is_text.Goals as goal

pub returns : goal.returns
returns c =
    let bytes = c.args.bytes.now in
    c.is_ok.ensures.value ∙ decided (λ s. s.now ≡ bytes) (λ e. IsValidUpTo bytes (valid_up_to e)) bytes c.from_utf8.result c.from_utf8.ensures.cases
