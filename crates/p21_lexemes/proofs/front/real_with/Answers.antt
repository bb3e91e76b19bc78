use Rattle.std.proofs.Common.{◌≡◌, ◌∙◌, ◌+◌, drop, ap}
use Rattle.std.proofs.lemmas.List.{take_rest}
use Rattle.rp_numbers.specs.Spelling.{digits_len, exponent_len}
use Rattle.p21_lexemes.proofs.Reals.{real_len}
use Rattle.p21_lexemes.proofs.front.real_with.Goals as goal

pub returns-clause-value : goal.returns-clause-value
returns-clause-value c =
    let z = c.args.z.now in
    let end = c.args.end in
    let fraction : c.digits_len.result ≡ digits_len (drop (end + 1) z) = c.digits_len.ensures.value ∙ ap digits_len (take_rest z (end + 1)) in
    let power : c.exponent_len-exponent.result ≡ exponent_len (drop (end + 1 + c.digits_len.result) z) =
    c.exponent_len-exponent.ensures.value ∙ ap exponent_len (take_rest z (end + 1 + c.digits_len.result)) in
    c.real.ensures.value ∙ real_len z end c.digits_len.result c.exponent_len-exponent.result fraction power
