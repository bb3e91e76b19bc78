use Rattle.std.proofs.Common.{◌≡◌, true, false, get_or, rules, arith, ◌∙◌}
use Rattle.std.proofs.lemmas.List.{take_rest}
use Rattle.p21_escapes.specs.Decoding.{is_line_end}
use Rattle.p21_escapes.proofs.LineEnds.{after_end, after_byte, after_all}
use Rattle.p21_escapes.proofs.kept_bytes.after.Goals as goal

pub bytes-preserved-else-left-eq0 : goal.bytes-preserved-else-left-eq0
bytes-preserved-else-left-eq0 c =
    let z = c.bytes.bytes.now in
    let is : is_line_end (get_or z 0 0) ≡ false = search rules in
    (rw (take_rest z 1) (after_byte c.bytes.left z c.in-len1-up.len_at_least (omega arith) is ∙ c.bytes.invariant.0), search rules)

pub bytes-preserved : goal.bytes-preserved
bytes-preserved c =
    let z = c.bytes.bytes.now in
    let is : is_line_end (get_or z 0 0) ≡ true = search rules in
    (rw (take_rest z 1) (after_end c.bytes.left z c.in-len1-up.len_at_least is ∙ c.bytes.invariant.0), search rules)

pub returns-clause-value : goal.returns-clause-value
returns-clause-value c = after_all c.bytes.left c.bytes.bytes.now (omega arith) ∙ c.bytes.invariant.0
