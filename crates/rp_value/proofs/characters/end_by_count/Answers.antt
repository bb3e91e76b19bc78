use Rattle.std.proofs.Common.{length, sym, ◌∙◌, ap, arith}
use Rattle.rp_value.proofs.Ends.{end-plain}
use Rattle.rp_value.proofs.characters.end_by_count.Goals as goal

pub returns-then-counted-text : goal.returns-then-counted-text
returns-then-counted-text c =
    let same = ap length c.as_bytes-text.ensures in
    omega (arith, c.min.ensures, same, end-plain c.args.counted.now.text c.args.count (sym c.requires ∙ c.if-counted-text.true ∙ same))
