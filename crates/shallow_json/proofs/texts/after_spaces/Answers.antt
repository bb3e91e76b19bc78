use Rattle.std.proofs.Common.{◌∙◌, arith}
use Rattle.shallow_json.proofs.StringLemmas.{space_passed}
use Rattle.shallow_json.proofs.texts.after_spaces.Goals as goal

pub spaces-preserved : goal.spaces-preserved
spaces-preserved c =
    let l = c.spaces in
    (l.invariant.0 ∙ space_passed c.args.bytes.now l.end (grind arith) (grind arith), omega arith, grind arith)
