use Rattle.std.proofs.Common.{◌≡◌, ◌++◌, ap, ap₂, ◌∙◌, rules, arith, List, ℕ}
use Rattle.std.proofs.lemmas.Grind.{common_steps}
use Rattle.json.specs.Print.{print}
use Rattle.serde_json.specs.Written.{comma_if}
use Rattle.serde_json.proofs.Texts.{print-outline}
use Rattle.rp_sight.specs.Stored.{row_of}
use Rattle.rp_snapshot_rows.specs.Written.{group_data}
use Rattle.rp_json.specs.Tokens.{tokens_of}
use Rattle.rp_snapshot_texts.proofs.pieces.group_piece.Goals as goal

pub returns : goal.returns
returns c =
    let before : c.write_group.new.out.before ≡ comma_if c.args.later = first_of (search rules, grind (arith, common_steps)) in
    let tokens : c.write_group.new.out.tokens ≡ tokens_of (group_data (row_of c.args.row.now)) = first_of (search rules, grind (arith, common_steps)) in
    c.into_inner.ensures.items ∙ ap₂ (λ (a b : List ℕ). a ++ b) before (ap print tokens ∙ print-outline (group_data (row_of c.args.row.now)))
