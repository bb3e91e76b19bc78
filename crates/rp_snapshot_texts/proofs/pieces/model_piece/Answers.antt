use Rattle.std.proofs.Common.{◌≡◌, ◌++◌, ap, ap₂, ◌∙◌, rules, arith, List, ℕ}
use Rattle.std.proofs.lemmas.Grind.{common_steps}
use Rattle.json.specs.Print.{print}
use Rattle.serde_json.specs.Written.{comma_if}
use Rattle.serde_json.proofs.Texts.{print-outline}
use Rattle.rp_sight.specs.Stored.{row_of}
use Rattle.rp_snapshot_texts.specs.Texts.{model_by}
use Rattle.rp_json.specs.Tokens.{tokens_of}
use Rattle.rp_snapshot_texts.proofs.pieces.model_piece.Goals as goal

pub returns : goal.returns
returns g c =
    let before : c.write_model.new.out.before ≡ comma_if c.args.later = first_of (search rules, grind (arith, common_steps)) in
    let file = c.in_ok-file.ensures in
    let tokens : c.write_model.new.out.tokens ≡ tokens_of (model_by (g.V.Version.writes c.args.version.now) (row_of c.args.row.now)) = first_of (search rules, grind (arith, common_steps)) in
    c.into_inner.ensures.items ∙ ap₂ (λ (a b : List ℕ). a ++ b) before (ap print tokens ∙ print-outline (model_by (g.V.Version.writes c.args.version.now) (row_of c.args.row.now)))
