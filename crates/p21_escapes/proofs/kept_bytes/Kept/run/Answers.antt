use Rattle.std.proofs.Common.{◌≡◌, ◌++◌, length, length-append, ap, sym, ◌∙◌}
use Rattle.p21_escapes.specs.LineEnds.{kept}
use Rattle.p21_escapes.proofs.LineEnds.{run_cut, cut_bare}
use Rattle.p21_escapes.proofs.kept_bytes.Kept.run.Goals as goal

pub returns-clause-value : goal.returns-clause-value
returns-clause-value c =
    sym c.self.view_is ∙ run_cut c.self.inside.bytes.now c.split_at.result.0.now c.split_at.result.1.now c.run_len.result c.run_len.ensures.value c.split_at.ensures.front c.split_at.ensures.back

pub returns-clause-bare : goal.returns-clause-bare
returns-clause-bare c = cut_bare c.self.inside.bytes.now c.split_at.result.0.now c.run_len.result c.run_len.ensures.value c.split_at.ensures.front

pub returns-clause-shorter : goal.returns-clause-shorter
returns-clause-shorter c =
    let whole : c.args.self.now ≡ c.split_at.result.0.now ++ kept c.split_at.result.1.now =
    sym c.self.view_is ∙ run_cut c.self.inside.bytes.now c.split_at.result.0.now c.split_at.result.1.now c.run_len.result c.run_len.ensures.value c.split_at.ensures.front c.split_at.ensures.back in
    sym (ap length whole ∙ length-append c.split_at.result.0.now (kept c.split_at.result.1.now))
