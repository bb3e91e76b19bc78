use Rattle.std.proofs.Common.{◌≡◌, ◌++◌, ◌<◌, take, length, get_or, string_bytes, sym, ap, ◌∙◌, arith}
use Rattle.std.specs.List.{flat_map}
use Rattle.std.proofs.lemmas.List.{flat_map_more, take_more}
use Rattle.ex_check.specs.Check as spec
use Rattle.ex_check.proofs.report.push_warnings.Goals as goal

pub loop-at-preserved : goal.loop-at-preserved
loop-at-preserved c =
    let text = c.args.text.now in
    let ats = c.args.warnings.now in
    let i = c.loop-at.at-index in
    let is = c.move_to-position.ensures in
    let said : string_bytes c.in_ok-line.line ≡ spec.warning_at text (get_or ats i 0) = c.in_ok-line.ensures ∙ ap (λ p. spec.told_of_warning p.line p.column) is in
    let within : i < length ats = omega arith in
    record {
      position = is ∙ ap (spec.position text) (sym (ap (λ p. p.at) is));
      told =
          c.in_ok-push_str.ensures.bytes
          ∙ ap (λ t. string_bytes c.loop-at.told ++ t) (c.as_str.ensures.value ∙ said)
          ∙ ap (λ t. t ++ spec.warning_at text (get_or ats i 0)) c.loop-at.invariant.told
          ∙ flat_map_more (spec.warning_at text) (string_bytes c.args.told.now) (take i ats) (get_or ats i 0)
          ∙ ap (λ xs. string_bytes c.args.told.now ++ flat_map (spec.warning_at text) xs) (sym (take_more ats i 0 within));
    }
