use Rattle.std.proofs.Common.{◌≡◌, ◌++◌, ◌<◌, take, length, get_or, string_bytes, sym, ap, ◌∙◌, arith}
use Rattle.std.specs.List.{flat_map}
use Rattle.std.proofs.lemmas.List.{append_assoc, flat_map_more, take_more}
use Rattle.ex_check.specs.Check as check
use Rattle.ex_check.specs.Explained as spec
use Rattle.ex_check.proofs.explain.push_explained.Goals as goal

pub loop-at-preserved : goal.loop-at-preserved
loop-at-preserved c =
    let text = c.args.text.now in
    let ats = c.args.warnings.now in
    let i = c.loop-at.at-index in
    let at = get_or ats i 0 in
    let before = c.args.told.now.items in
    let so_far = c.loop-at.told.items in
    let is = c.move_to-position.ensures in
    let said : string_bytes c.in_ok-line.line ≡ check.warning_at text at = c.in_ok-line.ensures ∙ ap (λ p. check.told_of_warning p.line p.column) is in
    let line : c.extend_from_slice.new.self.items ≡ so_far ++ check.warning_at text at = c.in_ok-extend_from_slice.ensures.items ∙ ap (λ t. so_far ++ t) (c.as_bytes.ensures.value ∙ said) in
    let within : i < length ats = omega arith in
    record {
      position = is ∙ ap (check.position text) (sym (ap (λ p. p.at) is));
      told =
          c.in_ok-push_shown.ensures
          ∙ ap (λ t. t ++ spec.shown text at) line
          ∙ append_assoc so_far (check.warning_at text at) (spec.shown text at)
          ∙ ap (λ t. t ++ spec.explained_warning text at) c.loop-at.invariant.told
          ∙ flat_map_more (spec.explained_warning text) before (take i ats) at
          ∙ ap (λ xs. before ++ flat_map (spec.explained_warning text) xs) (sym (take_more ats i 0 within));
    }
