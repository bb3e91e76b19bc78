use Rattle.std.proofs.Common.{◌≡◌, IsUtf8, sym, ◌∙◌, subst}
use Rattle.std.proofs.lemmas.List.{append_cancel_left}
use Rattle.rp_restore.proofs.restoring.text_behind.Goals as goal

pub returns-in-Ok : goal.returns-in-Ok
returns-in-Ok c rest is utf8 = c.in-Ok.ensures.cases.0 ∙ append_cancel_left c.args.first_line.now _ _ (sym c.in-Some.ensures ∙ is)

pub returns-in-Err : goal.returns-in-Err
returns-in-Err c rest is utf8 =
    let here : c.in-Some.rest.now ≡ rest = append_cancel_left c.args.first_line.now _ _ (sym c.in-Some.ensures ∙ is) in
    absurd (c.in-Err.ensures.cases.0 (subst IsUtf8 (sym here) utf8))
