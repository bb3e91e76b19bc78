use Rattle.std.proofs.Common.{◌≡◌, ◌-◌, Some, None, length, slice_get, subst, sym, ◌∙◌, ap, IfOk}
use Rattle.std.specs.Option.{option_copied}
use Rattle.ex_selects.specs.Levels.{IsLevel}
use Rattle.ex_selects.proofs.Groups.{last_some, last_none}
use Rattle.ex_selects.proofs.levels.level_below.Goals as goal

pub returns-in-Some : goal.returns-in-Some
returns-in-Some c =
    let asking = c.args.asking.now in
    let levels = c.args.levels.now in
    let above = c.in-Some.above.now in
    let found : slice_get levels (length levels - 1) ≡ Some above = sym c.last.ensures.value ∙ ap option_copied c.in-Some.is in
    let last = last_some asking levels above found in
    subst (λ ts. IfOk c.level_of.result (λ level. IsLevel c.args.types.now ts level)) (c.deref.ensures.value ∙ sym last) c.level_of.ensures

pub returns-in-None : goal.returns-in-None
returns-in-None c =
    let asking = c.args.asking.now in
    let levels = c.args.levels.now in
    let found : slice_get levels (length levels - 1) ≡ None = sym c.last.ensures.value ∙ ap option_copied c.in-None.is in
    subst (λ ts. IfOk c.level_of-in-None.result (λ level. IsLevel c.args.types.now ts level)) (sym (last_none asking levels found)) c.level_of-in-None.ensures
