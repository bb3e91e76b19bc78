use Rattle.std.proofs.Common.{rules, arith}
use Rattle.std.proofs.lemmas.Grind.{common_steps}
use Rattle.text_forms.specs.Forms.{◌>>◌}
use Rattle.text_forms.proofs.Repeat.{repeat_turn, repeat_done}
use Rattle.text_forms.proofs.lists.separated.Goals as goal

pub returns-in_err-expect-clause-reads : goal.returns-in_err-expect-clause-reads
returns-in_err-expect-clause-reads g c =
    let e = repeat_turn g.S.TokenSource.turns (g.S.TokenSource.sees c.args.separator) (g.S.TokenSource.expect c.args.separator >> g.F.Form.form c.args.item.now) c.more.found.items c.more.source (cc) in
    first_of (search rules, grind (arith, common_steps))

pub returns-in_err-read-clause-reads : goal.returns-in_err-read-clause-reads
returns-in_err-read-clause-reads g c =
    let e = repeat_turn g.S.TokenSource.turns (g.S.TokenSource.sees c.args.separator) (g.S.TokenSource.expect c.args.separator >> g.F.Form.form c.args.item.now) c.more.found.items c.more.source (cc) in
    first_of (search rules, grind (arith, common_steps))

pub more-preserved : goal.more-preserved
more-preserved g c =
    let e = repeat_turn g.S.TokenSource.turns (g.S.TokenSource.sees c.args.separator) (g.S.TokenSource.expect c.args.separator >> g.F.Form.form c.args.item.now) c.more.found.items c.more.source (cc) in
    first_of (search rules, grind (arith, common_steps))

pub returns-clause-reads : goal.returns-clause-reads
returns-clause-reads g c =
    let e = repeat_done g.S.TokenSource.turns (g.S.TokenSource.sees c.args.separator) (g.S.TokenSource.expect c.args.separator >> g.F.Form.form c.args.item.now) c.more.found.items c.more.source (cc) in
    first_of (search rules, grind (arith, common_steps))
