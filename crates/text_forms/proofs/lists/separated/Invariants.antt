use Rattle.std.proofs.Common.{◌≡◌, ◌<◌}
use Rattle.text_forms.specs.Forms.{repeat_by, separated_by, ◌>>◌}
use Rattle.text_forms.proofs.lists.separated.Given as goal

abbrev pub invariant-more : goal.invariant-more
invariant-more g l = record {
  reads : separated_by g.S.TokenSource.turns (g.S.TokenSource.sees l.separator) (g.S.TokenSource.expect l.separator) (g.F.Form.form l.item) l.fn.source ≡ repeat_by g.S.TokenSource.turns (g.S.TokenSource.sees l.separator) (g.S.TokenSource.expect l.separator >> g.F.Form.form l.item) l.found.items l.source;
  takes : g.S.TokenSource.turns l.source < g.S.TokenSource.turns l.fn.source;
}

abbrev pub decreases-more : goal.decreases-more
decreases-more g l = g.S.TokenSource.turns l.source
