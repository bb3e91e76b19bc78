use Rattle.std.proofs.Common.{◌≡◌, ◌≤◌}
use Rattle.text_forms.specs.Forms.{repeat_by}
use Rattle.text_forms.proofs.lists.more.Given as goal

abbrev pub invariant-more : goal.invariant-more
invariant-more g l = record {
  reads : repeat_by g.S.TokenSource.turns (g.F.Begins.begins l.item) (g.F.Form.form l.item) l.initial.found.items l.fn.source ≡ repeat_by g.S.TokenSource.turns (g.F.Begins.begins l.item) (g.F.Form.form l.item) l.found.items l.source;
  keeps : g.S.TokenSource.turns l.source ≤ g.S.TokenSource.turns l.fn.source;
}

abbrev pub decreases-more : goal.decreases-more
decreases-more g l = g.S.TokenSource.turns l.source
