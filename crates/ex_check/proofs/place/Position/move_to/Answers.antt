use Rattle.std.proofs.Common.{◌≡◌, ◌+◌, ◌∙◌, ap, arith}
use Rattle.ex_check.specs.Check as spec
use Rattle.ex_check.proofs.Columns.{line_moved, column_moved, column_fits}
use Rattle.ex_check.proofs.place.Position.move_to.Goals as goal

pub column_behind-requires : goal.column_behind-requires
column_behind-requires c =
    let text = c.args.text.now in
    let there = c.in-Some.ensures.lookup.0 in
    let from : c.args.self.column ≡ spec.column text c.args.self.at = ap (λ p. p.column) c.requires in
    let fits = column_fits text c.args.self.at c.args.at there.0 c.in-Some.between.now there.2 there.1 in
    omega (arith, from, fits)

pub returns-in-Some : goal.returns-in-Some
returns-in-Some c =
    let text = c.args.text.now in
    let there = c.in-Some.ensures.lookup.0 in
    let between = c.in-Some.between.now in
    let line : c.args.self.line ≡ spec.line text c.args.self.at = ap (λ p. p.line) c.requires in
    let column : c.args.self.column ≡ spec.column text c.args.self.at = ap (λ p. p.column) c.requires in
    let line_is : c.args.self.line + c.feeds_in.result ≡ spec.line text c.args.at = rw (line, c.feeds_in.ensures) (line_moved text c.args.self.at c.args.at there.0 between there.2) in
    let column_is : c.column_behind.result ≡ spec.column text c.args.at = c.column_behind.ensures ∙ ap (spec.column_behind between) column ∙ column_moved text c.args.self.at c.args.at there.0 between there.2 in
    ap (λ n. record { at = c.args.at; line = n; column = c.column_behind.result }) line_is ∙ ap (λ n. record { at = c.args.at; line = spec.line text c.args.at; column = n }) column_is
