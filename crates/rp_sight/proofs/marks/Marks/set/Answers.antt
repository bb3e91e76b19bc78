use Rattle.std.proofs.Common.{◌<◌, Bool, List, true, length, set, ◌∙◌, ap, arith, subst, sym}
use Rattle.plain_data.specs.Numbers.{is_among}
use Rattle.graphs.proofs.Sets.{inserted}
use Rattle.rp_sight.proofs.Places.{length-marks, one_set}
use Rattle.rp_sight.proofs.marks.Marks.set.Goals as goal

pub returns : goal.returns
returns c =
    let old = c.self.inside.places.keys in
    let new = c.insert.new.self.keys in
    let n = c.self.inside.count in
    let within : c.args.place < n = subst (λ m. c.args.place < m) (ap length (sym c.self.view_is) ∙ length-marks (is_among old) 0 n) c.requires in
    one_set (is_among old) (is_among new) c.args.place (inserted old new c.args.place c.in_ok-insert.ensures.keys) 0 n c.args.place within (omega arith)
    ∙ ap (λ (ts : List Bool). set ts c.args.place true) c.self.view_is
