use Rattle.std.proofs.Common.{◌≡◌, ◌<◌, ◌+◌, Bool, List, false, length, get_or, sym, ◌∙◌, ap, subst, arith}
use Rattle.plain_data.specs.Numbers.{is_among}
use Rattle.graphs.proofs.Sets.{contained}
use Rattle.rp_sight.proofs.Places.{length-marks, mark_at}
use Rattle.rp_sight.proofs.marks.Marks.has.Goals as goal

pub returns : goal.returns
returns c =
    let is_set = is_among c.self.inside.places.keys in
    let n = c.self.inside.count in
    let within : c.args.place < n = subst (λ m. c.args.place < m) (ap length (sym c.self.view_is) ∙ length-marks is_set 0 n) c.requires in
    let from_zero : c.args.place ≡ 0 + c.args.place = omega arith in
    c.contains.ensures
    ∙ contained c.self.inside.places.keys c.args.place
    ∙ ap is_set from_zero
    ∙ sym (mark_at is_set 0 n c.args.place false within)
    ∙ ap (λ (ts : List Bool). get_or ts c.args.place false) c.self.view_is
