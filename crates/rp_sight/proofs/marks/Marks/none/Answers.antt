use Rattle.std.proofs.Common.{◌∙◌, ap}
use Rattle.plain_data.specs.Numbers.{is_among}
use Rattle.rp_sight.specs.Kept.{marks_from}
use Rattle.rp_sight.proofs.Places.{none_set}
use Rattle.rp_sight.proofs.marks.Marks.none.Goals as goal

pub returns : goal.returns
returns c = ap (λ ks. marks_from (is_among ks) 0 c.args.count) c.new.ensures.empty ∙ none_set 0 c.args.count
