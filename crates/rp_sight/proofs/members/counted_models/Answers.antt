use Rattle.std.proofs.Common.{◌≡◌, ◌∙◌, ap, map, subst}
use Rattle.std.specs.Prelude.{IfOk}
use Rattle.std.specs.List.{flat_map}
use Rattle.rp_sight.specs.Listed.{counted_at}
use Rattle.rp_sight.specs.Stored.{row_of}
use Rattle.rp_sight.proofs.Counted.{counted_walk}
use Rattle.rp_sight.proofs.members.counted_models.Goals as goal

pub returns : goal.returns
returns c =
    let ms = c.args.models.now.rows in
    let g = row_of c.args.group.now in
    let are = ap (flat_map (counted_at ms g)) c.as_slice-keys.ensures ∙ counted_walk g ms c.len-count.ensures.ascending c.requires in
    subst (λ counted. IfOk c.counted_among.result (λ out. map row_of out.items ≡ counted)) are c.counted_among.ensures
