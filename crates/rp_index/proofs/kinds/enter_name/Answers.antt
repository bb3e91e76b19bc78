use Rattle.std.proofs.Common.{◌==◌, ◌∙◌, ap}
use Rattle.plain_data.specs.Numbers.{is_among}
use Rattle.plain_data.proofs.Disjunctions.{or_swap}
use Rattle.rp_index.proofs.Entries.{any_inserted}
use Rattle.rp_index.proofs.kinds.enter_name.Goals as goal

pub returns : goal.returns
returns c = λ n.
    let xs = c.args.names.now.items in
    ap (λ l. is_among l n) c.in_ok-insert.ensures.items ∙ any_inserted (λ m. m == n) xs c.place_in-place.result c.args.name ∙ or_swap (c.args.name == n) (is_among xs n)
