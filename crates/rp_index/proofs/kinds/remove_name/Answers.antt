use Rattle.std.proofs.Common.{◌<◌, ◌==◌, ◌∙◌, length, ap, sym, arith}
use Rattle.std.proofs.lemmas.Bool.{ne_eqb}
use Rattle.plain_data.specs.Numbers.{is_among}
use Rattle.rp_index.proofs.Entries.{any_removed}
use Rattle.rp_index.proofs.kinds.remove_name.Goals as goal

pub returns-then-index-name : goal.returns-then-index-name
returns-then-index-name c = λ n other there.
    let xs = c.args.names.now.items in
    let place = c.place_in-place.result in
    let x = c.index.result.now in
    let within : place < length xs = omega (arith, c.if-place-len.true, c.len.ensures, c.args.names.now.ok.0) in
    ap (λ l. is_among l n) c.remove.ensures.items
    ∙ any_removed (λ m. m == n) xs place x within c.index.ensures (ne_eqb x n (λ e. other (sym e ∙ c.if-index-name.true))) there
