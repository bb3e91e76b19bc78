use Rattle.std.proofs.Common.{◌≡◌, ap, map, sym, subst}
use Rattle.std.specs.Prelude.{filter, Some, IfOk}
use Rattle.rp_rows.specs.Sight.{counts}
use Rattle.rp_sight.specs.Stored.{row_of}
use Rattle.rp_plain.specs.Readers.{held, counted_in}
use Rattle.rp_readers.specs.Listed.{counted_of}
use Rattle.rp_readers.specs.Told.{told}
use Rattle.rp_readers.proofs.Telling.{in_other_words, counted_told}
use Rattle.rp_readers.proofs.readers.Readers.counted.Goals as goal

pub counted_models-requires : goal.counted_models-requires
unfolding told
counted_models-requires c = c.requires c.args.key.now c.in-Some.group.holds.now (ap held (sym c.in-Some.ensures))

pub returns-in-Some : goal.returns-in-Some
unfolding told
returns-in-Some c =
    let ms = c.args.self.now.models.now.rows in
    let g = row_of c.in-Some.group in
    let counted = filter (λ m. counts m g) ms in
    subst (λ o. IfOk c.counted_models.result (λ out. map counted_of out.items ≡ counted_in ms o)) c.in-Some.ensures
    (in_other_words (λ out. map row_of out.items ≡ counted) (λ out. map counted_of out.items ≡ counted_in ms (Some g)) (λ out are. counted_told out.items counted are) c.counted_models.result c.counted_models.ensures)
