use Rattle.std.proofs.Common.{◌∙◌, ap}
use Rattle.std.specs.List.{find}
use Rattle.rp_rows.specs.Rows.{is_row}
use Rattle.rp_population.specs.Populations.{population, has_place}
use Rattle.rp_plain.specs.Readers.{counted_in}
use Rattle.rp_sight.specs.Stored.{row_of}
use Rattle.rp_readers.specs.Told.{told}
use Rattle.rp_readers.proofs.Standing.{stands_there, stands_nowhere}
use Rattle.rp_readers.proofs.populations.has_place.Goals as goal

pub returns-in_default : goal.returns-in_default
unfolding told
returns-in_default c =
    let p = c.args.place.now in
    let ms = c.args.asked.now.models.now.rows in
    ap (λ o. has_place (population (counted_in ms o)) p) c.in_default.ensures

pub returns-in-Some-find : goal.returns-in-Some-find
unfolding told
returns-in-Some-find c =
    let p = c.args.place.now in
    let ms = c.args.asked.now.models.now.rows in
    let g = row_of c.in-Some.group in
    c.counts_with.ensures
    ∙ stands_there p g ms c.find.ensures.ascending (row_of c.in-Some-find.model) (c.in-Some-find.ensures.found ∙ ap (λ k. find (is_row k) ms) c.key.ensures)
    ∙ ap (λ o. has_place (population (counted_in ms o)) p) c.in-Some.ensures

pub returns-in-None : goal.returns-in-None
unfolding told
returns-in-None c =
    let p = c.args.place.now in
    let ms = c.args.asked.now.models.now.rows in
    let g = row_of c.in-Some.group in
    stands_nowhere p g ms c.find.ensures.ascending (c.in-None.ensures.found ∙ ap (λ k. find (is_row k) ms) c.key.ensures)
    ∙ ap (λ o. has_place (population (counted_in ms o)) p) c.in-Some.ensures
