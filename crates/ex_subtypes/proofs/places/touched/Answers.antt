use Rattle.std.proofs.Common.{◌∙◌, ap}
use Rattle.std.proofs.lemmas.List.Sorted.{IsNonDecreasingBy-from_default}
use Rattle.plain_data.specs.Numbers.{is_among}
use Rattle.ex_subtypes.proofs.Numbers.{rises}
use Rattle.ex_subtypes.proofs.places.touched.Goals as goal

pub returns : goal.returns
returns c =
    let sorted = c.in_ok-sorted.sorted.items in
    record {
      rising = IsNonDecreasingBy-from_default (λ x. x) sorted 0 (rises sorted c.in_ok-sorted.ensures.rising);
      same = λ place.
          ap (λ l. is_among l place) c.in_ok-sorted.ensures.same ∙ c.in_ok-set.ensures place ∙ ap (λ l. is_among l place) c.deref.ensures.value
          ∙ c.in_ok-found.ensures place;
    }
