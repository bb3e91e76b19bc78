use Rattle.std.proofs.Common.{◌≡◌, drop, filter}
use Rattle.plain_data.specs.Numbers.{is_among}
use Rattle.ex_scopes.specs.Attributes.{seen_after}
use Rattle.ex_scopes.specs.Sorts.{admitted}
use Rattle.ex_scopes.proofs.attributes.and_of_family.Given as goal

abbrev pub invariant-loop-place : goal.invariant-loop-place
invariant-loop-place l = seen_after (admitted l.sorts) l.seen (filter (λ a. is_among l.family a.entity) (drop l.place-index l.places))
    ≡ seen_after (admitted l.sorts) l.fn.before (filter (λ a. is_among l.family a.entity) l.places)
