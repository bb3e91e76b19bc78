use Rattle.std.proofs.Common.{◌≡◌, ◌&&◌, not, drop, filter, fold}
use Rattle.plain_data.specs.Numbers.{is_among}
use Rattle.ex_subtypes.specs.Legal as spec
use Rattle.ex_subtypes.proofs.legal.first_below.Given as goal

abbrev pub invariant-loop-member : goal.invariant-loop-member
invariant-loop-member l =
    fold (spec.earlier l.entities) l.best (filter (λ e. spec.is_abstract l.entities e && not (is_among l.above.keys e)) (drop l.member-index l.member-items))
    ≡ spec.first_of l.entities (λ e. spec.is_abstract l.entities e && not (is_among l.above.keys e)) l.set
