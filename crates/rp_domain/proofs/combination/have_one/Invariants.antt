use Rattle.std.proofs.Common.{◌≡◌, drop}
use Rattle.std.specs.List.{list_any}
use Rattle.plain_data.specs.Numbers.{is_among}
use Rattle.rp_domain.proofs.combination.have_one.Given as goal

abbrev pub invariant-loop-derivation : goal.invariant-loop-derivation
invariant-loop-derivation l = list_any (λ d. is_among l.entities d.entity) (drop l.derivation-index l.derivations) ≡ list_any (λ d. is_among l.entities d.entity) l.derivations
