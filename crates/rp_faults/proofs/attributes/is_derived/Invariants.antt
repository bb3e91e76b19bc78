use Rattle.std.proofs.Common.{◌≡◌, drop}
use Rattle.std.specs.Option.{is_some}
use Rattle.std.specs.List.{find}
use Rattle.rp_meaning.specs.Populations.{is_of}
use Rattle.rp_faults.proofs.attributes.is_derived.Given as goal

abbrev pub invariant-loop-derivation : goal.invariant-loop-derivation
invariant-loop-derivation l = is_some (find (λ x. is_of l.instance x.entity) (drop l.derivation-index l.derivations)) ≡ is_some (find (λ x. is_of l.instance x.entity) l.derivations)
