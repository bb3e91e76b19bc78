use Rattle.std.proofs.Common.{◌≡◌, drop}
use Rattle.std.specs.List.{find}
use Rattle.rp_meaning.specs.Populations.{is_of}
use Rattle.rp_eval_parts.proofs.attributes.derivation_in.Given as goal

abbrev pub invariant-loop-derivation : goal.invariant-loop-derivation
invariant-loop-derivation l = find (λ x. is_of l.instance x.entity) (drop l.derivation-index l.derivations) ≡ find (λ x. is_of l.instance x.entity) l.derivations
