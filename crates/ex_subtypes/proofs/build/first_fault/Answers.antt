use Rattle.std.proofs.Common.{◌≡◌, ◌<◌, ℕ, ◌&&◌, true, nat_lt, length, fold, get_or, ◌∙◌, ap, arith}
use Rattle.std.proofs.lemmas.Bool.Decides.{nat_tests}
use Rattle.std.specs.List.{flat_map}
use Rattle.plain_data.specs.Numbers.{is_among}
use Rattle.graphs.specs.Graphs.{supertypes}
use Rattle.ex_subtypes.specs.Faults as spec
use Rattle.ex_subtypes.specs.Legal.{constraints_of, is_direct_subtype}
use Rattle.ex_subtypes.proofs.Readable.{first_fault-next}
use Rattle.ex_subtypes.proofs.build.first_fault.Goals as goal

inside : (k n : ℕ) → k < n → nat_lt k n ≡ true
inside k n less = grind (arith, nat_tests)

pub loop-number-preserved : goal.loop-number-preserved
loop-number-preserved c =
    let entities = c.args.entities.now in
    let k = c.loop-number.number in
    let found = c.loop-number.first in
    let entity = c.index-entities-number.result in
    let same : (s : ℕ) → is_among c.in_ok-subtypes.subtypes.keys s ≡ is_direct_subtype entities k s = λ s.
    c.in_ok-subtypes.ensures s
    ∙ ap (λ l. is_among l s) (c.supertypes.ensures ∙ ap (λ g. supertypes g k) c.deref.ensures.value)
    ∙ c.in_ok-below.ensures k s
    ∙ ap (λ b. b && is_direct_subtype entities k s) (inside k (length entities) c.loop-number-test.true) in
    let here : c.in_ok-first.first ≡ fold spec.sooner found (spec.entity_faults entities k (get_or entities k entity)) =
    c.in_ok-first.ensures
    ∙ (λ i. fold spec.sooner found (flat_map (spec.faults_of (λ s. same s i)) (constraints_of entity)))
    ∙ ap (λ e. fold spec.sooner found (spec.entity_faults entities k e)) c.index-entities-number.is in
    first_fault-next (spec.entity_faults entities) found c.in_ok-first.first (spec.first_fault entities) entities k entity c.loop-number-test.true here c.loop-number.invariant
