use Rattle.std.proofs.Common.{◌≡◌, [], drop, fold}
use Rattle.plain_data.specs.Numbers.{is_among}
use Rattle.ex_subtypes.specs.Faults as spec
use Rattle.ex_subtypes.proofs.build.fault_among.Given as goal

abbrev pub invariant-loop-mention : goal.invariant-loop-mention
invariant-loop-mention l =
    fold spec.sooner l.first (spec.faults_after (is_among l.subtypes.keys) l.before.keys (drop l.mention-index l.mentions))
    ≡ fold spec.sooner l.initial.first (spec.faults_after (is_among l.subtypes.keys) [] l.mentions)
