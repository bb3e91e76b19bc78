use Rattle.std.proofs.Common.{[], fold}
use Rattle.plain_data.specs.Numbers.{is_among}
use Rattle.ex_subtypes.specs.Faults as spec
use Rattle.ex_subtypes.proofs.Readable.{fault_among-next}
use Rattle.ex_subtypes.proofs.build.fault_among.Goals as goal

pub loop-mention-preserved : goal.loop-mention-preserved
loop-mention-preserved c =
    let is_subtype = is_among c.args.subtypes.now.keys in
    let mentions = c.args.mentions.now in
    fault_among-next is_subtype c.loop-mention.before.keys c.insert.new.self.keys c.loop-mention.first c.fault_at-first.result (fold spec.sooner c.args.found (spec.faults_after is_subtype [] mentions))
    mentions c.loop-mention.mention-index (record { entity = 0; at = 0 }) c.loop-mention-test.true c.in_ok-insert.ensures.keys c.fault_at-first.ensures c.loop-mention.invariant
