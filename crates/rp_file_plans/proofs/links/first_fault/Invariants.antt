use Rattle.std.proofs.Common.{◌≡◌, drop}
use Rattle.rp_plain.specs.Links.{first_fault}
use Rattle.rp_readers.specs.Told.{told}
use Rattle.rp_file_plans.specs.Links.{AreInOrder}
use Rattle.rp_file_plans.proofs.links.first_fault.Given as goal

abbrev pub invariant-loop-i : goal.invariant-loop-i
invariant-loop-i l =
    AreInOrder (drop l.i l.links)
    × (first_fault (told l.asked) l.holder.key.now l.holder.schema.now l.holder.instances.now (drop l.i l.links) ≡ first_fault (told l.asked) l.holder.key.now l.holder.schema.now l.holder.instances.now l.links)
