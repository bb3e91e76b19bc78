use Rattle.std.proofs.Common.{◌≡◌, ◌++◌, drop}
use Rattle.plain_data.specs.Numbers.{numbered, numbered_from}
use Rattle.rp_index.specs.Index.{lead}
use Rattle.rp_index.proofs.index.all_leads.Given as goal

abbrev pub invariant-loop-place : goal.invariant-loop-place
invariant-loop-place l = l.found.items ++ numbered_from lead l.place (drop l.place l.links) ≡ numbered lead l.links
