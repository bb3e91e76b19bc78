use Rattle.std.proofs.Common.{◌≡◌, length}
use Rattle.rp_plain.specs.Valid.{IsValid}
use Rattle.rp_restore.proofs.Left.{GroupsReadOn}
use Rattle.rp_restore.proofs.groups.groups.Given as goal

abbrev pub invariant-groups : goal.invariant-groups
invariant-groups l = IsValid l.holdings.content × (l.holdings.content.schemas ≡ l.initial.holdings.content.schemas) × (l.holdings.content.partners ≡ l.initial.holdings.content.partners) × GroupsReadOn l.initial.reader l.initial.holdings.content l.reader l.holdings.content

abbrev pub decreases-groups : goal.decreases-groups
decreases-groups l = length l.reader
