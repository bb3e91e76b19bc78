use Rattle.std.proofs.Common.{◌≡◌, length}
use Rattle.rp_plain.specs.Valid.{IsValid}
use Rattle.rp_snapshots.specs.Snapshots.{first_version, file_in}
use Rattle.rp_restore.proofs.Left.{ModelsReadOn}
use Rattle.rp_restore.proofs.models.models.Given as goal

abbrev pub invariant-models : goal.invariant-models
invariant-models l = IsValid l.holdings.content × (l.holdings.content.schemas ≡ l.initial.holdings.content.schemas) × (l.holdings.content.partners ≡ l.initial.holdings.content.partners) × ModelsReadOn (file_in first_version l.initial.holdings.content.schemas) l.initial.reader l.initial.holdings.content l.reader l.holdings.content

abbrev pub decreases-models : goal.decreases-models
decreases-models l = length l.reader
