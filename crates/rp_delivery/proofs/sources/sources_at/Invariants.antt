use Rattle.std.specs.Prelude.{IfSome}
use Rattle.rp_delivery.proofs.SourceLemmas.{Found}
use Rattle.rp_delivery.proofs.sources.sources_at.Given as goal

abbrev pub invariant-loop-path : goal.invariant-loop-path
invariant-loop-path g l = IfSome (g.D.Folder.files l.folder) (λ held. Found (λ path. path.now) held l.paths l.path-index l.schemas)
