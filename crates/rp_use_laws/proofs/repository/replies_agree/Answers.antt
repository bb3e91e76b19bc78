use Rattle.std.proofs.Common.{true}
use Rattle.p21_canonical.specs.Trees.{instance_tree}
use Rattle.p21_laws.specs.Instances.{references_of}
use Rattle.rp_use_laws.proofs.Holding.{all_defined, of_repository}
use Rattle.rp_use_laws.proofs.repository.replies_agree.Goals as goal

pub returns : goal.returns
returns c = of_repository c.args.schemas.now
    (λ schema accepted is_defined stood x i read. c.instance_again.ensures.again schema accepted is_defined stood x i read (λ n. true) (all_defined (references_of (instance_tree schema i).mapping)))
    c.all_bound.ensures c.accepted_schemas.ensures
