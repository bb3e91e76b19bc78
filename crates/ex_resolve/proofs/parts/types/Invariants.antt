use Rattle.std.proofs.Common.{◌≡◌, [], ◌+◌, length}
use Rattle.ex_declarations.specs.Declared.{each_numbered, each_numbered_after}
use Rattle.ex_bind_entities.specs.Entities as spec
use Rattle.ex_resolve.proofs.parts.types.Given as goal

abbrev pub invariant-loop-tree : goal.invariant-loop-tree
invariant-loop-tree l = record {
  found : each_numbered_after (spec.named_type l.declarations [] l.held) l.number l.found l.left ≡ each_numbered (spec.named_type l.declarations [] l.held) l.initial.left;
  counted : l.number + length l.left ≡ length l.initial.left;
}

abbrev pub decreases-loop-tree : goal.decreases-loop-tree
decreases-loop-tree l = length l.left
