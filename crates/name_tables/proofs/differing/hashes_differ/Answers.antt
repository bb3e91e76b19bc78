use Rattle.std.specs.List.Sorted.{IsStrictlySortedBy}
use Rattle.std.specs.Ordering.{nat_cmp}
use Rattle.name_tables.proofs.Apart.{names_differ}
use Rattle.name_tables.proofs.differing.hashes_differ.Goals as goal

pub returns : goal.returns
returns c =
    λ told.
    let sorted : IsStrictlySortedBy nat_cmp c.sort_unstable.new.self.items = rw c.deref.ensures.value at c.are_ascending.ensures told in
    names_differ c.args.names.now c.in_ok-hashes.hashes.items c.sort_unstable.new.self.items c.in_ok-hashes.ensures c.sort_unstable.ensures.permutation sorted
