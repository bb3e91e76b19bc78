use Rattle.std.proofs.Common.{map}
use Rattle.std.specs.List.{IsDistinct}
use Rattle.std.specs.List.Sorted.{IsStrictlySortedBy}
use Rattle.std.specs.Ordering.{eq_by_cmp}
use Rattle.name_tables.specs.Names.{by_lent_bytes}
use Rattle.ex_declarations.proofs.Distinct.{once_distinct, once_distinct_sorted, texts_of}
use Rattle.ex_declarations.proofs.uniqueness.are_distinct.Goals as goal

pub returns : goal.returns
returns c =
    λ told.
    let sorted : IsStrictlySortedBy by_lent_bytes c.sort_unstable.new.self.items = rw c.deref-2.ensures.value at c.are_ascending.ensures told in
    once_distinct_sorted (map (λ n. n.now) c.args.names.now) c.in_ok-texts.texts.items c.sort_unstable.new.self.items (texts_of c.args.names.now _ c.in_ok-texts.ensures) c.sort_unstable.ensures.permutation sorted

pub returns-then-branch : goal.returns-then-branch
returns-then-branch c =
    λ told.
    let distinct : IsDistinct (eq_by_cmp by_lent_bytes) c.in_ok-texts.texts.items = rw c.deref.ensures.value at c.in_ok-hashes_differ.ensures c.if-branch.true in
    once_distinct (map (λ n. n.now) c.args.names.now) c.in_ok-texts.texts.items (texts_of c.args.names.now _ c.in_ok-texts.ensures) distinct
