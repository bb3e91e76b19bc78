use Rattle.std.proofs.Common.{drop, take, ◌∙◌, ap, subst, arith}
use Rattle.sorted_tables.specs.Table.{IsAscending}
use Rattle.rp_rows.specs.Rows.{key_cmp}
use Rattle.rp_store.specs.Entries.{entry_key}
use Rattle.rp_store.proofs.Counting.{up_to_owner}
use Rattle.rp_store.proofs.Owned.{last_within, own_part}
use Rattle.rp_store.proofs.keyed.Keyed.of_owner.Goals as goal

pub part-requires-clause-order : goal.part-requires-clause-order
part-requires-clause-order g c =
    omega (arith, up_to_owner c.args.owner.now c.args.self.now.entries, c.first_place-first.ensures, c.last_place-last.ensures)

pub part-requires-clause-within : goal.part-requires-clause-within
part-requires-clause-within g c =
    last_within c.args.owner.now c.args.self.now.entries c.self.inside.entries.items c.last_place-last.result c.last_place-last.ensures (ap (λ s. s.entries) c.self.view_is)

pub returns : goal.returns
returns g c =
    let seen = ap (λ s. s.entries) c.self.view_is in
    let order = subst (λ xs. IsAscending key_cmp entry_key xs) seen c.self.invariant in
    c.part.ensures
    ∙ (λ i. drop (c.first_place-first.ensures i) (take (c.last_place-last.ensures i) (seen i)))
    ∙ own_part c.args.owner.now c.args.self.now.entries order
