use Rattle.std.proofs.Common.{◌≡◌, ◌∙◌, ap, filter, length}
use Rattle.std.specs.BTreeSet.{insert_key}
use Rattle.std.specs.Ordering.{is_gt, nat_cmp}
use Rattle.graphs.proofs.Families.{family_is}
use Rattle.graphs.proofs.reached.family.Goals as goal

pub returns : goal.returns
returns c =
    let graph = c.args.graph.now in
    let above = c.in_ok-found.found.keys in
    let kept : c.split_off.new.self.keys ≡ filter (λ k. is_gt (nat_cmp (length graph) k)) (insert_key nat_cmp above c.args.member) =
    c.in_ok-split_off.ensures.below ∙ ap (filter (λ k. is_gt (nat_cmp (length graph) k))) c.in_ok-insert.ensures.keys in
    family_is graph c.args.member above c.split_off.new.self.keys c.in_ok-found.ensures kept c.split_off.ensures.ordered
