use Rattle.std.proofs.Common.{◌≡◌, arith}
use Rattle.std.specs.BTreeMap.Entry.{map_with_value}
use Rattle.rp_listers.specs.Kept.{others_at}
use Rattle.rp_listers.proofs.Told.{others_kept, other_added}
use Rattle.rp_listers.proofs.listers.add_other.Goals as goal

pub returns-clause-kept : goal.returns-clause-kept
returns-clause-kept c =
    let old = c.args.others.now in
    let new = map_with_value c.in_ok-others.field-0 c.add.new.self in
    let was = c.or_insert-keys.result.now in
    let stood : was ≡ others_at c.args.number old.entries = grind arith in
    let all = others_kept old new c.args.number c.args.lister was c.add.new.self c.add.result (c.in_ok-others.ensures.update.0 c.add.new.self).0 stood c.add.ensures.added c.add.ensures.kept in
    λ k n has. grind (arith, all k n has)

pub returns-clause-added : goal.returns-clause-added
returns-clause-added c =
    let old = c.args.others.now in
    let new = map_with_value c.in_ok-others.field-0 c.add.new.self in
    let was = c.or_insert-keys.result.now in
    let stood : was ≡ others_at c.args.number old.entries = grind arith in
    let all = other_added old new c.args.number c.args.lister was c.add.new.self c.add.result (c.in_ok-others.ensures.update.0 c.add.new.self).0 stood c.add.ensures.added c.add.ensures.kept in
    grind (arith, all)
