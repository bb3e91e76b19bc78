use Rattle.std.proofs.Common.{[], Ok, Err, rules, sym}
use Rattle.std.proofs.lemmas.Fn.{always_returns_same}
use Rattle.name_tables.specs.Names.{by_lent_bytes}
use Rattle.name_tables.proofs.Halving.{halved}
use Rattle.name_tables.proofs.sorted.find.Goals as goal

pub returns-in-Ok : goal.returns-in-Ok
returns-in-Ok c =
    let facts = c.in-Ok.ensures in
    let compared = facts.position (λ e. by_lent_bytes e.0 c.args.name) (always_returns_same _ _ _ (λ a r f called. search rules)) in
    sym (halved c.args.sorted.now c.requires c.args.name (record { ref_ptr = (0, 0); now = [] }, 0) (Ok c.in-Ok.at) facts.bound compared)

pub returns-in-Err : goal.returns-in-Err
returns-in-Err c =
    let facts = c.in-Err.ensures in
    let compared = facts.position (λ e. by_lent_bytes e.0 c.args.name) (always_returns_same _ _ _ (λ a r f called. search rules)) in
    sym (halved c.args.sorted.now c.requires c.args.name (record { ref_ptr = (0, 0); now = [] }, 0) (Err c.in-Err.field-0) facts.bound compared)
