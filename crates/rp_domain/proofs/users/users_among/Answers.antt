use Rattle.std.proofs.Common.{◌∙◌, sym}
use Rattle.rp_domain.specs.Chains.{row_to}
use Rattle.rp_domain.proofs.Walked.{walk_step, walk_end}
use Rattle.rp_domain.proofs.users.users_among.Goals as goal

pub walk-preserved : goal.walk-preserved
walk-preserved c =
    let links = c.args.users.now.0 in
    let last = c.in-Some.last in
    walk_step c.args.role.now (row_to links c.walk.end) (row_to links last.1) last.0.now c.walk.found.items c.push_user.new.found.items c.in-Some.ensures.0 c.in_ok-push_user.ensures
    ∙ c.walk.invariant

pub returns : goal.returns
returns c =
    c.from_vec.ensures
    ∙ (c.reverse.ensures.items ∙ (sym (walk_end c.args.role.now (row_to c.args.users.now.0 c.walk.end) c.walk.found.items c.in_default.ensures) ∙ c.walk.invariant))
