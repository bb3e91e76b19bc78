use Rattle.std.proofs.Common.{◌<◌, ◌≤◌, ◌∙◌, sym, ap, arith, length}
use Rattle.ancestors.proofs.Members.{family_kept, family_past}
use Rattle.ancestors.proofs.descents.all_within.Goals as goal

pub returns-then-member-graph : goal.returns-then-member-graph
returns-then-member-graph c =
    let past : length c.args.graph.now ≤ c.args.member = omega arith in
    c.new.ensures.empty ∙ sym (family_past c.args.graph.now c.args.member past)

pub returns-then-len-limit : goal.returns-then-len-limit
returns-then-len-limit c =
    let within : c.args.member < length c.args.graph.now = omega arith in
    let same = family_kept c.args.graph.now c.args.member c.in-Some.found.keys c.insert.new.self.keys (rw c.in-Some.is at c.in_ok-found.ensures) within c.in_ok-insert.ensures.keys c.in_ok-insert.ensures.ordered in
    let many = ap length same in
    omega (arith, many, c.len.ensures.len, c.if-len-limit.true)

pub returns : goal.returns
returns c =
    let within : c.args.member < length c.args.graph.now = omega arith in
    family_kept c.args.graph.now c.args.member c.in-Some.found.keys c.insert.new.self.keys (rw c.in-Some.is at c.in_ok-found.ensures) within c.in_ok-insert.ensures.keys c.in_ok-insert.ensures.ordered
