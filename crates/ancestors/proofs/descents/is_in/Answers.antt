use Rattle.ancestors.proofs.Members.{told_in, told_same, told_other_ok, none_past, none_of_past}
use Rattle.ancestors.proofs.descents.is_in.Goals as goal

pub returns-then-member-count : goal.returns-then-member-count
returns-then-member-count c = none_of_past c.args.trees.now.graph.items c.args.member c.args.number (rw c.member_count-count.ensures at c.if-member-count.true)

pub returns-then-number-count : goal.returns-then-number-count
returns-then-number-count c = none_past c.args.trees.now.graph.items c.args.member c.args.number (rw c.member_count-count.ensures at c.if-number-count.true)

pub returns-then-member-number : goal.returns-then-member-number
returns-then-member-number c = told_same c.args.trees.now.graph.items c.args.member c.args.number (rw c.member_count-count.ensures at c.if-number-count.false) c.if-member-number.true

pub returns-in-Some : goal.returns-in-Some
returns-in-Some c = told_in c.args.trees.now.graph.items c.args.member c.args.number (rw c.member_count-count.ensures at c.if-number-count.false) c.in-Some.told c.in-Some.ensures

pub returns-in-None : goal.returns-in-None
returns-in-None c = told_other_ok c.args.trees.now.graph.items c.args.member c.args.number (rw c.member_count-count.ensures at c.if-number-count.false) c.if-member-number.false c.is_above.result c.is_above.ensures
