use Rattle.std.proofs.Common.{◌≡◌, true, rules, sym, ◌∙◌, arith}
use Rattle.graphs.specs.Graphs.{family}
use Rattle.graphs.proofs.Families.{family_rises}
use Rattle.ancestors.specs.Kept.{is_alone}
use Rattle.ancestors.proofs.Members.{family_alone}
use Rattle.ancestors.proofs.descents.Descent.family_within.Goals as goal

pub returns-then-is_alone-clause-exact : goal.returns-then-is_alone-clause-exact
returns-then-is_alone-clause-exact c =
    let is : is_alone c.args.self.now c.args.member ≡ true = grind arith in
    c.in_ok-from_slice.ensures.items ∙ sym (family_alone c.args.self.now c.args.member is)

pub returns-in_ok-all-in-Some-2-clause-ascending : goal.returns-in_ok-all-in-Some-2-clause-ascending
returns-in_ok-all-in-Some-2-clause-ascending c =
    let same : c.in_ok-all-in-Some-2.all.items ≡ family c.args.self.now c.args.member = search rules in
    rw same (family_rises c.args.self.now c.args.member)

pub returns-in-Some-clause-ascending : goal.returns-in-Some-clause-ascending
returns-in-Some-clause-ascending c =
    let same : c.in-Some.found.items ≡ family c.args.self.now c.args.member = search rules in
    rw same (family_rises c.args.self.now c.args.member)
