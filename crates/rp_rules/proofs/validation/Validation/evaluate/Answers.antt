use Rattle.std.proofs.Common.{◌≡◌, ℕ, List, OnOk, ap, subst}
use Rattle.rp_meaning.specs.declared.report.Check.{Check}
use Rattle.rp_rules.proofs.Sequences.{evaluated}
use Rattle.rp_rules.proofs.validation.Validation.evaluate.Goals as goal

pub returns-clause-checks : goal.returns-clause-checks
returns-clause-checks g c =
    let schema = c.args.self.now.schema.now in
    let population = g.D.Domain.population c.args.self.now.domain.now in
    let all = evaluated schema population c.args.checks.now c.checks_of.new.checks c.checks_of-2.new.checks c.checks_of-3.new.checks c.checks_of-4.new.checks
    c.args.used.now.steps c.checks_of.new.used.steps c.checks_of-2.new.used.steps c.checks_of-3.new.used.steps c.checks_of-4.new.used.steps
    ((rw c.as_slice.ensures at c.in_ok-checks_of.ensures.checks), (rw c.as_slice.ensures at c.in_ok-checks_of.ensures.used))
    ((rw c.as_slice-2.ensures at c.in_ok-checks_of-2.ensures.checks), (rw c.as_slice-2.ensures at c.in_ok-checks_of-2.ensures.used))
    ((rw c.as_slice-3.ensures at c.in_ok-checks_of-3.ensures.checks), (rw c.as_slice-3.ensures at c.in_ok-checks_of-3.ensures.used))
    ((rw c.as_slice-4.ensures at c.in_ok-checks_of-4.ensures.checks), (rw c.as_slice-4.ensures at c.in_ok-checks_of-4.ensures.used)) in
    let last = rw c.as_slice-5.ensures at c.checks_of-5.ensures.checks in
    subst (λ (x : List Check). OnOk c.checks_of-5.result (c.checks_of-5.new.checks ≡ x)) (ap (λ (p : List Check × ℕ). p.0) all) last

pub returns-clause-used : goal.returns-clause-used
returns-clause-used g c =
    let schema = c.args.self.now.schema.now in
    let population = g.D.Domain.population c.args.self.now.domain.now in
    let all = evaluated schema population c.args.checks.now c.checks_of.new.checks c.checks_of-2.new.checks c.checks_of-3.new.checks c.checks_of-4.new.checks
    c.args.used.now.steps c.checks_of.new.used.steps c.checks_of-2.new.used.steps c.checks_of-3.new.used.steps c.checks_of-4.new.used.steps
    ((rw c.as_slice.ensures at c.in_ok-checks_of.ensures.checks), (rw c.as_slice.ensures at c.in_ok-checks_of.ensures.used))
    ((rw c.as_slice-2.ensures at c.in_ok-checks_of-2.ensures.checks), (rw c.as_slice-2.ensures at c.in_ok-checks_of-2.ensures.used))
    ((rw c.as_slice-3.ensures at c.in_ok-checks_of-3.ensures.checks), (rw c.as_slice-3.ensures at c.in_ok-checks_of-3.ensures.used))
    ((rw c.as_slice-4.ensures at c.in_ok-checks_of-4.ensures.checks), (rw c.as_slice-4.ensures at c.in_ok-checks_of-4.ensures.used)) in
    let last = rw c.as_slice-5.ensures at c.checks_of-5.ensures.used in
    subst (λ (x : ℕ). OnOk c.checks_of-5.result (c.checks_of-5.new.used.steps ≡ x)) (ap (λ (p : List Check × ℕ). p.1) all) last
