use Rattle.std.proofs.Common.{◌≡◌, ◌∙◌, ◌<◌, ◌≤◌, sym, ap, arith, length}
use Rattle.rp_meaning.specs.Populations.{instances}
use Rattle.rp_meaning.specs.Uses as spec
use Rattle.rp_domain.specs.Chains as chains
use Rattle.rp_domain.specs.Rows.{row}
use Rattle.rp_domain.proofs.Links.{no_row, row_at}
use Rattle.rp_domain.proofs.Put.{rows-are, as-many, row-read, none-stands}
use Rattle.rp_domain.proofs.Uses.{users_at, no_users}
use Rattle.rp_domain.proofs.domain.ListDomainDomain.users.Goals as goal

pub returns-in-Some : goal.returns-in-Some
returns-in-Some c =
    let users = c.self.inside.users in
    let rows = chains.rows users.0 users.1 in
    let found = chains.row_to users.0 c.in-Some.end in
    let population = c.self.inside.instances in
    let uses = spec.uses_from 0 population in
    let many : length rows ≡ length population = ap length c.self.invariant.users ∙ as-many (length population) uses in
    let stands = row-read rows c.args.at found (row_at users.0 users.1 c.args.at c.in-Some.end c.in-Some.ensures) in
    let here : c.args.at < length rows = stands.1 in
    let within : c.args.at < length population = omega (arith, many, here) in
    let read : found ≡ spec.uses_at c.args.at uses =
    sym stands.0 ∙ (ap (λ rs. row rs c.args.at) c.self.invariant.users ∙ rows-are (length population) uses c.args.at within) in
    let same : instances (spec.places_among c.args.role.now found) ≡ spec.users c.args.self.now c.args.role.now c.args.at =
    ap (λ us. instances (spec.places_among c.args.role.now us)) read ∙ (sym (users_at c.args.role.now c.args.at population within) ∙ ap (λ p. spec.users p c.args.role.now c.args.at) c.self.view_is) in
    rw same at c.users_among.ensures

pub returns-in-None : goal.returns-in-None
returns-in-None c =
    let users = c.self.inside.users in
    let rows = chains.rows users.0 users.1 in
    let population = c.self.inside.instances in
    let many : length rows ≡ length population = ap length c.self.invariant.users ∙ as-many (length population) (spec.uses_from 0 population) in
    let none : length rows ≤ c.args.at = none-stands rows c.args.at (no_row users.0 users.1 c.args.at c.in-None.ensures) in
    c.new.ensures ∙ (sym (no_users c.args.role.now c.args.at population (omega (arith, many, none))) ∙ ap (λ p. spec.users p c.args.role.now c.args.at) c.self.view_is)
