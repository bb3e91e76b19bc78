use Rattle.std.proofs.Common.{◌≡◌, ◌∙◌, ℕ, List, Bool, true, false, [], ap, sym, rules, refl, get_or, length, ◌≤◌, arith}
use Rattle.std.specs.Prelude.{if◌then◌else◌}
use Rattle.ex_types.specs.Checked.{Checked}
use Rattle.p21_grammar.specs.Schemas.{is_of_schema}
use Rattle.rp_plain.specs.Meaning.{schema_name}
use Rattle.rp_delivery.specs.Choice.{first_named}
use Rattle.rp_delivery.proofs.ChoiceLemmas.{at_this, at_none, never}
use Rattle.rp_delivery.proofs.choice.place_named.Goals as goal

pub returns-in_default : goal.returns-in_default
returns-in_default c =
    let named = rw c.in_default.is at c.in_ok-front.ensures in
    sym (ap (λ f. first_named f 0 c.args.schemas.now) named ∙ never 0 c.args.schemas.now)

pub returns-then-branch : goal.returns-then-branch
returns-then-branch c =
    let schemas = c.args.schemas.now in
    let place = c.loop-place.place in
    let s = c.index-schemas-place.result in
    let named = rw c.in-Some.is at c.in_ok-front.ensures in
    let is : s ≡ get_or schemas place s = search rules in
    let yes : is_of_schema (schema_name s) c.in-Some.front ≡ true = search rules in
    sym (ap (λ f. first_named f 0 schemas) named ∙ c.loop-place.invariant ∙ at_this (λ schema. is_of_schema schema c.in-Some.front) schemas place s c.loop-place-test.true is yes)

pub returns : goal.returns
returns c =
    let schemas = c.args.schemas.now in
    let named = rw c.in-Some.is at c.in_ok-front.ensures in
    let past : length schemas ≤ c.loop-place.place = omega (arith, c.loop-place-test.false) in
    sym (ap (λ f. first_named f 0 schemas) named ∙ c.loop-place.invariant ∙ at_none (λ schema. is_of_schema schema c.in-Some.front) schemas c.loop-place.place past)
