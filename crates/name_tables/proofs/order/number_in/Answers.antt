use Rattle.std.proofs.Common.{arith, ◌≡◌, true, false, rules, sym, ◌∙◌, ap, if◌then◌else◌, Some, None}
use Rattle.std.specs.Str.{bytes_eq}
use Rattle.name_tables.proofs.Ranks.{told_some, told_none}
use Rattle.name_tables.proofs.order.number_in.Goals as goal

pub returns-in-Some : goal.returns-in-Some
returns-in-Some c =
    let at = c.first_not_before in
    let row = c.in-Some.row.now in
    let found = c.in-Some.ensures.lookup in
    let same : bytes_eq row.0 c.args.name.now ≡ true = search rules in
    sym (told_some c.args.name.now c.args.rows.now c.requires at.result at.ensures.within at.ensures.parts row (grind (arith, found.0)) found.1 ∙ ap (λ t. if t then Some row.1 else None) same)

pub returns-in_default : goal.returns-in_default
returns-in_default c =
    let at = c.first_not_before in
    let row = c.in-Some.row.now in
    let found = c.in-Some.ensures.lookup in
    let apart : bytes_eq row.0 c.args.name.now ≡ false = search rules in
    sym (told_some c.args.name.now c.args.rows.now c.requires at.result at.ensures.within at.ensures.parts row (grind (arith, found.0)) found.1 ∙ ap (λ t. if t then Some row.1 else None) apart)

pub returns-in_default-2 : goal.returns-in_default-2
returns-in_default-2 c =
    let at = c.first_not_before in
    sym (told_none c.args.name.now c.args.rows.now c.requires at.result at.ensures.within at.ensures.parts (search rules))
