use Rattle.std.proofs.Common.{◌≡◌, ◌∙◌, ap, List, filter}
use Rattle.plain_data.specs.Numbers.{is_among}
use Rattle.name_tables.specs.Names.{named}
use Rattle.ex_named.specs.declared.reference.AttributePlace.{AttributePlace}
use Rattle.ex_scopes.specs.Attributes.{seen_after, told}
use Rattle.ex_scopes.specs.declared.seen.Seen.TheVariants.{Nothing}
use Rattle.ex_scopes.specs.Sorts.{admitted}
use Rattle.ex_scopes.proofs.Runs.{if_said}
use Rattle.ex_scopes.proofs.Told.{told_all}
use Rattle.ex_scopes.proofs.attributes.AttributeRows.meaning.Goals as goal

pub and_left-requires-clause-ascending : goal.and_left-requires-clause-ascending
and_left-requires-clause-ascending c = λ said. rw c.get-places.ensures (if_said (λ (a : AttributePlace). a.entity) c.self.inside.is_ascending c.self.inside.last_entity c.self.inside.rows c.args.name.now c.self.invariant said)

pub returns : goal.returns
returns c =
    let can = admitted c.args.sorts in
    let keep = λ (a : AttributePlace). is_among c.args.family.now a.entity in
    let places = named c.args.name.now c.self.inside.rows in
    let all : c.in_ok-seen.seen ≡ seen_after can Nothing (filter keep places) = c.in_ok-seen.ensures
    ∙ ap (λ (ps : List AttributePlace). seen_after can Nothing (filter keep ps)) c.get-places.ensures in
    rw (← c.self.view_is) (c.meaning.ensures ∙ ap (told can) all ∙ told_all can (filter keep places))
