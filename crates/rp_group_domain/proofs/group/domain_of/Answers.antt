use Rattle.std.proofs.Common.{◌≡◌, ◌∙◌, length, map}
use Rattle.std.proofs.lemmas.Result.{IfOk-weaker}
use Rattle.rp_meaning.specs.Reading.{instance_of}
use Rattle.rp_positions.specs.Seen.{all_seen_by}
use Rattle.rp_group_domain.proofs.Writing.{all_seen}
use Rattle.rp_group_domain.proofs.group.domain_of.Goals as goal

pub all_written-requires : goal.all_written-requires
all_written-requires c = record { order = c.requires.order; all = c.requires.population }

pub returns : goal.returns
returns c =
    let schema = c.args.schema.now in
    let checked = c.args.dictionary.now in
    let xs = c.args.population.now in
    let found = c.in_ok-instances.instances.items in
    IfOk-weaker c.new.result
    (λ domain. domain ≡ map (λ i. instance_of schema (length found) i.entities i.values) found)
    (λ domain. domain ≡ all_seen_by schema checked xs)
    (λ _ same. same ∙ all_seen schema checked xs found c.in_ok-instances.ensures)
    c.new.ensures
