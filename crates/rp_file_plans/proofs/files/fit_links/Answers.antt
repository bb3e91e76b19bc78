use Rattle.std.proofs.Common.{sym, ◌∙◌, ap}
use Rattle.rp_rows.specs.Contents as contents
use Rattle.rp_plain.specs.Links as of_links
use Rattle.rp_readers.specs.Told.{told}
use Rattle.rp_file_plans.proofs.files.fit_links.Goals as goal

pub returns-in-Some : goal.returns-in-Some
returns-in-Some c = λ unlike.
    let order = c.as_slice.ensures ∙ c.in_ok-links.ensures.same in
    sym (c.in_ok-refusal.ensures ∙ ap (λ ls. of_links.told (of_links.first_fault (told c.args.asked.now) c.args.key.now c.args.schema.now (contents.names c.args.content.now.instances) ls)) order) ∙ c.in-Some.is

pub returns-in-None : goal.returns-in-None
returns-in-None c =
    let order = c.as_slice.ensures ∙ c.in_ok-links.ensures.same in
    (c.in_ok-links.ensures.same, sym (c.in_ok-refusal.ensures ∙ ap (λ ls. of_links.told (of_links.first_fault (told c.args.asked.now) c.args.key.now c.args.schema.now (contents.names c.args.content.now.instances) ls)) order) ∙ c.in-None.is)
