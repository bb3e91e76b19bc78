use Rattle.std.proofs.Common.{[], ◌∷◌, sym, ◌∙◌, ap}
use Rattle.p21_grammar.specs.File.{file_of}
use Rattle.rp_rows.specs.Contents.{link_names}
use Rattle.rp_plain.specs.Meaning.{first_some}
use Rattle.rp_plain.specs.Files.{read_for}
use Rattle.rp_readers.specs.Told.{told}
use Rattle.rp_file_plans.specs.Files.{read_tests}
use Rattle.rp_file_plans.proofs.files.linked_by.Goals as goal

pub returns-in-Err : goal.returns-in-Err
returns-in-Err c = λ unlike.
    let a = told c.args.asked.now in
    let h = c.args.model.now in
    let says = ap (λ ls. read_for a.schemas h (link_names ls) (file_of c.args.file.now)) (sym c.as_slice.ensures) ∙ c.in-Err.ensures unlike in
    ap (λ read. first_some (read_tests a c.args.key.now h c.args.links read)) says

pub returns-in-Err-fit_links : goal.returns-in-Err-fit_links
returns-in-Err-fit_links c = λ unlike.
    let a = told c.args.asked.now in
    let h = c.args.model.now in
    let says = ap (λ ls. read_for a.schemas h (link_names ls) (file_of c.args.file.now)) (sym c.as_slice.ensures) ∙ c.in-Ok.ensures in
    ap (λ read. first_some (read_tests a c.args.key.now h c.args.links read)) says ∙ ap (λ o. first_some (o ∷ [])) (c.in-Err-fit_links.ensures unlike)

pub returns-in-Ok-fit_links : goal.returns-in-Ok-fit_links
returns-in-Ok-fit_links c =
    let a = told c.args.asked.now in
    let h = c.args.model.now in
    let x = c.in-Ok.content in
    let fit = c.in-Ok-fit_links.ensures in
    record {
      content = x;
      says = ap (λ ls. read_for a.schemas h (link_names ls) (file_of c.args.file.now)) (sym c.as_slice.ensures) ∙ c.in-Ok.ensures;
      passes = fit.1;
      is = ap (λ ls. record x { links = ls }) fit.0;
    }
