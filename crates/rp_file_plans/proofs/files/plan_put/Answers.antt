use Rattle.std.proofs.Common.{◌∷◌, ◌∙◌, sym, ap}
use Rattle.rp_plain.specs.declared.messages.Request.TheVariants.{Put}
use Rattle.rp_plain.specs.Meaning.{first_some}
use Rattle.rp_plain.specs.Links as of_links
use Rattle.rp_readers.specs.Told.{told}
use Rattle.rp_file_plans.specs.Files.{cheap_tests}
use Rattle.rp_file_plans.proofs.Putting.{unread, absent, not_linked, refused_with, is_linked}
use Rattle.rp_file_plans.proofs.files.plan_put.Goals as goal

pub returns-in-Some : goal.returns-in-Some
returns-in-Some c = λ unlike.
    let a = told c.args.asked.now in
    let k = c.args.key in
    let file = c.args.file.now in
    unread a c.args.asked.now.caller.now k file c.args.links c.in-Some.refusal (sym (c.in-Some.ensures ∙ ap (λ ls. first_some (of_links.no_request ls ∷ cheap_tests a k file)) c.as_slice.ensures))

pub returns-in_default-content : goal.returns-in_default-content
returns-in_default-content c = λ unlike.
    let a = told c.args.asked.now in
    let k = c.args.key in
    let file = c.args.file.now in
    absent a c.args.asked.now.caller.now k file c.args.links (sym (c.in_default.ensures ∙ ap (λ ls. first_some (of_links.no_request ls ∷ cheap_tests a k file)) c.as_slice.ensures)) c.in_default-content.ensures

pub returns-in_err-content : goal.returns-in_err-content
returns-in_err-content c =
    let a = told c.args.asked.now in
    let who = c.args.asked.now.caller.now in
    let k = c.args.key in
    let file = c.args.file.now in
    let why = c.in_err-content.field-0.0 in
    refused_with a who (Put k file c.args.links) why c.from_residual.result c.from_residual.ensures.1 (λ unlike.
    not_linked a who k file c.args.links (sym (c.in_default.ensures ∙ ap (λ ls. first_some (of_links.no_request ls ∷ cheap_tests a k file)) c.as_slice.ensures)) c.in-Some-content.model.now c.in-Some-content.ensures
    why (c.in_err-content.ensures unlike))

pub returns : goal.returns
returns c =
    let a = told c.args.asked.now in
    let k = c.args.key in
    let file = c.args.file.now in
    is_linked a c.args.asked.now.caller.now k file c.args.links (sym (c.in_default.ensures ∙ ap (λ ls. first_some (of_links.no_request ls ∷ cheap_tests a k file)) c.as_slice.ensures)) c.in-Some-content.model.now c.in-Some-content.ensures
    c.in_ok-content.content c.len.result c.in_ok-content.ensures c.len.ensures c.in_ok-of.field-0 c.in_ok-of.ensures
