use Rattle.std.proofs.Common.{◌∙◌, subst}
use Rattle.p21_grammar.specs.File.{file_of}
use Rattle.rp_plain.specs.Files.{read_for}
use Rattle.rp_readers.specs.Told.{told}
use Rattle.rp_file_plans.specs.Files.{Reads}
use Rattle.rp_file_plans.proofs.files.read_linked.Goals as goal

pub returns : goal.returns
returns c =
    subst (λ names. Reads (read_for (told c.args.asked.now).schemas c.args.model.now names (file_of c.args.file.now)) c.read_for.result) (c.deref.ensures.value ∙ c.in_ok-linked.ensures) c.read_for.ensures
