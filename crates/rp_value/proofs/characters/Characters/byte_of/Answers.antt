use Rattle.std.proofs.Common.{sym, ◌∙◌, ap}
use Rattle.rp_value.specs.Held.{text_of}
use Rattle.rp_value.proofs.Ends.{end_of, end-nil}
use Rattle.rp_value.proofs.characters.Characters.byte_of.Goals as goal

pub returns-in-Empty : goal.returns-in-Empty
returns-in-Empty c =
    let none = sym c.self.view_is ∙ ap text_of c.in-Empty.is in
    sym (ap (end_of c.args.character) none ∙ end-nil c.args.character)
