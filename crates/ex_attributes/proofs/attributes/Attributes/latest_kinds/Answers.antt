use Rattle.std.proofs.Common.{◌∙◌}
use Rattle.std.proofs.lemmas.List.{length-map}
use Rattle.ex_attributes.specs.Steps.{read}
use Rattle.ex_attributes.proofs.Several.{alone}
use Rattle.ex_attributes.proofs.attributes.Attributes.latest_kinds.Goals as goal

pub returns-then-all-eq1 : goal.returns-then-all-eq1
returns-then-all-eq1 c = rw (alone c.args.self.now (read c.args.all.now) (length-map c.args.all.now (λ r. r.now) ∙ c.if-all-eq1.true)) c.all_kinds.ensures
