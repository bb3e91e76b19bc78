use Rattle.std.proofs.Common.{sym, ◌∙◌}
use Rattle.rp_meaning.specs.Populations.{as_read}
use Rattle.rp_eval_parts.proofs.Found.{read-last, read-nowhere}
use Rattle.rp_eval_parts.proofs.attributes.read_at.Goals as goal

pub returns-in-Some : goal.returns-in-Some
returns-in-Some c = c.last_read.ensures ∙ sym (read-last c.args.written.now c.args.differing.now c.args.place _ (sym c.in-Some.ensures))

pub returns-in-None : goal.returns-in-None
returns-in-None c = sym (read-nowhere c.args.written.now (as_read c.args.differing.now c.args.written.now) c.args.place (sym c.in-None.ensures))
