use Rattle.std.proofs.Common.{sym, ◌∙◌}
use Rattle.std.proofs.lemmas.Map.Text.{is_eq-slice_cmp}
use Rattle.std.specs.Prelude.{bytes_eq}
use Rattle.rp_operators.proofs.scalars.are_equal.Goals as goal

pub returns : goal.returns
returns c =
    c.eq.ensures
    ∙ (λ i. bytes_eq (c.as_bytes.ensures i) (c.as_bytes-2.ensures i))
    ∙ sym (is_eq-slice_cmp c.args.s.now c.args.t.now)
