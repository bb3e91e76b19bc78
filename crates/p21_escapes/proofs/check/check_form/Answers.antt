use Rattle.std.proofs.Common.{ℕ, ◌+◌, ◌*◌, [], take, drop, Ok, sym, ap, ◌∙◌}
use Rattle.std.proofs.lemmas.Result.{err_from_is_err_and}
use Rattle.p21_escapes.specs.Decoding.{long}
use Rattle.p21_escapes.specs.Forms.{checked}
use Rattle.p21_escapes.proofs.Spelling.{checked_err}
use Rattle.p21_escapes.proofs.check.check_form.Goals as goal

pub returns-in_err-check_long-in-LongGroups-clause-value : goal.returns-in_err-check_long-in-LongGroups-clause-value
returns-in_err-check_long-in-LongGroups-clause-value c =
    let n = c.in-LongGroups.n in
    let z = c.args.z.now in
    let p = err_from_is_err_and (c.from_residual-in_err-check_long-in-LongGroups).result (c.from_residual-in_err-check_long-in-LongGroups).ensures.1 in
    rw (p.1, p.2, c.in-LongGroups.is)
    (sym (checked_err {B = ℕ} (long (take (4 * n) (drop 4 z))) _ (λ _. Ok (4 * n + 8, []))
    (sym ((c.in_err-check_long-in-LongGroups).ensures ∙ ap (λ l. checked (long (take (4 * n) l))) (c.after-in-LongGroups).ensures.value))))
