use Rattle.std.proofs.Common.{◌++◌, codes, ap, ◌∙◌, sym}
use Rattle.std.proofs.lemmas.Result.{err_from_is_err_and}
use Rattle.rp_snapshot_rows.specs.Reading.{list_at, greatest_at, tail_at}
use Rattle.rp_snapshot_rows.specs.Tokens.{behind_grants, tail_tokens}
use Rattle.rp_snapshot_rows.proofs.Forms.{both_are, some_is, no_fault, grants_opened, greatest_read, tail_again}
use Rattle.rp_snapshot_rows.proofs.reading.model_row.Goals as goal

pub returns-in_err-list_at-clause-again : goal.returns-in_err-list_at-clause-again
returns-in_err-list_at-clause-again c m rest fits is =
    let memory = no_fault c.in_err-list_at.field-0.0 _ _ c.in_err-list_at.ensures.read (ap (list_at (codes "grants")) is ∙ grants_opened m rest) in
    let p = err_from_is_err_and c.from_residual.result c.from_residual.ensures.1 in
    rw p.1 (p.2 ∙ memory)

pub returns-in_err-grants-clause-again : goal.returns-in_err-grants-clause-again
returns-in_err-grants-clause-again c m rest fits is =
    let opened = some_is _ _ (sym c.in_ok-list_at.ensures.read ∙ ap (list_at (codes "grants")) is ∙ grants_opened m rest) in
    let memory = c.in_err-grants.ensures.again m.grants (behind_grants m ++ rest) opened in
    let p = err_from_is_err_and c.from_residual-in_err-grants.result c.from_residual-in_err-grants.ensures.1 in
    rw p.1 (p.2 ∙ memory)

pub returns-in_err-greatest-clause-again : goal.returns-in_err-greatest-clause-again
returns-in_err-greatest-clause-again c m rest fits is =
    let opened = some_is _ _ (sym c.in_ok-list_at.ensures.read ∙ ap (list_at (codes "grants")) is ∙ grants_opened m rest) in
    let granted = c.in_ok-grants.ensures.again m.grants (behind_grants m ++ rest) opened in
    let memory = no_fault c.in_err-greatest.field-0.0 _ _ c.in_err-greatest.ensures.read (ap greatest_at granted.1 ∙ greatest_read m rest fits.0) in
    let p = err_from_is_err_and c.from_residual-in_err-greatest.result c.from_residual-in_err-greatest.ensures.1 in
    rw p.1 (p.2 ∙ memory)

pub returns-in_err-links-clause-again : goal.returns-in_err-links-clause-again
returns-in_err-links-clause-again c m rest fits is =
    let opened = some_is _ _ (sym c.in_ok-list_at.ensures.read ∙ ap (list_at (codes "grants")) is ∙ grants_opened m rest) in
    let granted = c.in_ok-grants.ensures.again m.grants (behind_grants m ++ rest) opened in
    let greatest = both_are _ _ (sym c.in_ok-greatest.ensures.read ∙ ap greatest_at granted.1 ∙ greatest_read m rest fits.0) in
    let memory = c.in_err-links.ensures.again m.holds.content.links (tail_tokens m.owner m.name m.holds.schema ++ rest) fits.1 greatest.1 in
    let p = err_from_is_err_and c.from_residual-in_err-links.result c.from_residual-in_err-links.ensures.1 in
    rw p.1 (p.2 ∙ memory)

pub returns-in_err-key-clause-again : goal.returns-in_err-key-clause-again
returns-in_err-key-clause-again c m rest fits is =
    let opened = some_is _ _ (sym c.in_ok-list_at.ensures.read ∙ ap (list_at (codes "grants")) is ∙ grants_opened m rest) in
    let granted = c.in_ok-grants.ensures.again m.grants (behind_grants m ++ rest) opened in
    let greatest = both_are _ _ (sym c.in_ok-greatest.ensures.read ∙ ap greatest_at granted.1 ∙ greatest_read m rest fits.0) in
    let linked = c.in_ok-links.ensures.again m.holds.content.links (tail_tokens m.owner m.name m.holds.schema ++ rest) fits.1 greatest.1 in
    let memory = no_fault c.in_err-key.field-0.0 _ _ c.in_err-key.ensures.read (ap tail_at linked.1 ∙ tail_again m.owner m.name m.holds.schema rest) in
    let p = err_from_is_err_and c.from_residual-in_err-key.result c.from_residual-in_err-key.ensures.1 in
    rw p.1 (p.2 ∙ memory)

pub returns-clause-again : goal.returns-clause-again
returns-clause-again c m rest fits is =
    let opened = some_is _ _ (sym c.in_ok-list_at.ensures.read ∙ ap (list_at (codes "grants")) is ∙ grants_opened m rest) in
    let granted = c.in_ok-grants.ensures.again m.grants (behind_grants m ++ rest) opened in
    let greatest = both_are _ _ (sym c.in_ok-greatest.ensures.read ∙ ap greatest_at granted.1 ∙ greatest_read m rest fits.0) in
    let linked = c.in_ok-links.ensures.again m.holds.content.links (tail_tokens m.owner m.name m.holds.schema ++ rest) fits.1 greatest.1 in
    let tailed = both_are _ _ (sym c.in_ok-key.ensures.read ∙ ap tail_at linked.1 ∙ tail_again m.owner m.name m.holds.schema rest) in
    (λ i. record { key = (tailed.0 i).0; schema = (tailed.0 i).1; greatest = greatest.0 i; grants = granted.0 i; links = linked.0 i }, tailed.1)
