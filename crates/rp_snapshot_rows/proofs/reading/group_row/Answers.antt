use Rattle.std.proofs.Common.{◌++◌, codes, ap, ◌∙◌, sym}
use Rattle.std.proofs.lemmas.Result.{err_from_is_err_and}
use Rattle.rp_snapshot_rows.specs.Reading.{first_list_at, list_at, tail_at}
use Rattle.rp_snapshot_rows.specs.Tokens.{behind_readers, tail_tokens}
use Rattle.rp_snapshot_rows.proofs.Forms.{both_are, some_is, no_fault, readers_opened, members_opened, tail_again}
use Rattle.rp_snapshot_rows.proofs.reading.group_row.Goals as goal

pub returns-in_err-first_list_at-clause-again : goal.returns-in_err-first_list_at-clause-again
returns-in_err-first_list_at-clause-again c g rest reads is =
    let memory = no_fault c.in_err-first_list_at.field-0.0 _ _ c.in_err-first_list_at.ensures.read (ap (first_list_at (codes "grants")) is ∙ readers_opened g rest) in
    let p = err_from_is_err_and c.from_residual.result c.from_residual.ensures.1 in
    rw p.1 (p.2 ∙ memory)

pub returns-in_err-grants-clause-again : goal.returns-in_err-grants-clause-again
returns-in_err-grants-clause-again c g rest reads is =
    let opened = some_is _ _ (sym c.in_ok-first_list_at.ensures.read ∙ ap (first_list_at (codes "grants")) is ∙ readers_opened g rest) in
    let memory = c.in_err-grants.ensures.again g.grants (behind_readers g ++ rest) reads opened in
    let p = err_from_is_err_and c.from_residual-in_err-grants.result c.from_residual-in_err-grants.ensures.1 in
    rw p.1 (p.2 ∙ memory)

pub returns-in_err-list_at-clause-again : goal.returns-in_err-list_at-clause-again
returns-in_err-list_at-clause-again c g rest reads is =
    let opened = some_is _ _ (sym c.in_ok-first_list_at.ensures.read ∙ ap (first_list_at (codes "grants")) is ∙ readers_opened g rest) in
    let granted = c.in_ok-grants.ensures.again g.grants (behind_readers g ++ rest) reads opened in
    let memory = no_fault c.in_err-list_at.field-0.0 _ _ c.in_err-list_at.ensures.read (ap (list_at (codes "members")) granted.1 ∙ members_opened g rest) in
    let p = err_from_is_err_and c.from_residual-in_err-list_at.result c.from_residual-in_err-list_at.ensures.1 in
    rw p.1 (p.2 ∙ memory)

pub returns-in_err-members-clause-again : goal.returns-in_err-members-clause-again
returns-in_err-members-clause-again c g rest reads is =
    let opened = some_is _ _ (sym c.in_ok-first_list_at.ensures.read ∙ ap (first_list_at (codes "grants")) is ∙ readers_opened g rest) in
    let granted = c.in_ok-grants.ensures.again g.grants (behind_readers g ++ rest) reads opened in
    let listed = some_is _ _ (sym c.in_ok-list_at.ensures.read ∙ ap (list_at (codes "members")) granted.1 ∙ members_opened g rest) in
    let memory = c.in_err-members.ensures.again g.holds.members (tail_tokens g.owner g.name g.holds.schema ++ rest) listed in
    let p = err_from_is_err_and c.from_residual-in_err-members.result c.from_residual-in_err-members.ensures.1 in
    rw p.1 (p.2 ∙ memory)

pub returns-in_err-key-clause-again : goal.returns-in_err-key-clause-again
returns-in_err-key-clause-again c g rest reads is =
    let opened = some_is _ _ (sym c.in_ok-first_list_at.ensures.read ∙ ap (first_list_at (codes "grants")) is ∙ readers_opened g rest) in
    let granted = c.in_ok-grants.ensures.again g.grants (behind_readers g ++ rest) reads opened in
    let listed = some_is _ _ (sym c.in_ok-list_at.ensures.read ∙ ap (list_at (codes "members")) granted.1 ∙ members_opened g rest) in
    let members = c.in_ok-members.ensures.again g.holds.members (tail_tokens g.owner g.name g.holds.schema ++ rest) listed in
    let memory = no_fault c.in_err-key.field-0.0 _ _ c.in_err-key.ensures.read (ap tail_at members.1 ∙ tail_again g.owner g.name g.holds.schema rest) in
    let p = err_from_is_err_and c.from_residual-in_err-key.result c.from_residual-in_err-key.ensures.1 in
    rw p.1 (p.2 ∙ memory)

pub returns-clause-again : goal.returns-clause-again
returns-clause-again c g rest reads is =
    let opened = some_is _ _ (sym c.in_ok-first_list_at.ensures.read ∙ ap (first_list_at (codes "grants")) is ∙ readers_opened g rest) in
    let granted = c.in_ok-grants.ensures.again g.grants (behind_readers g ++ rest) reads opened in
    let listed = some_is _ _ (sym c.in_ok-list_at.ensures.read ∙ ap (list_at (codes "members")) granted.1 ∙ members_opened g rest) in
    let members = c.in_ok-members.ensures.again g.holds.members (tail_tokens g.owner g.name g.holds.schema ++ rest) listed in
    let tailed = both_are _ _ (sym c.in_ok-key.ensures.read ∙ ap tail_at members.1 ∙ tail_again g.owner g.name g.holds.schema rest) in
    (λ i. record { key = (tailed.0 i).0; listing = record { schema = (tailed.0 i).1; members = members.0 i }; grants = granted.0 i }, tailed.1)
