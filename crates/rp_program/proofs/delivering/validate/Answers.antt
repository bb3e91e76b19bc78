use Rattle.std.proofs.Common.{map, ◌∙◌}
use Rattle.rp_program.proofs.ValidationLemmas.{verdict_told, line_told, refusal_told, faults_told}
use Rattle.rp_program.proofs.delivering.validate.Goals as goal

pub returns-clause-verdict : goal.returns-clause-verdict
returns-clause-verdict g c =
    verdict_told (g.D.Folder.files c.args.folder.now) (map (λ path. path.now) c.args.asked.now.schemas.now) (map (λ path. path.now) c.args.asked.now.files.now) c.in_ok-texts.field-0.schemas c.in_ok-schemas_lent.schemas_lent.now c.as_slice-2.result.now
    c.in_ok-partners.field-0.items c.in_ok-repository.repository.content c.in_ok-delivered.field-0.reply c.in_ok-texts.ensures (c.in_ok-schemas_lent.ensures ∙ c.as_slice.ensures) c.as_slice-2.ensures c.in_ok-partners.ensures c.in_ok-repository.ensures.ok
    c.in_ok-repository.ensures.content c.in_ok-delivered.ensures
    c.tell-ended.result c.tell-ended.ensures.verdict

pub returns-clause-json : goal.returns-clause-json
returns-clause-json g c = λ json.
    line_told (g.D.Folder.files c.args.folder.now) (map (λ path. path.now) c.args.asked.now.schemas.now) (map (λ path. path.now) c.args.asked.now.files.now) c.in_ok-texts.field-0.schemas c.in_ok-schemas_lent.schemas_lent.now c.as_slice-2.result.now
    c.in_ok-partners.field-0.items c.in_ok-repository.repository.content c.in_ok-delivered.field-0.reply c.in_ok-texts.ensures (c.in_ok-schemas_lent.ensures ∙ c.as_slice.ensures) c.as_slice-2.ensures c.in_ok-partners.ensures c.in_ok-repository.ensures.ok
    c.in_ok-repository.ensures.content c.in_ok-delivered.ensures
    (g.W.Sink.contents c.args.writer.now) (g.W.Sink.contents c.tell-ended.new.writer) c.tell-ended.result c.tell-ended.ensures.verdict (c.tell-ended.ensures.json json)

pub returns-clause-refused : goal.returns-clause-refused
returns-clause-refused g c = λ json path words is.
    refusal_told (g.D.Folder.files c.args.folder.now) (map (λ path. path.now) c.args.asked.now.schemas.now) (map (λ path. path.now) c.args.asked.now.files.now) c.in_ok-texts.field-0.schemas c.in_ok-schemas_lent.schemas_lent.now c.as_slice-2.result.now
    c.in_ok-partners.field-0.items c.in_ok-repository.repository.content c.in_ok-delivered.field-0.reply c.in_ok-texts.ensures (c.in_ok-schemas_lent.ensures ∙ c.as_slice.ensures) c.as_slice-2.ensures c.in_ok-partners.ensures c.in_ok-repository.ensures.ok
    c.in_ok-repository.ensures.content c.in_ok-delivered.ensures
    (g.W.Sink.contents c.args.writer.now) (g.W.Sink.contents c.tell-ended.new.writer) (c.tell-ended.ensures.refused json path words is)

pub returns-clause-faults : goal.returns-clause-faults
returns-clause-faults g c =
    faults_told (g.D.Folder.files c.args.folder.now) (map (λ path. path.now) c.args.asked.now.schemas.now) (map (λ path. path.now) c.args.asked.now.files.now) c.in_ok-texts.field-0.schemas c.in_ok-schemas_lent.schemas_lent.now c.as_slice-2.result.now
    c.in_ok-partners.field-0.items c.in_ok-repository.repository.content c.in_ok-delivered.field-0.reply c.in_ok-texts.ensures (c.in_ok-schemas_lent.ensures ∙ c.as_slice.ensures) c.as_slice-2.ensures c.in_ok-partners.ensures c.in_ok-repository.ensures.ok
    c.in_ok-repository.ensures.content c.in_ok-delivered.ensures
    _ _ c.tell-ended.result c.tell-ended.ensures.faults
