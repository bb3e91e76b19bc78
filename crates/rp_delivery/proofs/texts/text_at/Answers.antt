use Rattle.std.proofs.lemmas.Bool.{false≢true}
use Rattle.std.proofs.lemmas.Str.{IsUtf8-from_is_utf8}
use Rattle.rp_delivery.proofs.PutLemmas.{no_text}
use Rattle.rp_delivery.proofs.texts.text_at.Goals as goal

pub returns-in-Ok : goal.returns-in-Ok
returns-in-Ok g c =
    let bytes = c.in-Ok.bytes.items in
    no_text (g.D.Folder.files c.args.folder.now) c.args.path.now bytes c.in-Ok.ensures.bytes (λ valid. absurd (false≢true (c.in-Err-from_utf8.ensures.succeeds (IsUtf8-from_is_utf8 bytes valid))))
