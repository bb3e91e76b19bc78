use Rattle.rp_files.proofs.FileLemmas.{fronted}
use Rattle.rp_files.proofs.files.front.Goals as goal

pub returns-clause-bytes : goal.returns-clause-bytes
returns-clause-bytes g c =
    fronted (λ front. front.items) g.D.Opened.Source.read_failures (g.D.Folder.files c.args.folder.now) c.args.path.now c.args.most (g.D.Opened.Source.remaining c.in_ok-opened.opened) c.in_ok-opened.opened c.first_bytes.new.reader c.first_bytes.result
    c.in_ok-opened.ensures.bytes c.in_ok-opened.ensures.sound c.first_bytes.ensures.bytes c.first_bytes.ensures.err
