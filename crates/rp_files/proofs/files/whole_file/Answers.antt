use Rattle.std.proofs.Common.{rules, ◌<◌, length}
use Rattle.rp_files.proofs.FileLemmas.{on_known, every_came}
use Rattle.rp_files.proofs.files.whole_file.Goals as goal

pub returns-in-Ok : goal.returns-in-Ok
returns-in-Ok g c =
    let few : length c.in-Ok.bytes.items < 18446744073709551615 = search rules in
    on_known (g.D.Folder.files c.args.folder.now) _ _ (λ held e. every_came 18446744073709551615 c.args.path.now c.in-Ok.bytes.items (held c.args.path.now) few e) c.in-Ok.ensures.bytes
