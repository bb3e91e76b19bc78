use Rattle.std.proofs.Common.{rules, ◌<◌, ◌≤◌, length}
use Rattle.rp_io.specs.Limits.{file_limit}
use Rattle.rp_files.proofs.FileLemmas.{on_known, all_came, more_came}
use Rattle.rp_files.proofs.files.file_bytes.Goals as goal

pub returns-then-len-gt-FILE_LIMIT-clause-bytes : goal.returns-then-len-gt-FILE_LIMIT-clause-bytes
returns-then-len-gt-FILE_LIMIT-clause-bytes g c =
    let many : file_limit < length c.in-Ok.bytes.items = search rules in
    on_known (g.D.Folder.files c.args.folder.now) _ _ (λ held e. rw c.in_ok-path.ensures (more_came file_limit c.args.path.now c.in-Ok.bytes.items (held c.args.path.now) many e)) c.in-Ok.ensures.bytes

pub returns-clause-bytes : goal.returns-clause-bytes
returns-clause-bytes g c =
    let few : length c.in-Ok.bytes.items ≤ file_limit = search rules in
    on_known (g.D.Folder.files c.args.folder.now) _ _ (λ held e. all_came file_limit c.args.path.now c.in-Ok.bytes.items (held c.args.path.now) few e) c.in-Ok.ensures.bytes
