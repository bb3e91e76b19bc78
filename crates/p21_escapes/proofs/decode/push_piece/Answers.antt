use Rattle.std.proofs.Common.{rules, ◌≡◌, ◌++◌, ap, ◌∙◌}
use Rattle.std.proofs.lemmas.Result.{err_from_is_err_and}
use Rattle.std.proofs.lemmas.Str.{IsUtf8-from_ascii}
use Rattle.std.specs.Str.{IsUtf8}
use Rattle.std.specs.String.{string_bytes}
use Rattle.p21_escapes.specs.Decoding.{appended, spelled}
use Rattle.p21_escapes.proofs.Fronts.{bare_ascii, run_step, spelled_step, spelled_fails}
use Rattle.p21_escapes.proofs.decode.push_piece.Goals as goal

pub returns-in_err-taken-clause-reads : goal.returns-in_err-taken-clause-reads
returns-in_err-taken-clause-reads c =
    let p = err_from_is_err_and c.from_residual.result c.from_residual.ensures.1 in
    rw (p.1, p.2) (spelled_fails c.in_err-taken.field-0.0 (string_bytes c.args.out.now) c.args.z.now c.requires c.in_err-taken.ensures.reads)

pub returns-then-is_empty-clause-reads : goal.returns-then-is_empty-clause-reads
returns-then-is_empty-clause-reads c =
    ap (λ l. appended (string_bytes c.push_front.new.out) (spelled l)) c.after.ensures.value
    ∙ spelled_step (string_bytes c.args.out.now) (string_bytes c.push_front.new.out) c.in_ok-taken.taken c.args.z.now c.requires c.in_ok-taken.ensures.some c.in_ok-taken.ensures.reads

pub unwrap-requires : goal.unwrap-requires
unwrap-requires c =
    let here : IsUtf8 c.run-rest.result.0.now = IsUtf8-from_ascii _ (bare_ascii c.run-rest.result.0.now c.run-rest.ensures.bare) in
    search rules

pub returns-clause-reads : goal.returns-clause-reads
returns-clause-reads c =
    let longer : string_bytes c.push_str.new.self ≡ string_bytes c.args.out.now ++ c.run-rest.result.0.now = search rules in
    run_step (string_bytes c.args.out.now) (string_bytes c.push_str.new.self) c.run-rest.result.0.now c.run-rest.result.1 c.args.z.now c.run-rest.ensures.value c.run-rest.ensures.bare longer
