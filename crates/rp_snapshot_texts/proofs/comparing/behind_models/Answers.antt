use Rattle.std.proofs.Common.{◌≡◌, ◌<◌, ◌≤◌, ◌+◌, ◌++◌, true, length, map, drop, ap, ◌∙◌, sym, arith, append_assoc}
use Rattle.rp_sight.specs.Stored.{row_of}
use Rattle.rp_snapshot_texts.specs.Texts.{model_by}
use Rattle.rp_snapshot_texts.specs.Pieces.{piece, pieces}
use Rattle.rp_snapshot_texts.proofs.PieceLemmas.{at_row, at_end}
use Rattle.rp_snapshot_texts.proofs.CompareLemmas.{passed, passed_back}
use Rattle.rp_snapshot_texts.proofs.comparing.behind_models.Goals as goal

pub loop-place-preserved : goal.loop-place-preserved
loop-place-preserved g c rest =
    let rows = c.args.models.now.rows in
    let later = c.loop-place.later in
    let x = row_of c.row.result in
    let p = piece later ((model_by (g.V.Version.writes c.args.version.now)) x) in
    let others = pieces true (map (model_by (g.V.Version.writes c.args.version.now)) (drop (c.loop-place.place + 1) rows)) in
    let within : c.loop-place.place < length rows = omega (arith, c.loop-place-test.true, c.len-place-end.ensures.len) in
    let cut : pieces later (map (model_by (g.V.Version.writes c.args.version.now)) (drop c.loop-place.place rows)) ≡ p ++ others = at_row (model_by (g.V.Version.writes c.args.version.now)) later rows c.loop-place.place x within c.row.ensures in
    let front : c.loop-place.left.now ≡ p ++ c.in-Some.rest.now = c.in-Some.ensures ∙ ap (λ l. l ++ c.in-Some.rest.now) (c.deref.ensures.value ∙ c.in_ok-piece.ensures) in
    let now = c.loop-place.invariant rest in
    let new = c.in-Some.rest.now in
    let old = c.loop-place.left.now in (
      λ is. passed p others old new rest front (now.0 is ∙ ap (λ l. l ++ rest) cut),
      λ is. now.1 (passed_back p others old new rest front is ∙ sym (ap (λ l. l ++ rest) cut)),
    )

pub returns-in-None : goal.returns-in-None
returns-in-None g c rest is =
    let rows = c.args.models.now.rows in
    let later = c.loop-place.later in
    let x = row_of c.row.result in
    let p = piece later ((model_by (g.V.Version.writes c.args.version.now)) x) in
    let others = pieces true (map (model_by (g.V.Version.writes c.args.version.now)) (drop (c.loop-place.place + 1) rows)) in
    let within : c.loop-place.place < length rows = omega (arith, c.loop-place-test.true, c.len-place-end.ensures.len) in
    let cut : pieces later (map (model_by (g.V.Version.writes c.args.version.now)) (drop c.loop-place.place rows)) ≡ p ++ others = at_row (model_by (g.V.Version.writes c.args.version.now)) later rows c.loop-place.place x within c.row.ensures in
    let here = (c.loop-place.invariant rest).0 is ∙ ap (λ l. l ++ rest) cut ∙ append_assoc p others rest in
    c.in-None.ensures (others ++ rest) (here ∙ ap (λ l. l ++ (others ++ rest)) (sym (c.deref.ensures.value ∙ c.in_ok-piece.ensures)))

pub returns : goal.returns
returns g c =
    let rows = c.args.models.now.rows in
    let all : length rows ≤ c.loop-place.place = omega (arith, c.loop-place-test.false, c.len-place-end.ensures.len) in
    let none = at_end (model_by (g.V.Version.writes c.args.version.now)) c.loop-place.later rows c.loop-place.place all in
    (c.loop-place.invariant c.loop-place.left.now).1 (sym (ap (λ l. l ++ c.loop-place.left.now) none))
