use Rattle.std.proofs.Common.{[], ◌∷◌, ◌++◌, sym, ◌∙◌, ap}
use Rattle.std.specs.List.{cons_option}
use Rattle.std.specs.Option.{option_copied}
use Rattle.std.proofs.lemmas.List.{map-append, append-nil}
use Rattle.ex_attributes.specs.Steps.{read}
use Rattle.ex_attributes.proofs.Places.{rows_next}
use Rattle.ex_attributes.proofs.tables.push_rows_at.Goals.{in-Some+in_ok-push-in-Some, in-None}
use Rattle.ex_attributes.proofs.tables.push_rows_at.Goals as goal

pub loop-place-preserved : goal.loop-place-preserved
loop-place-preserved g c =
    let rows = c.args.rows.now in
    let places = c.args.places.now in
    let i = c.loop-place.place-index in
    let before = read c.loop-place.found.items in
    elim c.match-row_at.branch [
      | in-Some+in_ok-push-in-Some w ↦
          rw w.found-is
          (rows_next rows places i before (read w.push.new.self.items) c.loop-place-test.true
          (ap read w.in_ok-push-in-Some.ensures.items
          ∙ map-append (λ r. r.now) c.loop-place.found.items (w.in-Some.row ∷ [])
          ∙ ap (λ o. before ++ cons_option o []) (sym (sym c.row_at.ensures ∙ ap option_copied w.in-Some.is))))
          ∙ c.loop-place.invariant
      | in-None w ↦
          rw w.found-is
          (rows_next rows places i before before c.loop-place-test.true
          (sym (append-nil before) ∙ ap (λ o. before ++ cons_option o []) (sym (sym c.row_at.ensures ∙ ap option_copied w.in-None.is))))
          ∙ c.loop-place.invariant
    ]
