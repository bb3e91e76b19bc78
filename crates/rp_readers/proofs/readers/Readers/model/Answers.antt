use Rattle.std.proofs.Common.{◌≡◌, true, false, Some, None, ◌∙◌, ap, sym}
use Rattle.std.specs.Prelude.{option_map}
use Rattle.rp_rows.specs.Rows.{key_of}
use Rattle.rp_rows.specs.Sight.{sees, level as sight_level}
use Rattle.rp_sight.specs.Stored.{row_of}
use Rattle.rp_readers.proofs.Looking.{seen_found, chosen_seen, chosen_unseen}
use Rattle.rp_readers.proofs.readers.Readers.model.Goals as goal

pub returns-in_err-model : goal.returns-in_err-model
returns-in_err-model c =
    ap (option_map row_of) c.from_residual.ensures
    ∙ seen_found (key_of c.args.owner.now c.args.name.now) (sees c.args.self.now.access.now.groups.rows c.args.self.now.caller.now) c.args.self.now.models.now.rows None c.find_for.ensures.ascending c.in_err-model.ensures.found

pub returns-then-at_least : goal.returns-then-at_least
returns-then-at_least c =
    let p = sees c.args.self.now.access.now.groups.rows c.args.self.now.caller.now in
    let m = row_of c.in_ok-model.model in
    let is : p m ≡ true = rw (← (c.level.ensures ∙ ap (λ gs. sight_level gs.rows c.args.self.now.caller.now m) c.groups.ensures)) (sym c.at_least.ensures ∙ c.if-at_least.true) in
    sym (chosen_seen p m is)
    ∙ seen_found (key_of c.args.owner.now c.args.name.now) p c.args.self.now.models.now.rows (Some m) c.find_for.ensures.ascending c.in_ok-model.ensures.found

pub returns-else-at_least : goal.returns-else-at_least
returns-else-at_least c =
    let p = sees c.args.self.now.access.now.groups.rows c.args.self.now.caller.now in
    let m = row_of c.in_ok-model.model in
    let is : p m ≡ false = rw (← (c.level.ensures ∙ ap (λ gs. sight_level gs.rows c.args.self.now.caller.now m) c.groups.ensures)) (sym c.at_least.ensures ∙ c.if-at_least.false) in
    sym (chosen_unseen p m is)
    ∙ seen_found (key_of c.args.owner.now c.args.name.now) p c.args.self.now.models.now.rows (Some m) c.find_for.ensures.ascending c.in_ok-model.ensures.found
