use Rattle.std.proofs.Common.{◌≡◌, ◌<◌, ◌∷◌, ◌++◌, [], map, length, inl, sym, ◌∙◌, ap, subst, IfOk, OnOk, rules, arith}
use Rattle.std.proofs.lemmas.Grind.{common_steps}
use Rattle.std.specs.Prelude.{is_some}
use Rattle.std.specs.List.{flat_map}
use Rattle.ex_selects.specs.Seen.{seen, seen_target}
use Rattle.p21_values.specs.Taking.{meaning, bare_at, named_by, of_list}
use Rattle.ex_selects.specs.Items.{type_named}
use Rattle.p21_values.specs.Deciding.{takes, takes_each, at, both, only_candidate, row, rows, rows_of_list}
use Rattle.ex_selects.specs.Levels.{AreLevels}
use Rattle.p21_values.proofs.Decided.{all_true, narrowed}
use Rattle.p21_values.proofs.Groups.{level_rows, list_answers, no_levels, no_more_rows, on_ok, rows_turn}
use Rattle.p21_values.proofs.Lists.{list_meaning}
use Rattle.p21_values.proofs.Meanings.{held_placed, list_rows, nothing_fits, typed_meaning}
use Rattle.p21_values.proofs.deciding.+deciding.Goals as goal

pub take_all-values-preserved : goal.take_all-values-preserved
take_all-values-preserved t c =
    let types = c.args.types.now in
    let within : c.values.value-index < length c.args.values.now = grind (arith, common_steps) in
    let told : c.in_ok-taken-2.taken.items ≡ both c.values.taken.items c.in_ok-also.also.items = cc (c.in_ok-taken-2.ensures, c.deref.ensures.value, c.deref-in-values.ensures.value) in
    record {
      taken = told
          ∙ narrowed types c.args.values.now c.values.value-index c.value-item.result c.args.targets.now c.values.taken.items
          c.in_ok-also.also.items within c.value-item.is c.values.invariant.taken c.in_ok-also.ensures.taken;
      rows = rows_turn (rows types c.args.below.now) c.args.values.now c.values.value-index c.value-item.result c.values.rows.items c.takes.new.rows.items within c.value-item.is
          c.in_ok-also.ensures.rows ∙ c.values.invariant.rows;
    }

pub takes-returns-in-List-clause-taken : goal.takes-returns-in-List-clause-taken
takes-returns-in-List-clause-taken t c =
    let types = c.args.types.now in
    subst (λ m. IfOk c.takes_list.result (λ taken. taken.items ≡ map (λ t. takes m (seen_target t)) c.args.targets.now)) (sym (list_meaning types c.args.value.now c.in-List.values c.in-List.is))
    (subst (λ vs. IfOk c.takes_list.result (λ taken. taken.items ≡ map (λ t. is_some (bare_at types (of_list types (map (meaning types) vs)) (seen t.base))) c.args.targets.now))
    c.as_slice.ensures c.takes_list.ensures.taken)

pub takes_list-returns-in-Some-clause-taken : goal.takes_list-returns-in-Some-clause-taken
takes_list-returns-in-Some-clause-taken t c =
    let types = c.args.types.now in
    let level = c.in-Some.level.now in
    let whole : c.args.levels.now ≡ level ∷ c.in-Some.below.now = search rules in
    let are : AreLevels types c.args.targets.now (level ∷ c.in-Some.below.now) = subst (AreLevels types c.args.targets.now) whole c.requires in
    subst (λ bs. IfOk c.takes_at.result (λ taken. taken.items ≡ bs))
    (list_answers types (map (meaning types) c.args.values.now) level.targets.items c.args.targets.now level.groups.items are.0) c.takes_at.ensures.taken

pub takes_list-returns-in_ok-level-in-None-clause-taken : goal.takes_list-returns-in_ok-level-in-None-clause-taken
takes_list-returns-in_ok-level-in-None-clause-taken t c =
    let types = c.args.types.now in
    let level = c.in_ok-level-in-None.level in
    subst (λ bs. IfOk c.takes_at-in-None.result (λ taken. taken.items ≡ bs))
    (list_answers types (map (meaning types) c.args.values.now) level.targets.items c.args.targets.now level.groups.items c.in_ok-level-in-None.ensures) c.takes_at-in-None.ensures.taken

pub takes_list-returns-in_ok-level-in-None-clause-rows : goal.takes_list-returns-in_ok-level-in-None-clause-rows
takes_list-returns-in_ok-level-in-None-clause-rows t c =
    let empty : length c.args.levels.now ≡ 0 = search rules in
    let none : c.args.levels.now ≡ [] = no_levels c.args.levels.now empty in
    on_ok c.takes_at-in-None.result _ (no_more_rows c.args.types.now c.args.levels.now c.args.values.now c.args.rows.now.items none)

pub takes_at-returns-clause-taken : goal.takes_at-returns-clause-taken
takes_at-returns-clause-taken t c =
    let types = c.args.types.now in
    let level = c.args.level.now in
    let ms = map (meaning types) c.args.values.now in
    let row_is : c.deref-5.result.now ≡ row types level c.args.values.now =
    c.deref-5.ensures.value ∙ c.in_ok-taken.ensures.taken ∙ ap (map (λ t. takes_each ms (seen_target t))) c.deref.ensures.value in
    subst (λ bs. IfOk c.verdicts.result (λ found. found.items ≡ map (λ g. is_some (only_candidate g bs)) level.groups.items)) row_is
    (subst (λ gs. IfOk c.verdicts.result (λ found. found.items ≡ map (λ g. is_some (only_candidate g c.deref-5.result.now)) gs)) c.deref-4.ensures.value c.verdicts.ensures)

pub takes_at-returns-clause-rows : goal.takes_at-returns-clause-rows
takes_at-returns-clause-rows t c =
    let types = c.args.types.now in
    let level = c.args.level.now in
    let ms = map (meaning types) c.args.values.now in
    let taken = c.in_ok-taken.taken.items in
    let inner = c.take_all.new.rows.items in
    let row_is : taken ≡ row types level c.args.values.now = c.in_ok-taken.ensures.taken ∙ ap (map (λ t. takes_each ms (seen_target t))) c.deref.ensures.value in
    let inner_is : inner ≡ flat_map (rows types c.args.below.now) c.args.values.now = grind (arith, common_steps, c.in_ok-taken.ensures.rows, c.new-inner.ensures.items) in
    on_ok c.verdicts.result _
    (level_rows types level c.args.below.now c.args.values.now c.args.rows.now.items taken inner c.extend_from_slice.new.self.items c.extend_from_slice-2.new.self.items
    (cc (c.in_ok-extend_from_slice.ensures.items, c.deref-2.ensures.value)) (cc (c.in_ok-extend_from_slice-2.ensures.items, c.deref-3.ensures.value)) row_is inner_is)

pub take_all-both-requires : goal.take_all-both-requires
take_all-both-requires t c = grind (arith, common_steps)

pub take_all-returns-clause-taken : goal.take_all-returns-clause-taken
take_all-returns-clause-taken t c = grind (arith, common_steps)

pub take_all-returns-clause-rows : goal.take_all-returns-clause-rows
take_all-returns-clause-rows t c = grind (arith, common_steps)

pub take_all-values-init : goal.take_all-values-init
take_all-values-init t c = grind (arith, common_steps, all_true)

pub fits-returns-in-Unset : goal.fits-returns-in-Unset
fits-returns-in-Unset t c = ap is_some (nothing_fits c.args.types.now c.args.value.now (seen_target c.args.target.now) (inl c.in-Unset.is))

pub fits-returns-in_ok-taken-in_default : goal.fits-returns-in_ok-taken-in_default
fits-returns-in_ok-taken-in_default t c =
    let types = c.args.types.now in
    let value = c.args.value.now in
    let to = seen_target c.args.target.now in
    let told : c.deref-in_default.result.now ≡ takes (meaning types value) to ∷ [] =
    c.deref-in_default.ensures.value ∙ c.in_ok-taken-in_default.ensures.taken ∙ ap (map (λ t. takes (meaning types value) (seen_target t))) c.from_ref-targets.ensures.value in
    c.at.ensures ∙ ap (λ bs. at bs 0) told ∙ ap is_some (held_placed types value to c.in_default.not-Unset)

pub takes-returns-in-List-clause-rows : goal.takes-returns-in-List-clause-rows
takes-returns-in-List-clause-rows t c =
    let types = c.args.types.now in
    let levels = c.args.levels.now in
    let old = c.args.rows.now.items in
    subst (λ rs. OnOk c.takes_list.result (c.takes_list.new.rows.items ≡ old ++ rs)) (list_rows types levels c.args.value.now c.in-List.values c.in-List.is)
    (subst (λ vs. OnOk c.takes_list.result (c.takes_list.new.rows.items ≡ old ++ rows_of_list types levels vs)) c.as_slice.ensures c.takes_list.ensures.rows)

pub takes-returns-in_ok-number-in-Typed-clause-taken : goal.takes-returns-in_ok-number-in-Typed-clause-taken
takes-returns-in_ok-number-in-Typed-clause-taken t c =
    let types = c.args.types.now in
    let keyword = c.in-Typed.keyword in
    let targets = c.args.targets.now in
    let number_is : c.in_ok-number-in-Typed.number ≡ type_named types keyword = c.in_ok-number-in-Typed.ensures ∙ ap (type_named types) c.as_bytes.ensures in
    subst (λ m. IfOk c.takes_named.result (λ taken. taken.items ≡ map (λ t. takes m (seen_target t)) targets))
    (typed_meaning types c.args.value.now keyword c.in-Typed.value c.in-Typed.is)
    (subst (λ y. IfOk c.takes_named.result (λ taken. taken.items ≡ map (λ t. is_some (named_by types (meaning types y) (type_named types keyword) (seen_target t))) targets)) c.get.ensures
    (subst (λ n. IfOk c.takes_named.result (λ taken. taken.items ≡ map (λ t. is_some (named_by types (meaning types c.get.result.now) n (seen_target t))) targets)) number_is c.takes_named.ensures))
