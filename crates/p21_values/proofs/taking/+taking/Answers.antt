use Rattle.std.proofs.Common.{◌≡◌, ◌<◌, ◌≤◌, ◌∷◌, Some, None, map, length, take, drop, slice_get, sym, ◌∙◌, ap, subst, IfOk, IfSome, option_map, rules, arith}
use Rattle.std.proofs.lemmas.Grind.{common_steps}
use Rattle.std.proofs.lemmas.Option.{slice_get-get_or, slice_get_past}
use Rattle.std.specs.List.{flat_map}
use Rattle.std.specs.Option.{option_and_then}
use denote.Param.Weighed.{most, at_most}
use Rattle.p21_tree.specs.declared.value.Value.TheViews.{size-Value}
use Rattle.rp_value.specs.declared.value.Value.TheVariants as v
use Rattle.ex_selects.specs.Ends.{base_of}
use Rattle.ex_selects.specs.Seen.{seen, seen_target}
use Rattle.p21_values.specs.Taking.{meaning, bare_at, named_by, of_list, place}
use Rattle.ex_selects.specs.Items.{type_named}
use Rattle.p21_values.specs.Deciding.{StartsWith, only_candidate, rows, rows_of_list}
use Rattle.ex_selects.specs.Levels.{AreLevels, IsGroup, aggregates, element}
use Rattle.p21_values.proofs.Groups.{base_in, value_at, candidate_element, always, no_levels, list_at_level, more_end, more_start, nothing_moved, placed_next, rest_ends, rest_starts, this_starts, under_some_name}
use Rattle.ex_selects.proofs.Groups.{group_there}
use Rattle.p21_values.proofs.Lists.{list_meaning}
use Rattle.p21_values.proofs.Meanings.{IsToken, list_rows, nothing_fits, reference_meaning, token_fits, token_placed, typed_meaning, unset_placed}
use Rattle.p21_values.proofs.taking.+taking.Goals as goal

pub fitting-returns-in-Unset : goal.fitting-returns-in-Unset
fitting-returns-in-Unset t c = nothing_fits c.args.types.now c.args.value.now (seen_target c.args.target.now) c.in-Unset.is

pub fitting-returns-in-Reference : goal.fitting-returns-in-Reference
fitting-returns-in-Reference t c =
    c.reference.ensures
    ∙ ap (λ m. m.fit (seen_target c.args.target.now)) (reference_meaning c.args.types.now c.args.value.now c.in-Reference.name c.in-Reference.is)

pub fitting-returns-in_ok-number-in-Typed : goal.fitting-returns-in_ok-number-in-Typed
fitting-returns-in_ok-number-in-Typed t c =
    let types = c.args.types.now in
    let to = seen_target c.args.target.now in
    let keyword = c.in-Typed.keyword in
    let number_is : c.in_ok-number-in-Typed.number ≡ type_named types keyword = c.in_ok-number-in-Typed.ensures ∙ ap (type_named types) c.as_bytes.ensures in
    subst (λ m. IfOk c.named.result (λ taken. taken ≡ m.fit to)) (typed_meaning types c.args.value.now keyword c.in-Typed.inner c.in-Typed.is)
    (subst (λ y. IfOk c.named.result (λ taken. taken ≡ named_by types (meaning types y) (type_named types keyword) to)) c.get.ensures
    (subst (λ n. IfOk c.named.result (λ taken. taken ≡ named_by types (meaning types c.get.result.now) n to)) number_is c.named.ensures))

pub fitting-returns-in_default : goal.fitting-returns-in_default
fitting-returns-in_default t c =
    let arm = c.in_default in
    let token : IsToken c.args.value.now =
    record { unset = arm.not-Unset; derived = arm.not-Derived; reference = arm.not-Reference; list = arm.not-List; typed = arm.not-Typed } in
    subst (λ o. IfOk c.bare_token.result (λ taken. taken ≡ o)) (token_fits c.args.types.now c.args.value.now (seen_target c.args.target.now) token) c.bare_token.ensures

pub placed-returns-in-Unset : goal.placed-returns-in-Unset
placed-returns-in-Unset t c = unset_placed c.args.types.now c.args.value.now (seen_target c.args.target.now) c.in-Unset.is

pub placed-returns-in-Reference : goal.placed-returns-in-Reference
placed-returns-in-Reference t c =
    c.reference.ensures
    ∙ ap (λ m. place m (seen_target c.args.target.now)) (reference_meaning c.args.types.now c.args.value.now c.in-Reference.name c.in-Reference.is)

pub placed-returns-in_default : goal.placed-returns-in_default
placed-returns-in_default t c =
    let arm = c.in_default in
    let token : IsToken c.args.value.now =
    record { unset = arm.not-Unset; derived = arm.not-Derived; reference = arm.not-Reference; list = arm.not-List; typed = arm.not-Typed } in
    subst (λ o. IfOk c.bare_token.result (λ taken. taken ≡ o)) (token_placed c.args.types.now c.args.value.now (seen_target c.args.target.now) token) c.bare_token.ensures

pub fitting-returns-in-List : goal.fitting-returns-in-List
fitting-returns-in-List t c =
    let types = c.args.types.now in
    subst (λ m. IfOk c.bare_list.result (λ taken. taken ≡ m.fit (seen_target c.args.target.now))) (sym (list_meaning types c.args.value.now c.in-List.values c.in-List.is))
    (subst (λ vs. IfOk c.bare_list.result (λ taken. taken ≡ bare_at types (of_list types (map (meaning types) vs)) (seen c.args.target.now.base)))
    c.as_slice.ensures c.bare_list.ensures)

pub select_element-returns-in-List : goal.select_element-returns-in-List
select_element-returns-in-List t c =
    let types = c.args.types.now in
    subst (λ m. IfOk c.list_by.result (λ taken. taken ≡ place m (seen_target c.args.target.now))) (sym (list_meaning types c.args.value.now c.in-List.values c.in-List.is))
    (subst (λ vs. IfOk c.list_by.result (λ taken. taken ≡ bare_at types (of_list types (map (meaning types) vs)) (seen c.args.target.now.base))) c.as_slice.ensures
    (subst (λ b. IfOk c.list_by.result (λ taken. taken ≡ bare_at types (of_list types (map (meaning types) c.as_slice.result.now)) b)) (sym c.requires.select) c.list_by.ensures))

pub element_at-returns-in-List-clause-taken : goal.element_at-returns-in-List-clause-taken
element_at-returns-in-List-clause-taken t c =
    let types = c.args.types.now in
    subst (λ m. IfOk c.list_at.result (λ taken. taken ≡ place m (seen_target c.args.target.now))) (sym (list_meaning types c.args.value.now c.in-List.values c.in-List.is))
    (subst (λ vs. IfOk c.list_at.result (λ taken. taken ≡ bare_at types (of_list types (map (meaning types) vs)) (seen c.args.target.now.base)))
    c.as_slice.ensures c.list_at.ensures.taken)

pub element_at-returns-in-List-clause-rest : goal.element_at-returns-in-List-clause-rest
element_at-returns-in-List-clause-rest t c =
    let types = c.args.types.now in
    let levels = c.args.level.now ∷ c.args.below.now in
    let rest = c.args.rest.now in
    subst (λ rs. IfOk c.list_at.result (λ taken. IfSome taken (λ v. c.list_at.new.rest ≡ drop (length rs) rest)))
    (list_rows types levels c.args.value.now c.in-List.values c.in-List.is)
    (subst (λ vs. IfOk c.list_at.result (λ taken. IfSome taken (λ v. c.list_at.new.rest ≡ drop (length (rows_of_list types levels vs)) rest))) c.as_slice.ensures c.list_at.ensures.rest)

pub elements_at-element_at-requires : goal.elements_at-element_at-requires
elements_at-element_at-requires t c =
    let within : c.values.value-index < length c.args.values.now = grind (arith, common_steps) in
    let below : size-Value c.value-item.result ≤ most size-Value c.args.values.now =
    subst (λ x. size-Value x ≤ most size-Value c.args.values.now) (sym c.value-item.is)
    (at_most size-Value c.args.values.now c.values.value-index c.value-item.result within) in (
      search rules,
      (
        c.requires.group,
        (
          c.requires.below,
          this_starts (rows c.args.types.now (c.args.level.now ∷ c.args.below.now)) c.args.values.now c.values.value-index c.value-item.result within c.value-item.is
              c.values.rest c.values.invariant.starts,
        ),
      ),
    )

pub elements_at-values-preserved : goal.elements_at-values-preserved
elements_at-values-preserved t c =
    let types = c.args.types.now in
    let values = c.args.values.now in
    let f = rows types (c.args.level.now ∷ c.args.below.now) in
    let i = c.values.value-index in
    let x = c.value-item.result in
    let new = c.element_at.new.rest in
    let within : i < length values = grind (arith, common_steps) in
    let moved : new ≡ drop (length (f x)) c.values.rest =
    subst (λ o. IfSome o (λ y. new ≡ drop (length (f x)) c.values.rest)) c.in-Some.is c.in_ok-item.ensures.rest in
    let there : place (meaning types x) (seen_target c.args.target.now) ≡ Some c.in-Some.item = sym c.in_ok-item.ensures.taken ∙ c.in-Some.is in
    record {
      taken = placed_next (λ m. place m (seen_target c.args.target.now)) values (meaning types) i x c.in-Some.item c.values.items.items c.push.new.self.items within c.value-item.is there
          (grind (arith, common_steps, c.in_ok-push-in-Some.ensures.items)) ∙ c.values.invariant.taken;
      starts = more_start f values i x within c.value-item.is c.values.rest new moved c.values.invariant.starts;
      rest = more_end f values i x within c.value-item.is c.values.rest new moved ∙ c.values.invariant.rest;
    }

pub list_at-returns-in_default-clause-taken : goal.list_at-returns-in_default-clause-taken
list_at-returns-in_default-clause-taken t c =
    let types = c.args.types.now in
    let values = c.args.values.now in
    let level = c.args.level.now in
    let base = seen c.args.base.now in
    let taken = c.take-taken.result.now in
    let taken_is : taken ≡ take (length level.targets.items) c.args.rest.now = c.take-taken.ensures.taken ∙ ap (λ n. take n c.args.rest.now) (ap length c.as_slice.ensures.value) in
    let none : c.only_candidate.result ≡ None = search rules in
    let told : only_candidate c.args.group.now taken ≡ None = sym c.only_candidate.ensures ∙ none in
    sym (list_at_level types level c.args.below.now values c.args.rest.now c.requires.rows base c.args.group.now taken c.requires.group taken_is
    ∙ ap (option_and_then (λ c. value_at types (map (meaning types) values) base c.number)) told)

pub list_at-list_of-requires : goal.list_at-list_of-requires
list_at-list_of-requires t c =
    let types = c.args.types.now in
    let values = c.args.values.now in
    let level = c.args.level.now in
    let base = seen c.args.base.now in
    let taken = c.take-taken.result.now in
    let told : only_candidate c.args.group.now taken ≡ Some c.in-Some.candidate = sym c.only_candidate.ensures ∙ c.in-Some.is in
    let base_is : seen c.base_of-base.result ≡ base_of types c.in-Some-number.number = c.base_of-base.ensures ∙ ap (λ ts. base_of ts c.in-Some-number.number) c.types.ensures in
    let rest_is = c.take-taken.ensures.rest ∙ ap (λ n. drop n c.args.rest.now) (ap length c.as_slice.ensures.value) in (
      search rules,
      (
        ap (element types) base_is ∙ ap (λ n. element types (base_in types base n)) (sym c.in-Some-number.is)
            ∙ candidate_element types (map (meaning types) values) base level.targets.items taken c.args.group.now c.in-Some.candidate c.requires.group told,
        (
          c.requires.below,
          subst (StartsWith (flat_map (rows types c.args.below.now) values)) (sym rest_is) (rest_starts types level c.args.below.now values c.args.rest.now c.requires.rows),
        ),
      ),
    )

pub list_at-list_of-requires-in-None : goal.list_at-list_of-requires-in-None
list_at-list_of-requires-in-None t c =
    let types = c.args.types.now in
    let values = c.args.values.now in
    let level = c.args.level.now in
    let base = seen c.args.base.now in
    let taken = c.take-taken.result.now in
    let told : only_candidate c.args.group.now taken ≡ Some c.in-Some.candidate = sym c.only_candidate.ensures ∙ c.in-Some.is in
    let rest_is = c.take-taken.ensures.rest ∙ ap (λ n. drop n c.args.rest.now) (ap length c.as_slice.ensures.value) in (
      search rules,
      (
        ap (λ n. element types (base_in types base n)) (sym c.in-None.is)
            ∙ candidate_element types (map (meaning types) values) base level.targets.items taken c.args.group.now c.in-Some.candidate c.requires.group told,
        (
          c.requires.below,
          subst (StartsWith (flat_map (rows types c.args.below.now) values)) (sym rest_is) (rest_starts types level c.args.below.now values c.args.rest.now c.requires.rows),
        ),
      ),
    )

pub list_at-returns-in_ok-taken-in-Some-number-clause-taken : goal.list_at-returns-in_ok-taken-in-Some-number-clause-taken
list_at-returns-in_ok-taken-in-Some-number-clause-taken t c =
    let types = c.args.types.now in
    let values = c.args.values.now in
    let ms = map (meaning types) values in
    let level = c.args.level.now in
    let base = seen c.args.base.now in
    let taken = c.take-taken.result.now in
    let k = c.in-Some-number.number in
    let taken_is : taken ≡ take (length level.targets.items) c.args.rest.now = c.take-taken.ensures.taken ∙ ap (λ n. take n c.args.rest.now) (ap length c.as_slice.ensures.value) in
    let told : only_candidate c.args.group.now taken ≡ Some c.in-Some.candidate = sym c.only_candidate.ensures ∙ c.in-Some.is in
    let base_is : seen c.base_of-base.result ≡ base_of types k = c.base_of-base.ensures ∙ ap (λ ts. base_of ts k) c.types.ensures in
    let is : option_map (v.Named k) c.in_ok-taken-in-Some-number.taken ≡ bare_at types (of_list types ms) base =
    ap (option_map (v.Named k)) (c.in_ok-taken-in-Some-number.ensures.taken ∙ ap (of_list types ms) base_is)
    ∙ ap (value_at types ms base) (sym c.in-Some-number.is)
    ∙ ap (option_and_then (λ c. value_at types ms base c.number)) (sym told)
    ∙ sym (list_at_level types level c.args.below.now values c.args.rest.now c.requires.rows base c.args.group.now taken c.requires.group taken_is) in
    subst (λ o. IfOk c.under_name.result (λ under. under ≡ o)) is c.under_name.ensures

pub list_at-returns-in_ok-taken-in-Some-number-clause-rest : goal.list_at-returns-in_ok-taken-in-Some-number-clause-rest
list_at-returns-in_ok-taken-in-Some-number-clause-rest t c =
    let types = c.args.types.now in
    let values = c.args.values.now in
    let level = c.args.level.now in
    let rest_is = c.take-taken.ensures.rest ∙ ap (λ n. drop n c.args.rest.now) (ap length c.as_slice.ensures.value) in
    let ends = ap (drop (length (flat_map (rows types c.args.below.now) values))) rest_is ∙ rest_ends types level c.args.below.now values c.args.rest.now c.requires.rows in
    under_some_name c.under_name.result c.in_ok-taken-in-Some-number.taken c.in-Some-number.number _ c.under_name.ensures
    (subst (λ r. IfSome c.in_ok-taken-in-Some-number.taken (λ x. c.list_of.new.rest ≡ r)) ends c.in_ok-taken-in-Some-number.ensures.rest)

pub list_at-returns-in-None-clause-taken : goal.list_at-returns-in-None-clause-taken
list_at-returns-in-None-clause-taken t c =
    let types = c.args.types.now in
    let values = c.args.values.now in
    let ms = map (meaning types) values in
    let level = c.args.level.now in
    let base = seen c.args.base.now in
    let taken = c.take-taken.result.now in
    let taken_is : taken ≡ take (length level.targets.items) c.args.rest.now = c.take-taken.ensures.taken ∙ ap (λ n. take n c.args.rest.now) (ap length c.as_slice.ensures.value) in
    let told : only_candidate c.args.group.now taken ≡ Some c.in-Some.candidate = sym c.only_candidate.ensures ∙ c.in-Some.is in
    let is : of_list types ms base ≡ bare_at types (of_list types ms) base =
    ap (value_at types ms base) (sym c.in-None.is)
    ∙ ap (option_and_then (λ c. value_at types ms base c.number)) (sym told)
    ∙ sym (list_at_level types level c.args.below.now values c.args.rest.now c.requires.rows base c.args.group.now taken c.requires.group taken_is) in
    subst (λ o. IfOk c.list_of-in-None.result (λ taken. taken ≡ o)) is c.list_of-in-None.ensures.taken

pub list_at-returns-in-None-clause-rest : goal.list_at-returns-in-None-clause-rest
list_at-returns-in-None-clause-rest t c =
    let types = c.args.types.now in
    let values = c.args.values.now in
    let level = c.args.level.now in
    let rest_is = c.take-taken.ensures.rest ∙ ap (λ n. drop n c.args.rest.now) (ap length c.as_slice.ensures.value) in
    let ends = ap (drop (length (flat_map (rows types c.args.below.now) values))) rest_is ∙ rest_ends types level c.args.below.now values c.args.rest.now c.requires.rows in
    subst (λ r. IfOk c.list_of-in-None.result (λ taken. IfSome taken (λ x. c.list_of-in-None.new.rest ≡ r))) ends c.list_of-in-None.ensures.rest

pub items_at-returns-in_default-clause-taken : goal.items_at-returns-in_default-clause-taken
items_at-returns-in_default-clause-taken t c =
    let types = c.args.types.now in
    let next = c.in-Some.next.now in
    let asking = c.args.level.now.targets.items in
    let whole : c.args.below.now ≡ next ∷ c.in-Some.further.now = search rules in
    let are = subst (AreLevels types asking) whole c.requires.below in
    let there = group_there types next.targets.items asking next.groups.items c.args.place c.args.target.now are.0 c.requires.place in
    let beyond : slice_get c.deref.result.now c.args.place ≡ None = slice_get_past c.deref.result.now c.args.place c.in_default.ensures.lookup.3 in
    let none : slice_get next.groups.items c.args.place ≡ None = ap (λ gs. slice_get gs c.args.place) (sym c.deref.ensures.value) ∙ beyond in
    let no = sym none ∙ there.1.0 in
    cc

pub items_at-elements_at-requires : goal.items_at-elements_at-requires
items_at-elements_at-requires t c =
    let types = c.args.types.now in
    let next = c.in-Some.next.now in
    let asking = c.args.level.now.targets.items in
    let whole : c.args.below.now ≡ next ∷ c.in-Some.further.now = search rules in
    let are = subst (AreLevels types asking) whole c.requires.below in
    let there = group_there types next.targets.items asking next.groups.items c.args.place c.args.target.now are.0 c.requires.place in
    let group = c.as_slice.result.now in
    let lent : slice_get c.deref.result.now c.args.place ≡ Some c.in-Some-get.group.now =
    let look = c.in-Some-get.ensures.lookup in
    slice_get-get_or c.deref.result.now c.args.place c.in-Some-get.group.now look.3.0 ∙ ap (λ g. Some g) (sym look.1) in
    let found : slice_get next.groups.items c.args.place ≡ Some group =
    ap (λ gs. slice_get gs c.args.place) (sym c.deref.ensures.value) ∙ lent ∙ ap (λ g. Some g) (sym c.as_slice.ensures) in
    let same : there.0 ≡ group = let both = sym there.1.0 ∙ found in cc in (
      search rules,
      (
        subst (λ g. IsGroup next.targets.items g (aggregates types (seen c.args.target.now.base))) same there.1.1,
        (
          are.1,
          subst (λ ls. StartsWith (flat_map (rows types ls) c.args.values.now) c.args.rest.now) whole c.requires.rows,
        ),
      ),
    )

pub items_at-returns-in-None-clause-rest : goal.items_at-returns-in-None-clause-rest
items_at-returns-in-None-clause-rest t c =
    let empty : length c.args.below.now ≡ 0 = search rules in
    always c.elements.result _ (nothing_moved c.args.types.now c.args.below.now c.args.values.now c.args.rest.now (no_levels c.args.below.now empty))

pub each_element-returns-in-None : goal.each_element-returns-in-None
each_element-returns-in-None t c = grind (arith, common_steps)

pub each_element-values-preserved : goal.each_element-values-preserved
each_element-values-preserved t c = grind (arith, common_steps)

pub each_element-returns : goal.each_element-returns
each_element-returns t c = grind (arith, common_steps)

pub elements_at-returns-in-None-clause-taken : goal.elements_at-returns-in-None-clause-taken
elements_at-returns-in-None-clause-taken t c = grind (arith, common_steps)

pub elements_at-returns-clause-taken : goal.elements_at-returns-clause-taken
elements_at-returns-clause-taken t c = grind (arith, common_steps)

pub elements_at-returns-clause-rest : goal.elements_at-returns-clause-rest
elements_at-returns-clause-rest t c = grind (arith, common_steps)

pub list_by-list_at-requires : goal.list_by-list_at-requires
list_by-list_at-requires t c = grind (arith, common_steps)

pub select_elements-returns-in-None : goal.select_elements-returns-in-None
select_elements-returns-in-None t c = grind (arith, common_steps)

pub select_elements-values-preserved : goal.select_elements-values-preserved
select_elements-values-preserved t c = grind (arith, common_steps)

pub select_elements-returns : goal.select_elements-returns
select_elements-returns t c = grind (arith, common_steps)
