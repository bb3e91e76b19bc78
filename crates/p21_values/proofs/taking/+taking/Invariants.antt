use Rattle.std.proofs.Common.{◌≡◌, ◌∷◌, map, drop, length}
use Rattle.std.specs.List.{flat_map}
use Rattle.p21_values.specs.Deciding as deciding
use Rattle.ex_selects.specs.Seen.{seen_target}
use Rattle.p21_values.specs.Taking as spec
use Rattle.p21_values.proofs.Several.{among_rest}
use Rattle.p21_values.proofs.taking.+taking.Given as goal

abbrev pub invariant-each_element-values : goal.invariant-each_element-values
invariant-each_element-values l =
    among_rest l.items.items (spec.all_there (map (λ m. spec.place m (seen_target l.target)) (map (spec.meaning l.types) (drop l.value-index l.values))))
    ≡ spec.all_there (map (λ m. spec.place m (seen_target l.target)) (map (spec.meaning l.types) l.values))

abbrev pub invariant-select_elements-values : goal.invariant-select_elements-values
invariant-select_elements-values l =
    among_rest l.items.items (spec.all_there (map (λ m. spec.place m (seen_target l.target)) (map (spec.meaning l.types) (drop l.value-index l.values))))
    ≡ spec.all_there (map (λ m. spec.place m (seen_target l.target)) (map (spec.meaning l.types) l.values))

abbrev pub invariant-elements_at-values : goal.invariant-elements_at-values
invariant-elements_at-values l = record {
  taken : among_rest l.items.items (spec.all_there (map (λ m. spec.place m (seen_target l.target)) (map (spec.meaning l.types) (drop l.value-index l.values))))
      ≡ spec.all_there (map (λ m. spec.place m (seen_target l.target)) (map (spec.meaning l.types) l.values));
  starts : deciding.StartsWith (flat_map (deciding.rows l.types (l.level ∷ l.below)) (drop l.value-index l.values)) l.rest;
  rest : drop (length (flat_map (deciding.rows l.types (l.level ∷ l.below)) (drop l.value-index l.values))) l.rest
      ≡ drop (length (flat_map (deciding.rows l.types (l.level ∷ l.below)) l.values)) l.fn.rest;
}
