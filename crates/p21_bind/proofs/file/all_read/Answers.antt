use Rattle.std.proofs.Common.{◌≡◌, ◌∷◌, ◌++◌, Ok, Bool, true, false, not, reverse, ◌∙◌, refl, sym, ap}
use Rattle.std.specs.List.{list_any}
use Rattle.plain_data.specs.Numbers.{is_among}
use Rattle.p21_instances.specs.Instances.{has_twice, names}
use Rattle.p21_instances.proofs.SortedNames.{is_one, once_in_any_order}
use Rattle.p21_bind.specs.Files as spec
use Rattle.p21_mappings.specs.Instances as instances
use Rattle.p21_bind.proofs.Reading.{none_behind, first_is, neither, noted, read_on}
use Rattle.p21_bind.proofs.file.all_read.Goals as goal

none_left : (b : Bool) → true ≡ not b → b ≡ false
none_left true e = cc
none_left false e = refl

pub instances-init : goal.instances-init
instances-init c =
    let defined = is_among (c.args.names.now ++ c.args.linked.now) in
    let names_once : has_twice is_one c.args.names.now ≡ false → has_twice is_one (names (reverse c.args.reversed.items)) ≡ false =
    once_in_any_order (names (reverse c.args.reversed.items)) c.args.names.now c.requires in
    record {
      layouts = refl;
      once = λ d. names_once (none_left (has_twice is_one c.args.names.now) (sym d ∙ c.are_distinct-are_distinct.ensures));
      read =
          (λ i. spec.behind (c.in_ok-found.ensures.items i)
          (spec.instances_after c.args.layouts.now defined (is_among (c.new-before.ensures.empty i)) (reverse c.args.reversed.items)))
          ∙ none_behind (spec.instances_after c.args.layouts.now defined (λ n. false) (reverse c.args.reversed.items));
    }

pub instances-preserved : goal.instances-preserved
instances-preserved c =
    let s = c.in-Some.spelled in
    let rest = c.instances.rest.items in
    let left = c.pop.new.self.items in
    let defined = is_among (c.args.names.now ++ c.args.linked.now) in
    let once : c.are_distinct-are_distinct.result ≡ true → has_twice is_one (s.name ∷ names (reverse left)) ≡ false =
    λ d. sym (ap (λ xs. has_twice is_one (names xs)) (first_is rest left s c.in-Some.ensures.items)) ∙ c.instances.invariant.once d in
    let read : spec.one c.args.layouts.now defined (is_among c.instances.before.keys) s ≡ Ok c.in_ok-one.field-0 =
    (λ i. spec.told s.name (instances.instance (sym c.instances.invariant.layouts i) (is_among (sym c.of-defined.ensures i)) (sym c.stood_before-stood.ensures i) s)) ∙ c.in_ok-one.ensures.made in
    record {
      layouts = c.one.ensures.layouts ∙ c.instances.invariant.layouts;
      once = λ d. (neither (list_any (is_one s.name) (names (reverse left))) (has_twice is_one (names (reverse left))) (once d)).1;
      read =
          read_on c.args.layouts.now defined (is_among c.instances.before.keys) (is_among c.note.new.before.keys)
          c.instances.found.items c.push.new.self.items rest left s c.in_ok-one.field-0
          c.in-Some.ensures.items read c.in_ok-push.ensures.items
          (λ n there. c.in_ok-note.ensures n ∙ noted c.are_distinct-are_distinct.result s.name (names (reverse left)) once n there (is_among c.instances.before.keys n))
          ∙ c.instances.invariant.read;
    }
