use Rattle.std.proofs.Common.{◌-◌, ◌++◌, ◌+◌, ◌∙◌, ap, sym, drop, filter, length, get_or, ◌≡◌, arith}
use Rattle.std.specs.List.{flat_map}
use Rattle.plain_data.specs.Numbers.{numbered_from}
use Rattle.ex_resolve.proofs.Numbers.{seam, seam_bound, at_item}
use Rattle.ex_resolve.proofs.named.push_explicit.Goals as goal
use Rattle.ex_resolve.specs.Schemas as spec

pub loop-explicit-preserved : goal.loop-explicit-preserved
loop-explicit-preserved c =
    let own : _ = filter spec.is_own c.as_slice.result.now in
    let others : _ = flat_map (λ x. filter spec.is_own x.attributes) (drop (c.loop-explicit.explicit-index + 1) c.args.entity.now.explicit) in
    let same : c.as_slice-explicit-items.result.now ≡ c.args.entity.now.explicit = c.as_slice-explicit-items.ensures in
    let make : _ = spec.place_in c.args.number in (
      seam_bound make c.len-start.result c.loop-explicit.places.items c.push_own.new.places.items own c.loop-explicit.invariant.0 c.in_ok-push_own.ensures,
      seam make c.len-start.result c.loop-explicit.places.items c.push_own.new.places.items own others c.loop-explicit.invariant.0 c.in_ok-push_own.ensures
          ∙ ap (λ l. c.loop-explicit.places.items ++ numbered_from make (length c.loop-explicit.places.items - c.len-start.result) (filter spec.is_own l ++ others)) c.as_slice.ensures
          ∙ ap (λ l. c.loop-explicit.places.items ++ numbered_from make (length c.loop-explicit.places.items - c.len-start.result) (flat_map (λ x. filter spec.is_own x.attributes) l))
          (sym (at_item c.args.entity.now.explicit c.loop-explicit.explicit-index c.explicit-item.result (grind (arith, ap length same, c.loop-explicit-test.true)) (c.explicit-item.is ∙ ap (λ l. get_or l c.loop-explicit.explicit-index c.explicit-item.result) same)))
          ∙ c.loop-explicit.invariant.1,
    )
