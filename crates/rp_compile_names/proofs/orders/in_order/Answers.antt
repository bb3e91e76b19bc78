use Rattle.std.proofs.Common.{◌≡◌, ℕ, List, [], map, replicate, IfOk, sym, ◌∙◌, ap, subst}
use Rattle.std.proofs.lemmas.List.{length-map}
use Rattle.std.specs.List.{flat_map}
use Rattle.rp_compile_names.specs.Found.{ranked}
use Rattle.rp_compile_names.specs.Rows.{put_all}
use Rattle.rp_compile_names.proofs.Ranks.{in-order}
use Rattle.rp_compile_names.proofs.orders.in_order.Goals as goal

pub returns : goal.returns
returns c =
    let names = map (λ n. n.now) c.args.names.now in
    subst (λ (all : List ℕ). IfOk c.concatenated.result (λ found. found ≡ all))
    (ap (flat_map (λ (row : List ℕ). row)) (c.deref.ensures.value ∙ c.in_ok-rows.ensures ∙ ap (λ (n : ℕ). put_all (replicate n []) (ranked names)) (sym (length-map c.args.names.now (λ n. n.now)))) ∙ in-order names)
    c.concatenated.ensures
