-- When a plan is the answer to a request.
use Rattle.std.proofs.Common.{◌≡◌, List, [], ◌∷◌, ◌++◌, Option, None, refl, sym, ◌∙◌, ap, subst}
use Rattle.rp_rows.specs.Rows.{Text}
use Rattle.rp_plain.specs.declared.messages.Refusal.{Refusal}
use Rattle.rp_plain.specs.declared.messages.Reply.{Reply}
use Rattle.rp_plain.specs.declared.messages.Request.{Request}
use Rattle.rp_plain.specs.Readers.{Readers}
use Rattle.rp_plain.specs.Meaning.{first_some}
use Rattle.rp_plain.specs.Step.{meaning}
use Rattle.rp_plans.specs.declared.edits.Edit.{Edit}
use Rattle.rp_plans.specs.declared.edits.Plan.{Plan}
use Rattle.rp_plans.specs.Edits.{edits_of, fault_of, Sees}
use Rattle.rp_plans.specs.Plans.{IsAnswer}
use Rattle.rp_plans.proofs.Firsts.{first_later}

none_more : {A : Type 0} (xs : List A) → xs ++ [] ≡ xs
none_more [] = refl
none_more (x ∷ xs) = ap (λ ys. x ∷ ys) (none_more xs)

module _ (a : Readers) (c : Text) (q : Request) where
  -- of a request that changes nothing
  pub of_none : (plan : Plan) (reply : Reply) → plan ≡ record { reply = reply; edits = [] } → first_some (meaning a c q).tests ≡ None → reply ≡ (meaning a c q).reply → [] ≡ (meaning a c q).edits → IsAnswer a c q plan
  of_none plan reply is passes replies edits =
      subst (IsAnswer a c q) (sym is) (record { decides = sym passes; replies = replies; edits = edits; seen = tt; apart = tt })

  -- of one that changes one row. Some of its tests are made, and the row's own are behind them
  pub of_one : (plan : Plan) (reply : Reply) (e : Edit) (made behind : List (Option Refusal)) → plan ≡ record { reply = reply; edits = e ∷ [] }
      → first_some made ≡ None → first_some (made ++ behind) ≡ first_some (meaning a c q).tests → fault_of a e ≡ first_some behind
      → reply ≡ (meaning a c q).reply → edits_of a e ≡ (meaning a c q).edits → Sees a c e → IsAnswer a c q plan
  of_one plan reply e made behind is passes tests faults replies edits seen =
      subst (IsAnswer a c q) (sym is) (record {
        decides = ap (λ o. first_some (o ∷ [])) faults ∙ first_later made behind passes ∙ tests;
        replies = replies;
        edits = none_more (edits_of a e) ∙ edits;
        seen = (seen, tt);
        apart = (tt, tt);
      })
