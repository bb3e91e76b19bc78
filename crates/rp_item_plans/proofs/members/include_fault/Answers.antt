use Rattle.std.proofs.Common.{◌∷◌, [], ◌∙◌, ap}
use Rattle.rp_rows.specs.declared.rows.Right.TheVariants.{Groups}
use Rattle.rp_plain.specs.Meaning.{first_some, unseen, lacks}
use Rattle.rp_plain.specs.Groups.{is_of_other}
use Rattle.rp_item_plans.proofs.members.include_fault.Goals as goal

pub returns : goal.returns
returns c =
    c.first.ensures
    ∙ (λ i. first_some (
    c.member_fault.ensures i
    ∷ c.is_no_partner.ensures i
    ∷ (c.unseen.ensures ∙ ap unseen c.own_group_right.ensures) i
    ∷ (c.lacks.ensures ∙ ap (lacks Groups) c.model_right.ensures) i
    ∷ (c.is_of_other.ensures ∙ (λ j. is_of_other (c.content.ensures j) (c.own_listing.ensures j))) i
    ∷ []))
