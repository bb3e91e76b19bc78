-- What a put is answered, once its links, its names and the caller's right are tested.
use Rattle.std.proofs.Common.{◌≡◌, ℕ, ◌||◌, List, [], ◌∷◌, length, Option, Some, None, is_some, Result, Ok, Err, refl, sym, ◌∙◌, ap, subst}
use Rattle.std.specs.Prelude.{nat_lt}
use Rattle.std.specs.Result.{IsErrAnd}
use Rattle.p21_instances.proofs.ByName.{length-in_order}
use Rattle.p21_grammar.specs.File.{file_of}
use Rattle.rp_content.specs.declared.content.Content.{Content}
use Rattle.rp_content.specs.declared.link.Link.{Link}
use Rattle.rp_rows.specs.declared.rows.ModelContent.{ModelContent}
use Rattle.rp_rows.specs.declared.rows.Key.{Key}
use Rattle.rp_rows.specs.Rows.{Text}
use Rattle.rp_rows.specs.Contents.{link_name, link_names}
use Rattle.rp_rows.specs.Instances.{max_instances}
use Rattle.rp_plain.specs.declared.messages.Refusal.{Refusal}
use Rattle.rp_plain.specs.declared.messages.Request.{Request}
use Rattle.rp_plain.specs.declared.messages.Refusal.TheVariants.{NoSuchItem, TooMany}
use Rattle.rp_plain.specs.declared.messages.Reply.TheVariants.{Stored}
use Rattle.rp_plain.specs.declared.messages.Request.TheVariants.{Put}
use Rattle.rp_plain.specs.Readers.{Readers}
use Rattle.rp_plain.specs.Meaning.{first_some, when}
use Rattle.rp_plain.specs.Links.{max_links, linking, links_in_order, no_request, link_refusal}
use Rattle.rp_plain.specs.Files.{BoundFile, read_for, read_content, refused, stored, ill_linked, too_many, filled}
use Rattle.rp_plain.specs.Step.{meaning}
use Rattle.rp_store.specs.declared.changes.Change.TheVariants as s
use Rattle.rp_plans.specs.declared.edits.Edit.TheVariants.{OfModel}
use Rattle.rp_plans.specs.declared.edits.Plan.{Plan}
use Rattle.rp_plans.specs.Edits.{refilling}
use Rattle.rp_plans.specs.Plans.{IsAnswer, IsRefusal, Plans}
use Rattle.rp_plans.proofs.Firsts.{first_front, first_behind}
use Rattle.rp_plans.proofs.Answering.{of_one}
use Rattle.rp_file_plans.specs.Files.{cheap_tests, read_tests, IsLinked}

-- a refusal that is handed on
pub refused_with : (a : Readers) (c : Text) (q : Request) (why : Refusal) (r : Result Plan Refusal) → IsErrAnd r (λ e. e ≡ why) → IsRefusal a c q why → Plans a c q r
refused_with a c q why (Ok plan) is refused = elim is [ ]
refused_with a c q why (Err e) is refused = subst (IsRefusal a c q) (sym is) refused

module _ (a : Readers) (c : Text) (k : Key) (file : Text) (links : List Link) where
  -- the tests without a look into the file
  abbrev early : List (Option Refusal)
  early = no_request links ∷ cheap_tests a k file

  abbrev bound : Option ModelContent → BoundFile
  bound o = read_content a.schemas o (link_names links) (file_of file)

  -- the tests behind them
  abbrev behind : Option ModelContent → List (Option Refusal)
  behind o = refused (bound o) ∷ ill_linked a k o links (bound o) ∷ too_many links (bound o) ∷ []

  pub unread : (refusal : Refusal) → first_some early ≡ Some refusal → first_some (meaning a c (Put k file links)).tests ≡ Some refusal
  unread refusal found = first_front early (behind (a.content k)) refusal found

  module _ (none : first_some early ≡ None) where
    passed : first_some (meaning a c (Put k file links)).tests ≡ first_some (behind (a.content k))
    passed = first_behind early (behind (a.content k)) none

    pub absent : None ≡ a.content k → first_some (meaning a c (Put k file links)).tests ≡ Some NoSuchItem
    absent seen = passed ∙ ap (λ o. first_some (behind o)) (sym seen)

    module _ (h : ModelContent) (seen : Some h ≡ a.content k) where
      abbrev read : BoundFile
      read = read_for a.schemas h (link_names links) (file_of file)

      found : first_some (meaning a c (Put k file links)).tests ≡ first_some (behind (Some h))
      found = passed ∙ ap (λ o. first_some (behind o)) (sym seen)

      pub not_linked : (refusal : Refusal) → first_some (read_tests a k h links read) ≡ Some refusal → first_some (meaning a c (Put k file links)).tests ≡ Some refusal
      not_linked refusal tested = found ∙ first_front (read_tests a k h links read) (too_many links read ∷ []) refusal tested

      module _ (content : Content) (says : read ≡ Ok content) where
        replies : (o : Option ModelContent) → Some h ≡ o → Stored (length content.instances) ≡ stored (bound o)
        replies o same = subst (λ p. Stored (length content.instances) ≡ stored (bound p)) same (sym (ap stored says))

        edits : (o : Option ModelContent) → Some h ≡ o → refilling k o (linking links content) ≡ filled k o links (bound o)
        edits o same = subst (λ p. refilling k p (linking links content) ≡ filled k p links (bound p)) same (sym (ap (filled k (Some h) links) says))

        -- in their order there are as many links
        as_many : too_many (links_in_order links) (Ok (linking links content)) ≡ too_many links (Ok content)
        as_many = ap (λ n. when (nat_lt max_instances (length content.instances) || nat_lt max_links n) TooMany) (length-in_order link_name links)

        last : link_refusal a k h.schema links content ≡ None → first_some (too_many links (Ok content) ∷ []) ≡ first_some (meaning a c (Put k file links)).tests
        last passes =
            sym (found
            ∙ ap (λ r. first_some (refused r ∷ ill_linked a k (Some h) links r ∷ too_many links r ∷ [])) says
            ∙ ap (λ o. first_some (o ∷ too_many links (Ok content) ∷ [])) passes)

        answered : link_refusal a k h.schema links content ≡ None → (plan : Plan) → plan ≡ record { reply = Stored (length content.instances); edits = OfModel (s.Put k (linking links content)) ∷ [] }
            → IsAnswer a c (Put k file links) plan
        answered passes plan is =
            of_one a c (Put k file links) plan (Stored (length content.instances)) (OfModel (s.Put k (linking links content))) [] (too_many links (Ok content) ∷ []) is refl (last passes) (as_many ∙ alone (too_many links (Ok content)))
            (replies (a.content k) seen) (edits (a.content k) seen) (ap is_some (sym seen))
          where
            alone : (o : Option Refusal) → o ≡ first_some (o ∷ [])
            alone None = refl
            alone (Some x) = refl

      pub is_linked : (content : Content) (count : ℕ) → IsLinked a k h links read content → count ≡ length content.instances
          → (plan : Plan) → plan ≡ record { reply = Stored count; edits = OfModel (s.Put k content) ∷ [] } → IsAnswer a c (Put k file links) plan
      is_linked content count made counts plan is =
          answered made.content made.says made.passes plan
          (is
          ∙ ap (λ n. record { reply = Stored n; edits = OfModel (s.Put k content) ∷ [] }) (counts ∙ ap (λ (x : Content). length x.instances) made.is)
          ∙ ap (λ x. record { reply = Stored (length made.content.instances); edits = OfModel (s.Put k x) ∷ [] }) made.is)
