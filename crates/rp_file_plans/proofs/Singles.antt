-- What a request is answered that adds an instance or sets one, once the names and the caller's right are tested.
use Rattle.std.proofs.Common.{◌≡◌, ℕ, List, [], ◌∷◌, ◌++◌, Option, Some, None, is_some, Result, Ok, Err, refl, sym, ◌∙◌, ap, subst}
use Rattle.ex_types.specs.Checked.{Checked}
use Rattle.p21_tree.specs.declared.fault.FileFault.{FileFault}
use Rattle.p21_tree.specs.declared.fault.InstanceFault.{InstanceFault}
use Rattle.p21_tree.specs.declared.instance.Mapping.{Mapping}
use Rattle.p21_read.specs.Single.{mapping_of}
use Rattle.p21_bind.specs.Single.{bound_instance}
use Rattle.rp_content.specs.declared.instance.Instance.{Instance}
use Rattle.rp_rows.specs.declared.rows.ModelContent.{ModelContent}
use Rattle.rp_rows.specs.declared.rows.Key.{Key}
use Rattle.rp_rows.specs.Rows.{Text}
use Rattle.rp_rows.specs.Instances.{next_name}
use Rattle.rp_plain.specs.declared.messages.Refusal.{Refusal}
use Rattle.rp_plain.specs.declared.messages.Refusal.TheVariants.{NoSuchItem}
use Rattle.rp_plain.specs.declared.messages.Reply.TheVariants.{Done, Added}
use Rattle.rp_plain.specs.declared.messages.Request.TheVariants.{Add, Set}
use Rattle.rp_plain.specs.Readers.{Readers}
use Rattle.rp_plain.specs.Meaning.{first_some, schema_named}
use Rattle.rp_plain.specs.Instances.{Saying, told, bound_by, is_defined, said_by, said, refused, placing, instance_in, is_absent, is_full, next_in}
use Rattle.rp_plain.specs.Step.{meaning}
use Rattle.rp_store.specs.declared.changes.Change.TheVariants as s
use Rattle.rp_plans.specs.declared.edits.Edit.TheVariants.{OfModel}
use Rattle.rp_plans.specs.declared.edits.Plan.{Plan}
use Rattle.rp_plans.specs.Plans.{IsAnswer}
use Rattle.rp_plans.proofs.Firsts.{first_behind}
use Rattle.rp_plans.proofs.Answering.{of_one}
use Rattle.rp_file_plans.specs.Files.{cheap_tests}
use Rattle.rp_file_plans.proofs.Named.{bound_named}

-- what is said under a name has it
said_named : (schemas : List Checked) (h : ModelContent) (name : ℕ) (text : Text) (i : Instance) → said_by schemas h name (mapping_of text) ≡ Ok i → i.name ≡ name
said_named schemas h name text i = read (mapping_of text)
  where
    by_one : (schema : Checked) (mapping : Mapping) (o : Result Instance InstanceFault) → bound_instance schema (is_defined h.content) name mapping ≡ o → told o ≡ Ok i → i.name ≡ name
    by_one schema mapping (Ok j) is e =
        let same : j ≡ i = cc in
        bound_named schema (is_defined h.content) name mapping i (is ∙ ap Ok same)
    by_one schema mapping (Err fault) is e = cc

    by_schema : (o : Option Checked) (mapping : Mapping) → bound_by o (is_defined h.content) name mapping ≡ Ok i → i.name ≡ name
    by_schema None mapping e = cc
    by_schema (Some schema) mapping e = by_one schema mapping (bound_instance schema (is_defined h.content) name mapping) refl e

    read : (o : Result Mapping FileFault) → said_by schemas h name o ≡ Ok i → i.name ≡ name
    read (Err fault) e = cc
    read (Ok mapping) e = by_schema (schema_named schemas h.schema) mapping e

alone : (o : Option Refusal) → o ≡ first_some (o ∷ [])
alone None = refl
alone (Some x) = refl

module _ (a : Readers) (c : Text) (k : Key) (text : Text) where
  -- the tests behind those without a look into the text: what it says under a name, and one more
  abbrev saying : ℕ → Option ModelContent → Saying
  saying name o = said a.schemas o name text

  module _ (none : first_some (cheap_tests a k text) ≡ None) where
    behind : (name : ℕ) (o : Option ModelContent) (last : Option Refusal) → first_some (cheap_tests a k text ++ refused (saying name o) ∷ last ∷ []) ≡ first_some (refused (saying name o) ∷ last ∷ [])
    behind name o last = first_behind (cheap_tests a k text) (refused (saying name o) ∷ last ∷ []) none

    -- ---- set

    module _ (name : ℕ) where
      set_of : (o : Option ModelContent) → o ≡ a.content k → first_some (meaning a c (Set k name text)).tests ≡ first_some (refused (saying name o) ∷ is_absent (instance_in o name) ∷ [])
      set_of o seen = behind name (a.content k) (is_absent (instance_in (a.content k) name)) ∙ ap (λ p. first_some (refused (saying name p) ∷ is_absent (instance_in p name) ∷ [])) (sym seen)

      pub set_nowhere : None ≡ a.content k → first_some (meaning a c (Set k name text)).tests ≡ Some NoSuchItem
      set_nowhere seen = set_of None seen

      module _ (h : ModelContent) (seen : Some h ≡ a.content k) where
        pub not_set : (refusal : Refusal) → said_by a.schemas h name (mapping_of text) ≡ Err refusal → first_some (meaning a c (Set k name text)).tests ≡ Some refusal
        not_set refusal says = set_of (Some h) seen ∙ ap (λ new. first_some (refused new ∷ is_absent (instance_in (Some h) name) ∷ [])) says

        pub is_set : (i : Instance) → said_by a.schemas h name (mapping_of text) ≡ Ok i → (plan : Plan) → plan ≡ record { reply = Done; edits = OfModel (s.Set k i) ∷ [] } → IsAnswer a c (Set k name text) plan
        is_set i says plan is =
            let there : Option ModelContent → Option Refusal = λ o. is_absent (instance_in o name) in
            of_one a c (Set k name text) plan Done (OfModel (s.Set k i)) [] (there (Some h) ∷ []) is refl
            (sym (set_of (Some h) seen ∙ ap (λ new. first_some (refused new ∷ there (Some h) ∷ [])) says))
            (ap (λ n. is_absent (instance_in (a.content k) n)) (said_named a.schemas h name text i says) ∙ ap there (sym seen) ∙ alone (there (Some h)))
            refl
            (subst (λ o. placing k o (Ok i) ≡ placing k o (saying name o)) seen (ap (placing k (Some h)) (sym says)))
            (ap is_some (sym seen))

    -- ---- add

    add_of : (o : Option ModelContent) → o ≡ a.content k → first_some (meaning a c (Add k text)).tests ≡ first_some (refused (saying (next_in o) o) ∷ is_full o ∷ [])
    add_of o seen = behind (next_in (a.content k)) (a.content k) (is_full (a.content k)) ∙ ap (λ p. first_some (refused (saying (next_in p) p) ∷ is_full p ∷ [])) (sym seen)

    pub add_nowhere : None ≡ a.content k → first_some (meaning a c (Add k text)).tests ≡ Some NoSuchItem
    add_nowhere seen = add_of None seen

    module _ (h : ModelContent) (seen : Some h ≡ a.content k) where
      pub not_added : (refusal : Refusal) → said_by a.schemas h (next_name h) (mapping_of text) ≡ Err refusal → first_some (meaning a c (Add k text)).tests ≡ Some refusal
      not_added refusal says = add_of (Some h) seen ∙ ap (λ new. first_some (refused new ∷ is_full (Some h) ∷ [])) says

      pub is_added : (i : Instance) → said_by a.schemas h (next_name h) (mapping_of text) ≡ Ok i
          → (plan : Plan) → plan ≡ record { reply = Added (next_name h); edits = OfModel (s.Add k i.entities i.values) ∷ [] } → IsAnswer a c (Add k text) plan
      is_added i says plan is =
          let named : record i { name = next_name h } ≡ i = ap (λ n. record i { name = n }) (sym (said_named a.schemas h (next_name h) text i says)) in
          of_one a c (Add k text) plan (Added (next_name h)) (OfModel (s.Add k i.entities i.values)) [] (is_full (Some h) ∷ []) is refl
          (sym (add_of (Some h) seen ∙ ap (λ new. first_some (refused new ∷ is_full (Some h) ∷ [])) says))
          (ap is_full (sym seen) ∙ alone (is_full (Some h)))
          (ap (λ o. Added (next_in o)) seen)
          (subst (λ o. placing k o (Ok (record { name = next_in o; entities = i.entities; values = i.values })) ≡ placing k o (saying (next_in o) o)) seen
          (ap (λ j. placing k (Some h) (Ok j)) named ∙ ap (placing k (Some h)) (sym says)))
          (ap is_some (sym seen))
