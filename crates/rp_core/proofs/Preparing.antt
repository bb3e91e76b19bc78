-- A plan gives the reply of the turn, and its steps what the turn leaves.
use Rattle.std.proofs.Common.{◌≡◌, ◌≢◌, true, false, Bool, List, [], ◌∷◌, map, Some, None, Result, Ok, Err, refl, sym, ◌∙◌, ap, subst}
use Rattle.std.proofs.lemmas.Bool.{false≢true}
use Rattle.std.specs.List.{AllByRecursion}
use Rattle.ex_types.specs.Checked.{Checked}
use Rattle.ex_check.specs.declared.fault.SchemaFault.{SchemaFault}
use Rattle.ex_check.specs.Check.{schema as schema_of}
use Rattle.p21_grammar.specs.File.{file_of}
use Rattle.rp_content.specs.declared.link.Link.{Link}
use Rattle.rp_rows.specs.Rows.{Text, GroupRow}
use Rattle.rp_rows.specs.Contents.{link_names}
use Rattle.rp_plain.specs.declared.messages.Request.{Request}
use Rattle.rp_plain.specs.declared.messages.Request.TheVariants.{CreateModel, DeleteModel, Put, Export, Names, Get, Add, Set, DropInstance, ListItems, GrantModel, RevokeModel, CreateGroup, DeleteGroup, GrantGroup, RevokeGroup, Include, Exclude, Members, Extent, Users, Validate, Schemas, CheckSchema}
use Rattle.rp_plain.specs.declared.messages.Refusal.{Refusal}
use Rattle.rp_plain.specs.declared.messages.Refusal.TheVariants.{NoMemory}
use Rattle.rp_plain.specs.declared.messages.Reply.{Reply}
use Rattle.rp_plain.specs.declared.messages.Reply.TheVariants.{Refused}
use Rattle.rp_plain.specs.Plain.{Plain}
use Rattle.rp_plain.specs.Edits.{changed}
use Rattle.rp_plain.specs.Readers.{Readers, asked}
use Rattle.rp_plain.specs.Files.{BoundFile, read_content, stored, text_by, links_of, exported}
use Rattle.rp_plain.specs.Meaning.{first_some, schema_of as of_schema}
use Rattle.rp_plain.specs.Checks as checks
use Rattle.rp_plain.specs.Step.{meaning, outcome}
use Rattle.rp_plain.specs.Runs.{is_no_memory}
use Rattle.rp_plain.specs.Turns.{Turn}
use Rattle.rp_store.specs.Entries.{entry_key}
use Rattle.rp_store.specs.Models.{Held}
use Rattle.rp_access.specs.Kept.{Rights}
use Rattle.rp_sight.specs.Stored.{joined}
use Rattle.rp_plans.specs.declared.edits.Edit.{Edit}
use Rattle.rp_plans.specs.declared.edits.Plan.{Plan}
use Rattle.rp_plans.specs.Edits.{fault_of, Sees}
use Rattle.rp_plans.specs.Plans.{IsAnswer, IsRefusal}
use Rattle.rp_core.specs.declared.steps.Step.{Step}
use Rattle.rp_core.specs.declared.steps.Pending.{Pending}
use Rattle.rp_core.specs.Faults.{edit_fault}
use Rattle.rp_core.specs.Held.{Both, made_entries, made_rights, made_of, AreStepsOf, IsPrepared}
use Rattle.rp_core.proofs.Standing.{IsKept}
use Rattle.rp_core.proofs.Fitting.{all_pass}
use Rattle.rp_core.proofs.Refusing.{fault_is}
use Rattle.rp_core.proofs.Making.{all_made}

stored_told : (read : BoundFile) → is_no_memory (stored read) ≡ false
stored_told (Ok content) = refl
stored_told (Err refusal) = refl

exported_told : (linked : Bool) (file : Text) (links : List Link) → is_no_memory (exported linked file links) ≡ false
exported_told true file links = refl
exported_told false file links = refl

check_told : (schema : Result Checked SchemaFault) → is_no_memory (checks.told schema) ≡ false
check_told (Ok schema) = refl
check_told (Err fault) = refl

-- no request is answered that memory is wanting
told : (a : Readers) (c : Text) (q : Request) → is_no_memory (meaning a c q).reply ≡ false
told a c (CreateModel name schema) = refl
told a c (DeleteModel name) = refl
told a c (Put k file links) = stored_told (read_content a.schemas (a.content k) (link_names links) (file_of file))
told a c (Export k linked) = exported_told linked (text_by (of_schema a.schemas (a.content k)) (a.content k)) (links_of (a.content k))
told a c (Names k) = refl
told a c (Get k name) = refl
told a c (Add k text) = refl
told a c (Set k name text) = refl
told a c (DropInstance k name) = refl
told a c ListItems = refl
told a c (GrantModel name to l) = refl
told a c (RevokeModel name to) = refl
told a c (CreateGroup name schema) = refl
told a c (DeleteGroup name) = refl
told a c (GrantGroup name to) = refl
told a c (RevokeGroup name to) = refl
told a c (Include group k) = refl
told a c (Exclude group k) = refl
told a c (Members group) = refl
told a c (Extent group entity) = refl
told a c (Users group place role) = refl
told a c (Validate group) = refl
told a c Schemas = refl
told a c (CheckSchema text) = check_told (schema_of text)

-- what a prepared answer is: its reply, what its steps leave, and that both halves go on alike
pub record IsDone (r : Plain) (b : Both) (t : Turn) (pending : Pending) : Type 0 where
  pub prepared : IsPrepared r b t pending
  pub alike : map entry_key (made_entries pending.steps b.models.entries) ≡ map entry_key (made_rights pending.steps b.access.models.entries)

-- each edit of what is seen is told against as the plain repository has it
faults_are : (r : Plain) (c : Text) (ms : List Held) (es : List Rights) → IsKept ms es r → (edits : List Edit) → AllByRecursion (Sees (asked r c) c) edits → map (edit_fault ms es r.groups) edits ≡ map (fault_of (asked r c)) edits
faults_are r c ms es kept [] seen = refl
faults_are r c ms es kept (e ∷ edits) seen = λ i. fault_is ms es r c kept e seen.0 i ∷ faults_are r c ms es kept edits seen.1 i

pub answered : (r : Plain) (c : Text) (q : Request) (b : Both) (plan : Plan) (steps : List Step) → IsKept b.models.entries b.access.models.entries r → IsAnswer (asked r c) c q plan → AreStepsOf b.models.entries b.access.models.entries r.groups plan.edits steps
    → IsDone r b (record { caller = c; request = q }) (record { reply = plan.reply; steps = steps })
answered r c q b plan steps kept is are =
    let a = asked r c in
    let ms = b.models.entries in
    let es = b.access.models.entries in
    let no : is_no_memory plan.reply ≡ false = ap is_no_memory is.replies ∙ told a c q in
    let passes : first_some (meaning a c q).tests ≡ None = sym is.decides ∙ ap first_some (sym (faults_are r c ms es kept plan.edits is.seen)) ∙ all_pass ms es r.groups plan.edits steps are in
    let is_answer = sym (ap (outcome (meaning a c q)) passes) in
    let made = all_made ms es r c kept plan.edits steps are is.apart is.seen in
    record {
      prepared = record {
        replies = λ _. is.replies ∙ ap (λ o. o.reply) is_answer;
        changes =
            rw no
            (made.content
            ∙ ap (λ es. changed es r) is.edits
            ∙ ap (λ o. changed o.edits r) is_answer);
      };
      alike = made.table.same;
    }

nothing_done : (r : Plain) (b : Both) → joined b.models.entries b.access.models.entries ≡ r.models → made_of [] b r ≡ r
nothing_done r b rows = λ i. record r { models = rows i }

pub refused_done : (r : Plain) (c : Text) (q : Request) (b : Both) (refusal : Refusal) → IsKept b.models.entries b.access.models.entries r → IsRefusal (asked r c) c q refusal → IsDone r b (record { caller = c; request = q }) (record { reply = Refused refusal; steps = [] })
refused_done r c q b refusal kept refused = record { prepared = by (is_no_memory (Refused refusal)) refl; alike = kept.table.same }
  where
    by : (t : Bool) → is_no_memory (Refused refusal) ≡ t → IsPrepared r b (record { caller = c; request = q }) (record { reply = Refused refusal; steps = [] })
    by true is =
        record {
          replies = λ no. absurd (false≢true (sym no ∙ is));
          changes = rw is (nothing_done r b kept.rows);
        }
    by false is =
        let is_answer = sym (ap (outcome (meaning (asked r c) c q)) (refused (λ e. false≢true (sym is ∙ ap (λ f. is_no_memory (Refused f)) e)))) in
        record {
          replies = λ _. ap (λ o. o.reply) is_answer;
          changes = rw is (nothing_done r b kept.rows ∙ ap (λ o. changed o.edits r) is_answer);
        }

-- ---- the same, of what was read

pub at_home : (P : Readers → Text → Type 0) (read r : Plain) (d c : Text) → read ≡ r → d ≡ c → P (asked read d) d → P (asked r c) c
at_home P read r d c same who p = subst (λ (s : Plain). P (asked s c) c) same (subst (λ (e : Text). P (asked read e) e) who p)

-- what was kept when steps were prepared is kept still
pub kept_still : (ms : List Held) (es : List Rights) (r : Plain) (b : Both) → IsKept ms es r → b.models.entries ≡ ms → b.access.models.entries ≡ es → IsKept b.models.entries b.access.models.entries r
kept_still ms es r b kept models rights = subst (λ (xs : List Held). IsKept xs b.access.models.entries r) (sym models) (subst (λ (ys : List Rights). IsKept ms ys r) (sym rights) kept)

pub answered_still : (r : Plain) (c : Text) (q : Request) (ms : List Held) (es : List Rights) (gs : List GroupRow) (b : Both) (plan : Plan) (pending : Pending) → IsKept ms es r → b.models.entries ≡ ms → b.access.models.entries ≡ es → gs ≡ r.groups
    → IsAnswer (asked r c) c q plan → pending.reply ≡ plan.reply → AreStepsOf ms es gs plan.edits pending.steps → IsDone r b (record { caller = c; request = q }) pending
answered_still r c q ms es gs b plan pending kept models rights groups is reply are =
    let steps : AreStepsOf b.models.entries b.access.models.entries r.groups plan.edits pending.steps =
    subst (λ (xs : List Held). AreStepsOf xs b.access.models.entries r.groups plan.edits pending.steps) (sym models)
    (subst (λ (ys : List Rights). AreStepsOf ms ys r.groups plan.edits pending.steps) (sym rights)
    (subst (λ (hs : List GroupRow). AreStepsOf ms es hs plan.edits pending.steps) groups are)) in
    subst (λ (told : Reply). IsDone r b (record { caller = c; request = q }) (record { reply = told; steps = pending.steps })) (sym reply)
    (answered r c q b plan pending.steps (kept_still ms es r b kept models rights) is steps)

pub refused_still : (r : Plain) (c : Text) (q : Request) (ms : List Held) (es : List Rights) (b : Both) (refusal : Refusal) (pending : Pending) → IsKept ms es r → b.models.entries ≡ ms → b.access.models.entries ≡ es
    → IsRefusal (asked r c) c q refusal → pending ≡ record { reply = Refused refusal; steps = [] } → IsDone r b (record { caller = c; request = q }) pending
refused_still r c q ms es b refusal pending kept models rights refused are =
    subst (λ (p : Pending). IsDone r b (record { caller = c; request = q }) p) (sym are) (refused_done r c q b refusal (kept_still ms es r b kept models rights) refused)

-- what the store or the rights say against an edit is why the request is refused
pub faulted_still : (r : Plain) (c : Text) (q : Request) (ms : List Held) (es : List Rights) (gs : List GroupRow) (plan : Plan) (refusal : Refusal) → IsKept ms es r → gs ≡ r.groups → IsAnswer (asked r c) c q plan
    → (refusal ≢ NoMemory → first_some (map (edit_fault ms es gs) plan.edits) ≡ Some refusal) → IsRefusal (asked r c) c q refusal
faulted_still r c q ms es gs plan refusal kept groups is refused = λ not.
    sym is.decides ∙ ap first_some (sym (faults_are r c ms es kept plan.edits is.seen)) ∙ ap (λ hs. first_some (map (edit_fault ms es hs) plan.edits)) (sym groups) ∙ refused not
