-- What a request changes is what it says.
use Rattle.std.proofs.Common.{◌≡◌, ◌<◌, ℕ, zero, suc, true, false, not, inr, Bool, List, [], ◌∷◌, length, Option, Some, None, Ok, Err, Result, refl, sym, ◌∙◌, ap, subst, arith}
use Rattle.std.specs.Prelude.{Contains, slice_index_or, if◌then◌else◌}
use Rattle.std.specs.List.{list_any, AllByRecursion}
use Rattle.std.specs.Str.{bytes_eq}
use Rattle.std.proofs.lemmas.Slice.Eq.{bytes_eq-Decides}
use Rattle.std.proofs.lemmas.Bool.{false≢true}
use Rattle.ex_types.specs.Checked.{Checked}
use Rattle.ex_check.specs.declared.fault.SchemaFault.{SchemaFault}
use Rattle.ex_check.specs.Check.{schema as schema_in}
use Rattle.p21_grammar.specs.File.{file_of}
use Rattle.rp_content.specs.declared.link.Link.{Link}
use Rattle.rp_rows.specs.declared.rows.Level.TheVariants.{Read}
use Rattle.rp_rows.specs.declared.rows.Listing.{Listing}
use Rattle.rp_rows.specs.declared.rows.ModelContent.{ModelContent}
use Rattle.rp_rows.specs.declared.rows.Key.{Key}
use Rattle.rp_rows.specs.Rows.{Text, key_of}
use Rattle.rp_rows.specs.Contents.{link_names}
use Rattle.rp_rows.specs.Listings.{with_member, without_member}
use Rattle.rp_rows.specs.Alterations.{Holds, Grants}
use Rattle.rp_plain.specs.declared.messages.Request.{Request}
use Rattle.rp_plain.specs.declared.messages.Request.TheVariants.{CreateModel, DeleteModel, Put, Export, Names, Get, Add, Set, DropInstance, ListItems, GrantModel, RevokeModel, CreateGroup, DeleteGroup, GrantGroup, RevokeGroup, Include, Exclude, Members, Extent, Users, Validate, Schemas, CheckSchema}
use Rattle.rp_plain.specs.declared.messages.Refusal.{Refusal}
use Rattle.rp_plain.specs.declared.messages.Reply.TheVariants.{Refused}
use Rattle.rp_plain.specs.Plain.{Plain, Kind, OfModel, OfGroup, reaches}
use Rattle.rp_plain.specs.Edits.{Edit, EditModel, EditGroup, changed, name_of, names_of, is_grant_for, Avoids}
use Rattle.rp_plain.specs.Readers.{Readers, asked}
use Rattle.rp_plain.specs.Meaning.{first_some, schema_of}
use Rattle.rp_plain.specs.Checks as checks
use Rattle.rp_plain.specs.Files.{BoundFile, read_content, stored, filled, text_by, links_of, exported}
use Rattle.rp_plain.specs.Grants.{unless_own}
use Rattle.rp_plain.specs.Groups.{relisted}
use Rattle.rp_plain.specs.Instances.{Saying, said, next_in, placing, dropping}
use Rattle.rp_plain.specs.Step.{meaning, outcome, answer}
use Rattle.rp_plain.specs.Changes.{names_changed, grants_to, KeepsOff}
use Rattle.rp_laws.specs.Laws.{IsSaid, EditsAreSaid, ChangesOnlyNamed, RefusedChangesNothing, KeepingOffIsOutside, KeepingOffPart, KeepingOffReach, names_model, names_group}
use Rattle.rp_laws.proofs.NamedRows.{FailNamed, others_changed}
use Rattle.rp_laws.proofs.Outside.{outside_turn_part, outside_turn_reach}

-- ---- elements of lists

holds_there : {X : Type 0} (P : X → Type 0) (xs : List X) (k : ℕ) (x : X) → k < length xs → slice_index_or xs k x ≡ x → AllByRecursion P xs → P x
holds_there P [] k x within is all = absurd (omega arith)
holds_there P (y ∷ ys) zero x within is all = subst P is all.0
holds_there P (y ∷ ys) (suc k) x within is all = holds_there P ys k x (omega arith) is all.1

holds_of : {X : Type 0} (P : X → Type 0) (xs : List X) (x : X) → Contains xs x → AllByRecursion P xs → P x
holds_of P xs x there all = holds_there P xs there.0 x there.1 there.2 all

passes_there : {X : Type 0} (q : X → Bool) (xs : List X) (k : ℕ) (x : X) → k < length xs → slice_index_or xs k x ≡ x → q x ≡ true → list_any q xs ≡ true
passes_there q [] k x within is passes = absurd (omega arith)
passes_there q (y ∷ ys) zero x within is passes = let first : q y ≡ true = ap q is ∙ passes in grind arith
passes_there q (y ∷ ys) (suc k) x within is passes = let rest = passes_there q ys k x (omega arith) is passes in grind arith

passes_of : {X : Type 0} (q : X → Bool) (xs : List X) (x : X) → Contains xs x → q x ≡ true → list_any q xs ≡ true
passes_of q xs x there passes = passes_there q xs there.0 x there.1 there.2 passes

-- ---- the edits of each request

only : {X : Type 0} (x : X) → Contains (x ∷ []) x
only x = (0, omega arith, refl)

-- nobody is given a level
no_grant : (c : Text) (q : Request) (e : Edit) → Contains (names_changed c q) (name_of e) → ((d : Text) → is_grant_for d e ≡ false) → IsSaid c q e
no_grant c q e there none = record { name = there; grants = λ d h. absurd (false≢true (sym (none d) ∙ h)) }

-- a level is given to whom the request grants to
grant : (c : Text) (q : Request) (e : Edit) (to : Text) → Contains (names_changed c q) (name_of e) → grants_to q ≡ Some to → ((d : Text) → is_grant_for d e ≡ bytes_eq to d) → IsSaid c q e
grant c q e to there is gives = record { name = there; grants = λ d h. is ∙ ap Some ((bytes_eq-Decides to d).0 (sym (gives d) ∙ h)) }

abbrev AllSaid : Text → Request → List Edit → Type 0
AllSaid c q es = AllByRecursion (IsSaid c q) es

holding : (c : Text) (q : Request) (k : Key) (h : Option ModelContent) → Contains (names_changed c q) (OfModel, k) → AllSaid c q (EditModel k (Holds h) ∷ [])
holding c q k h there = (no_grant c q (EditModel k (Holds h)) there (λ d. refl), tt)

listing : (c : Text) (q : Request) (k : Key) (g : Option Listing) → Contains (names_changed c q) (OfGroup, k) → AllSaid c q (EditGroup k (Holds g) ∷ [])
listing c q k g there = (no_grant c q (EditGroup k (Holds g)) there (λ d. refl), tt)

filled_said : (c : Text) (q : Request) (k : Key) (h : Option ModelContent) (links : List Link) (read : BoundFile) → Contains (names_changed c q) (OfModel, k) → AllSaid c q (filled k h links read)
filled_said c q k None links (Ok content) there = tt
filled_said c q k None links (Err refusal) there = tt
filled_said c q k (Some h) links (Ok content) there = holding c q k (Some _) there
filled_said c q k (Some h) links (Err refusal) there = tt

placing_said : (c : Text) (q : Request) (k : Key) (h : Option ModelContent) (new : Saying) → Contains (names_changed c q) (OfModel, k) → AllSaid c q (placing k h new)
placing_said c q k None (Ok i) there = tt
placing_said c q k None (Err refusal) there = tt
placing_said c q k (Some h) (Ok i) there = holding c q k (Some _) there
placing_said c q k (Some h) (Err refusal) there = tt

dropping_said : (c : Text) (q : Request) (k : Key) (name : ℕ) (h : Option ModelContent) → Contains (names_changed c q) (OfModel, k) → AllSaid c q (dropping k name h)
dropping_said c q k name None there = tt
dropping_said c q k name (Some h) there = holding c q k (Some _) there

relisted_said : (c : Text) (q : Request) (k : Key) (change : Listing → Listing) (g : Option Listing) → Contains (names_changed c q) (OfGroup, k) → AllSaid c q (relisted k change g)
relisted_said c q k change None there = tt
relisted_said c q k change (Some g) there = listing c q k (Some _) there

unless_own_said : (c to : Text) (q : Request) (e : Edit) → IsSaid c q e → AllSaid c q (unless_own c to e)
unless_own_said c to q e is = elim (bytes_eq to c) as (λ t. AllSaid c q (if t then [] else e ∷ [])) [ true ↦ tt | false ↦ (is, tt) ]

edits_said : (a : Readers) (c : Text) (q : Request) → AllSaid c q (meaning a c q).edits
edits_said a c (CreateModel name schema) = holding c (CreateModel name schema) (key_of c name) (Some _) (only (OfModel, key_of c name))
edits_said a c (DeleteModel name) = holding c (DeleteModel name) (key_of c name) None (only (OfModel, key_of c name))
edits_said a c (Put k file links) = filled_said c (Put k file links) k (a.content k) links (read_content a.schemas (a.content k) (link_names links) (file_of file)) (only (OfModel, k))
edits_said a c (Export k links) = tt
edits_said a c (Names k) = tt
edits_said a c (Get k name) = tt
edits_said a c (Add k text) = placing_said c (Add k text) k (a.content k) (said a.schemas (a.content k) (next_in (a.content k)) text) (only (OfModel, k))
edits_said a c (Set k name text) = placing_said c (Set k name text) k (a.content k) (said a.schemas (a.content k) name text) (only (OfModel, k))
edits_said a c (DropInstance k name) = dropping_said c (DropInstance k name) k name (a.content k) (only (OfModel, k))
edits_said a c ListItems = tt
edits_said a c (GrantModel name to l) =
    let e : Edit = EditModel (key_of c name) (Grants to (Some l)) in
    unless_own_said c to (GrantModel name to l) e (grant c (GrantModel name to l) e to (only (OfModel, key_of c name)) refl (λ d. refl))
edits_said a c (RevokeModel name to) = (no_grant c (RevokeModel name to) (EditModel (key_of c name) (Grants to None)) (only (OfModel, key_of c name)) (λ d. refl), tt)
edits_said a c (CreateGroup name schema) = listing c (CreateGroup name schema) (key_of c name) (Some _) (only (OfGroup, key_of c name))
edits_said a c (DeleteGroup name) = listing c (DeleteGroup name) (key_of c name) None (only (OfGroup, key_of c name))
edits_said a c (GrantGroup name to) =
    let e : Edit = EditGroup (key_of c name) (Grants to (Some Read)) in
    unless_own_said c to (GrantGroup name to) e (grant c (GrantGroup name to) e to (only (OfGroup, key_of c name)) refl (λ d. refl))
edits_said a c (RevokeGroup name to) = (no_grant c (RevokeGroup name to) (EditGroup (key_of c name) (Grants to None)) (only (OfGroup, key_of c name)) (λ d. refl), tt)
edits_said a c (Include group k) = relisted_said c (Include group k) (key_of c group) (with_member k) (a.listing (key_of c group)) (only (OfGroup, key_of c group))
edits_said a c (Exclude group k) = relisted_said c (Exclude group k) (key_of c group) (without_member k) (a.listing (key_of c group)) (only (OfGroup, key_of c group))
edits_said a c (Members group) = tt
edits_said a c (Extent group entity) = tt
edits_said a c (Users group place role) = tt
edits_said a c (Validate group) = tt
edits_said a c Schemas = tt
edits_said a c (CheckSchema text) = tt

outcome_said : (a : Readers) (c : Text) (q : Request) (refusal : Option Refusal) → AllSaid c q (outcome (meaning a c q) refusal).edits
outcome_said a c q None = edits_said a c q
outcome_said a c q (Some refusal) = tt

answer_said : (a : Readers) (c : Text) (q : Request) → AllSaid c q (answer a c q).edits
answer_said a c q = outcome_said a c q (first_some (meaning a c q).tests)

pub edits_are_said : EditsAreSaid
edits_are_said r c q = answer_said (asked r c) c q

-- ---- rows of other names stay

named_said : (c : Text) (q : Request) (es : List Edit) → AllSaid c q es → AllByRecursion (FailNamed (λ x. not (list_any (names_model x) (names_changed c q))) (λ x. not (list_any (names_group x) (names_changed c q)))) (names_of es)
named_said c q [] all = tt
named_said c q (e ∷ es) all = (
  (λ x is. ap not (passes_of (names_model x) (names_changed c q) (name_of e) all.0.name is), λ x is. ap not (passes_of (names_group x) (names_changed c q) (name_of e) all.0.name is)),
  named_said c q es all.1,
)

pub next_others : ChangesOnlyNamed
next_others r c q ordered =
    let names = names_changed c q in
    let es = (answer (asked r c) c q).edits in
    others_changed (λ x. not (list_any (names_model x) names)) (λ x. not (list_any (names_group x) names)) es r ordered (named_said c q es (answer_said (asked r c) c q))

-- ---- refused requests

stored_done : (read : BoundFile) (refusal : Refusal) → stored read ≡ Refused refusal → ⊥
stored_done (Ok content) refusal e = cc
stored_done (Err fault) refusal e = cc

exported_done : (linked : Bool) (file : Text) (links : List Link) (refusal : Refusal) → exported linked file links ≡ Refused refusal → ⊥
exported_done true file links refusal e = cc
exported_done false file links refusal e = cc

checked_done : (found : Result Checked SchemaFault) (refusal : Refusal) → checks.told found ≡ Refused refusal → ⊥
checked_done (Ok schema) refusal e = cc
checked_done (Err fault) refusal e = cc

-- what a request is answered that passes its tests is no refusal
is_done : (a : Readers) (c : Text) (q : Request) (refusal : Refusal) → (meaning a c q).reply ≡ Refused refusal → ⊥
is_done a c (CreateModel name schema) refusal e = cc
is_done a c (DeleteModel name) refusal e = cc
is_done a c (Put k file links) refusal e = stored_done (read_content a.schemas (a.content k) (link_names links) (file_of file)) refusal e
is_done a c (Export k linked) refusal e = exported_done linked (text_by (schema_of a.schemas (a.content k)) (a.content k)) (links_of (a.content k)) refusal e
is_done a c (Names k) refusal e = cc
is_done a c (Get k name) refusal e = cc
is_done a c (Add k text) refusal e = cc
is_done a c (Set k name text) refusal e = cc
is_done a c (DropInstance k name) refusal e = cc
is_done a c ListItems refusal e = cc
is_done a c (GrantModel name to l) refusal e = cc
is_done a c (RevokeModel name to) refusal e = cc
is_done a c (CreateGroup name schema) refusal e = cc
is_done a c (DeleteGroup name) refusal e = cc
is_done a c (GrantGroup name to) refusal e = cc
is_done a c (RevokeGroup name to) refusal e = cc
is_done a c (Include group k) refusal e = cc
is_done a c (Exclude group k) refusal e = cc
is_done a c (Members group) refusal e = cc
is_done a c (Extent group entity) refusal e = cc
is_done a c (Users group place role) refusal e = cc
is_done a c (Validate group) refusal e = cc
is_done a c Schemas refusal e = cc
is_done a c (CheckSchema text) refusal e = checked_done (schema_in text) refusal e

refused_none : (r : Plain) (c : Text) (q : Request) (refusal : Refusal) (found : Option Refusal) → (outcome (meaning (asked r c) c q) found).reply ≡ Refused refusal → changed (outcome (meaning (asked r c) c q) found).edits r ≡ r
refused_none r c q refusal None e = absurd (is_done (asked r c) c q refusal e)
refused_none r c q refusal (Some it) e = refl

pub refused_changes_nothing : RefusedChangesNothing
refused_changes_nothing r c q refusal e = refused_none r c q refusal (first_some (meaning (asked r c) c q).tests) e

-- ---- requests that keep off what a partner reaches

said_away : (r : Plain) (c d : Text) (q : Request) (es : List Edit) → KeepsOff r c d q → AllSaid d q es → AllByRecursion (λ (n : Kind × Key). reaches r c n.0 n.1 ≡ false) (names_of es)
said_away r c d q [] off all = tt
said_away r c d q (e ∷ es) off all = (holds_of (λ (n : Kind × Key). reaches r c n.0 n.1 ≡ false) (names_changed d q) (name_of e) all.0.name off.names, said_away r c d q es off all.1)

not_his : (c d : Text) (q : Request) (e : Edit) → (grants_to q ≡ Some c → ⊥) → IsSaid d q e → is_grant_for c e ≡ false
not_his c d q e other is = by (is_grant_for c e) refl
  where
    by : (t : Bool) → is_grant_for c e ≡ t → t ≡ false
    by true h = absurd (other (is.grants c h))
    by false h = refl

none_his : (r : Plain) (c d : Text) (q : Request) (es : List Edit) → KeepsOff r c d q → AllSaid d q es → AllByRecursion (λ (e : Edit). is_grant_for c e ≡ false) es
none_his r c d q [] off all = tt
none_his r c d q (e ∷ es) off all = (not_his c d q e off.grants all.0, none_his r c d q es off all.1)

avoids : (r : Plain) (c d : Text) (q : Request) → KeepsOff r c d q → Avoids r c (answer (asked r d) d q).edits
avoids r c d q off =
    let es = (answer (asked r d) d q).edits in
    let all = answer_said (asked r d) d q in
    record { names = said_away r c d q es off all; grants = none_his r c d q es off all }

pub keeping_off_is_outside : KeepingOffIsOutside
keeping_off_is_outside r c t reply off = inr (avoids r c t.caller t.request off)

pub keeping_off_part : KeepingOffPart
keeping_off_part r c d q ordered off = outside_turn_part r c d q ordered (avoids r c d q off)

pub keeping_off_reach : KeepingOffReach
keeping_off_reach r c d q ordered off = outside_turn_reach r c d q ordered (avoids r c d q off)
