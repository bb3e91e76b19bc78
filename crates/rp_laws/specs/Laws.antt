-- What holds of the plain repository for each partner.
use Rattle.std.specs.Prelude.{◌≡◌, ℕ, Bool, true, false, not, ◌&&◌, List, [], Contains, Some, None, filter}
use Rattle.std.specs.List.{AllByRecursion, list_any}
use Rattle.ex_types.specs.Checked.{Checked}
use Rattle.p21_laws.specs.Contents.{IsRead}
use Rattle.p21_canonical.specs.Trees.{canonical}
use Rattle.rp_content.specs.declared.content.Content.{Content}
use Rattle.rp_rows.specs.Contents.{link_names}
use Rattle.rp_rows.specs.declared.rows.Key.{Key}
use Rattle.rp_rows.specs.Rows.{is_row, Model, GroupRow}
use Rattle.rp_plain.specs.declared.messages.Request.{Request}
use Rattle.rp_plain.specs.declared.messages.Refusal.{Refusal}
use Rattle.rp_plain.specs.declared.messages.Reply.{Reply}
use Rattle.rp_plain.specs.declared.messages.Reply.TheVariants.{Refused}
use Rattle.rp_plain.specs.Plain.{Plain, Kind, OfModel, OfGroup, part, reaches}
use Rattle.rp_plain.specs.Edits.{Edit, name_of, is_grant_for, Avoids}
use Rattle.rp_plain.specs.Changes.{names_changed, grants_to, KeepsOff}
use Rattle.rp_plain.specs.Readers.{asked}
use Rattle.rp_plain.specs.Meaning.{has_text, schema_named}
use Rattle.rp_plain.specs.Step.{answer, reply_to, next}
use Rattle.rp_plain.specs.Opening.{new_fault, opened}
use Rattle.rp_plain.specs.Turns.{Turn, Run, IsOutside, OthersOutside, requests_of, replies_to, alone, alone_end}
use Rattle.rp_plain.specs.Valid.{IsOrdered, IsValid}

-- a step keeps the order of models and groups
abbrev pub KeepsOrder : Type 0
KeepsOrder = (r : Plain) (c : List ℕ) (q : Request) → IsOrdered r → IsOrdered (next r c q)

-- a partner's step keeps the repository valid
abbrev pub KeepsValid : Type 0
KeepsValid = (r : Plain) (c : List ℕ) (q : Request) → has_text r.partners c ≡ true → IsValid r → IsValid (next r c q)

-- a repository as it is opened is valid
abbrev pub OpensValid : Type 0
OpensValid = (schemas : List Checked) (partners : List (List ℕ)) → new_fault schemas partners ≡ None → IsValid (opened schemas partners)

abbrev pub is_model_name : Kind → Bool
is_model_name OfModel = true
is_model_name OfGroup = false

-- whether a name is that of this row, among models or among groups
abbrev pub names_model : Model → Kind × Key → Bool
names_model x n = is_model_name n.0 && is_row n.1 x

abbrev pub names_group : GroupRow → Kind × Key → Bool
names_group x n = not (is_model_name n.0) && is_row n.1 x

-- an edit has a name that c's request says, and gives nobody a level but whom the request grants to
pub record IsSaid (c : List ℕ) (q : Request) (e : Edit) : Type 0 where
  pub name : Contains (names_changed c q) (name_of e)
  pub grants : (d : List ℕ) → is_grant_for d e ≡ true → grants_to q ≡ Some d

-- so are all edits of an answer
abbrev pub EditsAreSaid : Type 0
EditsAreSaid = (r : Plain) (c : List ℕ) (q : Request) → AllByRecursion (IsSaid c q) (answer (asked r c) c q).edits

-- a step changes at most the rows of the names that the request says: the others stay, in their order
abbrev pub ChangesOnlyNamed : Type 0
ChangesOnlyNamed = (r : Plain) (c : List ℕ) (q : Request) → IsOrdered r → let names = names_changed c q in
    (filter (λ x. not (list_any (names_model x) names)) (next r c q).models ≡ filter (λ x. not (list_any (names_model x) names)) r.models)
    × (filter (λ x. not (list_any (names_group x) names)) (next r c q).groups ≡ filter (λ x. not (list_any (names_group x) names)) r.groups)

-- a request that is refused changes nothing
abbrev pub RefusedChangesNothing : Type 0
RefusedChangesNothing = (r : Plain) (c : List ℕ) (q : Request) (refusal : Refusal) → reply_to r c q ≡ Refused refusal → next r c q ≡ r

-- a partner's reply, and what he sees after it, come from what he sees alone
abbrev pub OwnTurnReply : Type 0
OwnTurnReply = (r : Plain) (c : List ℕ) (q : Request) → reply_to r c q ≡ reply_to (part r c) c q

abbrev pub OwnTurnPart : Type 0
OwnTurnPart = (r : Plain) (c : List ℕ) (q : Request) → IsOrdered r → part (next r c q) c ≡ part (next (part r c) c q) c

-- a turn of another that avoids what a partner reaches leaves what he sees and what he reaches
abbrev pub OutsideTurnPart : Type 0
OutsideTurnPart = (r : Plain) (c d : List ℕ) (q : Request) → IsOrdered r → Avoids r c (answer (asked r d) d q).edits → part (next r d q) c ≡ part r c

abbrev pub OutsideTurnReach : Type 0
OutsideTurnReach = (r : Plain) (c d : List ℕ) (q : Request) → IsOrdered r → Avoids r c (answer (asked r d) d q).edits → (kind : Kind) (k : Key) → reaches (next r d q) c kind k ≡ reaches r c kind k

-- a turn whose request keeps off what c reaches, and isn't a grant to him, is outside for him, whatever it is answered
abbrev pub KeepingOffIsOutside : Type 0
KeepingOffIsOutside = (r : Plain) (c : List ℕ) (t : Turn) (reply : Reply) → KeepsOff r c t.caller t.request → IsOutside r c t reply

-- so it leaves what he sees and what he reaches
abbrev pub KeepingOffPart : Type 0
KeepingOffPart = (r : Plain) (c d : List ℕ) (q : Request) → IsOrdered r → KeepsOff r c d q → part (next r d q) c ≡ part r c

abbrev pub KeepingOffReach : Type 0
KeepingOffReach = (r : Plain) (c d : List ℕ) (q : Request) → IsOrdered r → KeepsOff r c d q → (kind : Kind) (k : Key) → reaches (next r d q) c kind k ≡ reaches r c kind k

-- in a run where the turns of others are outside, a partner's replies are those that he gets alone
abbrev pub OneRunReplies : Type 0
OneRunReplies = (r end : Plain) (c : List ℕ) (turns : List Turn) (replies : List Reply) → IsOrdered r → Run r turns replies end → OthersOutside r c turns replies → replies_to c turns replies ≡ alone (part r c) c (requests_of c turns)

abbrev pub OneRunPart : Type 0
OneRunPart = (r end : Plain) (c : List ℕ) (turns : List Turn) (replies : List Reply) → IsOrdered r → Run r turns replies end → OthersOutside r c turns replies → part end c ≡ part (alone_end (part r c) c (requests_of c turns)) c

-- two runs that begin with the same for a partner, and in which he asks the same
abbrev pub TwoRuns : Type 0
TwoRuns = (r s end last : Plain) (c : List ℕ) (turns others : List Turn) (replies answers : List Reply) → IsOrdered r → IsOrdered s
    → Run r turns replies end → Run s others answers last → OthersOutside r c turns replies → OthersOutside s c others answers
    → part r c ≡ part s c → requests_of c turns ≡ requests_of c others → replies_to c turns replies ≡ replies_to c others answers

-- a content is read of its canonical text, but for its links, where their names are linked
abbrev pub IsReadAgain : Checked → Content → Type 0
IsReadAgain schema c = IsRead schema (link_names c.links) (canonical schema c) (record c { links = [] })

-- by the schema that a model is of
abbrev pub IsModelReadAgain : List Checked → Model → Type 0
IsModelReadAgain schemas m = (schema : Checked) → schema_named schemas m.holds.schema ≡ Some schema → IsReadAgain schema m.holds.content

-- so it is with each model of a repository
abbrev pub IsReadAgainWhole : Plain → Type 0
IsReadAgainWhole r = AllByRecursion (IsModelReadAgain r.schemas) r.models

-- so it is with each valid repository of these schemas
abbrev pub TextAgain : List Checked → Type 0
TextAgain schemas = (r : Plain) → r.schemas ≡ schemas → IsValid r → IsReadAgainWhole r
