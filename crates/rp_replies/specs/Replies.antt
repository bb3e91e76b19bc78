-- The bytes of a reply.
use Rattle.std.specs.Prelude.{ℕ, List, [], ◌∷◌, ◌++◌, Option, Some, None, codes}
use Rattle.serde_json.specs.Data.{Data, boolean, number, unsigned, string, array, Items, no_items, item, object, Members, no_members, member}
use Rattle.serde_json.specs.Written.{compact_text}
use Rattle.p21_tree.specs.declared.fault.FaultKind.{FaultKind}
use Rattle.p21_tree.specs.declared.fault.FaultKind.TheVariants.{Token, Open, Escape, Page, Code, Utf8, Number, Syntax, Sections, Deep}
use Rattle.p21_tree.specs.declared.fault.InstanceFaultKind.{InstanceFaultKind}
use Rattle.p21_tree.specs.declared.fault.InstanceFaultKind.TheVariants.{Twice, UnknownEntity, IllegalCombination, WrongCount, NotDerived, WrongKind, Undefined}
use Rattle.rp_json.specs.Written.{with_number, with_string, list_of, link_data}
use Rattle.rp_rows.specs.declared.rows.Right.{Right}
use Rattle.rp_rows.specs.declared.rows.Right.TheVariants.{Unseen, Reads, Groups, Writes, Owns}
use Rattle.rp_population.specs.declared.place.Place.{Place}
use Rattle.rp_meaning.specs.declared.report.Verdict.{Verdict}
use Rattle.rp_meaning.specs.declared.report.Verdict.TheVariants as verdict
use Rattle.rp_plain.specs.declared.lists.Item.{Item}
use Rattle.rp_plain.specs.declared.lists.Member.{Member}
use Rattle.rp_plain.specs.declared.lists.ListedInstance.{ListedInstance}
use Rattle.rp_plain.specs.declared.reports.CheckKind.{CheckKind}
use Rattle.rp_plain.specs.declared.reports.CheckKind.TheVariants as check
use Rattle.rp_plain.specs.declared.reports.RuleName.{RuleName}
use Rattle.rp_plain.specs.declared.reports.ToldCheck.{ToldCheck}
use Rattle.rp_plain.specs.declared.reports.ToldCulprit.{ToldCulprit}
use Rattle.rp_plain.specs.declared.reports.ToldReport.{ToldReport}
use Rattle.rp_plain.specs.declared.messages.LinkFaultKind.{LinkFaultKind}
use Rattle.rp_plain.specs.declared.messages.LinkFaultKind.TheVariants.{Defined, Own, NotSeen, OtherSchema, NoInstance}
use Rattle.rp_plain.specs.declared.messages.Refusal.{Refusal}
use Rattle.rp_plain.specs.declared.messages.Refusal.TheVariants.{BadRequest, TooLarge, BadName, UnknownPartner, UnknownSchema, Exists, NoSuchItem, NoRight, WrongSchema, Membership, FileFault, InstanceFault, LinkFault, NoSuchInstance, InUse, TooMany, HasLinks, NoMemory}
use Rattle.rp_plain.specs.declared.messages.Reply.{Reply}
use Rattle.rp_plain.specs.declared.messages.Reply.TheVariants.{Done, Stored, File, Linked, Names, Line, Added, Listed, Members as ListedMembers, Extent, Users, Validated, Schemas, Checked, Faulty, Refused}
use Rattle.ex_check.specs.declared.fault.SchemaFault.{SchemaFault}
use Rattle.ex_check.specs.Check.{name as fault_name, place as fault_place}

-- an object of one member
abbrev pub only : List ℕ → Data → Data
only key d = object (member key d no_members)

-- ---- refusals

abbrev pub file_kind : FaultKind → List ℕ
file_kind Token = codes "Token"
file_kind Open = codes "Open"
file_kind Escape = codes "Escape"
file_kind Page = codes "Page"
file_kind Code = codes "Code"
file_kind Utf8 = codes "Utf8"
file_kind Number = codes "Number"
file_kind Syntax = codes "Syntax"
file_kind Sections = codes "Sections"
file_kind Deep = codes "Deep"

abbrev pub instance_kind : InstanceFaultKind → List ℕ
instance_kind Twice = codes "Twice"
instance_kind UnknownEntity = codes "UnknownEntity"
instance_kind IllegalCombination = codes "IllegalCombination"
instance_kind WrongCount = codes "WrongCount"
instance_kind NotDerived = codes "NotDerived"
instance_kind WrongKind = codes "WrongKind"
instance_kind Undefined = codes "Undefined"

abbrev pub link_kind : LinkFaultKind → List ℕ
link_kind Defined = codes "Defined"
link_kind Own = codes "Own"
link_kind NotSeen = codes "NotSeen"
link_kind OtherSchema = codes "OtherSchema"
link_kind NoInstance = codes "NoInstance"

-- a refusal that has a code and a name alone
abbrev pub coded : ℕ → List ℕ → Members
coded code name = with_number (codes "code") code (with_string (codes "name") name no_members)

abbrev pub refusal_members : Refusal → Members
refusal_members BadRequest = coded 1 (codes "BadRequest")
refusal_members TooLarge = coded 2 (codes "TooLarge")
refusal_members BadName = coded 3 (codes "BadName")
refusal_members UnknownPartner = coded 4 (codes "UnknownPartner")
refusal_members UnknownSchema = coded 5 (codes "UnknownSchema")
refusal_members Exists = coded 6 (codes "Exists")
refusal_members NoSuchItem = coded 7 (codes "NoSuchItem")
refusal_members NoRight = coded 8 (codes "NoRight")
refusal_members WrongSchema = coded 9 (codes "WrongSchema")
refusal_members Membership = coded 10 (codes "Membership")
refusal_members (FileFault fault) = with_number (codes "at") fault.at (with_number (codes "code") 11 (with_string (codes "kind") (file_kind fault.kind) (with_string (codes "name") (codes "FileFault") no_members)))
refusal_members (InstanceFault fault) = with_number (codes "code") 12 (with_number (codes "instance") fault.instance (with_string (codes "kind") (instance_kind fault.kind) (with_string (codes "name") (codes "InstanceFault") no_members)))
refusal_members (LinkFault fault) = with_number (codes "code") 13 (with_string (codes "kind") (link_kind fault.kind) (with_number (codes "link") fault.link (with_string (codes "name") (codes "LinkFault") no_members)))
refusal_members NoSuchInstance = coded 14 (codes "NoSuchInstance")
refusal_members InUse = coded 15 (codes "InUse")
refusal_members TooMany = coded 16 (codes "TooMany")
refusal_members HasLinks = coded 17 (codes "HasLinks")
refusal_members NoMemory = coded 18 (codes "NoMemory")

-- ---- lists

abbrev pub listed_instance_data : ListedInstance → Data
listed_instance_data t = object (with_number (codes "name") t.name (with_string (codes "type") t.type_name no_members))

-- what isn't seen stands in no list
abbrev pub level_word : Right → List ℕ
level_word Unseen = codes "none"
level_word Reads = codes "read"
level_word Groups = codes "group"
level_word Writes = codes "write"
level_word Owns = codes "owner"

abbrev pub item_data : Item → Data
item_data i = object (with_string (codes "level") (level_word i.right) (with_string (codes "name") i.name (with_string (codes "owner") i.owner (with_string (codes "schema") i.schema no_members))))

-- whether it counts, and the model
abbrev pub member_data : Member → Data
member_data m = object (member (codes "counts") (boolean m.counts) (with_string (codes "model") m.model.name (with_string (codes "owner") m.model.owner no_members)))

-- an owner, the name of a model, and that of an instance
abbrev pub instance_data : Place → Data
instance_data p = array (item (string p.model.owner) (item (string p.model.name) (item (number (unsigned p.instance)) no_items)))

-- a place in a text, and of which kind it is
abbrev pub place_data : ℕ → List ℕ → Data
place_data at kind = object (with_number (codes "at") at (with_string (codes "kind") kind no_members))

abbrev pub warning_data : ℕ → Data
warning_data at = place_data at (codes "SelectInTypeof")

abbrev pub fault_data : SchemaFault → Data
fault_data fault = place_data (fault_place fault) (fault_name fault)

-- ---- reports

abbrev pub check_word : CheckKind → List ℕ
check_word check.Unset = codes "unset"
check_word check.Bounds = codes "bounds"
check_word check.Reference = codes "reference"
check_word check.Type = codes "type"
check_word check.Where = codes "where"
check_word check.Unique = codes "unique"
check_word check.Inverse = codes "inverse"
check_word check.Rule = codes "rule"

abbrev pub verdict_word : Verdict → List ℕ
verdict_word verdict.True = codes "TRUE"
verdict_word verdict.False = codes "FALSE"
verdict_word verdict.Unknown = codes "UNKNOWN"
verdict_word verdict.Limit = codes "LIMIT"
verdict_word verdict.NotRun = codes "NOT_RUN"

abbrev pub item_if_any : Option (List ℕ) → Items
item_if_any None = no_items
item_if_any (Some text) = item (string text) no_items

-- a place, and the attribute behind it, if one is told
abbrev pub culprit_data : ToldCulprit → Data
culprit_data x = array (item (string x.model.owner) (item (string x.model.name) (item (number (unsigned x.instance)) (item_if_any x.attribute))))

-- the culprits, if there are any
abbrev pub with_culprits : List ℕ → List ToldCulprit → Members → Members
with_culprits key [] ms = ms
with_culprits key (x ∷ xs) ms = member key (list_of culprit_data (x ∷ xs)) ms

-- what declares a rule and what it is called there, if it is one
abbrev pub with_rule : Option RuleName → Members → Members
with_rule None ms = ms
with_rule (Some rule) ms = with_string (codes "of") rule.of (with_string (codes "rule") rule.rule ms)

-- what stands behind `check`
abbrev pub check_members : ToldCheck → Members
check_members x =
    with_culprits (codes "false") x.violating
    (with_culprits (codes "limit") x.limited
    (with_culprits (codes "not_run") x.not_run
    (with_rule x.rule
    (with_culprits (codes "unknown") x.unknown
    (with_string (codes "verdict") (verdict_word x.verdict) no_members)))))

abbrev pub check_data : ToldCheck → Data
check_data x = object (with_string (codes "check") (check_word x.kind) (check_members x))

abbrev pub report_members : ToldReport → Members
report_members x = member (codes "checks") (list_of check_data x.checks) (with_number (codes "steps") x.steps no_members)

-- ---- replies

-- a reply as JSON
abbrev pub reply_data : Reply → Data
reply_data Done = only (codes "ok") (object no_members)
reply_data (Stored n) = only (codes "ok") (only (codes "instances") (number (unsigned n)))
reply_data (File text) = only (codes "ok") (only (codes "file") (string text))
reply_data (Linked file links) = only (codes "ok") (object (with_string (codes "file") file (member (codes "links") (list_of link_data links) no_members)))
reply_data (Names names) = only (codes "ok") (only (codes "names") (list_of listed_instance_data names))
reply_data (Line text) = only (codes "ok") (only (codes "text") (string text))
reply_data (Added name) = only (codes "ok") (only (codes "name") (number (unsigned name)))
reply_data (Listed groups models) = only (codes "ok") (object (member (codes "groups") (list_of item_data groups) (member (codes "models") (list_of item_data models) no_members)))
reply_data (ListedMembers members) = only (codes "ok") (only (codes "members") (list_of member_data members))
reply_data (Extent places) = only (codes "ok") (only (codes "extent") (list_of instance_data places))
reply_data (Users places) = only (codes "ok") (only (codes "users") (list_of instance_data places))
reply_data (Validated report) = only (codes "ok") (object (report_members report))
reply_data (Schemas names) = only (codes "ok") (only (codes "schemas") (list_of string names))
reply_data (Checked schema warnings) = only (codes "ok") (object (with_string (codes "schema") schema (member (codes "warnings") (list_of warning_data warnings) no_members)))
reply_data (Faulty fault) = only (codes "ok") (only (codes "fault") (fault_data fault))
reply_data (Refused refusal) = only (codes "refused") (object (refusal_members refusal))

-- as JSON without blanks
abbrev pub reply_text : Reply → List ℕ
reply_text reply = compact_text (reply_data reply)

abbrev pub line_of_reply : Reply → List ℕ
line_of_reply reply = reply_text reply ++ 10 ∷ []
