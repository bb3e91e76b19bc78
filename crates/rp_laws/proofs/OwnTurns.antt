-- The edits of each request are such as its caller may make, and so what he sees after his turn comes from what he sees.
use Rattle.std.proofs.Common.{◌≡◌, ℕ, true, false, inl, inr, List, [], ◌∷◌, Option, Some, None, Ok, Err, is_some, refl, sym, ◌∙◌, ap}
use Rattle.std.specs.Prelude.{if◌then◌else◌}
use Rattle.std.specs.Str.{bytes_eq}
use Rattle.std.proofs.lemmas.Slice.Eq.{bytes_eq-Decides}
use Rattle.p21_grammar.specs.File.{file_of}
use Rattle.rp_content.specs.declared.link.Link.{Link}
use Rattle.rp_rows.specs.declared.rows.Level.TheVariants.{Read}
use Rattle.rp_rows.specs.declared.rows.Listing.{Listing}
use Rattle.rp_rows.specs.declared.rows.Key.{Key}
use Rattle.rp_rows.specs.Rows.{Text, Model, key_of}
use Rattle.rp_rows.specs.Contents.{link_names}
use Rattle.rp_rows.specs.Alterations.{Grants}
use Rattle.rp_plain.specs.declared.messages.Request.{Request}
use Rattle.rp_plain.specs.declared.messages.Request.TheVariants.{CreateModel, DeleteModel, Put, Add, Set, DropInstance, GrantModel, RevokeModel, CreateGroup, DeleteGroup, GrantGroup, RevokeGroup, Include, Exclude}
use Rattle.rp_plain.specs.declared.messages.Refusal.{Refusal}
use Rattle.rp_plain.specs.Plain.{Plain, part, model_at, group_at}
use Rattle.rp_plain.specs.Edits.{Edit, EditModel, EditGroup, changed}
use Rattle.rp_plain.specs.Readers.{asked, held}
use Rattle.rp_plain.specs.Meaning.{first_some}
use Rattle.rp_plain.specs.Files.{BoundFile, read_content, filled}
use Rattle.rp_plain.specs.Grants.{unless_own}
use Rattle.rp_rows.specs.Listings.{with_member, without_member}
use Rattle.rp_plain.specs.Groups.{relisted}
use Rattle.rp_plain.specs.Instances.{Saying, said, next_in, placing, dropping}
use Rattle.rp_plain.specs.Step.{meaning, outcome, answer, next}
use Rattle.rp_plain.specs.Valid.{IsOrdered}
use Rattle.rp_laws.proofs.Sight.{part_twice}
use Rattle.rp_laws.proofs.Reading.{asked-part}
use Rattle.rp_laws.proofs.Keeping.{part_ordered}
use Rattle.rp_laws.proofs.Own.{MayEdit, MayAll, own_edits}

-- ---- the edits of each request are such

itself : (c : Text) → bytes_eq c c ≡ true
itself c = (bytes_eq-Decides c c).1 refl

filled_may : (r : Plain) (c : Text) (k : Key) (links : List Link) (read : BoundFile) (o : Option Model) → model_at r c k ≡ o → MayAll r c (filled k (held o) links read)
filled_may r c k links (Ok content) None e = tt
filled_may r c k links (Err refusal) None e = tt
filled_may r c k links (Ok content) (Some m) e = (inr (tt, ap is_some e), tt)
filled_may r c k links (Err refusal) (Some m) e = tt

placing_may : (r : Plain) (c : Text) (k : Key) (new : Saying) (o : Option Model) → model_at r c k ≡ o → MayAll r c (placing k (held o) new)
placing_may r c k (Ok i) None e = tt
placing_may r c k (Err refusal) None e = tt
placing_may r c k (Ok i) (Some m) e = (inr (tt, ap is_some e), tt)
placing_may r c k (Err refusal) (Some m) e = tt

dropping_may : (r : Plain) (c : Text) (k : Key) (name : ℕ) (o : Option Model) → model_at r c k ≡ o → MayAll r c (dropping k name (held o))
dropping_may r c k name None e = tt
dropping_may r c k name (Some m) e = (inr (tt, ap is_some e), tt)

relisted_may : (r : Plain) (c group : Text) (change : Listing → Listing) (o : Option Listing) → MayAll r c (relisted (key_of c group) change o)
relisted_may r c group change None = tt
relisted_may r c group change (Some g) = (itself c, tt)

unless_own_may : (r : Plain) (c to : Text) (e : Edit) → MayEdit r c e → MayAll r c (unless_own c to e)
unless_own_may r c to e may = elim (bytes_eq to c) as (λ t. MayAll r c (if t then [] else e ∷ [])) [ true ↦ tt | false ↦ (may, tt) ]

-- what only reads is in the last line
edits_may : (r : Plain) (c : Text) (q : Request) → MayAll r c (meaning (asked r c) c q).edits
edits_may r c (CreateModel name schema) = (inl (itself c), tt)
edits_may r c (DeleteModel name) = (inl (itself c), tt)
edits_may r c (Put k file links) = filled_may r c k links (read_content r.schemas (held (model_at r c k)) (link_names links) (file_of file)) (model_at r c k) refl
edits_may r c (Add k text) = let h = held (model_at r c k) in placing_may r c k (said r.schemas h (next_in h) text) (model_at r c k) refl
edits_may r c (Set k name text) = placing_may r c k (said r.schemas (held (model_at r c k)) name text) (model_at r c k) refl
edits_may r c (DropInstance k name) = dropping_may r c k name (model_at r c k) refl
edits_may r c (GrantModel name to l) = unless_own_may r c to (EditModel (key_of c name) (Grants to (Some l))) (inl (itself c))
edits_may r c (RevokeModel name to) = (inl (itself c), tt)
edits_may r c (CreateGroup name schema) = (itself c, tt)
edits_may r c (DeleteGroup name) = (itself c, tt)
edits_may r c (GrantGroup name to) = unless_own_may r c to (EditGroup (key_of c name) (Grants to (Some Read))) (itself c)
edits_may r c (RevokeGroup name to) = (itself c, tt)
edits_may r c (Include group k) = relisted_may r c group (with_member k) (held (group_at r c (key_of c group)))
edits_may r c (Exclude group k) = relisted_may r c group (without_member k) (held (group_at r c (key_of c group)))
edits_may r c _ = tt

-- ---- own turns

outcome_may : (r : Plain) (c : Text) (q : Request) (refusal : Option Refusal) → MayAll r c (outcome (meaning (asked r c) c q) refusal).edits
outcome_may r c q None = edits_may r c q
outcome_may r c q (Some refusal) = tt

pub own_turn_part : (r : Plain) (c : Text) (q : Request) → IsOrdered r → part (next r c q) c ≡ part (next (part r c) c q) c
own_turn_part r c q ordered =
    own_edits (answer (asked r c) c q).edits r (part r c) c ordered (part_ordered r c ordered) (sym (part_twice r c)) (outcome_may r c q (first_some (meaning (asked r c) c q).tests))
    ∙ ap (λ a. part (changed (answer a c q).edits (part r c)) c) (sym (asked-part r c))
