-- A file that was read in one pass.
use Rattle.std.proofs.Common.{◌≡◌, ℕ, true, false, List, Some, Result, Ok, Err, ⊎_elim, ap}
use Rattle.std.proofs.lemmas.Bool.{cases_Bool}
use Rattle.ex_types.specs.Checked.{Checked}
use Rattle.p21_bind.specs.Files.{bound_file}
use Rattle.p21_bind.specs.OnePass.{found, loaded}
use Rattle.p21_grammar.specs.Schemas.{is_of_schema}
use Rattle.p21_tree.specs.declared.fault.FileFault.{FileFault}
use Rattle.p21_tree.specs.declared.fault.InstanceFault.{InstanceFault}
use Rattle.p21_tree.specs.declared.raw.Raw.{Raw}
use Rattle.rp_content.specs.declared.content.Content.{Content}
use Rattle.rp_plain.specs.Files.{read_for, told}
use Rattle.rp_plain.specs.Meaning.{schema_named}
use Rattle.rp_rows.specs.declared.rows.ModelContent.{ModelContent}

bound_well : (r : Result Content InstanceFault) (content : Content) → found r ≡ Some content → told r ≡ Ok content
bound_well (Ok held) content e = let same : held ≡ content = cc in ap (λ c. Ok c) same
bound_well (Err fault) content e = cc

pub read_loaded : (schemas : List Checked) (h : ModelContent) (schema : Checked) (linked : List ℕ) (content : Content) (file : Result Raw FileFault)
    → schema_named schemas h.schema ≡ Some schema → loaded schema h.schema linked file ≡ Some content → read_for schemas h linked file ≡ Ok content
read_loaded schemas h schema linked content (Err fault) named e = cc
read_loaded schemas h schema linked content (Ok raw) named e = ⊎_elim
    (λ (is : is_of_schema h.schema raw ≡ true). rw (is, named) (bound_well (bound_file schema linked raw) content (rw is at e)))
    (λ (other : is_of_schema h.schema raw ≡ false). let none = rw other at e in cc)
    (cases_Bool (is_of_schema h.schema raw))
