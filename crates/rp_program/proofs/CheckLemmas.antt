-- The text that was checked, and what is told where a write failed.
use Rattle.std.proofs.Common.{◌≡◌, ℕ, List, Option, Some, None, IfSome, Result, Ok, Err, refl, sym, ◌∙◌}
use Rattle.std.specs.Prelude.{IsErrAnd, IsErrOf}
use Rattle.ex_check.specs.declared.report.CheckFault.{CheckFault}
use Rattle.ex_check.specs.declared.report.CheckFault.TheVariants as checked
use Rattle.rp_files.specs.Files.{Held, file_at}
use Rattle.rp_program.specs.declared.fault.Fault.{Fault}
use Rattle.rp_program.specs.declared.fault.Fault.TheVariants.{Write}
use Rattle.rp_program.specs.Starts.{check_fault}
use Rattle.rp_program.specs.Checks.{IsFile}

pub is_file : (files : Option Held) (path text : List ℕ) → IfSome files (λ held. file_at held path ≡ Ok text) → IsFile files path text
is_file None path text known = tt
is_file (Some held) path text known = known

of_write : (fault : CheckFault) → check_fault fault ≡ Write → fault ≡ checked.WriteFault
of_write checked.NoMemory e = cc
of_write checked.WriteFault e = refl

pub write_failed : {T : Type 0} (r : Result T Fault) (fault : CheckFault) → IsErrAnd r (λ e. e ≡ check_fault fault) → IsErrOf r Write → fault ≡ checked.WriteFault
write_failed (Ok done) fault told is = absurd told
write_failed (Err e) fault told is =
    let write : e ≡ Write = cc in
    of_write fault (sym told ∙ write)
