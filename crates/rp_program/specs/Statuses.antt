-- The exit status of the process.
use Rattle.std.specs.Prelude.{ℕ, Result, Ok, Err}
use Rattle.ex_check.specs.declared.report.Verdict.TheVariants.{Accepted, Refused}
use Rattle.rp_program.specs.declared.ending.Done.{Done}
use Rattle.rp_delivery.specs.declared.judged.Judgement.TheVariants.{Kept, NotKept}
use Rattle.rp_program.specs.declared.ending.Done.TheVariants.{Helped, Answered, Served, Checked, Validated}

-- 0 where the command did its work, but 1 where it found a text that is no schema, or files that don't keep its rules; 2 for each
-- fault
abbrev pub status_of : {F : Type 0} → Result Done F → ℕ
status_of (Ok Helped) = 0
status_of (Ok (Answered lines)) = 0
status_of (Ok Served) = 0
status_of (Ok (Checked Accepted)) = 0
status_of (Ok (Checked Refused)) = 1
status_of (Ok (Validated Kept)) = 0
status_of (Ok (Validated NotKept)) = 1
status_of (Err fault) = 2
