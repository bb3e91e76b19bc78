use Rattle.std.proofs.Common.{rules}
use Rattle.rp_program.proofs.running.run.Goals as goal

pub returns-in-Ok : goal.returns-in-Ok
returns-in-Ok g c = (c.in-Ok.ensures.whole, tt)

pub returns-in-Err-ReadFault : goal.returns-in-Err-ReadFault
returns-in-Err-ReadFault g c = (c.in-Err-ReadFault.ensures.first (search rules), c.in-Err-ReadFault.ensures.read_failed (search rules), tt)

pub returns-in-Err-WriteFault : goal.returns-in-Err-WriteFault
returns-in-Err-WriteFault g c = (c.in-Err-WriteFault.ensures.cut (search rules), c.in-Err-WriteFault.ensures.write_failed (search rules), tt)
