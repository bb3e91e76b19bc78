use Rattle.p21_canonical.proofs.Ascii.{IsUtf8-grown}
use Rattle.p21_canonical.proofs.output.Output.push_str.Goals as goal

pub invariant_of-self : goal.invariant_of-self
invariant_of-self c = IsUtf8-grown c.extend_from_slice.result c.self.inside.bytes.items c.extend_from_slice.new.self.items c.args.text.now c.as_bytes.result.now c.self.invariant c.utf8.text c.as_bytes.ensures.value c.extend_from_slice.ensures.items
