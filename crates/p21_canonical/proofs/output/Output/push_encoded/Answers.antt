use Rattle.p21_escapes.specs.Encoding.{encoded}
use Rattle.p21_canonical.proofs.Ascii.{IsUtf8-tried, IsUtf8-encoded}
use Rattle.p21_canonical.proofs.output.Output.push_encoded.Goals as goal

pub invariant_of-self : goal.invariant_of-self
invariant_of-self c =
    IsUtf8-tried c.encode_string.result c.self.inside.bytes.items c.encode_string.new.out.items (encoded c.args.text.now)
    c.self.invariant (IsUtf8-encoded c.args.text.now) c.encode_string.ensures.ok c.encode_string.ensures.err
