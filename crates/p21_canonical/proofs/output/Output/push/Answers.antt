use Rattle.p21_canonical.proofs.Ascii.{IsUtf8-more, IsUtf8-one}
use Rattle.std.proofs.Common.{◌∷◌, []}
use Rattle.p21_canonical.proofs.output.Output.push.Goals as goal

pub invariant_of-self-2 : goal.invariant_of-self-2
invariant_of-self-2 c = IsUtf8-more c.self.inside.bytes.items c.push.new.self.items (c.args.character ∷ []) c.self.invariant (IsUtf8-one c.args.character c.requires) c.in_ok-push.ensures.items
