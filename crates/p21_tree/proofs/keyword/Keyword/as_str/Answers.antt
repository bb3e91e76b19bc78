use Rattle.std.proofs.Common.{rules}
use Rattle.std.proofs.lemmas.Str.{IsUtf8-from_ascii}
use Rattle.p21_tree.proofs.keyword.Keyword.as_str.Goals as goal

pub unwrap-requires : goal.unwrap-requires
unwrap-requires c =
    let utf8 = IsUtf8-from_ascii c.self.inside.text.now c.self.invariant in
    search rules
