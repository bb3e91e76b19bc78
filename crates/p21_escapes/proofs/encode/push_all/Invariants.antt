use Rattle.std.proofs.Common.{◌≡◌, ◌++◌, length, take, IsUtf8}
use Rattle.std.specs.Str.Iter.{chars_rest}
use Rattle.std.specs.Str.{chars}
use Rattle.p21_escapes.specs.Encoding.{encoded, runs, runs_text, with_run}
use Rattle.p21_escapes.proofs.encode.push_all.Given as goal

abbrev pub invariant-loop-c : goal.invariant-loop-c
invariant-loop-c l = record {
  utf8 : IsUtf8 (chars_rest l.c-iterator);
  kept : take (length l.fn.out.items) l.out.items ≡ l.fn.out.items;
  text : l.out.items ++ runs_text (with_run l.run.items (runs (chars (chars_rest l.c-iterator)))) ≡ l.fn.out.items ++ encoded l.fn.text;
}
