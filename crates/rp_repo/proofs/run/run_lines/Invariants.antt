use Rattle.std.proofs.Common.{◌≡◌, ◌≤◌, ◌+◌, ◌*◌, ℕ, List, length}
use Rattle.rp_io.specs.Held.{left, turns, unread, IsSettled, Spends}
use Rattle.rp_repo.specs.LineRuns.{max_reads, Replies, TakesLines}
use Rattle.rp_repo.proofs.run.run_lines.Given as goal

abbrev pub invariant-lines : goal.invariant-lines
invariant-lines g l = record {
  done : (lines : List (List ℕ)) × TakesLines (g.R.Source.remaining l.initial.reader) (left l.chunk (g.R.Source.remaining l.reader)) lines
      × Replies l.initial.repository.content l.repository.content (g.W.Sink.contents l.initial.writer) (g.W.Sink.contents l.writer) lines
      × (l.count ≡ length lines);
  settled : IsSettled l.chunk (g.R.Source.remaining l.reader);
  spends : Spends (unread max_reads) l.chunk (g.R.Source.reads_made l.initial.reader) (g.R.Source.reads_made l.reader)
      (g.R.Source.remaining l.initial.reader) (g.R.Source.remaining l.reader);
  same_reader : g.R.Source.read_failures l.reader ≡ g.R.Source.read_failures l.initial.reader;
  same_writer : g.W.Sink.write_failures l.writer ≡ g.W.Sink.write_failures l.initial.writer;
  fits : l.count + turns l.chunk ≤ 4294967295 * 65537;
}

abbrev pub decreases-lines : goal.decreases-lines
decreases-lines g l = turns l.chunk
