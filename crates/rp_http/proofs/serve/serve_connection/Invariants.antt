use Rattle.std.proofs.Common.{◌≡◌, ◌+◌, ◌*◌}
use Rattle.rp_http.specs.declared.connection.Phase.TheVariants.{Turns}
use Rattle.rp_http.specs.Inboxes.{weight}
use Rattle.rp_http.specs.Serving.{IsServed}
use Rattle.rp_http.proofs.Feeding.{IsFed}
use Rattle.rp_http.proofs.serve.serve_connection.Given as goal

abbrev pub invariant-turns : goal.invariant-turns
invariant-turns g l = record {
  served : IsServed l.tokens l.initial.repository.content l.repository.content (g.R.Source.remaining l.initial.reader) (g.R.Source.remaining l.reader)
      (g.W.Sink.contents l.initial.writer) (g.W.Sink.contents l.writer) l.connection;
  turns : l.connection.phase ≡ Turns;
  partners : l.repository.content.partners ≡ l.initial.repository.content.partners;
  fed : IsFed (g.R.Source.reads_made l.initial.reader) (g.R.Source.reads_made l.reader) (g.R.Source.remaining l.initial.reader) (g.R.Source.remaining l.reader) l.connection.reads;
  same_reader : g.R.Source.read_failures l.reader ≡ g.R.Source.read_failures l.initial.reader;
  same_writer : g.W.Sink.write_failures l.writer ≡ g.W.Sink.write_failures l.initial.writer;
}

abbrev pub decreases-turns : goal.decreases-turns
decreases-turns g l = l.connection.reads * 16387 + weight l.connection.inbox
