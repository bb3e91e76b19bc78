use Rattle.std.proofs.Common.{◌≡◌, ◌≢◌, true, ℕ, List, Option, length}
use Rattle.rp_plain.specs.Plain.{Plain}
use Rattle.rp_http.specs.declared.connection.Phase.TheVariants.{Sends, Wants}
use Rattle.rp_http.specs.Bytes.{owed_in}
use Rattle.rp_http.specs.Serving.{IsServed}
use Rattle.rp_http.proofs.serve.send_all.Given as goal

abbrev pub invariant-loop-connection : goal.invariant-loop-connection
invariant-loop-connection g l = record {
  served : (tokens : List (List ℕ)) (start now : Plain) (input known before : Option (List ℕ)) → IsServed tokens start now input known before (g.W.Sink.contents l.initial.writer) l.initial.connection
      → IsServed tokens start now input known before (g.W.Sink.contents l.writer) l.connection;
  same : g.W.Sink.write_failures l.writer ≡ g.W.Sink.write_failures l.initial.writer;
  stays : l.initial.connection.phase ≢ Sends true → l.connection.phase ≡ l.initial.connection.phase;
  wants : l.connection.phase ≡ Wants → l.initial.connection.phase ≡ Wants;
  inbox : l.connection.inbox ≡ l.initial.connection.inbox;
  reads : l.connection.reads ≡ l.initial.connection.reads;
}

abbrev pub decreases-loop-connection : goal.decreases-loop-connection
decreases-loop-connection g l = length (owed_in l.connection.outbox)
