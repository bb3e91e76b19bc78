use Rattle.std.proofs.Common.{◌≡◌, ◌<◌, ◌^◌, drop}
use Rattle.http_messages.specs.Framing.{number_from}
use Rattle.http_messages.proofs.framing.number.Given as goal

abbrev pub invariant-loop-b : goal.invariant-loop-b
invariant-loop-b l = record {
  rest : number_from 0 l.value ≡ number_from l.n (drop l.b-index l.value);
  small : l.n < 10 ^ l.b-index;
}
