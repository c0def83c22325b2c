-- What is kept leaves room.
use Rattle.std.proofs.Common.{ℕ, ◌<◌, List, arith}
use Rattle.std.specs.List.{All}
use Rattle.std.proofs.lemmas.List.Elements.{All-weaker}
use Rattle.window_rules.proofs.ControlLemmas.{counts_room}
use Rattle.spec_tcp.specs.declared.endpoint.Endpoint.{Endpoint}
use Rattle.spec_tcp.specs.Bounds.{HasRoom, IsKept, most_steps}

pub has_room : (steps : ℕ) (e : Endpoint) → steps < most_steps → IsKept steps e → HasRoom e
has_room steps e few k =
    let snd_una = k.snd_una in
    let unanswered_expiries = k.unanswered_expiries in
    let backoffs = k.backoffs in
    let accepted = k.accepted in
    record {
      snd_una = k.snd_una;
      counts = counts_room e.control steps e.stream.snd_una (omega arith) snd_una k.counts;
      unanswered_expiries = omega arith;
      backoffs = omega arith;
      accepted = omega arith;
      forgets = k.forgets;
      met = k.met;
      unmet = k.unmet;
    }

pub have_room : (steps : ℕ) (es : List Endpoint) → steps < most_steps → All (IsKept steps) es → All HasRoom es
have_room steps es few k = All-weaker (IsKept steps) HasRoom (λ e. has_room steps e few) es k
