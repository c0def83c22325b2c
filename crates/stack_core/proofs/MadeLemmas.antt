-- What is kept of every world, told of a recording: made segments are small, endpoints are few.
use Rattle.std.proofs.Common.{◌≡◌, ◌≤◌, ℕ, List, Option, length, sym, subst, nat_eq}
use Rattle.std.specs.Map.{lookup}
use Rattle.std.specs.Option.{IfSome}
use Rattle.std.proofs.lemmas.Map.Entries.{All-lookup}
use Rattle.case_forms.specs.declared.calls.Host.{Host}
use Rattle.case_forms.specs.declared.calls.Host.TheVariants.{Zero, One}
use Rattle.spec_network.specs.Tables.{Made, pick}
use Rattle.spec_network.specs.Hosts.{World}
use Rattle.spec_tcp.specs.declared.endpoint.Emission.{Emission}
use Rattle.spec_tcp.specs.Bounds.{IsSmallEmission}
use Rattle.spec_tcp.specs.Machine.{tcp_shape}
use Rattle.spec_tcp.specs.Forgetting.{forget, forget_body}
use Rattle.endpoint_state.specs.Kept.{IsKeptWorld}
use Rattle.endpoint_state.specs.Worlds.{Progress}
use Rattle.spec_merge.specs.Recordings.{TcpEntry, world_of}
use Rattle.stack_core.specs.Entries.{steps_in}
use Rattle.stack_core.specs.Recordings.{IsRecording}

pub made_small : (steps : ℕ) (w : World tcp_shape) (me : Host) (n : ℕ) (o : Option (Made Emission))
    → IsKeptWorld steps w → o ≡ lookup (nat_eq n) (pick w.hosts me).made → IfSome o (λ m. IsSmallEmission m.emission)
made_small steps w Zero n o k is =
    subst (λ (x : Option (Made Emission)). IfSome x (λ m. IsSmallEmission m.emission)) (sym is)
    (All-lookup (λ (m : Made Emission). IsSmallEmission m.emission) (nat_eq n) w.hosts.zero.made k.zero.tables.made)
made_small steps w One n o k is =
    subst (λ (x : Option (Made Emission)). IfSome x (λ m. IsSmallEmission m.emission)) (sym is)
    (All-lookup (λ (m : Made Emission). IsSmallEmission m.emission) (nat_eq n) w.hosts.one.made k.one.tables.made)

kept_length : (me : Host) (w : World tcp_shape) (n : ℕ) → length (pick (forget w).hosts me).body.endpoints ≤ n
    → length (forget_body (pick w.hosts me).body).endpoints ≤ n
kept_length Zero w n few = few
kept_length One w n few = few

host_few : (steps : ℕ) (w : World tcp_shape) (me : Host) → IsKeptWorld steps w → length (pick w.hosts me).body.endpoints ≤ steps
host_few steps w Zero k = k.zero.body.endpoints
host_few steps w One k = k.one.body.endpoints

pub few_kept : (me : Host) (p : Progress) (es : List TcpEntry) → IsRecording me p es → IsKeptWorld p.steps p.world
    → length (forget_body (pick (world_of p.header me es).hosts me).body).endpoints ≤ steps_in es
few_kept me p es is kept = kept_length me (world_of p.header me es) (steps_in es)
    (subst (λ (n : ℕ). length (pick (forget (world_of p.header me es)).hosts me).body.endpoints ≤ n) is.steps
    (subst (λ (w : World tcp_shape). length (pick w.hosts me).body.endpoints ≤ p.steps) is.world (host_few p.steps p.world me kept)))
