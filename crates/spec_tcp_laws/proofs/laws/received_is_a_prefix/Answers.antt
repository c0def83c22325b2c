use Rattle.std.proofs.Common.{◌≡◌, ◌⊎◌, ℕ, List, [], Option, None, Some, refl, sym, ◌∙◌, subst, inl, inr}
use Rattle.spec_network.specs.HostSteps.{start}
use Rattle.streams.specs.Lists.{IsPrefixOf}
use Rattle.streams.specs.Received.{received}
use Rattle.spec_tcp.specs.declared.endpoint.EndpointId.{EndpointId}
use Rattle.spec_tcp.specs.declared.endpoint.Endpoint.{Endpoint}
use Rattle.spec_tcp.specs.Machine.{tcp}
use Rattle.spec_tcp_laws.specs.Runs.{world_at_end, told_to, accepted_by}
use Rattle.spec_tcp_laws.specs.Consequences.{BeginsWhatPeerSent}
use Rattle.spec_tcp_laws.proofs.Later.{GoodStream}
use Rattle.spec_tcp_laws.proofs.Runs.{steady_start, fine_run, fine_start, matches_run, socket_owner, told_run}
use Rattle.spec_tcp_laws.proofs.Ends.{received_none, received_prefix}
use Rattle.spec_tcp_laws.proofs.laws.received_is_a_prefix.Goals as goal

pub returns : goal.returns
returns c h whole steps may socket me is =
    let a = (world_at_end h steps).hosts in
    let g = fine_run h (start (tcp h)) steps (fine_start h whole) may in
    let own = socket_owner a socket me is in
    let x = (g.steady.sound me.host).named socket me.number own in
    let e = x.0 in
    let good = ((g.good me.host).endpoints me.number e x.1).stream in
    let told : told_to h socket steps ≡ received e.stream.receive =
    told_run h (start (tcp h)) steps socket me (steady_start h) may own ∙ (matches_run h steps may me e x.1).0 in
    (e, x.1, record { told = told; peer = by_peer e good told e.stream.peer refl })
  where
    by_peer : (e : Endpoint) → GoodStream (world_at_end h steps).hosts me e.stream
        → told_to h socket steps ≡ received e.stream.receive → (peer : Option EndpointId) → e.stream.peer ≡ peer
        → ((e.stream.peer ≡ None) × (told_to h socket steps ≡ [])) ⊎ ((q : EndpointId) × (e.stream.peer ≡ Some q) × BeginsWhatPeerSent h steps socket q)
    by_peer e good told None p = inl (p, told ∙ received_none (world_at_end h steps).hosts me e.stream good p)
    by_peer e good told (Some q) p =
        let there = good.peer q p in
        let sent = (matches_run h steps may q there.0 there.1).1 in
        let prefix = received_prefix (world_at_end h steps).hosts me e.stream q there.0 good p there.1 in
        inr (
          q,
          p,
          record {
            accepted = (there.0, there.1, sent);
            prefix =
                subst (λ (l : List ℕ). IsPrefixOf l (accepted_by h q steps)) (sym told)
                (subst (λ (l : List ℕ). IsPrefixOf (received e.stream.receive) l) (sym sent) prefix);
          },
        )
