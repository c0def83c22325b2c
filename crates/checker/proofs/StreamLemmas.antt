-- The headline: what reads were told begins what the peer's sends accepted, by lines and steps alone.
use Rattle.std.proofs.Common.{◌≡◌, ℕ, zero, suc, take, ◌⊎◌, Bool, true, false, List, [], ◌∷◌, ◌++◌, Option, Some, None, refl, ap, sym, subst, ◌∙◌, inl, inr}
use Rattle.std.specs.List.{flat_map, list_any, cons_option}
use Rattle.std.specs.Option.{option_map}
use Rattle.std.proofs.lemmas.Option.{same_Some}
use Rattle.case_forms.specs.declared.trace.Header.{Header}
use Rattle.case_forms.specs.declared.trace.Trace.{Trace}
use Rattle.case_forms.specs.Traces.{line_at}
use Rattle.case_forms.specs.Versions.{is_half}
use Rattle.case_forms.specs.declared.steps.Step.{Step as WitnessStep}
use Rattle.case_forms.specs.declared.steps.Witness.{Witness}
use Rattle.streams.specs.Lists.{IsPrefixOf}
use Rattle.case_forms.specs.declared.calls.Host.{Host}
use Rattle.spec_network.specs.Tables.{pick, other}
use Rattle.spec_network.specs.Hosts.{World, Stamped}
use Rattle.spec_network.specs.HostSteps.{after, after_all, start, Lawful}
use Rattle.spec_tcp.specs.declared.endpoint.EndpointId.{EndpointId}
use Rattle.spec_tcp.specs.declared.endpoint.Endpoint.{Endpoint}
use Rattle.spec_tcp.specs.Machine.{tcp, tcp_shape}
use Rattle.spec_tcp_laws.specs.Runs.{world_at_end, owner, is_socket_of, told_to, was_told_end, accepted_by}
use Rattle.spec_tcp_laws.specs.Consequences.{find, ReceivedIsAPrefix, EndIsWhole, HasStream, HasAllOfPeer, BeginsWhatPeerSent}
use Rattle.spec_tcp_laws.proofs.Later.{Hosts, name}
use Rattle.spec_tcp_laws.proofs.Calls.{socket_here}
use Rattle.spec_tcp_laws.proofs.Runs.{Steady, steady_start, steady_step, steady_run, stays_run, socket_owner}
use Rattle.spec_tcp.specs.Steps.{label_step}
use Rattle.spec_network.specs.Hosts.{Step}
use Rattle.checker.proofs.PortLemmas.{HasAt}
use Rattle.checker.proofs.PortRuns.{Ported, ported_run, ported_start, number_ports}
use Rattle.checker.specs.Seen.{stamped}
use Rattle.checker.specs.Headline.{CallDone, bytes_accepted, is_ended, told, accepted, ended, ReceivesFrom}
use Rattle.checker.specs.Headline.{ReceivesNothing, HasPorts, AreOpposite, calls_done, ReceivesBeginSends}
use Rattle.checker.proofs.HeadlineLemmas.{run_done, done_run, opens_start, told_is, told_end_is}
use Rattle.checker.proofs.SocketLemmas.{Stay, AllMet, Owned, one_owner, accepted_run, sender_run, reader_run, ended_run, ender_run, met_run}

-- what sends on an endpoint's number accepted, by the text, where the number is given by the time of a later world
pub accepted_is : (t : Trace) (steps : List WitnessStep) (z : Hosts) (socket : ℕ) (me : EndpointId)
    → Lawful (tcp t.header) (start (tcp t.header)) (stamped t.header t.lines steps)
    → Steady z → Stay (world_at_end t.header (stamped t.header t.lines steps)).hosts z → owner (pick z me.host).body socket ≡ Some me.number
    → accepted_by t.header me (stamped t.header t.lines steps) ≡ accepted t steps socket
accepted_is t steps z socket me may g stay own =
    accepted_run t.header (start (tcp t.header)) (stamped t.header t.lines steps) z socket me
    (steady_start t.header) may g stay own
    ∙ ap (λ (l : List CallDone). flat_map (λ d. bytes_accepted socket d.call d.answer) l) (sym (done_run t (start (tcp t.header)) [] steps (opens_start t) may))

nothing_begins : (xs rest : List ℕ) → xs ++ rest ≡ [] → xs ≡ []
nothing_begins [] rest e = refl
nothing_begins (x ∷ xs) rest e = absurd cc

-- the steps up to a place are a run, and what comes later keeps what was
record Onward (h : Header) (w : World tcp_shape) (xs ys : List (Stamped tcp_shape)) : Type 0 where
  pub may : Lawful (tcp h) w xs
  pub later : AllMet (after_all (tcp h) w xs).hosts (after_all (tcp h) w ys).hosts
  pub stay : Stay (after_all (tcp h) w xs).hosts (after_all (tcp h) w ys).hosts

onward : (t : Trace) (w : World tcp_shape) (steps : List WitnessStep) → Steady w.hosts
    → Lawful (tcp t.header) w (stamped t.header t.lines steps) → (place : ℕ)
    → Onward t.header w (stamped t.header t.lines (take place steps)) (stamped t.header t.lines steps)
onward t w [] f may zero = record { may = tt; later = met_run t.header w [] f tt; stay = λ x n i e. e }
onward t w [] f may (suc place) = record { may = tt; later = met_run t.header w [] f tt; stay = λ x n i e. e }
onward t w (s ∷ steps) f may zero =
    record {
      may = tt;
      later = met_run t.header w (stamped t.header t.lines (s ∷ steps)) f may;
      stay = stays_run t.header w (stamped t.header t.lines (s ∷ steps)) f may;
    }
onward t w (s ∷ steps) f may (suc place) = go (label_step (line_at t.header t.lines) s.label) may (λ v g m. onward t v steps g m place)
  where
    go : (o : Option (Step tcp_shape))
        → Lawful (tcp t.header) w (cons_option (option_map (λ step. record { moment = s.moment; step = step }) o)
        (stamped t.header t.lines steps))
        → ((v : World tcp_shape) → Steady v.hosts → Lawful (tcp t.header) v (stamped t.header t.lines steps)
        → Onward t.header v (stamped t.header t.lines (take place steps)) (stamped t.header t.lines steps))
        → Onward t.header w (cons_option (option_map (λ step. record { moment = s.moment; step = step }) o)
        (stamped t.header t.lines (take place steps)))
        (cons_option (option_map (λ step. record { moment = s.moment; step = step }) o)
        (stamped t.header t.lines steps))
    go None may more = more w f may
    go (Some step) may more =
        let x = more (after (tcp t.header) s.moment w step) (steady_step t.header s.moment w step f may.0) may.1 in
        record { may = (may.0, x.may); later = x.later; stay = x.stay }

-- a socket number, its endpoint's peer, and a socket number of that, at the end of the steps
record Linked (hosts : Hosts) (socket peer : ℕ) (me q : EndpointId) : Type 0 where
  pub own : owner (pick hosts me.host).body socket ≡ Some me.number
  pub there : Endpoint
  pub at : find hosts me ≡ Some there
  pub met : there.stream.peer ≡ Some q
  pub his : owner (pick hosts q.host).body peer ≡ Some q.number

-- the peer that it had earlier is the peer
same_peer : (a z : Hosts) → Steady z → AllMet a z → Stay a z → (socket peer : ℕ) (me q : EndpointId) → Linked z socket peer me q
    → (x : EndpointId) (e : Endpoint) (p : EndpointId) → owner (pick a x.host).body socket ≡ Some x.number → find a x ≡ Some e → e.stream.peer ≡ Some p → p ≡ q
same_peer a z g later stay socket peer me q linked x e p own at met =
    let l = later x e at in
    let one : x ≡ me = one_owner z g x.host me.host socket x.number me.number (stay x.host socket x.number own) linked.own in
    let same : l.0 ≡ linked.there = same_Some l.0 linked.there (sym (subst (λ (n : EndpointId). find z n ≡ Some l.0) one l.1) ∙ linked.at) in
    same_Some p q (sym (subst (λ (f : Endpoint). f.stream.peer ≡ Some p) same (l.2 p met)) ∙ linked.met)

abbrev AllReceived : Header → Type 0
AllReceived h = (steps : List (Stamped tcp_shape)) → Lawful (tcp h) (start (tcp h)) steps → ReceivedIsAPrefix h steps

abbrev AllWhole : Header → Type 0
AllWhole h = (steps : List (Stamped tcp_shape)) → Lawful (tcp h) (start (tcp h)) steps → EndIsWhole h steps

abbrev hosts_after : Trace → List WitnessStep → Hosts
hosts_after t steps = (world_at_end t.header (stamped t.header t.lines steps)).hosts

receives : (t : Trace) (steps : List WitnessStep) (z : Hosts) (socket peer : ℕ) (me q : EndpointId)
    → AllReceived t.header → AllWhole t.header → Steady z → Linked z socket peer me q
    → Lawful (tcp t.header) (start (tcp t.header)) (stamped t.header t.lines steps) → AllMet (hosts_after t steps) z
    → Stay (hosts_after t steps) z → ReceivesFrom t steps socket peer
receives t steps z socket peer me q received whole g linked may later stay = record {
  prefix =
      subst (λ (l : List ℕ). IsPrefixOf l (accepted t steps peer)) (told_is t steps socket may)
      (by_reader (reader_run t.header (start (tcp t.header)) (stamped t.header t.lines steps) socket
      (steady_start t.header) may));
  whole = λ is. at_end (whole (stamped t.header t.lines steps) may socket (told_end_is t steps socket may ∙ is));
}
  where
    accepted_peer : (x : EndpointId) (e : Endpoint) (p : EndpointId)
        → owner (pick (hosts_after t steps) x.host).body socket ≡ Some x.number → find (hosts_after t steps) x ≡ Some e
        → e.stream.peer ≡ Some p → accepted_by t.header p (stamped t.header t.lines steps) ≡ accepted t steps peer
    accepted_peer x e p own at met =
        let one = same_peer (hosts_after t steps) z g later stay socket peer me q linked x e p own at met in
        accepted_is t steps z peer p may g stay (subst (λ (n : EndpointId). owner (pick z n.host).body peer ≡ Some n.number) (sym one) linked.his)

    by_peer : (x : EndpointId) (e : Endpoint) → owner (pick (hosts_after t steps) x.host).body socket ≡ Some x.number → find (hosts_after t steps) x ≡ Some e
        → ((e.stream.peer ≡ None) × (told_to t.header socket (stamped t.header t.lines steps) ≡ []))
        ⊎ ((p : EndpointId) × (e.stream.peer ≡ Some p)
        × BeginsWhatPeerSent t.header (stamped t.header t.lines steps) socket p)
        → IsPrefixOf (told_to t.header socket (stamped t.header t.lines steps)) (accepted t steps peer)
    by_peer x e own at (inl none) = (accepted t steps peer, ap (λ (l : List ℕ). l ++ accepted t steps peer) none.1)
    by_peer x e own at (inr p) =
        subst (λ (l : List ℕ). IsPrefixOf (told_to t.header socket (stamped t.header t.lines steps)) l)
        (accepted_peer x e p.0 own at p.1) p.2.prefix

    by_reader : (told_to t.header socket (stamped t.header t.lines steps) ≡ []) ⊎ Owned (hosts_after t steps) socket
        → IsPrefixOf (told_to t.header socket (stamped t.header t.lines steps)) (accepted t steps peer)
    by_reader (inl none) = (accepted t steps peer, ap (λ (l : List ℕ). l ++ accepted t steps peer) none)
    by_reader (inr o) =
        let x = received (stamped t.header t.lines steps) may socket (name o.0 o.1) (socket_here (hosts_after t steps) o.0 socket o.1 o.2) in
        by_peer (name o.0 o.1) x.0 o.2 x.1 x.2.peer

    at_end : ((x : EndpointId) × (is_socket_of (hosts_after t steps) socket x ≡ true)
        × HasStream (hosts_after t steps) x
        (λ s. (p : EndpointId) × (s.peer ≡ Some p)
        × HasAllOfPeer t.header (stamped t.header t.lines steps) socket p))
        → (told t steps socket ≡ accepted t steps peer) × (ended t steps peer ≡ true)
    at_end x =
        let own = socket_owner (hosts_after t steps) socket x.0 x.1 in
        let p = x.2.2 in
        let one = same_peer (hosts_after t steps) z g later stay socket peer me q linked x.0 x.2.0 p.0 own x.2.1 p.1 in (
          sym (told_is t steps socket may) ∙ (p.2.whole ∙ accepted_peer x.0 x.2.0 p.0 own x.2.1 p.1),
          ap (λ (l : List CallDone). list_any (λ d. is_ended peer d.call d.answer) l) (done_run t (start (tcp t.header)) [] steps (opens_start t) may)
              ∙ ended_run t.header (start (tcp t.header)) (stamped t.header t.lines steps) z peer p.0 (steady_start t.header) may g stay
              (subst (λ (n : EndpointId). owner (pick z n.host).body peer ≡ Some n.number) (sym one) linked.his) p.2.by_step,
        )

-- from whom a socket number receives at the end, or that it receives nothing
linked : (t : Trace) (steps : List WitnessStep) (socket : ℕ) → AllReceived t.header → AllWhole t.header
    → Lawful (tcp t.header) (start (tcp t.header)) (stamped t.header t.lines steps)
    → ReceivesNothing t steps socket ⊎ ((peer : ℕ) × (me : EndpointId) × (q : EndpointId) × Linked (hosts_after t steps) socket peer me q)
linked t steps socket received whole may = by_end (was_told_end t.header socket (stamped t.header t.lines steps)) refl
  where
    nothing : told_to t.header socket (stamped t.header t.lines steps) ≡ []
        → was_told_end t.header socket (stamped t.header t.lines steps) ≡ false → ReceivesNothing t steps socket
    nothing none is = record { told = sym (told_is t steps socket may) ∙ none; end = sym (told_end_is t steps socket may) ∙ is }

    by_sender : was_told_end t.header socket (stamped t.header t.lines steps) ≡ false
        → (x : EndpointId) (e : Endpoint) (q : EndpointId)
        → owner (pick (hosts_after t steps) x.host).body socket ≡ Some x.number → find (hosts_after t steps) x ≡ Some e
        → e.stream.peer ≡ Some q
        → IsPrefixOf (told_to t.header socket (stamped t.header t.lines steps)) (accepted_by t.header q (stamped t.header t.lines steps))
        → (accepted_by t.header q (stamped t.header t.lines steps) ≡ []) ⊎ ((n : ℕ) × (owner (pick (hosts_after t steps) q.host).body n ≡ Some q.number))
        → ReceivesNothing t steps socket ⊎ ((peer : ℕ) × (me : EndpointId) × (q : EndpointId) × Linked (hosts_after t steps) socket peer me q)
    by_sender is x e q own at met p (inl none) = inl (nothing (nothing_begins (told_to t.header socket (stamped t.header t.lines steps)) p.0 (p.1 ∙ none)) is)
    by_sender is x e q own at met p (inr n) = inr (n.0, x, q, record { own = own; there = e; at = at; met = met; his = n.1 })

    by_peer : was_told_end t.header socket (stamped t.header t.lines steps) ≡ false → (x : EndpointId) (e : Endpoint)
        → owner (pick (hosts_after t steps) x.host).body socket ≡ Some x.number → find (hosts_after t steps) x ≡ Some e
        → ((e.stream.peer ≡ None) × (told_to t.header socket (stamped t.header t.lines steps) ≡ []))
        ⊎ ((p : EndpointId) × (e.stream.peer ≡ Some p)
        × BeginsWhatPeerSent t.header (stamped t.header t.lines steps) socket p)
        → ReceivesNothing t steps socket ⊎ ((peer : ℕ) × (me : EndpointId) × (q : EndpointId) × Linked (hosts_after t steps) socket peer me q)
    by_peer is x e own at (inl none) = inl (nothing none.1 is)
    by_peer is x e own at (inr p) =
        by_sender is x e p.0 own at p.1 p.2.prefix
        (sender_run t.header (start (tcp t.header)) (stamped t.header t.lines steps) p.0 (steady_start t.header) may)

    by_reader : was_told_end t.header socket (stamped t.header t.lines steps) ≡ false
        → (told_to t.header socket (stamped t.header t.lines steps) ≡ []) ⊎ Owned (hosts_after t steps) socket
        → ReceivesNothing t steps socket ⊎ ((peer : ℕ) × (me : EndpointId) × (q : EndpointId) × Linked (hosts_after t steps) socket peer me q)
    by_reader is (inl none) = inl (nothing none is)
    by_reader is (inr o) =
        let x = received (stamped t.header t.lines steps) may socket (name o.0 o.1) (socket_here (hosts_after t steps) o.0 socket o.1 o.2) in
        by_peer is (name o.0 o.1) x.0 o.2 x.1 x.2.peer

    by_end : (b : Bool) → was_told_end t.header socket (stamped t.header t.lines steps) ≡ b
        → ReceivesNothing t steps socket
        ⊎ ((peer : ℕ) × (me : EndpointId) × (q : EndpointId) × Linked (hosts_after t steps) socket peer me q)
    by_end false is = by_reader is (reader_run t.header (start (tcp t.header)) (stamped t.header t.lines steps) socket (steady_start t.header) may)
    by_end true is =
        let x = whole (stamped t.header t.lines steps) may socket is in
        let p = x.2.2 in
        let n = ender_run t.header (start (tcp t.header)) (stamped t.header t.lines steps) p.0 (steady_start t.header) may p.2.by_step in
        inr (n.0, x.0, p.0, record { own = socket_owner (hosts_after t steps) socket x.0 x.1; there = x.2.0; at = x.2.1; met = p.1; his = n.1 })

-- the two numbers have each other's ports, at different hosts
opposite : (t : Trace) (steps : List WitnessStep) → is_half t.header.version ≡ false
    → Lawful (tcp t.header) (start (tcp t.header)) (stamped t.header t.lines steps)
    → (socket peer : ℕ) (me q : EndpointId) → Linked (hosts_after t steps) socket peer me q
    → AreOpposite (calls_done t steps) socket peer
opposite t steps both may socket peer me q l = record {
  host = me.host;
  lport = l.there.lport;
  rport = l.there.rport;
  here = number_ports (calls_done t steps) z all me.host socket me.number l.there l.own l.at;
  there = subst (λ (x : Host). HasPorts (calls_done t steps) x l.there.rport l.there.lport peer) met.0
      (subst (λ (n : ℕ). HasPorts (calls_done t steps) q.host n l.there.lport peer) met.1.2
      (subst (λ (n : ℕ). HasPorts (calls_done t steps) q.host met.1.0.lport n peer) met.1.3
      (number_ports (calls_done t steps) z all q.host peer q.number met.1.0 l.his met.1.1)));
}
  where
    z : Hosts
    z = hosts_after t steps

    all : Ported (calls_done t steps) (hosts_after t steps)
    all = subst (λ (d : List CallDone). Ported d (hosts_after t steps)) (sym (done_run t (start (tcp t.header)) [] steps (opens_start t) may))
        (ported_run t.header both (run_done t.header (start (tcp t.header)) (stamped t.header t.lines steps))
        (start (tcp t.header)) (stamped t.header t.lines steps) (steady_start t.header) may (λ c a s. s)
        (ported_start t.header _))

    met : (q.host ≡ other me.host) × HasAt (hosts_after t steps) q l.there.rport l.there.lport
    met = all.peers me.host me.number l.there q l.at l.met

pub begins_sends : (t : Trace) (w : Witness) → is_half t.header.version ≡ false → AllReceived t.header
    → AllWhole t.header → Lawful (tcp t.header) (start (tcp t.header)) (stamped t.header t.lines w.steps)
    → ReceivesBeginSends t w
begins_sends t w both received whole may socket = go (linked t w.steps socket received whole may)
  where
    go : ReceivesNothing t w.steps socket
        ⊎ ((peer : ℕ) × (me : EndpointId) × (q : EndpointId) × Linked (hosts_after t w.steps) socket peer me q)
        → ReceivesNothing t w.steps socket
        ⊎ ((peer : ℕ) × AreOpposite (calls_done t w.steps) socket peer
        × ((place : ℕ) → ReceivesFrom t (take place w.steps) socket peer))
    go (inl none) = inl none
    go (inr x) = inr (
      x.0,
      opposite t w.steps both may socket x.0 x.1 x.2 x.3,
      λ place.
          let o = onward t (start (tcp t.header)) w.steps (steady_start t.header) may place in
          receives t (take place w.steps) (hosts_after t w.steps) socket x.0 x.1 x.2 received whole
          (steady_run t.header (start (tcp t.header)) (stamped t.header t.lines w.steps)
          (steady_start t.header) may) x.3 o.may o.later o.stay,
    )
