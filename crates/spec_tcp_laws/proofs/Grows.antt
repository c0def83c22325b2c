-- What a step makes of endpoints by themselves: true of every case, whatever is known of the peer.
use Rattle.std.proofs.Common.{◌≡◌, ℕ, suc, ◌<◌, ◌≤◌, ◌⊎◌, Bool, true, false, List, [], ◌∷◌, ◌++◌, length, drop, map}
use Rattle.std.proofs.Common.{Some, refl, ap, sym, subst, ◌∙◌, inl, inr, arith}
use Rattle.std.specs.Prelude.{if◌then◌else◌, ◌==◌, ◌||◌, slice_get}
use Rattle.std.proofs.lemmas.List.{append-nil, length-append, length-drop, length-take}
use Rattle.std.proofs.Math.Bool.{or-false}
use Rattle.seqno.specs.declared.word.Word.{Word}
use Rattle.case_forms.specs.States.{is_syn_sent}
use Rattle.case_forms.specs.declared.calls.Host.{Host}
use Rattle.streams.specs.declared.cell.Cell.{Cell}
use Rattle.streams.specs.declared.cell.Cell.TheVariants.{Fin}
use Rattle.streams.specs.Cells.{Taken}
use Rattle.streams.specs.Lists.{modify}
use Rattle.streams.specs.Received.{arrived, is_ended, waiting, received}
use Rattle.streams.proofs.Places.{get_append, all_push, all_modify, same_at}
use Rattle.spec_network.specs.Tables.{pick, other, with_host}
use Rattle.spec_network.specs.Hosts.{HostState}
use Rattle.spec_tcp.specs.declared.endpoint.EndpointId.{EndpointId}
use Rattle.spec_tcp.specs.declared.endpoint.Stream.{Stream}
use Rattle.spec_tcp.specs.declared.endpoint.Endpoint.{Endpoint}
use Rattle.spec_tcp.specs.HostTcp.{HostTcp, place_of, at_ports, with_endpoint}
use Rattle.spec_tcp.specs.Machine.{tcp_shape}
use Rattle.spec_tcp.specs.Calls.Receive.{is_read_out}
use Rattle.spec_tcp_laws.specs.Consequences.{find}
use Rattle.spec_tcp_laws.proofs.Ordered.{Begun, InOrder, waiting_is, fin_bounds, ended_at}
use Rattle.spec_tcp_laws.proofs.Rules.{map_or_cases, both_true, zero_from}
use Rattle.spec_tcp_laws.proofs.Later.{Hosts, name, Later, same, AllLater, Waits}
use Rattle.spec_tcp_laws.proofs.Moves.{KeepsPeer, keeps_waits, modify_each, map_onward, map_back, with_cases}

-- 1. one endpoint

-- what a step adds to an endpoint: bytes that reads were told, bytes accepted of sends, an end of its sending
pub record Added : Type 0 where
  pub told : List ℕ
  pub accepted : List ℕ
  pub ended : Bool

abbrev pub nothing : Added
nothing = record { told = []; accepted = []; ended = false }

-- exactly this is added
pub record Adds (x : Added) (s t : Stream) : Type 0 where
  pub told : received s.receive ++ x.told ≡ received t.receive
  pub accepted : s.accepted ++ x.accepted ≡ t.accepted
  pub ended : (s.ended || x.ended) ≡ t.ended

-- nothing was added yet
pub record Untouched (s : Stream) : Type 0 where
  pub told : received s.receive ≡ []
  pub accepted : s.accepted ≡ []
  pub ended : s.ended ≡ false

abbrev pub silent : ℕ → Added
silent i = nothing

abbrev pub all_silent : EndpointId → Added
all_silent me = nothing

pub adds_nothing : (s : Stream) → Adds nothing s s
adds_nothing s = record { told = append-nil (received s.receive); accepted = append-nil s.accepted; ended = or-false s.ended }

-- what holds of each endpoint of every run: in SYN-SENT it has nothing of a peer; what it took stands in order, and begins with the SYN where the peer's first
-- number is known; no more was delivered than came
pub record Own (e : Endpoint) : Type 0 where
  pub waits : Waits e
  pub order : InOrder e.stream.receive.taken
  pub begun : (irs : Word) → e.irs ≡ Some irs → Begun e.stream.receive.taken
  pub delivered : e.stream.receive.delivered ≤ length (arrived e.stream.receive)

-- what was taken stays
abbrev pub Stays : Stream → Stream → Type 0
Stays s t = Taken (λ p c. slice_get t.receive.taken p ≡ Some (Some c)) s.receive.taken

-- what is taken behind the SYN was taken before, or comes
abbrev pub Gains : (ℕ → Cell → Type 0) → Stream → Stream → Type 0
Gains comes s t = Taken (λ p c. 0 < p → (slice_get s.receive.taken p ≡ Some (Some c)) ⊎ comes p c) t.receive.taken

-- what an endpoint becomes in a step in which this comes and this is added
pub record Grows (comes : ℕ → Cell → Type 0) (x : Added) (e f : Endpoint) : Type 0 where
  pub own : Own f
  pub later : Later e.stream f.stream
  pub adds : Adds x e.stream f.stream
  pub stays : Stays e.stream f.stream
  pub gains : Gains comes e.stream f.stream

-- an endpoint that a step creates
pub record Bare (f : Endpoint) : Type 0 where
  pub own : Own f
  pub untouched : Untouched f.stream
  pub bare : Taken (λ p c. 0 < p → ⊥) f.stream.receive.taken

-- an endpoint changes, but not in its streams, and doesn't go back to SYN-SENT
pub record Plain (e f : Endpoint) : Type 0 where
  pub stream : f.stream ≡ e.stream
  pub irs : f.irs ≡ e.irs
  pub waits : is_syn_sent f.state ≡ true → is_syn_sent e.state ≡ true

pub plain_same : (e : Endpoint) → Plain e e
plain_same e = record { stream = refl; irs = refl; waits = λ h. h }

pub plain_either : (b : Bool) (e x y : Endpoint) → Plain e x → Plain e y → Plain e (if b then x else y)
plain_either true e x y p q = p
plain_either false e x y p q = q

pub plain_keeps : (e f : Endpoint) → Plain e f → KeepsPeer e f
plain_keeps e f p =
    record {
      peer = ap (λ (s : Stream). s.peer) p.stream;
      taken = ap (λ (s : Stream). s.receive.taken) p.stream;
      snd_una = ap (λ (s : Stream). s.snd_una) p.stream;
      waits = p.waits;
    }

-- an endpoint changes, but not in what it took
pub own_sends : (e f : Endpoint) (accepted : List ℕ) (ended : Bool) → Own e
    → f.stream ≡ record e.stream { accepted = accepted; ended = ended } → f.irs ≡ e.irs
    → (is_syn_sent f.state ≡ true → is_syn_sent e.state ≡ true) → Own f
own_sends e f accepted ended g streams irs waits = record {
  waits =
      keeps_waits e f (record {
        peer = ap (λ (s : Stream). s.peer) streams;
        taken = ap (λ (s : Stream). s.receive.taken) streams;
        snd_una = ap (λ (s : Stream). s.snd_una) streams;
        waits = waits;
      }) g.waits;
  order = subst (λ (s : Stream). InOrder s.receive.taken) (sym streams) g.order;
  begun = λ irs' is. subst (λ (s : Stream). Begun s.receive.taken) (sym streams) (g.begun irs' (sym irs ∙ is));
  delivered = subst (λ (s : Stream). s.receive.delivered ≤ length (arrived s.receive)) (sym streams) g.delivered;
}

pub grows_plain : (comes : ℕ → Cell → Type 0) (e f : Endpoint) → Own e → Plain e f → Grows comes nothing e f
grows_plain comes e f g p = record {
  own = own_sends e f e.stream.accepted e.stream.ended g p.stream p.irs p.waits;
  later = subst (λ (s : Stream). Later e.stream s) (sym p.stream) (same e.stream);
  adds = subst (λ (s : Stream). Adds nothing e.stream s) (sym p.stream) (adds_nothing e.stream);
  stays = subst (λ (s : Stream). Stays e.stream s) (sym p.stream) (λ q c x. x);
  gains = subst (λ (s : Stream). Gains comes e.stream s) (sym p.stream) (λ q c x some. inl x);
}

pub grows_not : (comes : ℕ → Cell → Type 0) (e : Endpoint) → Own e → Grows comes nothing e e
grows_not comes e g = grows_plain comes e e g (plain_same e)

-- what waits is what came in order and was not delivered
pub waiting_own : (e : Endpoint) → Own e → waiting e.stream.receive ≡ drop e.stream.receive.delivered (arrived e.stream.receive)
waiting_own e g = waiting_is e.stream.receive g.order g.delivered

-- a FIN was taken right behind what reads were told
abbrev pub Ended : Stream → Type 0
Ended s = slice_get s.receive.taken (suc (length (received s.receive))) ≡ Some (Some Fin)

-- so it is where a read may be told the end
pub ended_told : (e : Endpoint) → Own e → is_read_out e ≡ true → Ended e.stream
ended_told e g out =
    let r = e.stream.receive in
    let parts = both_true (is_ended r) (length (waiting r) == 0) out in
    let none = zero_from (length (waiting r)) parts.1 in
    let left = ap length (waiting_own e g) in
    let within = g.delivered in
    let all : length (arrived r) ≡ length (received r) = omega (arith, none, left, length-drop r.delivered (arrived r), length-take r.delivered (arrived r)) in
    subst (λ n. slice_get r.taken (suc n) ≡ Some (Some Fin)) all (ended_at r.taken g.order parts.0)

-- and it stays so: nothing comes behind it
pub ended_stays : (comes : ℕ → Cell → Type 0) (x : Added) (e f : Endpoint) → Grows comes x e f → Ended e.stream → Ended f.stream
ended_stays comes x e f g fin =
    let r = e.stream.receive in
    let s = f.stream.receive in
    let here = g.stays (suc (length (received r))) Fin fin in
    let bound = fin_bounds s.taken g.own.order (length (received r)) here in
    let more = ap length g.later.told.1 in
    let same : length (received r) ≡ length (received s) =
    omega (arith, bound, more, length-append (received r) g.later.told.0, length-take s.delivered (arrived s)) in
    subst (λ n. slice_get s.taken (suc n) ≡ Some (Some Fin)) same here

-- 2. the endpoints of one host

-- what comes at a position of the peer's stream, at the endpoint of a name
abbrev pub Coming : Type 1
Coming = EndpointId → ℕ → Cell → Type 0

abbrev pub OwnEnds : List Endpoint → Type 0
OwnEnds es = (i : ℕ) (e : Endpoint) → slice_get es i ≡ Some e → Own e

pub record Grown (comes : Coming) (host : Host) (adds : ℕ → Added) (es fs : List Endpoint) : Type 0 where
  pub onward : (i : ℕ) (e : Endpoint) → slice_get es i ≡ Some e → (f : Endpoint) × (slice_get fs i ≡ Some f) × Grows (comes (name host i)) (adds i) e f
  pub back : (i : ℕ) (f : Endpoint) → slice_get fs i ≡ Some f → ((e : Endpoint) × (slice_get es i ≡ Some e)) ⊎ Bare f

-- none changes
pub grown_not : (comes : Coming) (host : Host) (adds : ℕ → Added) (es : List Endpoint) → ((i : ℕ) → adds i ≡ nothing) → OwnEnds es → Grown comes host adds es es
grown_not comes host adds es quiet g = record {
  onward = λ i e at. (e, at, subst (λ (x : Added). Grows (comes (name host i)) x e e) (sym (quiet i)) (grows_not (comes (name host i)) e (g i e at)));
  back = λ i f at. inl (f, at);
}

-- one changes, and nothing is added to another
pub grown_one : (comes : Coming) (host : Host) (adds : ℕ → Added) (es : List Endpoint) (i : ℕ) (f : Endpoint → Endpoint)
    → OwnEnds es → ((j : ℕ) → (j ≡ i → ⊥) → adds j ≡ nothing)
    → ((e : Endpoint) → slice_get es i ≡ Some e → Grows (comes (name host i)) (adds i) e (f e)) → Grown comes host adds es (modify es i f)
grown_one comes host adds es i f g quiet new = record {
  onward = modify_each (λ j. Grows (comes (name host j)) (adds j)) f es i
      (λ j e at n. subst (λ (x : Added). Grows (comes (name host j)) x e e) (sym (quiet j n)) (grows_not (comes (name host j)) e (g j e at))) new;
  back = all_modify (λ j y. ((e : Endpoint) × (slice_get es j ≡ Some e)) ⊎ Bare y) f es i (λ j e x. inl (e, x)) (λ e x. inl (e, x));
}

-- one changes, but not in its streams
pub grown_plain : (comes : Coming) (host : Host) (es : List Endpoint) (i : ℕ) (f : Endpoint → Endpoint) → OwnEnds es
    → ((e : Endpoint) → Plain e (f e)) → Grown comes host silent es (modify es i f)
grown_plain comes host es i f g plain =
    grown_one comes host silent es i f g (λ j n. refl)
    (λ e at. grows_plain (comes (name host i)) e (f e) (g i e at) (plain e))

-- all may change, but not in their streams
pub grown_map : (comes : Coming) (host : Host) (es : List Endpoint) (f : Endpoint → Endpoint) → OwnEnds es
    → ((e : Endpoint) → Plain e (f e)) → Grown comes host silent es (map f es)
grown_map comes host es f g plain = record {
  onward = map_onward (λ j. Grows (comes (name host j)) nothing) f es (λ j e at. grows_plain (comes (name host j)) e (f e) (g j e at) (plain e));
  back = λ j y e. let h = map_back f es j y e in inl (h.0, h.1);
}

-- an endpoint is created
pub grown_push : (comes : Coming) (host : Host) (es : List Endpoint) (e : Endpoint) → OwnEnds es → Bare e → Grown comes host silent es (es ++ e ∷ [])
grown_push comes host es e g new = record {
  onward = λ i x at. (x, get_append es (e ∷ []) i x at, grows_not (comes (name host i)) x (g i x at));
  back = all_push (λ j y. ((x : Endpoint) × (slice_get es j ≡ Some x)) ⊎ Bare y) es e (λ j x at. inl (x, at)) (inr new);
}

-- the endpoint of some ports changes, but not in its streams
pub grown_at_ports : (comes : Coming) (host : Host) (b : HostTcp) (lport rport : ℕ) (f : Endpoint → Endpoint)
    → OwnEnds b.endpoints → ((e : Endpoint) → Plain e (f e))
    → Grown comes host silent b.endpoints (at_ports b lport rport f).endpoints
grown_at_ports comes host b lport rport f g plain =
    map_or_cases (λ (x : HostTcp). Grown comes host silent b.endpoints x.endpoints) (place_of b lport rport) b
    (λ i. with_endpoint b i f)
    (λ e. grown_not comes host silent b.endpoints (λ i. refl) g) (λ i e. grown_plain comes host b.endpoints i f g plain)

-- 3. both hosts

abbrev pub AllOwn : Hosts → Type 0
AllOwn a = (x : Host) → OwnEnds (pick a x).body.endpoints

-- a step: what comes in it, and what it adds
pub record AllGrown (comes : Coming) (adds : EndpointId → Added) (a b : Hosts) : Type 0 where
  pub all : (x : Host) → Grown comes x (λ i. adds (name x i)) (pick a x).body.endpoints (pick b x).body.endpoints

pub all_grown_not : (comes : Coming) (a : Hosts) (adds : EndpointId → Added) → ((me : EndpointId) → adds me ≡ nothing) → AllOwn a → AllGrown comes adds a a
all_grown_not comes a adds quiet g = record { all = λ x. grown_not comes x (λ i. adds (name x i)) (pick a x).body.endpoints (λ i. quiet (name x i)) (g x) }

-- one host changes: what is to be shown is of that host alone
pub all_grown_host : (comes : Coming) (a : Hosts) (host : Host) (k : HostState tcp_shape) (adds : EndpointId → Added)
    → AllOwn a → Grown comes host (λ i. adds (name host i)) (pick a host).body.endpoints k.body.endpoints
    → ((i : ℕ) → adds (name (other host) i) ≡ nothing) → AllGrown comes adds a (with_host a host k)
all_grown_host comes a host k adds g m quiet = record {
  all = with_cases a host k (λ x y. Grown comes x (λ i. adds (name x i)) (pick a x).body.endpoints y.body.endpoints) m
      (grown_not comes (other host) (λ i. adds (name (other host) i)) (pick a (other host)).body.endpoints quiet (g (other host)));
}

-- what an endpoint became, and what it was
pub grew : (comes : Coming) (adds : EndpointId → Added) (a b : Hosts) (me : EndpointId) (e f : Endpoint)
    → AllGrown comes adds a b → find a me ≡ Some e → find b me ≡ Some f → Grows (comes me) (adds me) e f
grew comes adds a b me e f m at now =
    let h = (m.all me.host).onward me.number e at in
    subst (λ (x : Endpoint). Grows (comes me) (adds me) e x) (same_at (pick b me.host).body.endpoints me.number h.0 f h.1 now) h.2

pub all_later : (comes : Coming) (adds : EndpointId → Added) (a b : Hosts) → AllGrown comes adds a b → AllLater a b
all_later comes adds a b m me e at = let h = (m.all me.host).onward me.number e at in (h.0, h.1, h.2.later)

pub own_after : (comes : Coming) (adds : EndpointId → Added) (a b : Hosts) → AllGrown comes adds a b → AllOwn b
own_after comes adds a b m x i f at = go ((m.all x).back i f at)
  where
    go : ((e : Endpoint) × (slice_get (pick a x).body.endpoints i ≡ Some e)) ⊎ Bare f → Own f
    go (inl old) = (grew comes adds a b (name x i) old.0 f m old.1 at).own
    go (inr new) = new.own
