-- What holds of every world of a run, and that it stays as streams grow.
use Rattle.std.proofs.Common.{◌≡◌, ℕ, ◌+◌, ◌<◌, ◌≤◌, true, false, List, [], ◌∷◌, Some, None, arith}
use Rattle.std.specs.Prelude.{if◌then◌else◌, slice_get}
use Rattle.std.proofs.Math.Nat.{le_refl}
use Rattle.std.proofs.lemmas.List.{append-nil}
use Rattle.case_forms.specs.declared.calls.Host.{Host}
use Rattle.streams.specs.declared.cell.Cell.{Cell}
use Rattle.streams.specs.declared.cell.Cell.TheVariants.{Syn}
use Rattle.streams.specs.Cells.{body, Taken}
use Rattle.streams.specs.Lists.{IsPrefixOf, Within}
use Rattle.streams.specs.Received.{next, received}
use Rattle.streams.specs.Sent.{cells}
use Rattle.spec_network.specs.Tables.{Both, pick}
use Rattle.spec_network.specs.Hosts.{HostState}
use Rattle.spec_tcp.specs.declared.endpoint.EndpointId.{EndpointId}
use Rattle.spec_tcp.specs.declared.endpoint.Stream.{Stream}
use Rattle.spec_tcp.specs.declared.endpoint.Endpoint.{Endpoint}
use Rattle.spec_tcp.specs.declared.endpoint.Emission.{Emission}
use Rattle.case_forms.specs.States.{is_syn_sent}
use Rattle.spec_tcp.specs.Machine.{tcp_shape}
use Rattle.spec_tcp_laws.specs.Consequences.{find, HasStream}
use Rattle.spec_tcp_laws.proofs.Tables.{InTables}

abbrev pub Hosts : Type 0
Hosts = Both (HostState tcp_shape)

abbrev pub name : Host → ℕ → EndpointId
name host number = record { host = host; number = number }

-- all that an endpoint sends, by position
abbrev pub all_cells : Stream → List Cell
all_cells s = cells s.accepted s.ended

-- what a segment carries, from its position on
abbrev pub carried : Emission → List Cell
carried m = if m.flags.syn then Syn ∷ body m.payload m.flags.fin else body m.payload m.flags.fin

-- what a stream may become
pub record Later (s t : Stream) : Type 0 where
  pub peer : (q : EndpointId) → s.peer ≡ Some q → t.peer ≡ Some q
  pub cells : Within (all_cells s) (all_cells t)
  pub next : next s.receive ≤ next t.receive
  pub told : IsPrefixOf (received s.receive) (received t.receive)

pub same : (s : Stream) → Later s s
same s = record { peer = λ q e. e; cells = λ p c e. e; next = le_refl _; told = ([], append-nil (received s.receive)) }

-- each endpoint became what it may become
abbrev pub AllLater : Hosts → Hosts → Type 0
AllLater a b = (me : EndpointId) (e : Endpoint) → find a me ≡ Some e → HasStream b me (λ t. Later e.stream t)

-- an emission carries what its sender sends, and acknowledges what its sender took
pub record GoodEmission (hosts : Hosts) (m : Emission) : Type 0 where
  pub there : HasStream hosts m.sender (λ s. Unit {0})
  pub sent : (p : ℕ) (c : Cell) → slice_get (carried m) p ≡ Some c → HasStream hosts m.sender (λ s. slice_get (all_cells s) (m.pos + p) ≡ Some c)
  pub peer_at_send : (q : EndpointId) → m.peer_at_send ≡ Some q → HasStream hosts m.sender (λ s. s.peer ≡ Some q)
  pub resets : m.is_reset_reply ≡ true → m.flags.rst ≡ true
  pub ack : m.flags.ack ≡ true → m.is_reset_reply ≡ false
      → ((q : EndpointId) × (m.peer_at_send ≡ Some q)) × HasStream hosts m.sender (λ s. m.ack ≤ next s.receive)

-- an endpoint took what its peer sends, and is acknowledged what its peer took of it
pub record GoodStream (hosts : Hosts) (me : EndpointId) (s : Stream) : Type 0 where
  pub taken : Taken (λ p c. (q : EndpointId) × (s.peer ≡ Some q) × HasStream hosts q (λ t. slice_get (all_cells t) p ≡ Some c)) s.receive.taken
  pub snd_una : 1 < s.snd_una → (q : EndpointId) × (s.peer ≡ Some q) × HasStream hosts q (λ t. (t.peer ≡ Some me) × (s.snd_una ≤ next t.receive))
  pub peer : (q : EndpointId) → s.peer ≡ Some q → HasStream hosts q (λ t. Unit {0})

-- in SYN-SENT an endpoint has nothing of a peer
abbrev pub Waits : Endpoint → Type 0
Waits e = is_syn_sent e.state ≡ true → (e.stream.peer ≡ None) × (e.stream.receive.taken ≡ [])

pub record GoodEnd (hosts : Hosts) (me : EndpointId) (e : Endpoint) : Type 0 where
  pub stream : GoodStream hosts me e.stream
  pub waits : Waits e

pub record GoodHost (hosts : Hosts) (host : Host) (h : HostState tcp_shape) : Type 0 where
  pub endpoints : (i : ℕ) (e : Endpoint) → slice_get h.body.endpoints i ≡ Some e → GoodEnd hosts (name host i) e
  pub tables : InTables (GoodEmission hosts) h

abbrev pub Good : Hosts → Type 0
Good hosts = (host : Host) → GoodHost hosts host (pick hosts host)

-- a fact of one endpoint that it keeps whatever it may become
pub has_later : (a b : Hosts) (P : Stream → Type 0) → ((s t : Stream) → Later s t → P s → P t) → AllLater a b
    → (n : EndpointId) → HasStream a n P → HasStream b n P
has_later a b P keeps later n x =
    let y = later n x.0 x.1 in
    (y.0, y.1, keeps x.0.stream y.0.stream y.2 x.2)

pub emission_later : (a b : Hosts) → AllLater a b → (m : Emission) → GoodEmission a m → GoodEmission b m
emission_later a b later m g = record {
  there = has_later a b (λ s. Unit {0}) (λ s t l u. u) later m.sender g.there;
  sent = λ p c e. has_later a b (λ s. slice_get (all_cells s) (m.pos + p) ≡ Some c) (λ s t l. l.cells (m.pos + p) c) later m.sender (g.sent p c e);
  peer_at_send = λ q e. has_later a b (λ s. s.peer ≡ Some q) (λ s t l. l.peer q) later m.sender (g.peer_at_send q e);
  resets = g.resets;
  ack = λ e f. let h = g.ack e f in (h.0, has_later a b (λ s. m.ack ≤ next s.receive) (λ s t l x. let up = l.next in omega arith) later m.sender h.1);
}

pub stream_later : (a b : Hosts) → AllLater a b → (n : EndpointId) (s : Stream) → GoodStream a n s → GoodStream b n s
stream_later a b later n s g = record {
  taken = λ p c e. let h = g.taken p c e in (h.0, h.1, has_later a b (λ t. slice_get (all_cells t) p ≡ Some c) (λ x y l. l.cells p c) later h.0 h.2);
  snd_una = λ more. let h = g.snd_una more in (
    h.0,
    h.1,
    has_later a b (λ t. (t.peer ≡ Some n) × (s.snd_una ≤ next t.receive))
        (λ x y l p. (l.peer n p.0, let up = l.next in let was = p.1 in omega arith)) later h.0 h.2,
  );
  peer = λ q e. has_later a b (λ t. Unit {0}) (λ x y l u. u) later q (g.peer q e);
}

pub end_later : (a b : Hosts) → AllLater a b → (n : EndpointId) (e : Endpoint) → GoodEnd a n e → GoodEnd b n e
end_later a b later n e g = record { stream = stream_later a b later n e.stream g.stream; waits = g.waits }

pub tables_later : (a b : Hosts) → AllLater a b → (h : HostState tcp_shape) → InTables (GoodEmission a) h → InTables (GoodEmission b) h
tables_later a b later h g = record {
  made = λ n x e. emission_later a b later x.emission (g.made n x e);
  wire = λ n m e. emission_later a b later m (g.wire n m e);
  inbox = λ n m e. emission_later a b later m (g.inbox n m e);
}

pub host_later : (a b : Hosts) → AllLater a b → (host : Host) (h : HostState tcp_shape) → GoodHost a host h → GoodHost b host h
host_later a b later host h g = record {
  endpoints = λ i e x. end_later a b later (name host i) e (g.endpoints i e x);
  tables = tables_later a b later h g.tables;
}
