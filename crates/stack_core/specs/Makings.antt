-- What a core tries to make at an endpoint, of what takes new positions.
use Rattle.std.specs.Prelude.{◌≡◌, ◌+◌, ◌<◌, ◌≤◌, ℕ, nat_le, true, false, if◌then◌else◌, None, Some, is_some}
use Rattle.case_forms.specs.declared.calls.Host.{Host}
use Rattle.case_forms.specs.declared.steps.SegmentPlan.{SegmentPlan}
use Rattle.case_forms.specs.declared.trace.Header.{Header}
use Rattle.spec_network.specs.Tables.{pick}
use Rattle.spec_network.specs.Hosts.{At, Makes, World}
use Rattle.spec_network.specs.HostRules.{Permitted}
use Rattle.spec_tcp.specs.HostTcp.{endpoint_of}
use Rattle.spec_tcp.specs.Bounds.{greatest_position}
use Rattle.spec_tcp.specs.declared.endpoint.Endpoint.{Endpoint}
use Rattle.spec_tcp.specs.Endpoints.{snd_max, rcv_nxt}
use Rattle.spec_tcp.specs.Machine.{tcp, tcp_shape}
use Rattle.spec_tcp.specs.Makes.Payload.{making_length}
use Rattle.stack_core.specs.declared.plans.SynOptions.{SynOptions}
use Rattle.stack_core.specs.Outgoing.{greatest_payload}
use Rattle.stack_core.specs.Told.{TellsWell}

-- the SYN, with an acknowledgment once the peer's SYN is taken
abbrev pub syn_of : Endpoint → SynOptions → ℕ → SegmentPlan
syn_of e opening window = record {
  lport = e.lport;
  rport = e.rport;
  pos = 0;
  len = 0;
  flags = record { ack = nat_le 1 (rcv_nxt e); rst = false; syn = true; fin = false };
  window = window;
  iss = if is_some e.iss then None else Some opening.iss;
  shift = if is_some e.iss then None else opening.shift;
}

-- so many new bytes
abbrev pub bytes_of : Endpoint → ℕ → ℕ → SegmentPlan
bytes_of e len window =
    record {
      lport = e.lport;
      rport = e.rport;
      pos = snd_max e;
      len = len;
      flags =
          record { ack = nat_le 1 (rcv_nxt e); rst = false; syn = false; fin = false };
      window = window;
      iss = None;
      shift = None;
    }

-- the FIN alone
abbrev pub fin_of : Endpoint → ℕ → SegmentPlan
fin_of e window =
    record {
      lport = e.lport;
      rport = e.rport;
      pos = snd_max e;
      len = 0;
      flags =
          record { ack = nat_le 1 (rcv_nxt e); rst = false; syn = false; fin = true };
      window = window;
      iss = None;
      shift = None;
    }

-- it may be made, at a position that a step may name, with a payload that may be sent, and a shift that may be stated
abbrev pub IsMakeable : Header → Host → World tcp_shape → SegmentPlan → Type 0
IsMakeable h me w m =
    (m.pos ≤ greatest_position) × (m.len ≤ greatest_payload) × TellsWell h.version m
    × Permitted (tcp h) 0 w (At me (Makes m))

abbrev pub Refuses : Header → Host → World tcp_shape → SegmentPlan → Type 0
Refuses h me w plan = Permitted (tcp h) 0 w (At me (Makes plan)) → ⊥

-- its SYN may not be made; it takes a new position if nothing was made before
abbrev pub IsSynRefused : Header → Host → World tcp_shape → Endpoint → SynOptions → ℕ → Type 0
IsSynRefused h me w e opening window = snd_max e ≤ 0 → Refuses h me w (syn_of e opening window)

-- none of the three may be made for this endpoint, with some windows
pub record IsTried (h : Header) (me : Host) (w : World tcp_shape) (e : Endpoint) : Type 0 where
  pub opening : SynOptions
  pub at_syn : ℕ
  pub window : ℕ
  pub syn : IsSynRefused h me w e opening at_syn
  pub byte : Refuses h me w (bytes_of e 1 window)
  pub fin : Refuses h me w (fin_of e window)

-- nothing without RST that takes new positions may be made
abbrev pub NothingToMake : Header → Host → World tcp_shape → Type 0
NothingToMake h me w =
    (m : SegmentPlan) (e : Endpoint) → m.flags.rst ≡ false
    → endpoint_of (pick w.hosts me).body m.lport m.rport ≡ Some e →
    snd_max e < m.pos + making_length m → Refuses h me w m
