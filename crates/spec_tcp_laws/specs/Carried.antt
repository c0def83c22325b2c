-- What reads return was carried by segments that were processed: true of every case, even if only one host was recorded
-- (RFC 9293, 3.4 and 3.10.7.4).
use Rattle.std.specs.Prelude.{◌≡◌, ℕ, ◌+◌, false, true, List, ◌∷◌, ◌++◌, length, Some, slice_get}
use Rattle.case_forms.specs.declared.steps.TakeChoice.{TakeChoice}
use Rattle.case_forms.specs.declared.trace.Header.{Header}
use Rattle.streams.specs.declared.cell.Cell.{Cell}
use Rattle.streams.specs.declared.cell.Cell.TheVariants.{Byte, Fin}
use Rattle.streams.specs.Cells.{body}
use Rattle.spec_network.specs.Tables.{pick, waiting}
use Rattle.spec_network.specs.Hosts.{World, Takes, Step, At, Stamped}
use Rattle.spec_network.specs.HostSteps.{after_all, start}
use Rattle.spec_tcp.specs.declared.endpoint.EndpointId.{EndpointId}
use Rattle.spec_tcp.specs.declared.endpoint.Endpoint.{Endpoint}
use Rattle.spec_tcp.specs.declared.endpoint.Emission.{Emission}
use Rattle.spec_tcp.specs.Heard.{as_read}
use Rattle.spec_tcp.specs.Arrives.OtherStates.Fin.{first_byte}
use Rattle.spec_tcp.specs.Arrives.{AtEndpoint, taker}
use Rattle.spec_tcp.specs.Machine.{tcp, tcp_shape}
use Rattle.spec_tcp_laws.specs.Runs.{world_at_end, is_socket_of, told_to, was_told_end}

-- the step processes a segment at this endpoint, not a reset, and keeps its data; as the endpoint reads it, this cell
-- is at this position of the peer's stream
pub record Carries (h : Header) (w : World tcp_shape) (step : Step tcp_shape) (me : EndpointId)
    (position : ℕ) (cell : Cell) : Type 0 where
  pub line : ℕ
  pub how : TakeChoice
  pub segment : Emission
  pub endpoint : Endpoint
  pub place : ℕ
  pub takes : step ≡ At me.host (Takes line how)
  pub keeps : how.keep ≡ true
  pub waits : waiting line (pick w.hosts me.host).inbox ≡ Some segment
  pub there : taker (pick w.hosts me.host).body segment ≡ AtEndpoint me.number endpoint
  pub plain : segment.flags.rst ≡ false
  pub stands : first_byte (as_read h.version endpoint segment) + place ≡ position
  pub has : slice_get (body segment.payload segment.flags.fin) place ≡ Some cell

-- one of the steps does, in the world after the steps before it
abbrev pub CarriedFrom : Header → World tcp_shape → List (Stamped tcp_shape) → EndpointId → ℕ → Cell → Type 0
CarriedFrom h w steps me position cell =
    (before : List (Stamped tcp_shape)) × (x : Stamped tcp_shape) × (rest : List (Stamped tcp_shape)) ×
    (steps ≡ before ++ x ∷ rest) × Carries h (after_all (tcp h) w before) x.step me position cell

-- one of the steps of a whole run does
abbrev pub Carried : Header → List (Stamped tcp_shape) → EndpointId → ℕ → Cell → Type 0
Carried h steps me position cell = CarriedFrom h (start (tcp h)) steps me position cell

-- the socket number names an endpoint, and the cell was carried to it
abbrev pub CarriedTo : Header → List (Stamped tcp_shape) → (socket position : ℕ) → Cell → Type 0
CarriedTo h steps socket position cell =
    (me : EndpointId) × (is_socket_of (world_at_end h steps).hosts socket me ≡ true) × Carried h steps me position cell

-- byte i of what the reads on a socket number returned was carried at position 1 + i; if one returned the end, a FIN
-- after all of them was carried
pub record ReadsWereCarried (h : Header) (steps : List (Stamped tcp_shape)) : Type 0 where
  pub bytes : (socket i value : ℕ) → slice_get (told_to h socket steps) i ≡ Some value
      → CarriedTo h steps socket (1 + i) (Byte value)
  pub end : (socket : ℕ) → was_told_end h socket steps ≡ true
      → CarriedTo h steps socket (1 + length (told_to h socket steps)) Fin
