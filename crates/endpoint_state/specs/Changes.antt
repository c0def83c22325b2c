-- One endpoint changes, and whatever may be discarded is discarded.
use Rattle.std.specs.Prelude.{◌≡◌, ℕ, List, [], ◌∷◌, Some, map}
use Rattle.spec_tcp.specs.Calls.Close.{orphaned}
use Rattle.streams.specs.Lists.{modify}
use Rattle.spec_tcp.specs.declared.endpoint.Endpoint.{Endpoint}
use Rattle.spec_tcp.specs.Forgetting.{forget_endpoint}

abbrev pub changed : List Endpoint → ℕ → (Endpoint → Endpoint) → List Endpoint
changed es place f = map forget_endpoint (modify es place f)

-- the endpoint is found as before: by its ports, and by its listener if it still has it
pub record Keeps (e e' : Endpoint) : Type 0 where
  pub lport : e'.lport ≡ e.lport
  pub rport : e'.rport ≡ e.rport
  pub listener : (l : ℕ) → e'.listener ≡ Some l → e.listener ≡ Some l

-- the children at these places are aborted, if they are still that listener's
abbrev pub orphan_each : ℕ → List ℕ → List Endpoint → List Endpoint
orphan_each l [] endpoints = endpoints
orphan_each l (place ∷ places) endpoints = orphan_each l places (modify endpoints place (orphaned l))
