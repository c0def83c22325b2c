-- Which positions of its peer's stream an endpoint keeps of a segment (RFC 9293, 3.10.7.4, seventh and eighth).
use Rattle.std.specs.Prelude.{if◌then◌else◌}
use Rattle.case_forms.specs.declared.steps.TakeChoice.{TakeChoice}
use Rattle.case_forms.specs.declared.version.Version.{Version}
use Rattle.spec_tcp.specs.Arrives.{Taker, Nobody, AtListener, AtEndpoint}
use Rattle.spec_tcp.specs.Arrives.OtherStates.Text.{kept_end, kept_start}
use Rattle.spec_tcp.specs.Heard.{as_read}
use Rattle.spec_tcp.specs.declared.endpoint.Emission.{Emission}
use Rattle.spec_tcp.specs.declared.endpoint.Endpoint.{Endpoint}
use Rattle.spec_duties.specs.Blocks.{reads_blocks}
pub use Rattle.spec_duties.specs.declared.observations.Kept.{Kept}

abbrev pub nothing_kept : Kept
nothing_kept = record { from = 0; upto = 0 }

abbrev pub kept_of : TakeChoice → Endpoint → Emission → Kept
kept_of how e m = record { from = kept_start e m; upto = kept_end e how m }

-- version 6 asks for what an endpoint keeps that knows the peer's SYN; it reads the segment first
abbrev pub kept_at : Version → TakeChoice → Emission → Taker → Kept
kept_at v how m Nobody = nothing_kept
kept_at v how m (AtListener l) = nothing_kept
kept_at v how m (AtEndpoint i e) = if reads_blocks v e m then kept_of how e (as_read v e m) else nothing_kept
