-- Which positions a segment reports as received, by the blocks of a selective acknowledgment (RFC 2018, 3).
use Rattle.std.specs.Prelude.{ℕ, max, nat_le, nat_lt, Bool, not, ◌&&◌, if◌then◌else◌, List, slice_get, Option}
use Rattle.std.specs.Prelude.{None, Some}
use Rattle.std.specs.Option.{option_and_then, option_map_or}
use Rattle.seqno.specs.Near.{near_position}
use Rattle.seqno.specs.declared.word.Word.{Word}
use Rattle.segment.specs.Reading.{sack_blocks}
use Rattle.segment.specs.declared.options.SackBlock.{SackBlock}
use Rattle.case_forms.specs.States.{is_syn_sent}
use Rattle.case_forms.specs.Versions.{says_sender}
use Rattle.case_forms.specs.declared.version.Version.{Version}
use Rattle.spec_tcp.specs.Arrives.{Taker, Nobody, AtListener, AtEndpoint}
use Rattle.spec_tcp.specs.Arrives.OtherStates.Ack.{snd_una_after_segment}
use Rattle.spec_tcp.specs.Endpoints.{snd_max}
use Rattle.spec_tcp.specs.Heard.{as_read}
use Rattle.spec_tcp.specs.declared.endpoint.Emission.{Emission}
use Rattle.spec_tcp.specs.declared.endpoint.Endpoint.{Endpoint}
pub use Rattle.spec_duties.specs.declared.observations.Block.{Block}
pub use Rattle.spec_duties.specs.declared.observations.Blocks.{Blocks}

abbrev pub no_blocks : Blocks
no_blocks = record { first = None; second = None; third = None; fourth = None }

-- a block counts if it ends after it begins, what it reports was sent, and the segment doesn't acknowledge all of it;
-- `near` is the oldest outstanding position
abbrev pub block_between : (near top left right : ℕ) → Option Block
block_between near top left right =
    if nat_lt left right && nat_lt near right && nat_le right top
    then Some (record { from = max left near; upto = right }) else None

-- its edges are numbers, which are read near the oldest outstanding position
abbrev pub block_read : (near top : ℕ) → (iss : Word) → SackBlock → Option Block
block_read near top iss b =
    option_and_then (λ left. option_and_then (block_between near top left) (near_position near iss b.right))
    (near_position near iss b.left)

-- the block in this place
abbrev pub block_of : (near top : ℕ) → (iss : Word) → List SackBlock → (place : ℕ) → Option Block
block_of near top iss blocks place = option_and_then (block_read near top iss) (slice_get blocks place)

-- all of them; each is judged alone
abbrev pub blocks_of : (near top : ℕ) → (iss : Word) → List SackBlock → Blocks
blocks_of near top iss blocks = record {
  first = block_of near top iss blocks 0;
  second = block_of near top iss blocks 1;
  third = block_of near top iss blocks 2;
  fourth = block_of near top iss blocks 3;
}

-- version 6 asks for those that reach an endpoint which the peer has answered
abbrev pub reads_blocks : Version → Endpoint → Emission → Bool
reads_blocks v e m = says_sender v && not m.flags.rst && not (is_syn_sent e.state)

-- the blocks of a segment that is processed; an endpoint reads the segment first
abbrev pub blocks_taken : Version → Emission → Taker → Blocks
blocks_taken v m Nobody = no_blocks
blocks_taken v m (AtListener l) = no_blocks
blocks_taken v m (AtEndpoint i e) =
    if reads_blocks v e m
    then option_map_or
    (λ iss. blocks_of (snd_una_after_segment e (as_read v e m)) (snd_max e) iss (sack_blocks m.bytes)) e.iss no_blocks
    else no_blocks
