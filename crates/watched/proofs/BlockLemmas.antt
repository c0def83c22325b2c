-- What a selective acknowledgment reports.
use Rattle.std.proofs.Common.{◌≡◌, ℕ, List, [], ◌∷◌, Option, None, Some, refl, sym}
use Rattle.std.specs.Prelude.{slice_get}
use Rattle.seqno.specs.declared.word.Word.{Word}
use Rattle.segment.specs.declared.options.SackBlock.{SackBlock}
use Rattle.case_forms.specs.declared.calls.Host.{Host}
use Rattle.case_forms.specs.declared.calls.Host.TheVariants.{Zero, One}
use Rattle.spec_network.specs.Hosts.{World}
use Rattle.spec_network.specs.Tables.{pick, waiting}
use Rattle.spec_tcp.specs.Bounds.{IsSmallEmission}
use Rattle.spec_tcp.specs.Machine.{tcp_shape}
use Rattle.spec_tcp.specs.declared.endpoint.Emission.{Emission}
use Rattle.endpoint_state.specs.Kept.{IsKeptWorld}
use Rattle.endpoint_state.proofs.Still.{waiting_small}
use Rattle.spec_duties.specs.Blocks.{block_read, blocks_of, no_blocks}
use Rattle.spec_duties.specs.declared.observations.Block.{Block}

-- without a first block there is none
pub none_first : (near top : ℕ) (iss : Word) (blocks : List SackBlock) → None ≡ slice_get blocks 0
    → no_blocks ≡ blocks_of near top iss blocks
none_first near top iss [] none = refl
none_first near top iss (b ∷ blocks) none = absurd cc

-- with 10 outstanding first and 29 sent last, and with numbers from 2^32 - 15 on
abbrev read : (left right : ℕ) → Option Block
read left right =
    block_read 10 30 (record { 0 = 4294967281 }) (record { left = record { 0 = left }; right = record { 0 = right } })

-- from 15 to before 20, whose numbers are 0 and 5; and all that was sent from there on
read_so : (read 0 5 ≡ Some (record { from = 15; upto = 20 })) × (read 0 15 ≡ Some (record { from = 15; upto = 30 }))
read_so = (refl, refl)

-- what is acknowledged already is left out, and a block of nothing else doesn't count
acknowledged_left_out : (read 4294967289 4294967292 ≡ Some (record { from = 10; upto = 11 })) × (read 4294967289 4294967291 ≡ None)
acknowledged_left_out = (refl, refl)

-- nor does an empty one, one that ends before it begins, one past what was sent, or one from before the SYN
others_dont_count : (read 5 5 ≡ None) × (read 5 0 ≡ None) × (read 0 16 ≡ None) × (read 4294967280 5 ≡ None)
others_dont_count = (refl, refl, refl, refl)

-- the segment that waits is small
pub kept_small : (steps : ℕ) (w : World tcp_shape) (host : Host) (line : ℕ) (m : Emission) → IsKeptWorld steps w
    → Some m ≡ waiting line (pick w.hosts host).inbox → IsSmallEmission m
kept_small steps w Zero line m kept is = waiting_small w.hosts.zero line m kept.zero.tables (sym is)
kept_small steps w One line m kept is = waiting_small w.hosts.one line m kept.one.tables (sym is)
