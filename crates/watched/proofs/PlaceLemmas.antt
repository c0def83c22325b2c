-- Places and numbers fit into 32 bits.
use Rattle.std.proofs.Common.{ℕ, ◌+◌, ◌<◌, ◌^◌, length, arith}
use Rattle.case_forms.specs.declared.calls.Host.{Host}
use Rattle.case_forms.specs.declared.calls.Host.TheVariants.{Zero, One}
use Rattle.spec_network.specs.Hosts.{World}
use Rattle.spec_network.specs.Tables.{pick}
use Rattle.spec_tcp.specs.Bounds.{most_steps}
use Rattle.spec_tcp.specs.Machine.{tcp_shape}
use Rattle.endpoint_state.specs.Kept.{IsKeptWorld}

pub places_fit : (steps : ℕ) (w : World tcp_shape) (host : Host) → IsKeptWorld steps w → steps < most_steps
    → length (pick w.hosts host).body.endpoints < 2 ^ 32
places_fit steps w Zero kept few = let le = kept.zero.body.endpoints in omega (arith, le, few)
places_fit steps w One kept few = let le = kept.one.body.endpoints in omega (arith, le, few)

pub count_fits : (steps : ℕ) (w : World tcp_shape) → IsKeptWorld steps w → steps < most_steps → w.count + 1 < 2 ^ 32
count_fits steps w kept few = let le = kept.count in omega (arith, le, few)
