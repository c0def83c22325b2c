-- What a step of a core must satisfy so that a text can state it, beyond its types.
use Rattle.std.specs.Prelude.{◌≡◌, ◌≤◌, List, [], ◌∷◌, true, IfSome}
use Rattle.case_forms.specs.Versions.{scales}
use Rattle.case_forms.specs.Witnesses.{IsShift}
use Rattle.case_forms.specs.declared.steps.SegmentPlan.{SegmentPlan}
use Rattle.case_forms.specs.declared.version.Version.{Version}
use Rattle.spec_network.specs.Hosts.{Answers, At, Begin, HostStep, Does, Drops, Effect, Expires, Finish, Gets, Hears}
use Rattle.spec_network.specs.Hosts.{Makes}
use Rattle.spec_network.specs.Hosts.{Sends, Step, Takes}
use Rattle.spec_tcp.specs.Bounds.{greatest_position}
use Rattle.spec_tcp.specs.Machine.{tcp_shape}
use Rattle.spec_merge.specs.Books.{Bring, Do, Item}
use Rattle.spec_merge.specs.Recordings.{TcpEntry}
use Rattle.stack_core.specs.declared.plans.SynOptions.{SynOptions}

-- the shift that an endpoint is given with its first SYN is one that may be stated
abbrev pub MayOpen : Version → SynOptions → Type 0
MayOpen v opening = IfSome opening.shift (λ n. (scales v ≡ true) × (n ≤ 14))

-- a plan's shift is one that may be stated
abbrev pub TellsWell : Version → SegmentPlan → Type 0
TellsWell v m = IfSome m.shift (IsShift v m.iss)

-- a segment is made at a position that a text may name, with a payload that fits into a segment beside its options, and
-- with a shift that may be stated
abbrev pub IsToldHostStep : Version → HostStep tcp_shape → Type 0
IsToldHostStep v (Does x) = Unit {0}
IsToldHostStep v (Expires line x) = Unit {0}
IsToldHostStep v (Makes m) = (m.pos ≤ greatest_position) × (m.len ≤ 65487) × TellsWell v m
IsToldHostStep v (Sends line number wire) = Unit {0}
IsToldHostStep v (Gets line copied wire) = Unit {0}
IsToldHostStep v (Hears line wire) = Unit {0}
IsToldHostStep v (Takes line choice) = Unit {0}
IsToldHostStep v (Drops line) = Unit {0}
IsToldHostStep v (Answers line) = Unit {0}

abbrev pub IsToldStep : Version → Step tcp_shape → Type 0
IsToldStep v (Begin line t call) = Unit {0}
IsToldStep v (Finish line t answer) = Unit {0}
IsToldStep v (Effect t answer) = Unit {0}
IsToldStep v (At host host_step) = IsToldHostStep v host_step

abbrev pub IsToldItem : Version → Item tcp_shape → Type 0
IsToldItem v (Do step) = IsToldStep v step
IsToldItem v (Bring f) = Unit {0}

-- each of these entries can be stated
abbrev pub AllTold : Version → List TcpEntry → Type 0
AllTold v [] = Unit {0}
AllTold v (x ∷ xs) = IsToldItem v x.item × AllTold v xs
