-- Which segment of the other host an arrival names.
use Rattle.std.specs.Prelude.{◌≡◌, ◌≤◌, ◌+◌, ◌-◌, ◌⊎◌, ℕ, nat_eq, if◌then◌else◌, List, [], ◌∷◌, length, Some, true}
use Rattle.std.specs.Prelude.{slice_get, take}
use Rattle.std.specs.Map.{lookup}
use Rattle.spec_network.specs.Tables.{pick}
use Rattle.spec_tcp.specs.declared.endpoint.Emission.{Emission}
use Rattle.spec_tcp.specs.Machine.{tcp_shape}
use Rattle.spec_merge.specs.Books.{Item, Do, Bring, Flying, Key}
use Rattle.spec_merge.specs.Keys.{before}
use Rattle.spec_merge.specs.Recordings.{TcpEntry}
use Rattle.stack_core.specs.Recordings.{Recorded, world_left}
use Rattle.recorder.specs.Numbers.{takes_line}

-- the keys of the entries that take lines, line by line
abbrev pub line_keys : List TcpEntry → List Key
line_keys [] = []
line_keys (x ∷ xs) = if takes_line x.item then x.key ∷ line_keys xs else line_keys xs

-- what a host sent, according to its recording
abbrev pub wire_of : Recorded → List (ℕ × Emission)
wire_of r = (pick (world_left r).hosts r.me).wire

-- a segment is one that was sent: the line that it names has its key, and is on the wire with its emission; `first` is
-- the number of the first line
pub record IsNamed (first : ℕ) (keys : List Key) (wire : List (ℕ × Emission)) (f : Flying tcp_shape) : Type 0 where
  pub event : first ≤ f.line
  pub key : slice_get keys (f.line - first) ≡ Some f.key
  pub emission : lookup (nat_eq f.line) wire ≡ Some f.emission

abbrev pub NamedItem : ℕ → List Key → List (ℕ × Emission) → Item tcp_shape → Type 0
NamedItem first keys wire (Do step) = Unit {0}
NamedItem first keys wire (Bring f) = IsNamed first keys wire f

abbrev pub AllNamed : ℕ → List Key → List (ℕ × Emission) → List TcpEntry → Type 0
AllNamed first keys wire [] = Unit {0}
AllNamed first keys wire (x ∷ xs) = NamedItem first keys wire x.item × AllNamed first keys wire xs

-- the first segment of these entries that wasn't sent was brought where the next line has number n; their first line
-- has the number `line`
abbrev pub StrangerItem : ℕ → List Key → List (ℕ × Emission) → ℕ → ℕ → Item tcp_shape → Type 0 → Type 0
StrangerItem first keys wire line n (Do step) rest = rest
StrangerItem first keys wire line n (Bring f) rest =
    ((IsNamed first keys wire f → ⊥) × (n ≡ line)) ⊎ (IsNamed first keys wire f × rest)

abbrev pub FirstStranger : ℕ → List Key → List (ℕ × Emission) → ℕ → List TcpEntry → ℕ → Type 0
FirstStranger first keys wire line [] n = ⊥
FirstStranger first keys wire line (x ∷ xs) n =
    StrangerItem first keys wire line n x.item
    (FirstStranger first keys wire (if takes_line x.item then line + 1 else line) xs n)

-- the same by places: at this place of the entries a segment was brought that wasn't sent; all those before it were;
-- and the next line there has number n
pub record StrangerFrom (first : ℕ) (keys : List Key) (wire : List (ℕ × Emission)) (line : ℕ) (xs : List TcpEntry)
    (n : ℕ) : Type 0 where
  pub place : ℕ
  pub key : Key
  pub flying : Flying tcp_shape
  pub here : slice_get xs place ≡ Some (record { key = key; item = Bring flying })
  pub unnamed : IsNamed first keys wire flying → ⊥
  pub before : AllNamed first keys wire (take place xs)
  pub number : n ≡ line + length (line_keys (take place xs))

abbrev pub IsStranger : ℕ → List Key → List (ℕ × Emission) → List TcpEntry → ℕ → Type 0
IsStranger first keys wire xs n = StrangerFrom first keys wire first xs n

-- two segments have the same mark, header, options, and bytes
abbrev pub SameMark : Emission → Emission → Type 0
SameMark a b =
    (a.sender ≡ b.sender) × (a.peer_at_send ≡ b.peer_at_send) × (a.pos ≡ b.pos) × (a.ack ≡ b.ack)
    × (a.is_reset_reply ≡ b.is_reset_reply) × (a.moment ≡ b.moment)

abbrev pub SameHead : Emission → Emission → Type 0
SameHead a b =
    (a.lport ≡ b.lport) × (a.rport ≡ b.rport) × (a.seq ≡ b.seq) ×
    (a.ack_seq ≡ b.ack_seq) × (a.raised ≡ b.raised) × (a.flags ≡ b.flags) × (a.window ≡ b.window)

abbrev pub SameOptions : Emission → Emission → Type 0
SameOptions a b = (a.mss ≡ b.mss) × (a.shift ≡ b.shift) × (a.scaled ≡ b.scaled) × (a.scale ≡ b.scale)

abbrev pub SameBytes : Emission → Emission → Type 0
SameBytes a b = (a.payload ≡ b.payload) × (a.bytes ≡ b.bytes)

-- each segment that was brought has a key below that of its entry
abbrev pub IsAbove : Key → Item tcp_shape → Type 0
IsAbove key (Do step) = Unit {0}
IsAbove key (Bring f) = before f.key key ≡ true

abbrev pub AllAbove : List TcpEntry → Type 0
AllAbove [] = Unit {0}
AllAbove (x ∷ xs) = IsAbove x.key x.item × AllAbove xs
