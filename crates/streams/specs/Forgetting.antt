-- What may be discarded: delivered bytes, and bytes and transmissions below the oldest unacknowledged position (RFC
-- 9293, 3.3.1: SND.UNA). Fixed values take their places.
use Rattle.std.specs.Prelude.{◌≡◌, ℕ, zero, suc, ◌-◌, ◌≤◌, Bool, List, [], ◌∷◌, ◌++◌, length, Option, None, Some}
use Rattle.streams.specs.declared.cell.Cell.{Cell}
use Rattle.streams.specs.declared.cell.Cell.TheVariants.{Syn, Byte, Fin}
use Rattle.streams.specs.declared.transmission.Transmission.{Transmission}
use Rattle.streams.specs.Lists.{covered}
use Rattle.streams.specs.Received.{Receiving, is_ended, kept, next, told, waiting}
use Rattle.streams.specs.Sent.{end_of, piece}
use Rattle.streams.specs.Transmissions.{made, retransmitted, made_moment, once}

-- a byte becomes 0; the rest stays
abbrev pub faded : Option Cell → Option Cell
faded None = None
faded (Some Syn) = Some Syn
faded (Some (Byte value)) = Some (Byte 0)
faded (Some Fin) = Some Fin

-- the first cells, this many, are discarded
abbrev pub fade : ℕ → List (Option Cell) → List (Option Cell)
fade zero taken = taken
fade (suc count) [] = []
fade (suc count) (x ∷ taken) = faded x ∷ fade count taken

-- the delivered bytes are discarded
abbrev pub forgotten : Receiving → Receiving
forgotten r = record r { taken = fade (suc r.delivered) r.taken }

-- the first bytes, this many, become 0
abbrev pub blank : ℕ → List ℕ → List ℕ
blank count bytes = covered 0 count bytes

-- the accepted bytes below this position are discarded
abbrev pub below : ℕ → List ℕ → List ℕ
below snd_una accepted = blank (snd_una - 1) accepted

-- the transmissions below this position are discarded: they show as sent once, at the moment 0
abbrev pub made_below : ℕ → List Transmission → List Transmission
made_below snd_una all = covered (once 0) snd_una all

-- no operation of an endpoint on its streams reads what was discarded, and it doesn't matter when it is discarded
pub record ForgettingStreams : Type 0 where
  pub counts : (r : Receiving) → next (forgotten r) ≡ next r
  pub ends : (r : Receiving) → is_ended (forgotten r) ≡ is_ended r
  pub reads : (r : Receiving) → waiting (forgotten r) ≡ waiting r
  pub takes : (r : Receiving) (position : ℕ) (bytes : List ℕ) (fin : Bool)
      → forgotten (kept (forgotten r) position bytes fin)
      ≡ forgotten (kept r position bytes fin)
  pub tells : (r : Receiving) (count : ℕ) → forgotten (told (forgotten r) count) ≡ forgotten (told r count)
  pub measures : (snd_una : ℕ) (accepted : List ℕ) → end_of (below snd_una accepted) ≡ end_of accepted
  pub sends : (snd_una : ℕ) (accepted bytes : List ℕ)
      → below snd_una (below snd_una accepted ++ bytes) ≡ below snd_una (accepted ++ bytes)
  pub makes : (snd_una : ℕ) (accepted : List ℕ) (position count : ℕ) → snd_una ≤ position
      → piece (below snd_una accepted) position count ≡ piece accepted position count
  pub acks : (snd_una higher : ℕ) (accepted : List ℕ) → snd_una ≤ higher
      → below higher (below snd_una accepted) ≡ below higher accepted

-- the same for transmissions
pub record ForgettingMakings : Type 0 where
  pub measures : (snd_una : ℕ) (all : List Transmission) → length (made_below snd_una all) ≡ length all
  pub makes : (snd_una : ℕ) (all : List Transmission) (position count moment : ℕ) →
      made_below snd_una (made (made_below snd_una all) position count moment)
      ≡ made_below snd_una (made all position count moment)
  pub asks : (snd_una : ℕ) (all : List Transmission) (from upto : ℕ) → snd_una ≤ from
      → retransmitted (made_below snd_una all) from upto ≡ retransmitted all from upto
  pub times : (snd_una : ℕ) (all : List Transmission) (position : ℕ) → snd_una ≤ position
      → made_moment (made_below snd_una all) position ≡ made_moment all position
  pub acks : (snd_una higher : ℕ) (all : List Transmission) → snd_una ≤ higher
      → made_below higher (made_below snd_una all) ≡ made_below higher all
