-- What a number reads as, ahead and behind.
use Rattle.std.proofs.Common.{◌≡◌, ◌≤◌, ◌<◌, ℕ, ◌+◌, ◌-◌, ◌%◌, ◌^◌, Option, Some, None, ap, arith, inl, inr}
use Rattle.std.specs.Prelude.{nat_lt, if◌then◌else◌}
use Rattle.std.specs.Option.{SomeIff}
use Rattle.std.proofs.lemmas.Bool.{cases_lt, lt-ltb, le-ltb}
use Rattle.seqno.specs.declared.word.Word.{Word}
use Rattle.seqno.specs.Numbers.{Reads}
use Rattle.seqno.specs.Near.{ahead, near_position}

-- two words are equal where their numbers are
word_is : {v w : Word} → v.0 ≡ w.0 → v ≡ w
word_is e = ap (λ (n : ℕ). record { 0 = n }) e

-- a number that stands at least half a turn ahead, and so `2 ^ 32 - ahead` behind
pub reads_behind : (near ahead : ℕ) (base w : Word) (r : Option ℕ) → base.0 < 2 ^ 32 → w.0 < 2 ^ 32
    → ahead ≡ (w.0 + (2 ^ 32 - (base.0 + near) % 2 ^ 32)) % 2 ^ 32 → 2 ^ 31 ≤ ahead
    → SomeIff r (2 ^ 32 - ahead ≤ near) (near - (2 ^ 32 - ahead)) → Reads near base w r
reads_behind near ahead base w None base_fits w_fits ahead_is half behind =
    let further : near < 2 ^ 32 - ahead = omega (arith, behind) in
    (2 ^ 32 - ahead - near, record { some = omega arith; most = omega arith; number = word_is (omega arith) })
reads_behind near ahead base w (Some pos) base_fits w_fits ahead_is half behind =
    let pos_is = behind.1 in
    let least = behind.0 in
    record { is_near = record { least = omega arith; most = omega arith }; number = word_is (omega arith) }

-- a number that stands less than half a turn ahead
reads_ahead : (near ahead : ℕ) (base w : Word) → base.0 < 2 ^ 32 → w.0 < 2 ^ 32
    → ahead ≡ (w.0 + (2 ^ 32 - (base.0 + near) % 2 ^ 32)) % 2 ^ 32 → ahead < 2 ^ 31 → Reads near base w (Some (near + ahead))
reads_ahead near ahead base w base_fits w_fits ahead_is half =
    record { is_near = record { least = omega arith; most = omega arith }; number = word_is (omega arith) }

-- a number reads as the position that is found by how far it is ahead
pub finds_reading : (near : ℕ) (base w : Word) → base.0 < 2 ^ 32 → w.0 < 2 ^ 32 → Reads near base w (near_position near base w)
finds_reading near base w base_fits w_fits = by (ahead near base w) (omega arith)
  where
    behind : (n : ℕ) → n ≡ (w.0 + (2 ^ 32 - (base.0 + near) % 2 ^ 32)) % 2 ^ 32 → 2 ^ 31 ≤ n
        → Reads near base w (if nat_lt (near + n) (2 ^ 32) then None else Some (near + n - 2 ^ 32))
    behind n is half = elim (cases_lt (near + n) (2 ^ 32)) [
      | inl lt ↦ rw (lt-ltb (near + n) (2 ^ 32) lt) (reads_behind near n base w None base_fits w_fits is half (λ h. omega (arith, h)))
      | inr ge ↦ rw (le-ltb (near + n) (2 ^ 32) ge) (reads_behind near n base w (Some (near + n - 2 ^ 32)) base_fits w_fits is half (omega arith, omega arith))
    ]

    by : (n : ℕ) → n ≡ (w.0 + (2 ^ 32 - (base.0 + near) % 2 ^ 32)) % 2 ^ 32
        → Reads near base w (if nat_lt n (2 ^ 31) then Some (near + n) else if nat_lt (near + n) (2 ^ 32) then None else Some (near + n - 2 ^ 32))
    by n is = elim (cases_lt n (2 ^ 31)) [
      | inl lt ↦ rw (lt-ltb n (2 ^ 31) lt) (reads_ahead near n base w base_fits w_fits is lt)
      | inr ge ↦ rw (le-ltb n (2 ^ 31) ge) (behind n is ge)
    ]
