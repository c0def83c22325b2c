-- The spelling of the parts of labels, both ways.
use Rattle.std.proofs.Common.{◌≡◌, ◌≤◌, ◌<◌, ◌^◌, zero, suc, ℕ, List, [], ◌∷◌, ◌++◌, Bool, true, false, eqb, Option}
use Rattle.std.proofs.Common.{Some, None, Result, Ok, refl, sym, ap, subst, ◌∙◌, arith, inl, inr, ◌⊎◌}
use Rattle.std.specs.Fmt.{decimal}
use Rattle.std.specs.Prelude.{IfSome}
use Rattle.seqno.specs.declared.word.Word.{Word}
use Rattle.case_forms.specs.declared.calls.Host.{Host}
use Rattle.case_forms.specs.declared.named_line.Extras.{Extras}
use Rattle.case_forms.specs.declared.named_line.Extras.TheVariants.{Bare, One, Two}
use Rattle.case_forms.specs.declared.version.Version.{Version}
use Rattle.case_forms.specs.declared.version.Version.TheVariants as versions
use Rattle.case_forms.specs.Versions.{scales}
use Rattle.line_fields.specs.declared.fault.TextFault.{TextFault}
use Rattle.line_fields.specs.Word.{Rest}
use Rattle.line_fields.specs.Reading.{◌>>=◌, number_field, or_end}
use Rattle.line_fields.specs.Reader.{Any, Nothing, IsReader, IsLastReader}
use Rattle.line_fields.specs.Hosts.{host_number, IsHost, host_field}
use Rattle.line_fields.specs.Spelling.{Piece, number, AreWritten}
use Rattle.line_fields.proofs.Readers.{IsNumberField, reads_as, reads_done, reads_last, reads_or_end, reads_number}
use Rattle.line_fields.proofs.HostLaw.{IsHostField, reads_host}
use Rattle.line_fields.proofs.Written.{plains_are, none_written}
use Rattle.witness.specs.Parts.{endpoint_field, entry_field, bit_field, first_field, extras_field, Start, given_shift, shift_field, given_start, start_field}
use Rattle.witness.specs.Labels.{bit_number, extras_pieces, AreExtras, iss_pieces, shift_pieces, IsStart, IsEndpoint, IsEntry, endpoint_pieces, entry_pieces}
use Rattle.witness.proofs.Made.{IsBy, IsMade, reads_made, reads_part}

-- ---- a number, a host, and yes or no

abbrev pub IsWithin : ℕ → ℕ → ℕ → Type 0
IsWithin least most n = (least ≤ n) × (n ≤ most)

abbrev pub one_piece : ℕ → List Piece
one_piece n = number n ∷ []

is_written : (n : ℕ) (ws : List (List ℕ)) → ws ≡ decimal n ∷ [] → AreWritten (one_piece n) ws
is_written n ws e = subst (λ (us : List (List ℕ)). AreWritten (one_piece n) us) (sym e) (refl, tt)

pub reads_within : (least most : ℕ) → most < 2 ^ 64 → IsReader (number_field least most) (IsBy (IsWithin least most) one_piece)
reads_within least most fits =
    reads_as Any (number_field least most) (IsNumberField least most) (IsBy (IsWithin least most) one_piece) (reads_number least most fits)
    (λ n ws s. ((s.0, s.1), is_written n ws s.2))
    (λ n ws s. (s.0.0, s.0.1, plains_are (decimal n ∷ []) ws s.1))

abbrev pub host_piece : Host → List Piece
host_piece h = number (host_number h) ∷ []

pub reads_host_piece : (v : Version) → IsReader (host_field v) (IsBy (IsHost v) host_piece)
reads_host_piece v =
    reads_as Any (host_field v) (IsHostField v) (IsBy (IsHost v) host_piece) (reads_host v)
    (λ h ws s. (s.0, is_written (host_number h) ws s.1))
    (λ h ws s. (s.0, plains_are (decimal (host_number h) ∷ []) ws s.1))

number_back : (n : ℕ) → n ≤ 1 → bit_number (eqb n 1) ≡ n
number_back zero le = refl
number_back (suc zero) le = refl
number_back (suc (suc n)) le = absurd (omega arith)

bit_back : (b : Bool) → eqb (bit_number b) 1 ≡ b
bit_back false = refl
bit_back true = refl

at_most_one : (b : Bool) → bit_number b ≤ 1
at_most_one false = omega arith
at_most_one true = omega arith

abbrev pub bit_piece : Bool → List Piece
bit_piece b = number (bit_number b) ∷ []

pub reads_bit : IsReader bit_field (IsBy (λ b. Unit {0}) bit_piece)
unfolding bit_field
reads_bit =
    reads_as Any bit_field _ (IsBy (λ b. Unit {0}) bit_piece)
    (reads_made Any (number_field 0 1) (λ n. eqb n 1) (IsWithin 0 1) one_piece (reads_within 0 1 (omega arith)))
    (λ b ws s. (tt, subst (λ (n : ℕ). AreWritten (one_piece n) ws) (sym (ap bit_number s.1 ∙ number_back s.0 s.2.1)) s.3))
    (λ b ws s. (bit_number b, sym (bit_back b), (omega arith, at_most_one b), s.1))

-- ---- an endpoint, and an inbox entry

abbrev made_endpoint : Host × (ℕ × ℕ) → Host × ℕ × ℕ
made_endpoint y = (y.0, y.1.0, y.1.1)

abbrev ArePortsIn : ℕ × ℕ → Type 0
ArePortsIn ports = IsWithin 1 65535 ports.0 × IsWithin 1 65535 ports.1

abbrev port_pieces : ℕ × ℕ → List Piece
port_pieces ports = one_piece ports.0 ++ one_piece ports.1

abbrev pub FitsEndpoint : Version → Host × ℕ × ℕ → Type 0
FitsEndpoint v at = IsEndpoint v at.0 at.1 at.2

abbrev pub pieces_at : Host × ℕ × ℕ → List Piece
pieces_at at = endpoint_pieces at.0 at.1 at.2

pub reads_endpoint : (v : Version) → IsReader (endpoint_field v) (IsBy (FitsEndpoint v) pieces_at)
unfolding endpoint_field
reads_endpoint v =
    reads_as Any (endpoint_field v) _ (IsBy (FitsEndpoint v) pieces_at)
    (reads_part Any (host_field v) (IsHost v) host_piece _ made_endpoint ArePortsIn port_pieces (reads_host_piece v)
    (λ h. reads_part Any (number_field 1 65535) (IsWithin 1 65535) one_piece _ (λ x. made_endpoint (h, x))
    (IsWithin 1 65535) one_piece (reads_within 1 65535 (omega arith))
    (λ l. reads_made Any (number_field 1 65535) (λ p. made_endpoint (h, (l, p))) (IsWithin 1 65535) one_piece (reads_within 1 65535 (omega arith)))))
    (λ at ws s. let fits = s.2.1 in (
      subst (FitsEndpoint v) (sym s.1) (s.2.0, fits.0.0, fits.0.1, fits.1.0, fits.1.1),
      subst (λ (a : Host × ℕ × ℕ). AreWritten (pieces_at a) ws) (sym s.1) s.3,
    ))
    (λ at ws s. let fits = s.0 in ((at.0, (at.1, at.2)), refl, (fits.0, ((fits.1, fits.2), (fits.3, fits.4))), s.1))

abbrev pub FitsEntry : Version → Host × ℕ → Type 0
FitsEntry v entry = IsEntry v entry.0 entry.1

abbrev pub pieces_in : Host × ℕ → List Piece
pieces_in entry = entry_pieces entry.0 entry.1

pub reads_entry : (v : Version) → IsReader (entry_field v) (IsBy (FitsEntry v) pieces_in)
unfolding entry_field
reads_entry v =
    reads_as Any (entry_field v) _ (IsBy (FitsEntry v) pieces_in)
    (reads_part Any (host_field v) (IsHost v) host_piece _ (λ y. y) (IsWithin 0 4294967295) one_piece (reads_host_piece v)
    (λ h. reads_made Any (number_field 0 4294967295) (λ n. (h, n)) (IsWithin 0 4294967295) one_piece (reads_within 0 4294967295 (omega arith))))
    (λ entry ws s. (subst (FitsEntry v) (sym s.1) (s.2.0, s.2.1.1), subst (λ (y : Host × ℕ). AreWritten (pieces_in y) ws) (sym s.1) s.3))
    (λ entry ws s. (entry, refl, (s.0.0, (omega arith, s.0.1)), s.1))

-- ---- a number that may be missing

abbrev maybe_pieces : Option ℕ → List Piece
maybe_pieces None = []
maybe_pieces (Some n) = one_piece n

abbrev IsMaybe : ℕ → Option ℕ → Type 0
IsMaybe most None = Unit {0}
IsMaybe most (Some n) = n ≤ most

abbrev maybe : {B : Type 0} → B → (ℕ → B) → Option ℕ → B
maybe none some None = none
maybe none some (Some n) = some n

-- a number up to the greatest
module _ (most : ℕ) (small : most < 2 ^ 64) where
  abbrev given : {B : Type 0} → (ℕ → B) → Rest → Result (B × Rest) TextFault
  given some r = number_field 0 most r >>= λ n. Ok (some n.0, n.1)

  reads_given : {B : Type 0} (some : ℕ → B) → IsLastReader (given some) (IsMade some (IsWithin 0 most) one_piece)
  reads_given some =
      reads_made Nothing (number_field 0 most) some (IsWithin 0 most) one_piece
      (reads_last (number_field 0 most) (IsBy (IsWithin 0 most) one_piece) (reads_within 0 most small))

  back_by : {B : Type 0} (none : B) (some : ℕ → B) (o : Option ℕ) (b : B) (ws : List (List ℕ)) → b ≡ maybe none some o
      → IsMaybe most o → AreWritten (maybe_pieces o) ws
      → ((b ≡ none) × (ws ≡ [])) ⊎ IsMade some (IsWithin 0 most) one_piece b ws
  back_by none some None b ws same fits h = inl (same, none_written ws h)
  back_by none some (Some n) b ws same fits h = inr (n, same, (omega arith, fits), h)

  reads_maybe : {B : Type 0} (none : B) (some : ℕ → B)
      → IsLastReader (λ r. or_end none (given some) r.words r) (IsMade (maybe none some) (IsMaybe most) maybe_pieces)
  reads_maybe none some =
      reads_as Nothing (λ r. or_end none (given some) r.words r) _ (IsMade (maybe none some) (IsMaybe most) maybe_pieces)
      (reads_or_end none (given some) (IsMade some (IsWithin 0 most) one_piece) (reads_given some)
      (λ b ws s empty. subst (λ (us : List (List ℕ)). AreWritten (one_piece s.0) us) empty s.3))
      (λ b ws s. elim s [
        | inl bare ↦ (None, bare.0, tt, subst (λ (us : List (List ℕ)). AreWritten [] us) (sym bare.1) tt)
        | inr own ↦ (Some own.0, own.1, own.2.1, own.3)
      ])
      (λ b ws s. back_by none some s.0 b ws s.1 s.2 s.3)

-- ---- an initial send sequence number, and the shift behind it

abbrev word : ℕ → Word
word n = record { 0 = n }

-- a shift that may be told in this version
abbrev FitsShift : Version → Option ℕ → Type 0
FitsShift v o = IfSome o (λ s. (scales v ≡ true) × (s ≤ 14))

abbrev with_shift : Word → Option ℕ → Start
with_shift iss o = (Some iss, o)

maybe_shift : (iss : Word) (o : Option ℕ) → maybe (Some iss, None) (λ s. (Some iss, Some s)) o ≡ with_shift iss o
maybe_shift iss None = refl
maybe_shift iss (Some s) = refl

shift_there : (v : Version) (o : Option ℕ) → scales v ≡ true → IsMaybe 14 o → FitsShift v o
shift_there v None scaled fits = tt
shift_there v (Some s) scaled fits = (scaled, fits)

shift_back : (v : Version) (o : Option ℕ) → FitsShift v o → IsMaybe 14 o
shift_back v None fits = tt
shift_back v (Some s) fits = fits.1

no_shift : (iss : Word) (o : Option ℕ) (b : Start) (ws : List (List ℕ)) → b ≡ with_shift iss o
    → FitsShift versions.One o → AreWritten (maybe_pieces o) ws → (b ≡ (Some iss, None)) × (ws ≡ [])
no_shift iss None b ws same fits h = (same, none_written ws h)
no_shift iss (Some s) b ws same fits h = let never = fits.0 in absurd cc

-- where windows may be scaled
reads_scaled : (v : Version) (iss : Word) → scales v ≡ true
    → IsLastReader (λ r. or_end (Some iss, None) (given_shift iss) r.words r)
    (IsMade (with_shift iss) (FitsShift v) maybe_pieces)
reads_scaled v iss scaled =
    reads_as Nothing (λ r. or_end (Some iss, None) (given_shift iss) r.words r) _
    (IsMade (with_shift iss) (FitsShift v) maybe_pieces)
    (reads_maybe 14 (omega arith) (Some iss, None) (λ s. (Some iss, Some s)))
    (λ b ws s. (s.0, s.1 ∙ maybe_shift iss s.0, shift_there v s.0 scaled s.2, s.3))
    (λ b ws s. (s.0, s.1 ∙ sym (maybe_shift iss s.0), shift_back v s.0 s.2, s.3))

reads_shift : (v : Version) (iss : Word) → IsLastReader (shift_field v iss) (IsMade (with_shift iss) (FitsShift v) maybe_pieces)
reads_shift versions.One iss =
    reads_as Nothing (shift_field versions.One iss) _ (IsMade (with_shift iss) (FitsShift versions.One) maybe_pieces) (reads_done Nothing (Some iss, None))
    (λ b ws s. (None, s.0, tt, subst (λ (us : List (List ℕ)). AreWritten [] us) (sym s.1) tt))
    (λ b ws s. no_shift iss s.0 b ws s.1 s.2 s.3)
reads_shift versions.Two iss = reads_scaled versions.Two iss refl
reads_shift versions.Three iss = reads_scaled versions.Three iss refl
reads_shift versions.Four iss = reads_scaled versions.Four iss refl
reads_shift versions.FourHalf iss = reads_scaled versions.FourHalf iss refl
reads_shift versions.Five iss = reads_scaled versions.Five iss refl
reads_shift versions.FiveHalf iss = reads_scaled versions.FiveHalf iss refl
reads_shift versions.Six iss = reads_scaled versions.Six iss refl
reads_shift versions.SixHalf iss = reads_scaled versions.SixHalf iss refl

abbrev make_start : ℕ × Option ℕ → Start
make_start y = with_shift (word y.0) y.1

abbrev FitsGiven : Version → ℕ × Option ℕ → Type 0
FitsGiven v y = IsWithin 0 4294967295 y.0 × FitsShift v y.1

abbrev given_pieces : ℕ × Option ℕ → List Piece
given_pieces y = one_piece y.0 ++ maybe_pieces y.1

reads_given_start : (v : Version) → IsLastReader (given_start v) (IsMade make_start (FitsGiven v) given_pieces)
reads_given_start v =
    reads_part Nothing (number_field 0 4294967295) (IsWithin 0 4294967295) one_piece _ make_start
    (FitsShift v) maybe_pieces (reads_within 0 4294967295 (omega arith)) (λ n. reads_shift v (word n))

some_start : (v : Version) (start : Start) (ws : List (List ℕ)) → IsMade make_start (FitsGiven v) given_pieces start ws → ws ≡ [] → ⊥
some_start v start ws s empty = subst (λ (us : List (List ℕ)). AreWritten (given_pieces s.0) us) empty s.3

abbrev pub FitsStart : Version → Start → Type 0
FitsStart v start = IsStart v start.0 start.1

abbrev pub start_pieces : Start → List Piece
start_pieces start = iss_pieces start.0 ++ shift_pieces start.1

start_there : (v : Version) (n : ℕ) (o : Option ℕ) (ws : List (List ℕ)) → FitsGiven v (n, o)
    → AreWritten (given_pieces (n, o)) ws → IsBy (FitsStart v) start_pieces (make_start (n, o)) ws
start_there v n None ws fits h = ((fits.0.1, tt), h)
start_there v n (Some s) ws fits h = ((fits.0.1, (fits.1.0, refl, fits.1.1)), h)

start_back : (v : Version) (start : Start) (ws : List (List ℕ)) → IsBy (FitsStart v) start_pieces start ws
    → ((start ≡ (None, None)) × (ws ≡ [])) ⊎ IsMade make_start (FitsGiven v) given_pieces start ws
start_back v (None, None) ws s = inl (refl, none_written ws s.1)
start_back v (None, Some shift) ws s = let never = s.0.1.1 in absurd cc
start_back v (Some iss, None) ws s = inr ((iss.0, None), refl, ((omega arith, s.0.0), tt), s.1)
start_back v (Some iss, Some shift) ws s = inr ((iss.0, Some shift), refl, ((omega arith, s.0.0), (s.0.1.0, s.0.1.2)), s.1)

pub reads_start : (v : Version) → IsLastReader (start_field v) (IsBy (FitsStart v) start_pieces)
unfolding start_field
reads_start v =
    reads_as Nothing (start_field v) _ (IsBy (FitsStart v) start_pieces)
    (reads_or_end (None, None) (given_start v) (IsMade make_start (FitsGiven v) given_pieces)
    (reads_given_start v) (some_start v))
    (λ start ws s. elim s [
      | inl bare ↦ subst (λ (x : Start). IsBy (FitsStart v) start_pieces x ws) (sym bare.0)
          ((tt, tt), subst (λ (us : List (List ℕ)). AreWritten [] us) (sym bare.1) tt)
      | inr own ↦ subst (λ (x : Start). IsBy (FitsStart v) start_pieces x ws) (sym own.1) (start_there v own.0.0 own.0.1 ws own.2 own.3)
    ])
    (start_back v)

-- ---- the extra numbers

abbrev with_second : ℕ → Option ℕ → Extras
with_second x o = maybe (One x) (λ y. Two x y) o

abbrev make_first : ℕ × Option ℕ → Extras
make_first y = with_second y.0 y.1

abbrev FitsFirst : ℕ × Option ℕ → Type 0
FitsFirst y = IsWithin 0 4294967295 y.0 × IsMaybe 4294967295 y.1

abbrev first_pieces : ℕ × Option ℕ → List Piece
first_pieces y = one_piece y.0 ++ maybe_pieces y.1

reads_first : IsLastReader first_field (IsMade make_first FitsFirst first_pieces)
reads_first =
    reads_part Nothing (number_field 0 4294967295) (IsWithin 0 4294967295) one_piece _ make_first
    (IsMaybe 4294967295) maybe_pieces (reads_within 0 4294967295 (omega arith))
    (λ x. reads_maybe 4294967295 (omega arith) (One x) (λ y. Two x y))

some_first : (extras : Extras) (ws : List (List ℕ)) → IsMade make_first FitsFirst first_pieces extras ws → ws ≡ [] → ⊥
some_first extras ws s empty = subst (λ (us : List (List ℕ)). AreWritten (first_pieces s.0) us) empty s.3

first_there : (x : ℕ) (o : Option ℕ) (ws : List (List ℕ)) → FitsFirst (x, o) → AreWritten (first_pieces (x, o)) ws
    → IsBy AreExtras extras_pieces (with_second x o) ws
first_there x None ws fits h = (fits.0.1, h)
first_there x (Some y) ws fits h = ((fits.0.1, fits.1), h)

extras_back : (extras : Extras) (ws : List (List ℕ)) → IsBy AreExtras extras_pieces extras ws
    → ((extras ≡ Bare) × (ws ≡ [])) ⊎ IsMade make_first FitsFirst first_pieces extras ws
extras_back Bare ws s = inl (refl, none_written ws s.1)
extras_back (One x) ws s = inr ((x, None), refl, ((omega arith, s.0), tt), s.1)
extras_back (Two x y) ws s = inr ((x, Some y), refl, ((omega arith, s.0.0), s.0.1), s.1)

pub reads_extras : IsLastReader extras_field (IsBy AreExtras extras_pieces)
unfolding extras_field
reads_extras =
    reads_as Nothing extras_field _ (IsBy AreExtras extras_pieces)
    (reads_or_end Bare first_field (IsMade make_first FitsFirst first_pieces) reads_first some_first)
    (λ extras ws s. elim s [
      | inl bare ↦ subst (λ (x : Extras). IsBy AreExtras extras_pieces x ws) (sym bare.0) (tt, subst (λ (us : List (List ℕ)). AreWritten [] us) (sym bare.1) tt)
      | inr own ↦ subst (λ (x : Extras). IsBy AreExtras extras_pieces x ws) (sym own.1) (first_there own.0.0 own.0.1 ws own.2 own.3)
    ])
    extras_back
