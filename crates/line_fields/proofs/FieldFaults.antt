-- What readers of fields answer is the first fault by the form.
use Rattle.std.proofs.Common.{◌≡◌, ℕ, Bool, true, false, List, [], ◌∷◌, ◌++◌, length, Option, Some, None, Result, Ok, Err, refl, ap, sym, subst, ◌∙◌}
use Rattle.std.specs.Prelude.{if◌then◌else◌, ◌==◌, ◌↔◌, nat_lt}
use Rattle.std.specs.Str.Parse.{digits_value}
use Rattle.std.proofs.lemmas.Option.{none-some, same_Some}
use Rattle.hex.specs.Hex.{decode_of}
use Rattle.hex.specs.declared.error.FromHexError.{FromHexError}
use Rattle.case_forms.specs.declared.calls.Host.{Host}
use Rattle.case_forms.specs.declared.version.Version.{Version}
use Rattle.line_fields.specs.Choice.{kind_named, kind_value, kind_field}
use Rattle.line_fields.specs.HexFields.{or_bad, hex_value, at_most, bytes_value, hex_field}
use Rattle.line_fields.specs.Hosts.{greatest_host, host_of, host_field}
use Rattle.line_fields.specs.Reading.{◌>>=◌, fault_at, missing, first_of, next_field, is_number, number_value, number_field, ended_by, no_more, or_fault}
use Rattle.line_fields.specs.Word.{Word, Rest}
use Rattle.line_fields.specs.declared.fault.FaultKind.{FaultKind}
use Rattle.line_fields.specs.declared.fault.FaultKind.TheVariants as kinds
use Rattle.line_fields.specs.declared.fault.TextFault.{TextFault}
use Rattle.line_fields.specs.Forms.{Want, Form, End, Maybe, Then, numeric, unknown, named, hex_kind, digits, by_kind}
use Rattle.line_fields.specs.Forms.{choice, Begins, missing_at, Differs, IsFirstFault}

-- the fault of a reading
abbrev pub failing : {A : Type 0} → Result A TextFault → Option TextFault
failing (Ok x) = None
failing (Err e) = Some e

abbrev pub kind_or : Option FaultKind → Word → Option TextFault → Option TextFault
kind_or None w rest = rest
kind_or (Some kind) w rest = Some (fault_at kind w)

-- the first fault of these fields by a form
abbrev pub first_in : Form → (line stop : ℕ) → List Word → Option TextFault
first_in End line stop [] = None
first_in End line stop (w ∷ ws) = Some (fault_at kinds.Field w)
first_in (Maybe form) line stop [] = None
first_in (Maybe form) line stop (w ∷ ws) = first_in form line stop (w ∷ ws)
first_in (Then want next) line stop [] = Some (missing_at line stop)
first_in (Then want next) line stop (w ∷ ws) = kind_or (want w) w (first_in (next w) line stop ws)

abbrev pub first_fault : Form → Rest → Option TextFault
first_fault form r = first_in form r.line r.stop r.words

-- what reads on has the first fault of this form
abbrev pub Onward : {X Y : Type 0} → Form → (X × Rest → Result Y TextFault) → Type 0
Onward {X} {Y} form f = (x : X) (rest : Rest) → failing (f (x, rest)) ≡ first_fault form rest

-- a value is read, or fails with this kind
abbrev pub Agrees : {X : Type 0} → Result X TextFault → Option FaultKind → Word → Type 0
Agrees (Ok x) None w = Unit {0}
Agrees (Ok x) (Some kind) w = ⊥
Agrees (Err e) None w = ⊥
Agrees (Err e) (Some kind) w = e ≡ fault_at kind w

pub assoc : {A B C : Type 0} (m : Result A TextFault) (g : A → Result B TextFault) (f : B → Result C TextFault)
    → failing ((m >>= g) >>= f) ≡ failing (m >>= λ x. g x >>= f)
assoc (Ok x) g f = refl
assoc (Err e) g f = refl

pub value_then : {X Y : Type 0} (value : Word → Result X TextFault) (want : Want) (next : Word → Form)
    (f : X × Rest → Result Y TextFault) → ((w : Word) → Agrees (value w) (want w) w)
    → ((w : Word) (x : X) (rest : Rest) → value w ≡ Ok x → failing (f (x, rest)) ≡ first_fault (next w) rest)
    → (r : Rest) → failing ((next_field r >>= λ w. value w.0 >>= λ x. Ok (x, w.1)) >>= f) ≡ first_fault (Then want next) r
value_then {X} {Y} value want next f agree on r = go r.words
  where
    behind : List Word → Rest
    behind ws = record { line = r.line; stop = r.stop; words = ws }

    by : (w : Word) (ws : List Word) (v : Result X TextFault) (k : Option FaultKind) → value w ≡ v → Agrees v k w
        → failing ((v >>= λ x. Ok (x, behind ws)) >>= f) ≡ kind_or k w (first_in (next w) r.line r.stop ws)
    by w ws (Ok x) None is fits = on w x (behind ws) is
    by w ws (Ok x) (Some kind) is fits = absurd fits
    by w ws (Err e) None is fits = absurd fits
    by w ws (Err e) (Some kind) is fits = ap (λ (x : TextFault). Some x) fits

    go : (ws : List Word)
        → failing ((first_of (missing r) r.line r.stop ws >>= λ w. value w.0 >>= λ x. Ok (x, w.1)) >>= f)
        ≡ first_in (Then want next) r.line r.stop ws
    go [] = refl
    go (w ∷ ws) = by w ws (value w) (want w) refl (agree w)

-- numbers
pub number_agrees : (least most : ℕ) (w : Word) → Agrees (number_value least most w) (numeric least most w) w
unfolding number_value
number_agrees least most w = go (length w.text == 0) (is_number least most w.text (digits_value 10 w.text))
  where
    go : (b c : Bool)
        → Agrees (if b then Err (fault_at kinds.Field w) else if c then Ok (digits_value 10 w.text)
        else Err (fault_at kinds.Number w))
        (if b then Some kinds.Field else (if c then None else Some kinds.Number)) w
    go true c = refl
    go false true = tt
    go false false = refl

pub number_then : {Y : Type 0} (least most : ℕ) (form : Form) (f : ℕ × Rest → Result Y TextFault) → Onward form f
    → (r : Rest) → failing (number_field least most r >>= f) ≡ first_fault (Then (numeric least most) (λ w. form)) r
unfolding number_field
number_then least most form f on r =
    value_then (number_value least most) (numeric least most) (λ w. form) f (number_agrees least most)
    (λ w x rest is. on x rest) r

pub host_then : {Y : Type 0} (v : Version) (form : Form) (f : Host × Rest → Result Y TextFault) → Onward form f
    → (r : Rest) → failing (host_field v r >>= f) ≡ first_fault (Then (numeric 0 (greatest_host v)) (λ w. form)) r
unfolding host_field
host_then v form f on r =
    assoc (number_field 0 (greatest_host v) r) (λ n. Ok (host_of n.0, n.1)) f
    ∙ number_then 0 (greatest_host v) form (λ n. f (host_of n.0, n.1)) (λ x rest. on (host_of x) rest) r

-- words
pub named_agrees : {K : Type 0} (w : Word) (o : Option K) → Agrees (or_fault (fault_at kinds.Field w) o) (unknown o) w
named_agrees w None = refl
named_agrees w (Some k) = tt

pub choice_then : {K Y : Type 0} (name : K → List ℕ) (all : List K) (next : K → Form)
    (f : K × Rest → Result Y TextFault) → ((k : K) (rest : Rest) → failing (f (k, rest)) ≡ first_fault (next k) rest)
    → (r : Rest) → failing (kind_field name all r >>= f) ≡ first_fault (choice name all next) r
choice_then {K} {Y} name all next f on r =
    value_then (kind_value name all) (named name all) (λ w. by_kind next (kind_named name all w.text)) f
    (λ w. named_agrees w (kind_named name all w.text)) (λ w x rest is. go w x rest (kind_named name all w.text) is) r
  where
    go : (w : Word) (x : K) (rest : Rest) (o : Option K) → or_fault (fault_at kinds.Field w) o ≡ Ok x
        → failing (f (x, rest)) ≡ first_fault (by_kind next o) rest
    go w x rest None is = absurd cc
    go w x rest (Some k) is = let same : k ≡ x = cc in sym (ap (λ (y : K). first_fault (next y) rest) same ∙ sym (on x rest))

pub kind_then : {K Y : Type 0} (name : K → List ℕ) (all : List K) (form : Form) (f : K × Rest → Result Y TextFault)
    → Onward form f → (r : Rest)
    → failing (kind_field name all r >>= f) ≡ first_fault (Then (named name all) (λ w. form)) r
kind_then name all form f on r =
    value_then (kind_value name all) (named name all) (λ w. form) f (λ w. named_agrees w (kind_named name all w.text))
    (λ w x rest is. on x rest) r

-- hex
hex_agrees : (most : ℕ) (w : Word) → Agrees (bytes_value most w) (digits most w) w
unfolding hex_value
hex_agrees most w = go (length w.text == 0) (decode_of w.text)
  where
    by : (bytes : List ℕ) (b : Bool) → Agrees (if b then Err (fault_at kinds.Hex w) else Ok bytes) (if b then Some kinds.Hex else None) w
    by bytes true = refl
    by bytes false = tt

    go : (b : Bool) (d : Result (List ℕ) FromHexError)
        → Agrees ((if b then Err (fault_at kinds.Field w) else or_bad (fault_at kinds.Hex w) d) >>= at_most most w)
        (if b then Some kinds.Field else hex_kind most d) w
    go true d = refl
    go false (Ok bytes) = by bytes (nat_lt most (length bytes))
    go false (Err bad) = refl

pub hex_then : {Y : Type 0} (most : ℕ) (form : Form) (f : List ℕ × Rest → Result Y TextFault) → Onward form f
    → (r : Rest) → failing (hex_field most r >>= f) ≡ first_fault (Then (digits most) (λ w. form)) r
unfolding hex_field
hex_then most form f on r = value_then (bytes_value most) (digits most) (λ w. form) f (hex_agrees most) (λ w x rest is. on x rest) r

-- the end of a line
pub end_then : {Y : Type 0} (y : Y) (r : Rest) → failing (no_more r >>= λ u. Ok y) ≡ first_fault End r
unfolding no_more
end_then {Y} y r = go r.words
  where
    go : (ws : List Word) → failing (ended_by ws >>= λ u. Ok y) ≡ first_in End r.line r.stop ws
    go [] = refl
    go (w ∷ ws) = refl

-- the first fault by a form is the one that stands in its place
first_differs : (form : Form) (line stop : ℕ) (ws : List Word) (e : TextFault) → first_in form line stop ws ≡ Some e
    → (front : List Word) × (rest : List Word) × (left : Form) × (ws ≡ front ++ rest) × Begins form front left
    × Differs line stop left rest e
first_differs End line stop [] e is = absurd (none-some e is)
first_differs End line stop (w ∷ ws) e is = ([], w ∷ ws, End, refl, refl, sym (same_Some (fault_at kinds.Field w) e is))
first_differs (Maybe form) line stop [] e is = absurd (none-some e is)
first_differs (Maybe form) line stop (w ∷ ws) e is = go (first_differs form line stop (w ∷ ws) e is)
  where
    go : ((front : List Word) × (rest : List Word) × (left : Form) × (w ∷ ws ≡ front ++ rest) × Begins form front left × Differs line stop left rest e)
        → (front : List Word) × (rest : List Word) × (left : Form) × (w ∷ ws ≡ front ++ rest) × Begins (Maybe form) front left × Differs line stop left rest e
    go x = by x.0 x.1 x.2 x.3 x.4 x.5
      where
        by : (front rest : List Word) (left : Form) → w ∷ ws ≡ front ++ rest → Begins form front left → Differs line stop left rest e
            → (front : List Word) × (rest : List Word) × (left : Form) × (w ∷ ws ≡ front ++ rest)
            × Begins (Maybe form) front left × Differs line stop left rest e
        by [] rest left split good differs = (
          [],
          w ∷ ws,
          Maybe form,
          refl,
          refl,
          subst (λ (f : Form). Differs line stop f (w ∷ ws) e) (sym good)
              (subst (λ (l : List Word). Differs line stop left l e) (sym split) differs),
        )
        by (u ∷ front) rest left split good differs = (u ∷ front, rest, left, split, good, differs)
first_differs (Then want next) line stop [] e is = ([], [], Then want next, refl, refl, sym (same_Some (missing_at line stop) e is))
first_differs (Then want next) line stop (w ∷ ws) e is = go (want w) refl is (first_differs (next w) line stop ws e)
  where
    go : (k : Option FaultKind) → want w ≡ k → kind_or k w (first_in (next w) line stop ws) ≡ Some e
        → (first_in (next w) line stop ws ≡ Some e
        → (front : List Word) × (rest : List Word) × (left : Form) × (ws ≡ front ++ rest) × Begins (next w) front left
        × Differs line stop left rest e)
        → (front : List Word) × (rest : List Word) × (left : Form) × (w ∷ ws ≡ front ++ rest)
        × Begins (Then want next) front left × Differs line stop left rest e
    go None fits is more = let x = more is in (w ∷ x.0, x.1, x.2, ap (λ (l : List Word). w ∷ l) x.3, (fits, x.4), x.5)
    go (Some kind) bad is more = ([], w ∷ ws, Then want next, refl, refl, (kind, bad, sym (same_Some (fault_at kind w) e is)))

differs_first : (form : Form) (line stop : ℕ) (rest : List Word) (e : TextFault) → Differs line stop form rest e → first_in form line stop rest ≡ Some e
differs_first End line stop [] e d = absurd d
differs_first End line stop (w ∷ ws) e d = ap (λ (x : TextFault). Some x) (sym d)
differs_first (Maybe form) line stop [] e d = absurd d
differs_first (Maybe form) line stop (w ∷ ws) e d = differs_first form line stop (w ∷ ws) e d
differs_first (Then want next) line stop [] e d = ap (λ (x : TextFault). Some x) (sym d)
differs_first (Then want next) line stop (w ∷ ws) e d =
    ap (λ (k : Option FaultKind). kind_or k w (first_in (next w) line stop ws)) d.1
    ∙ ap (λ (x : TextFault). Some x) (sym d.2)

begins_first : (form : Form) (line stop : ℕ) (front rest : List Word) (left : Form) (e : TextFault)
    → Begins form front left → Differs line stop left rest e → first_in form line stop (front ++ rest) ≡ Some e
begins_first form line stop [] rest left e good d = ap (λ (f : Form). first_in f line stop rest) good ∙ differs_first left line stop rest e d
begins_first End line stop (w ∷ front) rest left e good d = absurd good
begins_first (Maybe form) line stop (w ∷ front) rest left e good d = begins_first form line stop (w ∷ front) rest left e good d
begins_first (Then want next) line stop (w ∷ front) rest left e good d =
    ap (λ (k : Option FaultKind). kind_or k w (first_in (next w) line stop (front ++ rest))) good.0
    ∙ begins_first (next w) line stop front rest left e good.1 d

pub first_is : (form : Form) (r : Rest) (e : TextFault) → (first_fault form r ≡ Some e) ↔ IsFirstFault form r e
first_is form r e = (
  λ is. let x = first_differs form r.line r.stop r.words e is in record { front = x.0; rest = x.1; left = x.2; split = x.3; good = x.4; differs = x.5 },
  λ g. ap (first_in form r.line r.stop) g.split ∙ begins_first form r.line r.stop g.front g.rest g.left e g.good g.differs,
)
