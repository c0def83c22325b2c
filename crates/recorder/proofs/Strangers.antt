-- A first stranger stands at a place.
use Rattle.std.proofs.Common.{◌≡◌, ℕ, ◌+◌, zero, suc, Bool, true, false, if◌then◌else◌, List, [], ◌∷◌, length, take, refl, sym, ap, subst, arith, inl, inr}
use Rattle.spec_tcp.specs.declared.endpoint.Emission.{Emission}
use Rattle.spec_tcp.specs.Machine.{tcp_shape}
use Rattle.spec_merge.specs.Books.{Item, Do, Bring, Key}
use Rattle.spec_merge.specs.Recordings.{TcpEntry}
use Rattle.recorder.specs.Numbers.{takes_line}
use Rattle.recorder.specs.Naming.{AllNamed, line_keys, NamedItem, StrangerItem, FirstStranger, IsStranger, StrangerFrom}

-- the first of some entries is one
pub stranger_here : (first : ℕ) (keys : List Key) (wire : List (ℕ × Emission)) (line : ℕ) (left : List TcpEntry)
    (x : TcpEntry) (xs : List TcpEntry) → left ≡ x ∷ xs → (NamedItem first keys wire x.item → ⊥)
    → FirstStranger first keys wire line left line
stranger_here first keys wire line left x xs is unnamed =
    subst (λ (es : List TcpEntry). FirstStranger first keys wire line es line) (sym is) (go x.item unnamed)
  where
    go : (item : Item tcp_shape) → (NamedItem first keys wire item → ⊥)
        → StrangerItem first keys wire line line item
        (FirstStranger first keys wire (if takes_line item then line + 1 else line) xs line)
    go (Do step) unnamed = absurd (unnamed tt)
    go (Bring f) unnamed = inl (unnamed, refl)

-- a later one is, where the first is none
stranger_later : (first : ℕ) (keys : List Key) (wire : List (ℕ × Emission)) (line next n : ℕ) (left : List TcpEntry)
    (x : TcpEntry) (xs : List TcpEntry) → left ≡ x ∷ xs → NamedItem first keys wire x.item
    → (if takes_line x.item then line + 1 else line) ≡ next → FirstStranger first keys wire next xs n
    → FirstStranger first keys wire line left n
stranger_later first keys wire line next n left x xs is named to s =
    subst (λ (es : List TcpEntry). FirstStranger first keys wire line es n) (sym is)
    (go x.item named (subst (λ (m : ℕ). FirstStranger first keys wire m xs n) (sym to) s))
  where
    go : (item : Item tcp_shape) → NamedItem first keys wire item
        → FirstStranger first keys wire (if takes_line item then line + 1 else line) xs n
        → StrangerItem first keys wire line n item
        (FirstStranger first keys wire (if takes_line item then line + 1 else line) xs n)
    go (Do step) named rest = rest
    go (Bring f) named rest = inr (named, rest)

pub stranger_taken : (first : ℕ) (keys : List Key) (wire : List (ℕ × Emission)) (line n : ℕ) (left : List TcpEntry)
    (x : TcpEntry) (xs : List TcpEntry) → left ≡ x ∷ xs → NamedItem first keys wire x.item → takes_line x.item ≡ true
    → FirstStranger first keys wire (line + 1) xs n → FirstStranger first keys wire line left n
stranger_taken first keys wire line n left x xs is named takes =
    stranger_later first keys wire line (line + 1) n left x xs is named
    (ap (λ (b : Bool). if b then line + 1 else line) takes)

pub stranger_hidden : (first : ℕ) (keys : List Key) (wire : List (ℕ × Emission)) (line n : ℕ) (left : List TcpEntry)
    (x : TcpEntry) (xs : List TcpEntry) → left ≡ x ∷ xs → NamedItem first keys wire x.item → takes_line x.item ≡ false
    → FirstStranger first keys wire line xs n → FirstStranger first keys wire line left n
stranger_hidden first keys wire line n left x xs is named takes =
    stranger_later first keys wire line line n left x xs is named
    (ap (λ (b : Bool). if b then line + 1 else line) takes)

pub named_more : (first : ℕ) (keys : List Key) (wire : List (ℕ × Emission)) (left : List TcpEntry) (x : TcpEntry)
    (xs : List TcpEntry) → left ≡ x ∷ xs → NamedItem first keys wire x.item → AllNamed first keys wire xs
    → AllNamed first keys wire left
named_more first keys wire left x xs is named rest = subst (λ (es : List TcpEntry). AllNamed first keys wire es) (sym is) (named, rest)

pub stranger_from : (first : ℕ) (keys : List Key) (wire : List (ℕ × Emission)) (line : ℕ) (es : List TcpEntry) (n : ℕ)
    → FirstStranger first keys wire line es n → StrangerFrom first keys wire line es n
stranger_from first keys wire line [] n s = absurd s
stranger_from first keys wire line (e ∷ es) n s = go e.item s (stranger_from first keys wire (if takes_line e.item then line + 1 else line) es n)
  where
    later : (item : Item tcp_shape) → NamedItem first keys wire item
        → StrangerFrom first keys wire (if takes_line item then line + 1 else line) es n
        → StrangerFrom first keys wire line (record { key = e.key; item = item } ∷ es) n
    later item named r = record {
      place = suc r.place;
      key = r.key;
      flying = r.flying;
      here = r.here;
      unnamed = r.unnamed;
      before = (named, r.before);
      number = count (takes_line item) (line_keys (take r.place es)) r.number;
    }
      where
        count : (b : Bool) (ks : List Key) → n ≡ (if b then line + 1 else line) + length ks → n ≡ line + length (if b then e.key ∷ ks else ks)
        count true ks is = omega (arith, is)
        count false ks is = is

    go : (item : Item tcp_shape)
        → StrangerItem first keys wire line n item
        (FirstStranger first keys wire (if takes_line item then line + 1 else line) es n)
        → (FirstStranger first keys wire (if takes_line item then line + 1 else line) es n
        → StrangerFrom first keys wire (if takes_line item then line + 1 else line) es n)
        → StrangerFrom first keys wire line (record { key = e.key; item = item } ∷ es) n
    go (Do step) s rest = later (Do step) tt (rest s)
    go (Bring f) (inl s) rest =
        record {
          place = zero;
          key = e.key;
          flying = f;
          here = refl;
          unnamed = s.0;
          before = tt;
          number = (let z = s.1 in omega (arith, z));
        }
    go (Bring f) (inr s) rest = later (Bring f) s.0 (rest s.1)

pub stranger_at : (first : ℕ) (keys : List Key) (wire : List (ℕ × Emission)) (es : List TcpEntry) (n : ℕ)
    → FirstStranger first keys wire first es n → IsStranger first keys wire es n
stranger_at first keys wire es n s = stranger_from first keys wire first es n s
