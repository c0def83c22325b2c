-- Two books beside each other have no stranger.
use Rattle.std.proofs.Common.{◌≡◌, ℕ, ◌+◌, ◌-◌, ◌<◌, zero, suc, Bool, true, false, if◌then◌else◌, List, [], ◌∷◌, Option}
use Rattle.std.proofs.Common.{None, Some, refl, sym, ap, ◌∙◌, subst, arith, inl, inr}
use Rattle.std.specs.Prelude.{slice_get}
use Rattle.std.proofs.lemmas.Option.{none-some, same_Some}
use Rattle.case_forms.specs.Traces.{first_event_line}
use Rattle.case_forms.specs.declared.calls.Host.{Host}
use Rattle.case_forms.specs.declared.calls.Host.TheVariants.{Zero, One}
use Rattle.case_forms.specs.declared.trace.Header.{Header}
use Rattle.case_forms.specs.declared.trace.Trace.{Trace}
use Rattle.case_forms.specs.declared.steps.Witness.{Witness}
use Rattle.checker.specs.Explains.{Explains, IsYes}
use Rattle.checker.specs.Verdicts.{verdict}
use Rattle.spec_network.specs.Tables.{Both, on, pick}
use Rattle.spec_tcp.specs.declared.endpoint.Emission.{Emission}
use Rattle.spec_tcp.specs.Machine.{tcp, tcp_shape}
use Rattle.spec_merge.specs.Books.{Item, Do, Bring, Key, item_line}
use Rattle.spec_merge.specs.Keys.{Book, Books, EachEntry, NamesOne, Numbered}
use Rattle.spec_merge.specs.Recordings.{IsKept, NamesSent, TcpEntry, merged, next_line, world_of}
use Rattle.stack_core.specs.CoreWorlds.{Event, IsCoreWorld, Side, entries_of}
use Rattle.stack_core.specs.Recordings.{Recorded}
use Rattle.stack_core.proofs.FlightLemmas.{wire_recorded}
use Rattle.recorder.specs.declared.merged_case.MergeFault.TheVariants.{Stranger, OutOfMemory}
use Rattle.recorder.specs.Faults.{HasStranger, IsFirstStranger, NamesAll}
use Rattle.recorder.specs.Naming.{AllNamed, IsStranger, NamedItem, line_keys}
use Rattle.recorder.specs.Told.{Tells}
use Rattle.recorder.proofs.JoinLemmas.{Front, front}

-- entries of that line have that key
abbrev HaveKey : Header → ℕ → Key → List TcpEntry → Type 0
HaveKey h l k ys = EachEntry (tcp h) (λ y. item_line (tcp h) y.item ≡ Some l → y.key ≡ k) ys

-- a line that is there has its key at its place
line_there : (h : Header) (n j : ℕ) (k : Key) (ys : List TcpEntry) → Numbered (tcp h) n ys → n + j < next_line h n ys
    → HaveKey h (n + j) k ys → slice_get (line_keys ys) j ≡ Some k
line_there h n j k [] num below have = absurd (omega (arith, below))
line_there h n j k (y ∷ ys) num below have = go (front h n y ys num) j below have (λ m j num below have. line_there h m j k ys num below have)
  where
    -- the line to come behind the first
    left : (o : Option ℕ) (l : ℕ) → item_line (tcp h) y.item ≡ o
        → l < next_line h (on (item_line (tcp h) y.item) n (λ line. suc n)) ys
        → l < next_line h (on o n (λ line. suc n)) ys
    left o l is below = subst (λ (p : Option ℕ). l < next_line h (on p n (λ line. suc n)) ys) is below

    go : Front h n y ys → (j : ℕ) → n + j < next_line h n (y ∷ ys) → HaveKey h (n + j) k (y ∷ ys)
        → ((m j : ℕ) → Numbered (tcp h) m ys → m + j < next_line h m ys → HaveKey h (m + j) k ys
        → slice_get (line_keys ys) j ≡ Some k)
        → slice_get (line_keys (y ∷ ys)) j ≡ Some k
    go (inl g) j below have rest =
        ap (λ (b : Bool). slice_get (if b then y.key ∷ line_keys ys else line_keys ys) j) g.0
        ∙ rest n j g.2 (left None (n + j) g.1 below) have.1
    go (inr g) zero below have rest =
        let z : n ≡ n + zero = omega arith in
        ap (λ (b : Bool). slice_get (if b then y.key ∷ line_keys ys else line_keys ys) zero) g.0
        ∙ ap (λ (key : Key). Some key) (have.0 (g.1 ∙ ap (λ (l : ℕ). Some l) z))
    go (inr g) (suc j) below have rest =
        let z : n + suc j ≡ suc n + j = omega arith in
        ap (λ (b : Bool). slice_get (if b then y.key ∷ line_keys ys else line_keys ys) (suc j)) g.0
        ∙ rest (suc n) j g.2 (subst (λ (l : ℕ). l < next_line h (suc n) ys) z (left (Some n) (n + suc j) g.1 below))
        (subst (λ (l : ℕ). HaveKey h l k ys) z have.1)

-- what stands on the other's wire is named
sent_named : (h : Header) (o : Host) (ys : List TcpEntry) → IsKept h o (first_event_line h) ys → (xs : List TcpEntry) → NamesSent h o xs ys
    → AllNamed (first_event_line h) (line_keys ys) (pick (world_of h o ys).hosts o).wire xs
sent_named h o ys kept [] names = tt
sent_named h o ys kept (x ∷ xs) names = (go x.item names.0, sent_named h o ys kept xs names.1)
  where
    first : ℕ
    first = first_event_line h

    go : (item : Item tcp_shape) → NamesOne (tcp h) o (world_of h o ys) ys x.key item
        → NamedItem first (line_keys ys) (pick (world_of h o ys).hosts o).wire item
    go (Do step) name = tt
    go (Bring f) name =
        let there = wire_recorded h o ys f.line f.emission kept name.1 in
        let le = there.0 in
        let z : f.line ≡ first + (f.line - first) = omega (arith, le) in
        record {
          event = there.0;
          key = line_there h first (f.line - first) f.key ys kept.numbered
              (subst (λ (l : ℕ). l < next_line h first ys) z there.1)
              (subst (λ (l : ℕ). HaveKey h l f.key ys) z name.2);
          emission = name.1;
        }

-- it is told of a recording whose host and header are these
named_at : (h : Header) (o : Host) (mine others : Recorded) → others.header ≡ h → others.me ≡ o
    → AllNamed (first_event_line h) (line_keys others.entries)
    (pick (world_of h o others.entries).hosts o).wire mine.entries → NamesAll mine others
named_at h o mine others header me named =
    subst (λ (m : Host). AllNamed (first_event_line others.header) (line_keys others.entries)
    (pick (world_of others.header m others.entries).hosts m).wire mine.entries) (sym me)
    (subst (λ (g : Header). AllNamed (first_event_line g) (line_keys others.entries)
    (pick (world_of g o others.entries).hosts o).wire mine.entries) (sym header) named)

books_name : (a b : Recorded) → (a.me ≡ Zero) × (b.me ≡ One) → a.header ≡ b.header
    → Books (tcp a.header) (first_event_line a.header) a.entries b.entries → NamesAll a b × NamesAll b a
books_name a b hosts headers books = (
  named_at a.header One a b (sym headers) hosts.1
      (sent_named a.header One b.entries
      (record { runs = books.1.runs; numbered = books.1.numbered; keys = books.1.keys }) a.entries
      books.0.arrivals),
  named_at a.header Zero b a refl hosts.0
      (sent_named a.header Zero a.entries
      (record { runs = books.0.runs; numbered = books.0.numbered; keys = books.0.keys }) b.entries
      books.1.arrivals),
)

-- where all are named none is a stranger
item_at : (first : ℕ) (keys : List Key) (wire : List (ℕ × Emission)) (xs : List TcpEntry) (place : ℕ) (x : TcpEntry)
    → AllNamed first keys wire xs → slice_get xs place ≡ Some x → NamedItem first keys wire x.item
item_at first keys wire [] place x all here = absurd (none-some x here)
item_at first keys wire (y ∷ ys) zero x all here = subst (λ (z : TcpEntry). NamedItem first keys wire z.item) (same_Some y x here) all.0
item_at first keys wire (y ∷ ys) (suc place) x all here = item_at first keys wire ys place x all.1 here

no_stranger : (mine others : Recorded) (n : ℕ) → NamesAll mine others → HasStranger mine others n → ⊥
no_stranger mine others n all s = s.unnamed (item_at _ _ _ mine.entries s.place _ all s.here)

pub books_merge : (a b : Recorded) → (a.me ≡ Zero) × (b.me ≡ One) → a.header ≡ b.header
    → Books (tcp a.header) (first_event_line a.header) a.entries b.entries → (n : ℕ) → IsFirstStranger a b n → ⊥
books_merge a b hosts headers books n (inl s) = no_stranger a b n (books_name a b hosts headers books).0 s
books_merge a b hosts headers books n (inr s) = no_stranger b a n (books_name a b hosts headers books).1 s.1

-- so what is told of a stranger is told of no two books
pub all_are_named : (a b : Recorded) (n : ℕ) → (a.me ≡ Zero) × (b.me ≡ One) → a.header ≡ b.header → IsFirstStranger a b n
    → Books (tcp a.header) (first_event_line a.header) a.entries b.entries → Stranger n ≡ OutOfMemory
all_are_named a b n hosts headers s books = absurd (books_merge a b hosts headers books n s)
