-- What flew from a host stands on its wire from then on.
use Rattle.std.proofs.Common.{◌≡◌, ◌≤◌, ◌<◌, ℕ, suc, Bool, true, false, List, [], ◌∷◌, ◌++◌, Option, None, Some, refl}
use Rattle.std.proofs.Common.{ap, sym, ◌∙◌, subst, nat_eq, nat_lt, arith, ◌⊎◌, inl, inr}
use Rattle.std.specs.Prelude.{cond, if◌then◌else◌, IfOk, Ok, Err, Result}
use Rattle.std.specs.Option.{IfSome}
use Rattle.std.specs.Map.{lookup}
use Rattle.std.proofs.lemmas.Bool.Decides.{nat_tests}
use Rattle.std.proofs.lemmas.Option.{none-some, same_Some}
use Rattle.indexmap.specs.IndexMap.{insert_entry}
use Rattle.case_forms.specs.Traces.{first_event_line}
use Rattle.case_forms.specs.declared.calls.Answer.{Answer}
use Rattle.case_forms.specs.declared.calls.Host.{Host}
use Rattle.case_forms.specs.declared.calls.Host.TheVariants.{Zero, One}
use Rattle.case_forms.specs.declared.trace.Header.{Header}
use Rattle.case_forms.specs.declared.trace.Wire.{Wire}
use Rattle.spec_network.specs.Tables.{Both, Made, on, other, pick, with_host}
use Rattle.spec_network.specs.Hosts.{HostStep, Does, Expires, Makes, Sends, Gets, Hears, Takes, Drops, Answers, HostState}
use Rattle.spec_network.specs.Hosts.{Turn, Idle, Called, Answered, World, Step, Begin, Finish, Effect, At, turn_of}
use Rattle.spec_network.specs.HostRules.{aim_of}
use Rattle.spec_network.specs.HostSteps.{after, call_after, host_step_after, effect_after, start}
use Rattle.spec_network.proofs.Entries.{lookup_insert}
use Rattle.spec_tcp.specs.HostTcp.{HostTcp}
use Rattle.spec_tcp.specs.declared.endpoint.Emission.{Emission}
use Rattle.spec_tcp.specs.Machine.{aim, tcp, tcp_shape}
use Rattle.spec_tcp.specs.Machine as acts
use Rattle.spec_tcp.specs.Wire.{sent}
use Rattle.spec_merge.specs.Books.{Bring, Do, FitsItem, Flying, HostRun, Item, Key, host_step_line, end, item_line, next, next_item, step_line}
use Rattle.spec_merge.specs.Keys.{EachEntry, If, NamesOne, Numbered, lesser, rank}
use Rattle.spec_merge.specs.Recordings.{IsKept, TcpEntry, next_line, world_of}
use Rattle.spec_merge.proofs.Growing.{end_more}
use Rattle.spec_merge.proofs.Lines.{next_more}
use Rattle.stack_core.specs.declared.tick.Tick.{Tick}
use Rattle.stack_core.specs.Cores.{Core, IsRecorded, line_to_come, event_begun, with_step, world}
use Rattle.stack_core.specs.PumpEvents.{IsPumped, made}
use Rattle.stack_core.specs.PumpEvents.IsPumped.{Answered as ResetGoes, Made as MadeGoes}
use Rattle.stack_core.specs.Entries.{entry_at}
use Rattle.stack_core.specs.Flown.{HasFlown, IsAbove}
use Rattle.stack_core.specs.Keys.{key_of}
use Rattle.stack_core.specs.Outgoing.{GoesOut}
use Rattle.stack_core.specs.Recordings.{Recorded, world_left}
use Rattle.stack_core.proofs.ResetLemmas.{own_host}

-- 1. lines

split_numbered : (h : Header) (n : ℕ) (xs ys : List TcpEntry) → Numbered (tcp h) n (xs ++ ys) → Numbered (tcp h) n xs × Numbered (tcp h) (next_line h n xs) ys
split_numbered h n [] ys p = (tt, p)
split_numbered h n (x ∷ xs) ys p = go (item_line (tcp h) x.item) p (λ m. split_numbered h m xs ys)
  where
    go : (l : Option ℕ)
        → If l (Numbered (tcp h) n (xs ++ ys)) (λ line. (line ≡ n) × Numbered (tcp h) (suc n) (xs ++ ys))
        → ((m : ℕ) → Numbered (tcp h) m (xs ++ ys) → Numbered (tcp h) m xs × Numbered (tcp h) (next_line h m xs) ys)
        → If l (Numbered (tcp h) n xs) (λ line. (line ≡ n) × Numbered (tcp h) (suc n) xs) × Numbered (tcp h) (next_line h (on l n (λ line. suc n)) xs) ys
    go None p rest = rest n p
    go (Some l) p rest = let r = rest (suc n) p.1 in ((p.0, r.0), r.1)

split_run : (h : Header) (me : Host) (w : World tcp_shape) (xs ys : List TcpEntry) → HostRun (tcp h) me w (xs ++ ys)
    → HostRun (tcp h) me (end (tcp h) me w xs) ys
split_run h me w [] ys p = p
split_run h me w (x ∷ xs) ys p = split_run h me (next (tcp h) me w x) xs ys p.2

line_grows : (h : Header) (n : ℕ) (xs : List TcpEntry) → n ≤ next_line h n xs
line_grows h n [] = omega arith
line_grows h n (x ∷ xs) = go (item_line (tcp h) x.item) (λ m. line_grows h m xs)
  where
    go : (l : Option ℕ) → ((m : ℕ) → m ≤ next_line h m xs) → n ≤ next_line h (on l n (λ line. suc n)) xs
    go None rest = rest n
    go (Some l) rest = let more = rest (suc n) in omega arith

-- under one line there is one key
abbrev KeyAt : Header → ℕ → Key → TcpEntry → Type 0
KeyAt h line key x = item_line (tcp h) x.item ≡ Some line → x.key ≡ key

-- no entry has a line to come
none_yet : (h : Header) (n : ℕ) (xs : List TcpEntry) (line : ℕ) (key : Key) → Numbered (tcp h) n xs
    → next_line h n xs ≤ line → EachEntry (tcp h) (KeyAt h line key) xs
none_yet h n [] line key p above = tt
none_yet h n (x ∷ xs) line key p above = go (item_line (tcp h) x.item) refl p above (λ m. none_yet h m xs line key)
  where
    go : (l : Option ℕ) → item_line (tcp h) x.item ≡ l
        → If l (Numbered (tcp h) n xs) (λ a. (a ≡ n) × Numbered (tcp h) (suc n) xs)
        → next_line h (on l n (λ a. suc n)) xs ≤ line
        → ((m : ℕ) → Numbered (tcp h) m xs → next_line h m xs ≤ line → EachEntry (tcp h) (KeyAt h line key) xs)
        → KeyAt h line key x × EachEntry (tcp h) (KeyAt h line key) xs
    go None is p above rest = (λ same. absurd (none-some line (sym is ∙ same)), rest n p above)
    go (Some a) is p above rest = (
      λ same.
          let low = line_grows h (suc n) xs in
          let at : a ≡ line = same_Some a line (sym is ∙ same) in
          let here : a ≡ n = p.0 in
          absurd (omega arith),
      rest (suc n) p.1 above,
    )

-- nor one that is behind
none_more : (h : Header) (n : ℕ) (xs : List TcpEntry) (line : ℕ) (key : Key) → Numbered (tcp h) n xs → line < n → EachEntry (tcp h) (KeyAt h line key) xs
none_more h n [] line key p below = tt
none_more h n (x ∷ xs) line key p below = go (item_line (tcp h) x.item) refl p (λ m. none_more h m xs line key)
  where
    go : (l : Option ℕ) → item_line (tcp h) x.item ≡ l → If l (Numbered (tcp h) n xs) (λ a. (a ≡ n) × Numbered (tcp h) (suc n) xs)
        → ((m : ℕ) → Numbered (tcp h) m xs → line < m → EachEntry (tcp h) (KeyAt h line key) xs) → KeyAt h line key x × EachEntry (tcp h) (KeyAt h line key) xs
    go None is p rest = (λ same. absurd (none-some line (sym is ∙ same)), rest n p below)
    go (Some a) is p rest = (
      λ same.
          let at : a ≡ line = same_Some a line (sym is ∙ same) in
          let here : a ≡ n = p.0 in
          absurd (omega arith),
      rest (suc n) p.1 (omega arith),
    )

both_keyed : (h : Header) (line : ℕ) (key : Key) (xs ys : List TcpEntry) → EachEntry (tcp h) (KeyAt h line key) xs
    → EachEntry (tcp h) (KeyAt h line key) ys → EachEntry (tcp h) (KeyAt h line key) (xs ++ ys)
both_keyed h line key [] ys p q = q
both_keyed h line key (x ∷ xs) ys p q = (p.0, both_keyed h line key xs ys p.1 q)

-- 2. wires

line_below : (line n : ℕ) → line < n → nat_eq line n ≡ false
line_below line n p = grind (arith, nat_tests)

line_above : (line n : ℕ) → n < line → nat_eq line n ≡ false
line_above line n p = grind (arith, nat_tests)

-- what stands under a line, or that nothing does, stays where another line is taken

wire_kept : (line n moment number : ℕ) (wire : Wire) (made : List (ℕ × Made Emission)) (out : List (ℕ × Emission))
    (e : Option Emission) → nat_eq line n ≡ false → lookup (nat_eq line) out ≡ e
    → lookup (nat_eq line) (on (lookup (nat_eq number) made) out (λ m. insert_entry nat_eq out n (sent moment wire m.emission))) ≡ e
wire_kept line n moment number wire made out e apart is = by (lookup (nat_eq number) made)
  where
    by : (o : Option (Made Emission)) → lookup (nat_eq line) (on o out (λ m. insert_entry nat_eq out n (sent moment wire m.emission))) ≡ e
    by None = is
    by (Some m) =
        lookup_insert line n (sent moment wire m.emission) out
        ∙ ap (λ (b : Bool). cond b (Some (sent moment wire m.emission)) (lookup (nat_eq line) out)) apart ∙ is

picked : (me : Host) (hosts : Both (HostState tcp_shape)) (s : HostState tcp_shape) → pick (with_host hosts me s) me ≡ s
picked Zero hosts s = refl
picked One hosts s = refl

called_wire : (me host : Host) (hosts : Both (HostState tcp_shape)) (b : HostTcp)
    → (pick (with_host hosts host (record (pick hosts host) { body = b })) me).wire ≡ (pick hosts me).wire
called_wire Zero Zero hosts b = refl
called_wire Zero One hosts b = refl
called_wire One Zero hosts b = refl
called_wire One One hosts b = refl

host_step_kept : (h : Header) (me : Host) (moment fresh : ℕ) (far : List (ℕ × Emission)) (s : HostState tcp_shape)
    (d : HostStep tcp_shape) (line : ℕ) (e : Option Emission)
    → If (host_step_line (tcp h) d) (Unit {0}) (λ l. nat_eq line l ≡ false)
    → lookup (nat_eq line) s.wire ≡ e → lookup (nat_eq line) (host_step_after (tcp h) me moment fresh far s d).wire ≡ e
host_step_kept h me moment fresh far s (Does x) line e at is = is
host_step_kept h me moment fresh far s (Expires l x) line e at is = is
host_step_kept h me moment fresh far s (Makes plan) line e at is = is
host_step_kept h me moment fresh far s (Sends l number wire) line e at is = wire_kept line l moment number wire s.made s.wire e at is
host_step_kept h me moment fresh far s (Gets l copied wire) line e at is = is
host_step_kept h me moment fresh far s (Hears l wire) line e at is = is
host_step_kept h me moment fresh far s (Takes l choice) line e at is = is
host_step_kept h me moment fresh far s (Drops l) line e at is = is
host_step_kept h me moment fresh far s (Answers l) line e at is = is

module _ (h : Header) (me : Host) (moment : ℕ) (w : World tcp_shape) (line : ℕ) (e : Option Emission)
    (is : lookup (nat_eq line) (pick w.hosts me).wire ≡ e) where
  effect_kept : (t : ℕ) (answer : Answer) (u : Turn tcp_shape) → lookup (nat_eq line) (pick (effect_after (tcp h) moment w t answer u).hosts me).wire ≡ e
  effect_kept t answer Idle = is
  effect_kept t answer (Answered a) = is
  effect_kept t answer (Called call) = by (aim_of (tcp h) w.hosts (aim call))
    where
      by : (o : Option Host) → lookup (nat_eq line) (pick (call_after (tcp h) moment w.hosts (acts.Calls call answer) o) me).wire ≡ e
      by None = is
      by (Some host) = subst (λ (out : List (ℕ × Emission)). lookup (nat_eq line) out ≡ e) (sym (called_wire me host w.hosts _)) is

  step_kept : (step : Step tcp_shape) → ((host : Host) (d : HostStep tcp_shape) → step ≡ At host d → host ≡ me)
      → If (step_line (tcp h) step) (Unit {0}) (λ l. nat_eq line l ≡ false)
      → lookup (nat_eq line) (pick (after (tcp h) moment w step).hosts me).wire ≡ e
  step_kept (Begin l t call) own at = is
  step_kept (Finish l t answer) own at = is
  step_kept (Effect t answer) own at = effect_kept t answer (turn_of t w.threads)
  step_kept (At host d) own at =
      subst (λ (x : Host). lookup (nat_eq line)
      (pick (with_host w.hosts x (host_step_after (tcp h) x moment (suc w.count) (pick w.hosts (other x)).wire
      (pick w.hosts x) d)) me).wire ≡ e) (sym (own host d refl))
      (subst (λ (s : HostState tcp_shape). lookup (nat_eq line) s.wire ≡ e)
      (sym (picked me w.hosts (host_step_after (tcp h) me moment (suc w.count) (pick w.hosts (other me)).wire
      (pick w.hosts me) d)))
      (host_step_kept h me moment (suc w.count) (pick w.hosts (other me)).wire (pick w.hosts me) d line e at is))

  item_kept : (x : Item tcp_shape) → FitsItem (tcp h) me moment w x
      → If (item_line (tcp h) x) (Unit {0}) (λ l. nat_eq line l ≡ false)
      → lookup (nat_eq line) (pick (next_item (tcp h) me moment w x).hosts me).wire ≡ e
  item_kept (Do step) fits at = step_kept step (own_host h me w step fits.1) at
  item_kept (Bring f) fits at = by me is
    where
      by : (x : Host) → lookup (nat_eq line) (pick w.hosts x).wire ≡ e → lookup (nat_eq line) (pick (next_item (tcp h) x moment w (Bring f)).hosts x).wire ≡ e
      by Zero there = there
      by One there = there

-- a line that these don't take, as it is below the first of them, or not below the one to come
abbrev Apart : Header → ℕ → List TcpEntry → ℕ → Type 0
Apart h n xs line = (line < n) ⊎ (next_line h n xs ≤ line)

all_kept : (h : Header) (me : Host) (n : ℕ) (w : World tcp_shape) (xs : List TcpEntry) (line : ℕ) (e : Option Emission)
    → HostRun (tcp h) me w xs → Numbered (tcp h) n xs → Apart h n xs line
    → lookup (nat_eq line) (pick w.hosts me).wire ≡ e → lookup (nat_eq line) (pick (end (tcp h) me w xs).hosts me).wire ≡ e
all_kept h me n w [] line e run numbered apart is = is
all_kept h me n w (x ∷ xs) line e run numbered apart is =
    go (item_line (tcp h) x.item) refl numbered apart (λ m. all_kept h me m (next (tcp h) me w x) xs line e run.2)
  where
    there : If (item_line (tcp h) x.item) (Unit {0}) (λ l. nat_eq line l ≡ false) → lookup (nat_eq line) (pick (next (tcp h) me w x).hosts me).wire ≡ e
    there at = item_kept h me x.key.moment w line e is x.item run.0 at

    other_line : (a : ℕ) → a ≡ n → (line < n) ⊎ (next_line h (suc n) xs ≤ line) → nat_eq line a ≡ false
    other_line a at (inl q) = line_below line a (omega (arith, at, q))
    other_line a at (inr q) = let low = line_grows h (suc n) xs in line_above line a (omega (arith, at, q, low))

    later : (line < n) ⊎ (next_line h (suc n) xs ≤ line) → Apart h (suc n) xs line
    later (inl q) = inl (omega (arith, q))
    later (inr q) = inr q

    go : (l : Option ℕ) → item_line (tcp h) x.item ≡ l
        → If l (Numbered (tcp h) n xs) (λ a. (a ≡ n) × Numbered (tcp h) (suc n) xs)
        → (line < n) ⊎ (next_line h (on l n (λ a. suc n)) xs ≤ line)
        → ((m : ℕ) → Numbered (tcp h) m xs → Apart h m xs line
        → lookup (nat_eq line) (pick (next (tcp h) me w x).hosts me).wire ≡ e
        → lookup (nat_eq line) (pick (end (tcp h) me (next (tcp h) me w x) xs).hosts me).wire ≡ e)
        → lookup (nat_eq line) (pick (end (tcp h) me (next (tcp h) me w x) xs).hosts me).wire ≡ e
    go None at p apart rest = rest n p apart (there (subst (λ (l : Option ℕ). If l (Unit {0}) (λ a. nat_eq line a ≡ false)) (sym at) tt))
    go (Some a) at p apart rest =
        rest (suc n) p.1 (later apart)
        (there (subst (λ (l : Option ℕ). If l (Unit {0}) (λ a. nat_eq line a ≡ false)) (sym at)
        (other_line a p.0 apart)))

-- what stands on the wire in the end stands under a line that was taken
pub wire_recorded : (h : Header) (me : Host) (xs : List TcpEntry) (line : ℕ) (e : Emission)
    → IsKept h me (first_event_line h) xs → lookup (nat_eq line) (pick (world_of h me xs).hosts me).wire ≡ Some e
    → (first_event_line h ≤ line) × (line < next_line h (first_event_line h) xs)
wire_recorded h me xs line e kept stands = (first (nat_lt line (first_event_line h)) refl, last (nat_lt line (next_line h (first_event_line h) xs)) refl)
  where
    nothing : (x : Host) → lookup (nat_eq line) (pick (start (tcp h)).hosts x).wire ≡ None
    nothing Zero = refl
    nothing One = refl

    taken : Apart h (first_event_line h) xs line → ⊥
    taken apart = none-some e (sym (all_kept h me (first_event_line h) (start (tcp h)) xs line None kept.runs kept.numbered apart (nothing me)) ∙ stands)

    first : (b : Bool) → nat_lt line (first_event_line h) ≡ b → first_event_line h ≤ line
    first true is = absurd (taken (inl (grind (arith, nat_tests))))
    first false is = grind (arith, nat_tests)

    last : (b : Bool) → nat_lt line (next_line h (first_event_line h) xs) ≡ b → line < next_line h (first_event_line h) xs
    last true is = grind (arith, nat_tests)
    last false is = absurd (taken (inr (grind (arith, nat_tests))))

-- 3. what flew

pub flown_stays : (h : Header) (me : Host) (old more : List TcpEntry) (f : Flying tcp_shape)
    → HasFlown (record { header = h; me = me; entries = old }) f → IsKept h me (first_event_line h) (old ++ more)
    → HasFlown (record { header = h; me = me; entries = old ++ more }) f
flown_stays h me old more f flown kept =
    let first = first_event_line h in
    let lines = split_numbered h first old more kept.numbered in
    let recorded : f.line < next_line h first old = flown.recorded in
    let grown = line_grows h (next_line h first old) more in
    record {
      stands =
          subst (λ (w : World tcp_shape). lookup (nat_eq f.line) (pick w.hosts me).wire ≡ Some f.emission)
          (sym (end_more (tcp h) me (start (tcp h)) old more))
          (all_kept h me (next_line h first old) (world_of h me old) more f.line (Some f.emission)
          (split_run h me (start (tcp h)) old more kept.runs) lines.1 (inl recorded) flown.stands);
      keyed = both_keyed h f.line f.key old more flown.keyed (none_more h (next_line h first old) more f.line f.key lines.1 recorded);
      recorded = subst (λ (n : ℕ). f.line < n) (sym (next_more h first old more)) (omega arith);
    }

-- as it goes out
flies : (c : Core) (number : ℕ) (wire : Wire) (f : Flying tcp_shape) → let d : Core = with_step c (At c.recorded.me (Sends (line_to_come c) number wire)) in
    f.key ≡ key_of c.recorded.me c.last → f.line ≡ line_to_come c
    → lookup (nat_eq f.line) (pick (world d).hosts c.recorded.me).wire ≡ Some f.emission → IsRecorded d
    → HasFlown d.recorded f
flies c number wire f key line stands kept =
    let h = c.recorded.header in
    let old = c.recorded.entries in
    let x : TcpEntry = entry_at c.recorded.me c.last (Do (At c.recorded.me (Sends (line_to_come c) number wire))) in
    let lines = split_numbered h (first_event_line h) old (x ∷ []) kept.numbered in
    record {
      stands = stands;
      keyed = both_keyed h f.line f.key old (x ∷ []) (none_yet h (first_event_line h) old f.line f.key lines.0 (omega (arith, line))) ((λ same. sym key), tt);
      recorded = subst (λ (n : ℕ). f.line < n) (sym (next_more h (first_event_line h) old (x ∷ []))) (omega (arith, line));
    }

pub gone_flown : (c d : Core) (number : ℕ) (f : Flying tcp_shape) → GoesOut c number f d → IsRecorded d → HasFlown d.recorded f
gone_flown c d number f out kept = subst (λ (x : Core). HasFlown x.recorded f) (sym out.row)
    (flies c number out.wire f out.key out.line
    (subst (λ (x : Core). lookup (nat_eq f.line) (pick (world x).hosts c.recorded.me).wire ≡ Some f.emission)
    out.row out.stands) (subst (λ (x : Core). IsRecorded x) out.row kept))

-- 4. what is brought names it

not_below : (a x : ℕ) → a ≤ x → nat_lt x a ≡ false
not_below a x p = grind (arith, nat_tests)

is_below : (b y : ℕ) → b < y → nat_lt b y ≡ true
is_below b y p = grind (arith, nat_tests)

comes_before : (a b c x y z : ℕ) → a ≤ x → b < y → lesser a b c x y z ≡ true
comes_before a b c x y z p q = rw (not_below a x p, is_below b y q) (by (nat_lt a x))
  where
    by : (t : Bool) → (if t then true else true) ≡ true
    by true = refl
    by false = refl

pub named : (r : Recorded) (me : Host) (f : Flying tcp_shape) (tick : Tick) → HasFlown r f → IsAbove f tick
    → NamesOne (tcp r.header) r.me (world_left r) r.entries (key_of me tick) (Bring f)
named r me f tick flown above = (
  comes_before f.key.moment f.key.counter (rank f.key.host) tick.moment tick.counter
      (rank me) above.moment above.counter,
  flown.stands,
  flown.keyed,
)

pub pumped_flown : {E : Type 0} (c d : Core) (tick : Tick) (res : Result (Option (Flying tcp_shape)) E)
    → IfOk res (λ o. IfSome o (λ f. IsPumped c tick f d)) → IsRecorded d
    → IfOk res (λ o. IfSome o (λ f. HasFlown d.recorded f))
pumped_flown c d tick (Err e) is kept = tt
pumped_flown c d tick (Ok None) is kept = tt
pumped_flown c d tick (Ok (Some f)) (ResetGoes number waited out) kept = gone_flown (event_begun c tick) d number f out kept
pumped_flown c d tick (Ok (Some f)) (MadeGoes free plan out) kept = gone_flown (made c tick plan) d (world (made c tick plan)).count f out kept
