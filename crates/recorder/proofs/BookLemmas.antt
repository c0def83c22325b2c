-- What each event leaves of a book.
use Rattle.std.proofs.Common.{◌≡◌, inl, inr, ℕ, ◌+◌, ◌≤◌, ◌<◌, suc, Bool, true, false, List, [], ◌∷◌, ◌++◌, Option, None, Some, refl, sym, ap, subst, arith}
use Rattle.case_forms.specs.declared.calls.Answer.{Answer}
use Rattle.case_forms.specs.declared.calls.Call.{Call}
use Rattle.case_forms.specs.declared.trace.Wire.{Wire}
use Rattle.spec_network.specs.Hosts.{Answers, At, Begin, Does, Drops, Effect, Finish, Gets, Makes, Sends, Step, Takes}
use Rattle.spec_tcp.specs.Machine.{tcp_shape}
use Rattle.spec_merge.specs.Books.{Bring, Do, Flying, Item}
use Rattle.spec_merge.specs.Keys.{before}
use Rattle.spec_merge.specs.Recordings.{TcpEntry}
use Rattle.stack_core.specs.declared.answered.Answered.{Answered}
use Rattle.stack_core.specs.declared.tick.Tick.{Tick}
use Rattle.stack_core.specs.ArrivalEvents.{IsArrival, IsArrived, IsArrivedShort, IsRecovered, IsSettled, brought, came, ports_of}
use Rattle.stack_core.specs.ArrivalEvents as arrivals
use Rattle.stack_core.specs.CallEvents.{IsAttempted, IsAttemptShort, answered, begun, effected}
use Rattle.stack_core.specs.Cores.{Core, line_to_come, event_begun, with_item, with_step}
use Rattle.stack_core.specs.Keys.{key_of}
use Rattle.std.specs.Prelude.{IfNone}
use Rattle.std.specs.Option.{IfSome}
use Rattle.stack_core.specs.PumpEvents.{IsPumped, IsPumpedShort, NothingToPump, made}
use Rattle.stack_core.specs.PumpEvents as pumps
use Rattle.stack_core.specs.TimerEvents.{IsTimed, expired}
use Rattle.recorder.specs.Naming.{AllAbove, IsAbove}
use Rattle.recorder.specs.Books.{IsBook, IsSameSite, ends_in, item_ends, step_ends}

-- ---- one entry more

step_add : (s : Step tcp_shape) (n : ℕ) → step_ends s n ≡ step_ends s 0 + n
step_add (Begin line t call) n = omega arith
step_add (Finish line t answer) n = omega arith
step_add (Effect t answer) n = omega arith
step_add (At host host_step) n = omega arith

item_add : (i : Item tcp_shape) (n : ℕ) → item_ends i n ≡ item_ends i 0 + n
item_add (Do s) n = step_add s n
item_add (Bring f) n = omega arith

ends_more : (es : List TcpEntry) (x : TcpEntry) → ends_in (es ++ x ∷ []) ≡ ends_in es + item_ends x.item 0
ends_more [] x = omega arith
ends_more (e ∷ es) x = let a = item_add e.item (ends_in (es ++ x ∷ [])) in let b = item_add e.item (ends_in es) in
    let r = ends_more es x in omega (arith, a, b, r)

above_more : (es : List TcpEntry) (x : TcpEntry) → AllAbove es → IsAbove x.key x.item → AllAbove (es ++ x ∷ [])
above_more [] x all one = (one, tt)
above_more (e ∷ es) x all one = (all.0, above_more es x all.1 one)

-- ---- what an event adds

-- an event left this core, with so many calls ended
pub record Grows (c d : Core) (n : ℕ) : Type 0 where
  pub header : d.recorded.header ≡ c.recorded.header
  pub me : d.recorded.me ≡ c.recorded.me
  pub ends : ends_in d.recorded.entries ≡ ends_in c.recorded.entries + n
  pub above : AllAbove c.recorded.entries → AllAbove d.recorded.entries
  pub events : d.events ≡ suc c.events

event_grows : (c : Core) (tick : Tick) → Grows c (event_begun c tick) 0
event_grows c tick = record { header = refl; me = refl; ends = omega arith; above = λ a. a; events = refl }

step_grows : (c d : Core) (n : ℕ) (s : Step tcp_shape) → Grows c d n → Grows c (with_step d s) (step_ends s n)
step_grows c d n s g = record {
  header = g.header;
  me = g.me;
  ends =
      let more = ends_more d.recorded.entries (record { key = key_of d.recorded.me d.last; item = Do s }) in
      let own = g.ends in
      let add = step_add s n in
      omega (arith, more, own, add);
  above = λ a. above_more d.recorded.entries (record { key = key_of d.recorded.me d.last; item = Do s }) (g.above a) tt;
  events = g.events;
}

bring_grows : (c d : Core) (n : ℕ) (f : Flying tcp_shape) → before f.key (key_of d.recorded.me d.last) ≡ true → Grows c d n → Grows c (with_item d (Bring f)) n
bring_grows c d n f up g = record {
  header = g.header;
  me = g.me;
  ends =
      let more = ends_more d.recorded.entries (record { key = key_of d.recorded.me d.last; item = Bring f }) in
      let own = g.ends in
      omega (arith, more, own);
  above = λ a. above_more d.recorded.entries (record { key = key_of d.recorded.me d.last; item = Bring f }) (g.above a) up;
  events = g.events;
}

to : (c d e : Core) (n : ℕ) → e ≡ d → Grows c d n → Grows c e n
to c d e n is g = subst (λ (x : Core). Grows c x n) (sym is) g

pub begun_grows : (c d : Core) (tick : Tick) (thread : ℕ) (call : Call) → d ≡ begun c tick thread call → Grows c d 0
begun_grows c d tick thread call is =
    to c (begun c tick thread call) d 0 is
    (step_grows c (event_begun c tick) 0 (Begin (line_to_come c) thread call) (event_grows c tick))

pub ticked_grows : (c d : Core) (tick : Tick) → d ≡ event_begun c tick → Grows c d 0
ticked_grows c d tick is = to c (event_begun c tick) d 0 is (event_grows c tick)

effected_grows : (c : Core) (tick : Tick) (thread : ℕ) (answer : Answer) → Grows c (effected c tick thread answer) 0
effected_grows c tick thread answer = step_grows c (event_begun c tick) 0 (Effect thread answer) (event_grows c tick)

pub attempted_grows : (c d : Core) (tick : Tick) (thread : ℕ) (a : Answered) → IsAttempted c tick thread a d → Grows c d 1
attempted_grows c d tick thread a is =
    to c (answered c tick thread a.answer) d 1 is.1
    (step_grows c (effected c tick thread a.answer) 0 (Finish (line_to_come c) thread a.answer)
    (effected_grows c tick thread a.answer))

pub attempt_short_grows : (c d : Core) (tick : Tick) (thread : ℕ) → IsAttemptShort c tick thread d → Grows c d 0
attempt_short_grows c d tick thread (inl is) = ticked_grows c d tick is
attempt_short_grows c d tick thread (inr is) = to c (effected c tick thread is.0) d 0 is.2 (effected_grows c tick thread is.0)

-- ---- arrivals

module _ (c : Core) (tick : Tick) (f : Flying tcp_shape) (up : before f.key (key_of c.recorded.me tick) ≡ true) where
  brought_grows : Grows c (brought c tick f) 0
  brought_grows = bring_grows c (event_begun c tick) 0 f up (event_grows c tick)

  came_grows : (wire : Wire) → Grows c (came c tick f wire) 0
  came_grows wire = step_grows c (brought c tick f) 0 (At c.recorded.me (Gets (line_to_come c) f.line wire)) brought_grows

  recovered_grows : (b d : Core) (ports : _) → Grows c b 0 → IsRecovered b ports d → Grows c d 0
  recovered_grows b d ports g (inl r) = to c (with_step b (At b.recorded.me (Does r.0))) d 0 r.4 (step_grows c b 0 (At b.recorded.me (Does r.0)) g)
  recovered_grows b d ports g (inr r) = to c b d 0 r.0 g

  settled_grows : (b d : Core) (n : ℕ) (ports : _) → Grows c b 0 → IsSettled b n ports d → Grows c d 0
  settled_grows b d n ports g (arrivals.Taken choice keep may recovered) =
      recovered_grows (with_step b (At b.recorded.me (Takes n choice))) d ports
      (step_grows c b 0 (At b.recorded.me (Takes n choice)) g) recovered
  settled_grows b d n ports g (arrivals.Reset not_taken may row) =
      to c (with_step b (At b.recorded.me (Answers n))) d 0 row (step_grows c b 0 (At b.recorded.me (Answers n)) g)
  settled_grows b d n ports g (arrivals.Dropped not_taken no_reset row) =
      to c (with_step b (At b.recorded.me (Drops n))) d 0 row (step_grows c b 0 (At b.recorded.me (Drops n)) g)

  arrived_grows : (d : Core) → IsArrived c tick f d → Grows c d 0
  arrived_grows d is = settled_grows (came c tick f is.wire) d (line_to_come c) (ports_of f.emission) (came_grows is.wire) is.settled

  pub arrived_short_grows : (d : Core) → IsArrivedShort c tick f d → Grows c d 0
  arrived_short_grows d (arrivals.Ticked row) = ticked_grows c d tick row
  arrived_short_grows d (arrivals.Brought row) = to c (brought c tick f) d 0 row brought_grows
  arrived_short_grows d (arrivals.Came wire bytes row) = to c (came c tick f wire) d 0 row (came_grows wire)
  arrived_short_grows d (arrivals.Took wire bytes choice keep may due row) =
      to c (with_step (came c tick f wire) (At c.recorded.me (Takes (line_to_come c) choice))) d 0 row
      (step_grows c (came c tick f wire) 0 (At c.recorded.me (Takes (line_to_come c) choice)) (came_grows wire))

-- ---- segments that go out, and timers

made_grows : (c : Core) (tick : Tick) (plan : _) → Grows c (made c tick plan) 0
made_grows c tick plan = step_grows c (event_begun c tick) 0 (At c.recorded.me (Makes plan)) (event_grows c tick)

pub pumped_grows : (c d : Core) (tick : Tick) (f : Flying tcp_shape) → IsPumped c tick f d → Grows c d 0
pumped_grows c d tick f (pumps.Answered number waited out) =
    to c _ d 0 out.row (step_grows c (event_begun c tick) 0
    (At c.recorded.me (Sends (line_to_come (event_begun c tick)) number out.wire)) (event_grows c tick))
pumped_grows c d tick f (pumps.Made free plan out) =
    to c _ d 0 out.row (step_grows c (made c tick plan) 0
    (At c.recorded.me (Sends (line_to_come (made c tick plan)) _ out.wire)) (made_grows c tick plan))

pub pumped_short_grows : (c d : Core) (tick : Tick) → IsPumpedShort c tick d → Grows c d 0
pumped_short_grows c d tick (inl is) = ticked_grows c d tick is
pumped_short_grows c d tick (inr is) = to c (made c tick is.1.0) d 0 is.1.1 (made_grows c tick is.1.0)

-- ---- books

pub book_grows : (c d : Core) (total n : ℕ) → IsBook c total → Grows c d n → n ≤ 1 → c.events < 10000000 → IsBook d (total + n)
book_grows c d total n b g one room =
    let ends = b.ends in let few = b.few in let own = g.ends in let events = g.events in record {
      ends = omega (arith, ends, own);
      few = omega (arith, few, events, one);
      events = omega (arith, events, room);
      above = g.above b.above;
    }

-- what an event leaves where no call ended: the book, and its site
pub record Goes (c d : Core) (total : ℕ) : Type 0 where
  pub book : IsBook d total
  pub site : IsSameSite c d

goes : (c d : Core) (total : ℕ) → IsBook c total → c.events < 10000000 → Grows c d 0 → Goes c d total
goes c d total b room g =
    let book = book_grows c d total 0 b g (omega arith) room in
    let z : total + 0 ≡ total = omega arith in
    record { book = subst (λ (n : ℕ). IsBook d n) z book; site = (g.header, g.me) }

stays : (c d : Core) (total : ℕ) → IsBook c total → d ≡ c → Goes c d total
stays c d total b is =
    record {
      book = subst (λ (x : Core). IsBook x total) (sym is) b;
      site = (ap (λ (x : Core). x.recorded.header) is, ap (λ (x : Core). x.recorded.me) is);
    }

pub begun_goes : (c d : Core) (tick : Tick) (thread : ℕ) (call : Call) (total : ℕ) → IsBook c total
    → c.events < 10000000 → d ≡ begun c tick thread call → Goes c d total
begun_goes c d tick thread call total b room is = goes c d total b room (begun_grows c d tick thread call is)

pub ticked_goes : (c d : Core) (tick : Tick) (total : ℕ) → IsBook c total → c.events < 10000000 → d ≡ event_begun c tick → Goes c d total
ticked_goes c d tick total b room is = goes c d total b room (ticked_grows c d tick is)

pub short_goes : (c d : Core) (tick : Tick) (thread : ℕ) (total : ℕ) → IsBook c total → c.events < 10000000 → IsAttemptShort c tick thread d → Goes c d total
short_goes c d tick thread total b room is = goes c d total b room (attempt_short_grows c d tick thread is)

pub same_goes : (c d : Core) (total : ℕ) → IsBook c total → d ≡ c → Goes c d total
same_goes c d total b is = stays c d total b is

pub attempted_goes : (c d : Core) (tick : Tick) (thread : ℕ) (a : Answered) (total : ℕ) → IsBook c total
    → c.events < 10000000 → IsAttempted c tick thread a d → IsBook d (total + 1) × IsSameSite c d
attempted_goes c d tick thread a total b room is = let g = attempted_grows c d tick thread a is in
    (book_grows c d total 1 b g (omega arith) room, (g.header, g.me))

pub arrival_goes : (c d : Core) (tick : Tick) (f : Flying tcp_shape) (let_in : Bool) (total : ℕ)
    → before f.key (key_of c.recorded.me tick) ≡ true → IsBook c total → c.events < 10000000
    → IsArrival c tick f let_in d → Goes c d total
arrival_goes c d tick f true total up b room is = goes c d total b room (arrived_grows c tick f up d is)
arrival_goes c d tick f false total up b room is = stays c d total b is.0

pub arrived_short_goes : (c d : Core) (tick : Tick) (f : Flying tcp_shape) (total : ℕ)
    → before f.key (key_of c.recorded.me tick) ≡ true → IsBook c total → c.events < 10000000 → IsArrivedShort c tick f d
    → Goes c d total
arrived_short_goes c d tick f total up b room is = goes c d total b room (arrived_short_grows c tick f up d is)

pub pumped_goes : (c d : Core) (tick : Tick) (f : Flying tcp_shape) (total : ℕ) → IsBook c total → c.events < 10000000 → IsPumped c tick f d → Goes c d total
pumped_goes c d tick f total b room is = goes c d total b room (pumped_grows c d tick f is)

pub pumped_short_goes : (c d : Core) (tick : Tick) (total : ℕ) → IsBook c total → c.events < 10000000 → IsPumpedShort c tick d → Goes c d total
pumped_short_goes c d tick total b room is = goes c d total b room (pumped_short_grows c d tick is)

pub timed_goes : (c d : Core) (tick : Tick) (found : Bool) (total : ℕ) → IsBook c total → c.events < 10000000 → IsTimed c tick found d → Goes c d total
timed_goes c d tick true total b room is =
    goes c d total b room (to c (expired c tick is.0 is.1) d 0 is.2
    (step_grows c (event_begun c tick) 0 _ (event_grows c tick)))
timed_goes c d tick false total b room is = stays c d total b is.0

-- ---- the same, of the book alone

pub begun_book : (c d : Core) (tick : Tick) (thread : ℕ) (call : Call) (total : ℕ) → IsBook c total
    → c.events < 10000000 → d ≡ begun c tick thread call → IsBook d total
begun_book c d tick thread call total b room is = (begun_goes c d tick thread call total b room is).book

pub attempted_book : (c d : Core) (tick : Tick) (thread : ℕ) (a : Answered) (total : ℕ) → IsBook c total
    → c.events < 10000000 → IsAttempted c tick thread a d → IsBook d (total + 1)
attempted_book c d tick thread a total b room is = (attempted_goes c d tick thread a total b room is).0

pub short_book : (c d : Core) (tick : Tick) (thread total : ℕ) → IsBook c total → c.events < 10000000 → IsAttemptShort c tick thread d → IsBook d total
short_book c d tick thread total b room is = (short_goes c d tick thread total b room is).book

pub arrival_book : (c d : Core) (tick : Tick) (f : Flying tcp_shape) (let_in : Bool) (total : ℕ)
    → before f.key (key_of c.recorded.me tick) ≡ true → IsBook c total → c.events < 10000000
    → IsArrival c tick f let_in d → IsBook d total
arrival_book c d tick f let_in total up b room is = (arrival_goes c d tick f let_in total up b room is).book

pub arrived_short_book : (c d : Core) (tick : Tick) (f : Flying tcp_shape) (total : ℕ)
    → before f.key (key_of c.recorded.me tick) ≡ true → IsBook c total → c.events < 10000000 → IsArrivedShort c tick f d
    → IsBook d total
arrived_short_book c d tick f total up b room is = (arrived_short_goes c d tick f total up b room is).book

pub pumped_book : (c d : Core) (tick : Tick) (f : Flying tcp_shape) (total : ℕ) → IsBook c total → c.events < 10000000 → IsPumped c tick f d → IsBook d total
pumped_book c d tick f total b room is = (pumped_goes c d tick f total b room is).book

pub pumped_short_book : (c d : Core) (tick : Tick) (total : ℕ) → IsBook c total → c.events < 10000000 → IsPumpedShort c tick d → IsBook d total
pumped_short_book c d tick total b room is = (pumped_short_goes c d tick total b room is).book

pub timed_book : (c d : Core) (tick : Tick) (found : Bool) (total : ℕ) → IsBook c total → c.events < 10000000 → IsTimed c tick found d → IsBook d total
timed_book c d tick found total b room is = (timed_goes c d tick found total b room is).book

-- whether a segment went out or not
pub maybe_pumped_book : (c d : Core) (tick : Tick) (o : Option (Flying tcp_shape)) (total : ℕ) → IsBook c total
    → c.events < 10000000 → IfSome o (λ f. IsPumped c tick f d) → IfNone o ((d ≡ c) × NothingToPump c) → IsBook d total
maybe_pumped_book c d tick None total b room some none = (stays c d total b none.0).book
maybe_pumped_book c d tick (Some f) total b room some none = pumped_book c d tick f total b room some

-- ---- and of its site

pub short_site : (c d : Core) (tick : Tick) (thread : ℕ) → IsAttemptShort c tick thread d → IsSameSite c d
short_site c d tick thread is = let g = attempt_short_grows c d tick thread is in (g.header, g.me)

pub attempted_site : (c d : Core) (tick : Tick) (thread : ℕ) (a : Answered) → IsAttempted c tick thread a d → IsSameSite c d
attempted_site c d tick thread a is = let g = attempted_grows c d tick thread a is in (g.header, g.me)

pub arrival_site : (c d : Core) (tick : Tick) (f : Flying tcp_shape) (let_in : Bool)
    → before f.key (key_of c.recorded.me tick) ≡ true → IsArrival c tick f let_in d → IsSameSite c d
arrival_site c d tick f true up is = let g = arrived_grows c tick f up d is in (g.header, g.me)
arrival_site c d tick f false up is = (ap (λ (x : Core). x.recorded.header) is.0, ap (λ (x : Core). x.recorded.me) is.0)

pub arrived_short_site : (c d : Core) (tick : Tick) (f : Flying tcp_shape)
    → before f.key (key_of c.recorded.me tick) ≡ true → IsArrivedShort c tick f d → IsSameSite c d
arrived_short_site c d tick f up is = let g = arrived_short_grows c tick f up d is in (g.header, g.me)

pub pumped_site : (c d : Core) (tick : Tick) (f : Flying tcp_shape) → IsPumped c tick f d → IsSameSite c d
pumped_site c d tick f is = let g = pumped_grows c d tick f is in (g.header, g.me)

pub pumped_short_site : (c d : Core) (tick : Tick) → IsPumpedShort c tick d → IsSameSite c d
pumped_short_site c d tick is = let g = pumped_short_grows c d tick is in (g.header, g.me)

pub timed_site : (c d : Core) (tick : Tick) (found : Bool) → IsTimed c tick found d → IsSameSite c d
timed_site c d tick true is = let g = to c (expired c tick is.0 is.1) d 0 is.2 (step_grows c (event_begun c tick) 0 _ (event_grows c tick)) in (g.header, g.me)
timed_site c d tick false is = (ap (λ (x : Core). x.recorded.header) is.0, ap (λ (x : Core). x.recorded.me) is.0)
