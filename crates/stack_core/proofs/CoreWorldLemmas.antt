-- What two cores recorded of each other: each is a run, and what was brought flew from the other.
use Rattle.std.proofs.Common.{◌≡◌, ℕ, true, false, List, [], ◌∷◌, ◌++◌, All, None, Some, Ok, Err, inl, inr, refl, ap, sym, ◌∙◌, subst}
use Rattle.std.proofs.lemmas.List.{append-nil, append_assoc}
use Rattle.std.proofs.lemmas.List.Elements.{All-append, All-cons, All-contains, All-nil}
use Rattle.case_forms.specs.Traces.{first_event_line}
use Rattle.case_forms.specs.declared.calls.Host.{Host}
use Rattle.case_forms.specs.declared.calls.Host.TheVariants.{Zero, One}
use Rattle.case_forms.specs.declared.trace.Header.{Header}
use Rattle.spec_network.specs.Hosts.{At, Effect, Takes, Does}
use Rattle.spec_network.specs.Tables.{Both, other, pick, with_host}
use Rattle.spec_tcp.specs.Machine.{tcp, tcp_shape}
use Rattle.spec_merge.specs.Books.{Bring, Do, Flying, Item, Key}
use Rattle.spec_merge.specs.Keys.{Books, EachEntry, NamesOne, before}
use Rattle.spec_merge.specs.Recordings.{IsKept, NamesSent, TcpEntry}
use Rattle.stack_core.specs.declared.tick.Tick.{Tick}
use Rattle.stack_core.specs.ArrivalEvents.{IsArrived, IsArrivedShort, IsRecovered, IsSettled, brought, came, ports_of}
use Rattle.stack_core.specs.ArrivalEvents.IsSettled.{Taken, Reset, Dropped}
use Rattle.stack_core.specs.ArrivalEvents.IsArrivedShort.{Ticked, Brought, Came, Took}
use Rattle.stack_core.specs.CoreWorlds.{CoreCall, Event, IsCalled, IsCoreWorld, Lead, Leaves, MayCall, Side, entries_of, flown_in, new_side}
use Rattle.stack_core.specs.CoreWorlds.CoreCall.{Begin, Attempt, Arrive, Pump, Timers}
use Rattle.stack_core.specs.Cores.{Core, IsRecorded, line_to_come, event_begun, with_item, with_step, world}
use Rattle.stack_core.specs.Entries.{entry_at}
use Rattle.stack_core.specs.Flown.{HasFlown, IsAbove}
use Rattle.stack_core.specs.Outgoing.{GoesOut}
use Rattle.stack_core.specs.PumpEvents.{made}
use Rattle.stack_core.specs.PumpEvents.IsPumped.{Answered as ResetGoes, Made as MadeGoes}
use Rattle.stack_core.specs.Recordings.{Recorded, with_entry, world_left}
use Rattle.stack_core.proofs.FlightLemmas.{flown_stays, gone_flown, named}

-- 1. what an event adds

-- what is brought under this key flew from there, under a key below
abbrev pub Names : Recorded → Key → Item tcp_shape → Type 0
Names theirs key (Do step) = Unit {0}
Names theirs key (Bring f) = (before f.key key ≡ true) × HasFlown theirs f

abbrev pub AllName : Header → Recorded → List TcpEntry → Type 0
AllName h theirs xs = EachEntry (tcp h) (λ x. Names theirs x.key x.item) xs

names_append : (h : Header) (theirs : Recorded) (xs ys : List TcpEntry) → AllName h theirs xs → AllName h theirs ys → AllName h theirs (xs ++ ys)
names_append h theirs [] ys p q = q
names_append h theirs (x ∷ xs) ys p q = (p.0, names_append h theirs xs ys p.1 q)

-- a core grew by entries of which each that is brought flew from there
record Grew (h : Header) (theirs : Recorded) (c d : Core) : Type 0 where
  more : List TcpEntry
  recorded : d.recorded ≡ record c.recorded { entries = c.recorded.entries ++ more }
  names : AllName h theirs more

module _ (h : Header) (theirs : Recorded) (c : Core) where
  grew_none : (d : Core) → d.recorded ≡ c.recorded → Grew h theirs c d
  grew_none d is = record {
    more = [];
    recorded = is ∙ ap (λ (es : List TcpEntry). record c.recorded { entries = es }) (sym (append-nil c.recorded.entries));
    names = tt;
  }

  grew_item : (d : Core) (item : Item tcp_shape) → Names theirs (entry_at d.recorded.me d.last item).key item
      → Grew h theirs c d → Grew h theirs c (with_item d item)
  grew_item d item name g =
      let x : TcpEntry = entry_at d.recorded.me d.last item in
      record {
        more = g.more ++ x ∷ [];
        recorded =
            ap (λ (r : Recorded). with_entry r x) g.recorded
            ∙ ap (λ (es : List TcpEntry). record c.recorded { entries = es })
            (append_assoc c.recorded.entries g.more (x ∷ []));
        names = names_append h theirs g.more (x ∷ []) g.names (name, tt);
      }

  grew_step : (d : Core) (step : _) → Grew h theirs c d → Grew h theirs c (with_step d step)
  grew_step d step g = grew_item d (Do step) tt g

  grew_to : (d e : Core) → e ≡ d → Grew h theirs c d → Grew h theirs c e
  grew_to d e is g = subst (λ (x : Core). Grew h theirs c x) (sym is) g

  grew_recovered : (d e : Core) (ports : _) → IsRecovered d ports e → Grew h theirs c d → Grew h theirs c e
  grew_recovered d e ports (inl r) g = grew_to (with_step d (At d.recorded.me (Does r.0))) e r.4 (grew_step d (At d.recorded.me (Does r.0)) g)
  grew_recovered d e ports (inr r) g = grew_to d e r.0 g

  grew_settled : (d e : Core) (n : ℕ) (ports : _) → IsSettled d n ports e → Grew h theirs c d → Grew h theirs c e
  grew_settled d e n ports (Taken choice keep may recovered) g =
      grew_recovered (with_step d (At d.recorded.me (Takes n choice))) e ports recovered (grew_step d _ g)
  grew_settled d e n ports (Reset not_taken may row) g = grew_to _ e row (grew_step d _ g)
  grew_settled d e n ports (Dropped not_taken no_reset row) g = grew_to _ e row (grew_step d _ g)

  module _ (me : Host) (is_me : c.recorded.me ≡ me) (f : Flying tcp_shape) (flew : HasFlown theirs f) where
    brings : (tick : Tick) → IsAbove f tick → Grew h theirs c (brought c tick f)
    brings tick above = grew_item (event_begun c tick) (Bring f) ((named theirs c.recorded.me f tick flew above).0, flew) (grew_none (event_begun c tick) refl)

    grew_came : (tick : Tick) → IsAbove f tick → (wire : _) → Grew h theirs c (came c tick f wire)
    grew_came tick above wire = grew_step (brought c tick f) _ (brings tick above)

    grew_arrived : (tick : Tick) (d : Core) → IsAbove f tick → IsArrived c tick f d → Grew h theirs c d
    grew_arrived tick d above a = grew_settled (came c tick f a.wire) d (line_to_come c) (ports_of f.emission) a.settled (grew_came tick above a.wire)

    grew_short : (tick : Tick) (d : Core) → IsAbove f tick → IsArrivedShort c tick f d → Grew h theirs c d
    grew_short tick d above (Ticked row) = grew_to (event_begun c tick) d row (grew_none (event_begun c tick) refl)
    grew_short tick d above (Brought row) = grew_to (brought c tick f) d row (brings tick above)
    grew_short tick d above (Came wire bytes row) = grew_to (came c tick f wire) d row (grew_came tick above wire)
    grew_short tick d above (Took wire bytes choice keep may due row) =
        grew_to (with_step (came c tick f wire) (At c.recorded.me (Takes (line_to_come c) choice))) d row
        (grew_step (came c tick f wire) _ (grew_came tick above wire))

  grew_out : (d e : Core) (number : ℕ) (f : Flying tcp_shape) → GoesOut d number f e → Grew h theirs c d → Grew h theirs c e
  grew_out d e number f out g = grew_to (with_step d _) e out.row (grew_step d _ g)

  grew_event : (tick : Tick) → Grew h theirs c (event_begun c tick)
  grew_event tick = grew_none (event_begun c tick) refl

  grew_same : (d : Core) → d ≡ c → Grew h theirs c d
  grew_same d is = grew_none d (ap (λ (x : Core). x.recorded) is)

  grew_made : (tick : Tick) (plan : _) → Grew h theirs c (made c tick plan)
  grew_made tick plan = grew_step (event_begun c tick) _ (grew_event tick)

  grew : (flown : List (Flying tcp_shape)) → All (HasFlown theirs) flown → (tick : Tick) (call : CoreCall) (d : Core)
      → MayCall c flown tick call → Leaves c tick call d → Grew h theirs c d
  grew flown flew tick (Begin thread call (Ok done)) d may row = grew_to _ d row (grew_step (event_begun c tick) _ (grew_event tick))
  grew flown flew tick (Begin thread call (Err memory)) d may row = grew_to (event_begun c tick) d row (grew_event tick)
  grew flown flew tick (Attempt thread (Ok (Some a))) d may row =
      grew_to _ d row.1 (grew_step (with_step (event_begun c tick) _) _ (grew_step (event_begun c tick) _ (grew_event tick)))
  grew flown flew tick (Attempt thread (Ok None)) d may row = grew_same d row.0
  grew flown flew tick (Attempt thread (Err memory)) d may (inl row) = grew_to (event_begun c tick) d row (grew_event tick)
  grew flown flew tick (Attempt thread (Err memory)) d may (inr row) =
      grew_to _ d row.2 (grew_step (event_begun c tick) (Effect thread row.0) (grew_event tick))
  grew flown flew tick (Arrive f (Ok true)) d may row = grew_arrived c.recorded.me refl f (All-contains (HasFlown theirs) flown f flew may.0) tick d may.1 row
  grew flown flew tick (Arrive f (Ok false)) d may row = grew_same d row.0
  grew flown flew tick (Arrive f (Err memory)) d may row = grew_short c.recorded.me refl f (All-contains (HasFlown theirs) flown f flew may.0) tick d may.1 row
  grew flown flew tick (Pump (Ok (Some f))) d may (ResetGoes number waited out) = grew_out (event_begun c tick) d number f out (grew_event tick)
  grew flown flew tick (Pump (Ok (Some f))) d may (MadeGoes free plan out) =
      grew_out (made c tick plan) d (world (made c tick plan)).count f out (grew_made tick plan)
  grew flown flew tick (Pump (Ok None)) d may row = grew_same d row.0
  grew flown flew tick (Pump (Err memory)) d may (inl row) = grew_to (event_begun c tick) d row (grew_event tick)
  grew flown flew tick (Pump (Err memory)) d may (inr row) = grew_to (made c tick row.1.0) d row.1.1 (grew_made tick row.1.0)
  grew flown flew tick (Timers (Ok true)) d may row = grew_to _ d row.2 (grew_step (event_begun c tick) _ (grew_event tick))
  grew flown flew tick (Timers (Ok false)) d may row = grew_same d row.0
  grew flown flew tick (Timers (Err memory)) d may row = grew_to (event_begun c tick) d row (grew_event tick)

-- 2. what flew stays

-- what flew from a core has flown from what it grew to
stays : (h : Header) (theirs : Recorded) (c d : Core) → Grew h theirs c d → IsRecorded d → (f : Flying tcp_shape)
    → HasFlown c.recorded f → HasFlown d.recorded f
stays h theirs c d g kept f flew = subst (λ (r : Recorded). HasFlown r f) (sym g.recorded)
    (flown_stays c.recorded.header c.recorded.me c.recorded.entries g.more f flew
    (subst (λ (r : Recorded). IsKept r.header r.me (first_event_line r.header) r.entries) g.recorded kept))

-- what flew in a call has flown
flies : (c d : Core) (tick : Tick) (call : CoreCall) → Leaves c tick call d → IsRecorded d → All (HasFlown d.recorded) (flown_in call)
flies c d tick (Begin thread call answer) row kept = All-nil (HasFlown d.recorded)
flies c d tick (Attempt thread answer) row kept = All-nil (HasFlown d.recorded)
flies c d tick (Arrive f answer) row kept = All-nil (HasFlown d.recorded)
flies c d tick (Pump (Ok (Some f))) (ResetGoes number waited out) kept =
    All-cons (HasFlown d.recorded) f [] (gone_flown (event_begun c tick) d number f out kept) (All-nil (HasFlown d.recorded))
flies c d tick (Pump (Ok (Some f))) (MadeGoes free plan out) kept =
    All-cons (HasFlown d.recorded) f [] (gone_flown (made c tick plan) d (world (made c tick plan)).count f out kept)
    (All-nil (HasFlown d.recorded))
flies c d tick (Pump (Ok None)) row kept = All-nil (HasFlown d.recorded)
flies c d tick (Pump (Err memory)) row kept = All-nil (HasFlown d.recorded)
flies c d tick (Timers answer) row kept = All-nil (HasFlown d.recorded)

-- what flew from there has flown from what that grew to
names_stay : (h : Header) (theirs more : Recorded) → ((f : Flying tcp_shape) → HasFlown theirs f → HasFlown more f)
    → (xs : List TcpEntry) → AllName h theirs xs → AllName h more xs
names_stay h theirs more stay [] p = tt
names_stay h theirs more stay (x ∷ xs) p = (go x.item p.0, names_stay h theirs more stay xs p.1)
  where
    go : (item : Item tcp_shape) → Names theirs x.key item → Names more x.key item
    go (Do step) name = tt
    go (Bring f) name = (name.0, stay f name.1)

-- 3. core worlds

-- a core of this host recorded a run; what flew from it has flown, and what was brought to it flew from there
record IsHonest (h : Header) (me : Host) (t : Side) (theirs : Recorded) : Type 0 where
  recorded : t.core.recorded ≡ record { header = h; me = me; entries = t.core.recorded.entries }
  kept : IsRecorded t.core
  flown : All (HasFlown t.core.recorded) t.flown
  names : AllName h theirs t.core.recorded.entries

-- an event of one leaves both so
called_honest : (h : Header) (me you : Host) (old new them : Side) (tick : Tick) (call : CoreCall)
    → IsHonest h me old them.core.recorded → IsHonest h you them old.core.recorded
    → IsCalled old them.flown tick call new
    → IsHonest h me new them.core.recorded × IsHonest h you them new.core.recorded
called_honest h me you old new them tick call own far called =
    let theirs = them.core.recorded in
    let g : Grew h theirs old.core new.core = grew h theirs old.core them.flown far.flown tick call new.core called.may called.leaves in
    let stay : ((f : Flying tcp_shape) → HasFlown old.core.recorded f → HasFlown new.core.recorded f) = stays h theirs old.core new.core g called.kept in (
      record {
        recorded = g.recorded ∙ ap (λ (r : Recorded). record r { entries = old.core.recorded.entries ++ g.more }) own.recorded
            ∙ ap (λ (r : Recorded). record { header = h; me = me; entries = r.entries }) (sym g.recorded);
        kept = called.kept;
        flown = subst (λ (fs : List (Flying tcp_shape)). All (HasFlown new.core.recorded) fs) (sym called.flown)
            (All-append (HasFlown new.core.recorded) old.flown (flown_in call)
            (λ k d below. stay _ (own.flown k d below))
            (flies old.core new.core tick call called.leaves called.kept));
        names =
            subst (λ (r : Recorded). AllName h theirs r.entries) (sym g.recorded)
            (names_append h theirs old.core.recorded.entries g.more own.names g.names);
      },
      record {
        recorded = far.recorded;
        kept = far.kept;
        flown = far.flown;
        names = names_stay h old.core.recorded new.core.recorded stay them.core.recorded.entries far.names;
      },
    )

abbrev AreHonest : Header → Both Side → Type 0
AreHonest h cores = IsHonest h Zero cores.zero cores.one.core.recorded × IsHonest h One cores.one cores.zero.core.recorded

event_honest : (h : Header) (host : Host) (old : Both Side) (new : Side) (tick : Tick) (call : CoreCall)
    → AreHonest h old → IsCalled (pick old host) (pick old (other host)).flown tick call new
    → AreHonest h (with_host old host new)
event_honest h Zero old new tick call both called = called_honest h Zero One old.zero new old.one tick call both.0 both.1 called
event_honest h One old new tick call both called =
    let after = called_honest h One Zero old.one new old.zero tick call both.1 both.0 called in
    (after.1, after.0)

lead_honest : (h : Header) (events : List Event) (old new : Both Side) → AreHonest h old → Lead events old new → AreHonest h new
lead_honest h [] old new both is = subst (λ (cores : Both Side). AreHonest h cores) (sym is) both
lead_honest h (e ∷ es) old new both lead =
    lead_honest h es (with_host old e.host lead.0) new
    (event_honest h e.host old lead.0 e.tick e.call both lead.1) lead.2

new_honest : (h : Header) (me : Host) (ring : ℕ) (theirs : Recorded) → IsHonest h me (new_side h me ring) theirs
new_honest h me ring theirs = record { recorded = refl; kept = record { runs = tt; numbered = tt; keys = tt }; flown = All-nil _; names = tt }

honest : (h : Header) (events : List Event) (cores : Both Side) → IsCoreWorld h events cores → AreHonest h cores
honest h events cores w =
    lead_honest h events (record { zero = new_side h Zero w.zero_ring; one = new_side h One w.one_ring }) cores
    (new_honest h Zero w.zero_ring _, new_honest h One w.one_ring _) w.lead

-- 4. their books

kept_of : (h : Header) (me : Host) (t : Side) (theirs : Recorded) → IsHonest h me t theirs → IsKept h me (first_event_line h) t.core.recorded.entries
kept_of h me t theirs p = subst (λ (r : Recorded). IsKept r.header r.me (first_event_line r.header) r.entries) p.recorded p.kept

sent_of : (h : Header) (you : Host) (theirs : List TcpEntry) (xs : List TcpEntry)
    → AllName h (record { header = h; me = you; entries = theirs }) xs → NamesSent h you xs theirs
sent_of h you theirs [] p = tt
sent_of h you theirs (x ∷ xs) p = (go x.item p.0, sent_of h you theirs xs p.1)
  where
    r : Recorded
    r = record { header = h; me = you; entries = theirs }

    go : (item : Item tcp_shape) → Names r x.key item → NamesOne (tcp h) you (world_left r) theirs x.key item
    go (Do step) name = tt
    go (Bring f) name = (name.0, name.1.stands, name.1.keyed)

pub world_books : (h : Header) (events : List Event) (cores : Both Side) → IsCoreWorld h events cores
    → Books (tcp h) (first_event_line h) (entries_of Zero cores) (entries_of One cores)
world_books h events cores w =
    let both = honest h events cores w in
    let zero = kept_of h Zero cores.zero cores.one.core.recorded both.0 in
    let one = kept_of h One cores.one cores.zero.core.recorded both.1 in
    let sent_zero = subst (λ (r : Recorded). AllName h r (entries_of Zero cores)) both.1.recorded both.0.names in
    let sent_one = subst (λ (r : Recorded). AllName h r (entries_of One cores)) both.0.recorded both.1.names in (
      record {
        runs = zero.runs;
        numbered = zero.numbered;
        keys = zero.keys;
        arrivals = sent_of h One (entries_of One cores) (entries_of Zero cores) sent_zero;
      },
      record { runs = one.runs; numbered = one.numbered; keys = one.keys; arrivals = sent_of h Zero (entries_of Zero cores) (entries_of One cores) sent_one },
    )

pub world_hosts : (h : Header) (events : List Event) (cores : Both Side) → IsCoreWorld h events cores
    → (cores.zero.core.recorded ≡ record { header = h; me = Zero; entries = entries_of Zero cores })
    × (cores.one.core.recorded ≡ record { header = h; me = One; entries = entries_of One cores })
world_hosts h events cores w = let both = honest h events cores w in (both.0.recorded, both.1.recorded)
