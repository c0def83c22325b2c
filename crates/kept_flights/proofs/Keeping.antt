-- What an endpoint holds beyond what is next in order was kept by its `T` steps; and it takes selective acknowledgments
-- only once it took a SYN that permits them.
use Rattle.std.proofs.Common.{◌≡◌, ℕ, zero, suc, ◌<◌, ◌≤◌, Bool, true, false, List, [], ◌∷◌, Option, Some, None, refl, ap, sym, subst, ◌∙◌, nat_eq, arith}
use Rattle.std.specs.Prelude.{◌&&◌, ◌||◌, if◌then◌else◌, nat_le, nat_lt, not, slice_get}
use Rattle.std.specs.Cmp.{nat_cmp_total}
use Rattle.std.specs.FinSet.{FinSet, contains, contains-difference, contains-empty, contains-union, difference, from_list, items, union}
use Rattle.std.specs.Map.{lookup}
use Rattle.std.specs.Option.{option_map, option_map_or}
use Rattle.std.specs.Ordering.{nat_cmp}
use Rattle.std.proofs.lemmas.Bool.Decides.{nat_tests}
use Rattle.std.proofs.lemmas.Option.{none-some, same_Some}
use Rattle.case_forms.specs.Versions.{says_sender}
use Rattle.case_forms.specs.declared.calls.Answer.{Answer}
use Rattle.case_forms.specs.declared.calls.Answer.TheVariants as answers
use Rattle.case_forms.specs.declared.calls.Call.{Call}
use Rattle.case_forms.specs.declared.calls.Call.TheVariants as calls
use Rattle.case_forms.specs.declared.calls.Host.{Host}
use Rattle.case_forms.specs.declared.calls.Host.TheVariants.{Zero, One}
use Rattle.case_forms.specs.declared.steps.TakeChoice.{TakeChoice}
use Rattle.case_forms.specs.declared.trace.Header.{Header}
use Rattle.streams.specs.Ranges.{span}
use Rattle.streams.proofs.RangeLemmas.{contains-span}
use Rattle.spec_network.specs.HostRules.{aim_of}
use Rattle.spec_network.specs.Hosts.{Answered as Ended, At, Called, Drops, Effect, Idle, Sends}
use Rattle.spec_network.specs.Hosts.{Stamped, Step, Takes, Turn, World, turn_of}
use Rattle.spec_network.specs.Tables.{on, pick, waiting}
use Rattle.spec_tcp.specs.Arrives.{AtEndpoint, AtListener, Nobody, Taker, taker}
use Rattle.spec_tcp.specs.HostTcp.{HostTcp, has_ended, socket_target}
use Rattle.spec_tcp.specs.Machine.{aim, tcp, tcp_shape}
use Rattle.spec_tcp.specs.declared.endpoint.Emission.{Emission}
use Rattle.spec_tcp.specs.declared.endpoint.Endpoint.{Endpoint}
use Rattle.spec_tcp.specs.declared.endpoint.EndpointId.{EndpointId}
use Rattle.spec_tcp.specs.declared.endpoint.SocketTarget.{SocketTarget}
use Rattle.spec_tcp.specs.declared.endpoint.SocketTarget.TheVariants.{EndpointAt, ListenerAt}
use Rattle.spec_tcp_laws.proofs.Rules.{on_cases}
use Rattle.spec_duties.specs.Kept.{nothing_kept}
use Rattle.spec_duties.specs.Observations.{at_target, observe, observe_accept, observe_call, observe_close, observe_effect, observe_other, observe_taking}
use Rattle.spec_duties.specs.Observations.{is_done, processing_of, unseen}
use Rattle.spec_duties.specs.Views.{unborn, view_of}
use Rattle.spec_duties.specs.declared.events.Event.{Event}
use Rattle.spec_duties.specs.declared.observations.Kept.{Kept}
use Rattle.spec_duties.specs.declared.observations.Observation.{Observation}
use Rattle.spec_duties.specs.declared.observations.Queueing.TheVariants as queueing
use Rattle.spec_duties.specs.declared.observations.SynChange.{SynChange}
use Rattle.spec_duties.specs.declared.observations.SynChange.TheVariants as syn_change
use Rattle.spec_duties.specs.declared.observations.TouchedEndpoint.{TouchedEndpoint}
use Rattle.spec_duties.specs.declared.views.View.{View}
use Rattle.spec_flights.specs.Flights.{Flight, flight_at, unflown}
use Rattle.spec_flights.specs.Held.{held_after}
use Rattle.spec_flights.specs.Sides.{sides_after}
use Rattle.kept_flights.specs.Places.{Happens, observed, seen_before, world_before}
use Rattle.kept_flights.specs.Holding.{PeerPermits, WasKept}
use Rattle.kept_flights.proofs.Runs.{flight_before, known_before, place_after, touched}
use Rattle.flight_parts.proofs.SetLemmas.{read_back}

-- ---- only `T` steps keep something

abbrev Bare : Observation → Type 0
Bare s = s.kept ≡ nothing_kept

target_bare : (o : Option SocketTarget) (f : SocketTarget → Observation) → ((target : SocketTarget) → Bare (f target)) → Bare (on o unseen f)
target_bare None f each = refl
target_bare (Some target) f each = each target

accept_bare : (host : Host) (b : HostTcp) (answer : Answer) (target : SocketTarget) → Bare (observe_accept host b answer target)
accept_bare host b (answers.Given n) (ListenerAt l) = refl
accept_bare host b answer target = refl

close_bare : (host : Host) (b : HostTcp) (aborts : Bool) (answer : Answer) (target : SocketTarget) → Bare (observe_close host b aborts answer target)
close_bare host b aborts answer (EndpointAt i) = refl
close_bare host b aborts answer (ListenerAt l) = by (is_done answer && not (has_ended b l))
  where
    by : (c : Bool) → Bare (if c then record unseen { queueing = queueing.Closes host l } else unseen)
    by true = refl
    by false = refl

other_bare : (host : Host) (b : HostTcp) (target : SocketTarget) → Bare (observe_other host b target)
other_bare host b (ListenerAt l) = refl
other_bare host b (EndpointAt i) = refl

call_bare : (host : Host) (b : HostTcp) (call : Call) (answer : Answer) → Bare (observe_call host b call answer)
call_bare host b (calls.Connect x lport rport) (answers.Given n) = refl
call_bare host b (calls.Connect x lport rport) answer = refl
call_bare host b (calls.Accept n) answer = target_bare (socket_target b n) (observe_accept host b answer) (accept_bare host b answer)
call_bare host b (calls.Send n bytes) answer = target_bare (socket_target b n) (observe_other host b) (other_bare host b)
call_bare host b (calls.Shut n) answer = target_bare (socket_target b n) (observe_close host b false answer) (close_bare host b false answer)
call_bare host b (calls.Close n) answer = target_bare (socket_target b n) (observe_close host b false answer) (close_bare host b false answer)
call_bare host b (calls.Abort n) answer =
    target_bare (socket_target b n) (observe_close host b (is_done answer) answer) (close_bare host b (is_done answer) answer)
call_bare host b call answer = refl

effect_bare : (h : Header) (w : World tcp_shape) (thread : ℕ) (answer : Answer) (u : Turn tcp_shape) → Bare (observe_effect h w thread answer u)
effect_bare h w thread answer Idle = refl
effect_bare h w thread answer (Called call) =
    on_cases Bare (aim_of (tcp h) w.hosts (aim call)) unseen (λ host. observe_call host (pick w.hosts host).body call answer) refl
    (λ host aims. call_bare host (pick w.hosts host).body call answer)
effect_bare h w thread answer (Ended given) = refl

-- such a step is one of the endpoint's host
abbrev TakesAt : Step tcp_shape → EndpointId → Type 0
TakesAt step me = (line : ℕ) × (how : TakeChoice) × (step ≡ At me.host (Takes line how))

-- a position is kept
abbrev Keeps : Observation → (position : ℕ) → Type 0
Keeps s position = (s.kept.from ≤ position) × (position < s.kept.upto)

bare_keeps : (s : Observation) (position : ℕ) → Bare s → Keeps s position → ⊥
bare_keeps s position bare keeps =
    let upto : s.kept.upto ≡ 0 = ap (λ (k : Kept). k.upto) bare in
    let less = keeps.1 in
    omega (arith, upto, less)

module _ (me : EndpointId) (event : Event) (before : View) where
  at_host : (host : Host) (place : ℕ) (other : Event) (view : View)
      → Some (record { host = host; place = place; event = other; before = view }) ≡ Some (touched me event before) → host ≡ me.host
  at_host host place other view same =
      ap (λ (t : TouchedEndpoint). t.host) (same_Some (record { host = host; place = place; event = other; before = view }) (touched me event before) same)

  target_host : (host : Host) (b : HostTcp) (m : Emission) (t : Taker) → at_target host b m t ≡ Some (touched me event before) → host ≡ me.host
  target_host host b m Nobody here = absurd (none-some (touched me event before) here)
  target_host host b m (AtListener l) here = at_host host _ (processing_of m) unborn here
  target_host host b m (AtEndpoint i e) here = by (slice_get b.endpoints i) here
    where
      by : (o : Option Endpoint)
          → option_map (λ f. record { host = host; place = i; event = processing_of m; before = view_of f }) o ≡ Some (touched me event before)
          → host ≡ me.host
      by None none = absurd (none-some (touched me event before) none)
      by (Some f) some = at_host host i (processing_of m) (view_of f) some

  taking_host : (h : Header) (w : World tcp_shape) (host : Host) (line : ℕ) (how : TakeChoice) (o : Option Emission)
      → Happens (on o unseen (λ m. observe_taking h host (pick w.hosts host).body line how m (taker (pick w.hosts host).body m))) me event before
      → host ≡ me.host
  taking_host h w host line how None here = absurd (none-some (touched me event before) here)
  taking_host h w host line how (Some m) here =
      target_host host (pick w.hosts host).body m (taker (pick w.hosts host).body m) here

keeps_there : (h : Header) (moment : ℕ) (w : World tcp_shape) (step : Step tcp_shape) (me : EndpointId) (event : Event) (before : View) (position : ℕ)
    → Happens (observe h moment w step) me event before → Keeps (observe h moment w step) position → TakesAt step me
keeps_there h moment w (At host (Takes line how)) me event before position here keeps = (
  line,
  how,
  ap (λ (g : Host). At g (Takes line how))
      (taking_host me event before h w host line how (waiting line (pick w.hosts host).inbox) here),
)
keeps_there h moment w (At host (Sends line number wire)) me event before position here keeps =
    absurd (bare_keeps (observe h moment w (At host (Sends line number wire))) position
    (on_cases Bare (lookup (nat_eq number) (pick w.hosts host).made) unseen _ refl (λ m is. refl)) keeps)
keeps_there h moment w (At host (Drops line)) me event before position here keeps =
    absurd (bare_keeps (observe h moment w (At host (Drops line))) position
    (on_cases Bare (waiting line (pick w.hosts host).inbox) unseen _ refl (λ m is. refl)) keeps)
keeps_there h moment w (Effect thread answer) me event before position here keeps =
    absurd (bare_keeps (observe h moment w (Effect thread answer)) position (effect_bare h w thread answer (turn_of thread w.threads)) keeps)
keeps_there h moment w step me event before position here keeps = absurd (bare_keeps (observe h moment w step) position refl keeps)

-- ---- what is held was kept

-- of a position that is held after a step
either : (held : FinSet nat_cmp) (k : Kept) (next p : ℕ)
    → contains {K = ℕ} {R = nat_cmp} (from_list (items (difference (union held (span k.from k.upto)) (span 0 next)))) p ≡ true
    → contains held p ≡ false → (k.from ≤ p) × (p < k.upto)
either held k next p is out =
    let all : FinSet nat_cmp = union held (span k.from k.upto) in
    let left : (contains all p && not (contains (span 0 next) p)) ≡ true =
    sym (ap (λ (t : FinSet nat_cmp). contains t p) (read_back (difference all (span 0 next))) ∙ contains-difference nat_cmp_total all (span 0 next) p) ∙ is in
    let joined : (contains held p || nat_le k.from p && nat_lt p k.upto) ≡ true =
    sym (contains-union nat_cmp_total held (span k.from k.upto) p ∙ ap (λ b. contains held p || b) (contains-span k.from k.upto p))
    ∙ first (contains all p) (not (contains (span 0 next) p)) left in
    let new : (nat_le k.from p && nat_lt p k.upto) ≡ true = second (contains held p) (nat_le k.from p && nat_lt p k.upto) out joined in
    (grind (arith, nat_tests, new), grind (arith, nat_tests, new))
  where
    first : (a b : Bool) → (a && b) ≡ true → a ≡ true
    first true b both = refl
    first false b both = absurd cc

    second : (a b : Bool) → a ≡ false → (a || b) ≡ true → b ≡ true
    second true b out some = absurd cc
    second false b out some = some

module _ (h : Header) (xs : List (Stamped tcp_shape)) (six : says_sender h.version ≡ true) (me : EndpointId) where
  -- at first, nothing is kept of an endpoint
  at_first : flight_before h xs 0 me ≡ unflown
  at_first = by xs me.host
    where
      by : (ys : List (Stamped tcp_shape)) (host : Host) → flight_at (known_before h ys 0).flights host me.number ≡ unflown
      by [] Zero = refl
      by [] One = refl
      by (y ∷ ys) Zero = refl
      by (y ∷ ys) One = refl

  was_kept : (place position : ℕ) (event : Event) (before : View) → Happens (observed h xs place) me event before
      → Keeps (observed h xs place) position → WasKept h xs (suc place) me position
  was_kept place position event before here keeps = by (slice_get xs place) refl here keeps
    where
      w : World tcp_shape
      w = world_before h xs place

      shown : Option (Stamped tcp_shape) → Observation
      shown o = option_map_or (λ y. observe h y.moment w y.step) o unseen

      by : (o : Option (Stamped tcp_shape)) → slice_get xs place ≡ o → Happens (shown o) me event before → Keeps (shown o) position
          → WasKept h xs (suc place) me position
      by None is there some = absurd (none-some (touched me event before) there)
      by (Some x) is there some =
          let t = keeps_there h x.moment w x.step me event before position there some in
          record {
            kept = place;
            earlier = omega arith;
            line = t.0;
            choice = t.1;
            step = (x.moment, is ∙ ap (λ (s : Step tcp_shape). Some (record { moment = x.moment; step = s })) t.2);
            event = event;
            before = before;
            happens = here;
            from = keeps.0;
            upto = keeps.1;
          }

  kept_later : (place position : ℕ) → WasKept h xs place me position → WasKept h xs (suc place) me position
  kept_later place position k = let less = k.earlier in record {
    kept = k.kept;
    earlier = omega (arith, less);
    line = k.line;
    choice = k.choice;
    step = k.step;
    event = k.event;
    before = k.before;
    happens = k.happens;
    from = k.from;
    upto = k.upto;
  }

  abbrev AllKept : (place : ℕ) → Flight → Type 0
  AllKept place f = (position : ℕ) → contains {K = ℕ} {R = nat_cmp} (from_list f.held) position ≡ true → WasKept h xs place me position

  held_then : (place : ℕ) → AllKept place (flight_before h xs place me) → (event : Event) (before : View) → Happens (observed h xs place) me event before
      → (position : ℕ) (c : Bool) → contains {K = ℕ} {R = nat_cmp} (from_list (flight_before h xs place me).held) position ≡ c
      → contains {K = ℕ} {R = nat_cmp} (from_list (held_after (observed h xs place).kept (seen_before h xs (suc place) me).rcv_nxt
      (flight_before h xs place me).held)) position ≡ true
      → WasKept h xs (suc place) me position
  held_then place so_far event before here position true old is = kept_later place position (so_far position old)
  held_then place so_far event before here position false old is =
      was_kept place position event before here
      (either (from_list (flight_before h xs place me).held) (observed h xs place).kept (seen_before h xs (suc place) me).rcv_nxt position is old)

  pub held_was_kept : (place : ℕ) → AllKept place (flight_before h xs place me)
  held_was_kept zero =
      subst (λ (f : Flight). AllKept 0 f) (sym at_first)
      (λ position is. let none : contains {K = ℕ} {R = nat_cmp} (from_list []) position ≡ false = contains-empty nat_cmp position in absurd cc)
  held_was_kept (suc place) =
      place_after h xs six (λ f. AllKept (suc place) f) me place (λ none position is. kept_later place position (held_was_kept place position is))
      (λ moment clock event before here position is.
      held_then place (held_was_kept place) event before here position
      (contains {K = ℕ} {R = nat_cmp} (from_list (flight_before h xs place me).held) position) refl is)

  -- ---- the peer's SYN

  permits_later : (place : ℕ) → PeerPermits h xs place me → PeerPermits h xs (suc place) me
  permits_later place k = let less = k.earlier in record { taken = k.taken; earlier = omega (arith, less); alone = k.alone; takes = k.takes }

  abbrev WherePermitted : (place : ℕ) → Flight → Type 0
  WherePermitted place f = f.sides.peers ≡ true → PeerPermits h xs place me

  permitted_then : (place : ℕ) → WherePermitted place (flight_before h xs place me) → (event : Event) (before : View)
      → Happens (observed h xs place) me event before → (c : SynChange) → (observed h xs place).syn_change ≡ c
      → (sides_after c (flight_before h xs place me).sides).peers ≡ true → PeerPermits h xs (suc place) me
  permitted_then place so_far event before here (syn_change.Takes true alone) change is =
      record { taken = place; earlier = omega arith; alone = alone; takes = (event, before, here, change) }
  permitted_then place so_far event before here (syn_change.Takes false alone) change is = absurd cc
  permitted_then place so_far event before here c change is = permits_later place (so_far is)

  pub peer_permits : (place : ℕ) → WherePermitted place (flight_before h xs place me)
  peer_permits zero = subst (λ (f : Flight). WherePermitted 0 f) (sym at_first) (λ is. absurd cc)
  peer_permits (suc place) =
      place_after h xs six (λ f. WherePermitted (suc place) f) me place (λ none is. permits_later place (peer_permits place is))
      (λ moment clock event before here is. permitted_then place (peer_permits place) event before here (observed h xs place).syn_change refl is)
