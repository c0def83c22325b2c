-- Duties know since when no call on a live socket has to wait.
use Rattle.std.proofs.Common.{◌≡◌, ℕ, suc, ◌<◌, ◌≤◌, ◌⊎◌, inl, inr, Bool, true, false, length, Option, Some, None, refl, ap, sym, subst, ◌∙◌, arith}
use Rattle.std.specs.Prelude.{if◌then◌else◌}
use Rattle.std.proofs.lemmas.Option.{none-some, same_Some}
use Rattle.case_forms.specs.Versions.{says_sender}
use Rattle.case_forms.specs.declared.calls.Host.{Host}
use Rattle.case_forms.specs.declared.calls.Host.TheVariants.{Zero, One}
use Rattle.case_forms.specs.declared.steps.Witness.{Witness}
use Rattle.case_forms.specs.declared.trace.Header.{Header}
use Rattle.case_forms.specs.declared.trace.Trace.{Trace}
use Rattle.interval_order.specs.Placed.{Placed}
use Rattle.spec_network.specs.HostRules.{Permitted}
use Rattle.spec_network.specs.HostSteps.{Lawful}
use Rattle.spec_network.specs.Hosts.{Stamped, World}
use Rattle.spec_network.specs.Tables.{on, pick}
use Rattle.spec_tcp.specs.HostTcp.{given, socket_target}
use Rattle.spec_tcp.specs.Machine.{tcp, tcp_shape}
use Rattle.spec_tcp.specs.declared.endpoint.SocketTarget.{SocketTarget}
use Rattle.spec_tcp.specs.declared.endpoint.SocketTarget.TheVariants.{ListenerAt}
use Rattle.spec_tcp_laws.proofs.Rules.{true_false}
use Rattle.spec_tcp_laws.proofs.Runs.{Steady, steady_start, steady_step}
use Rattle.spec_cases.specs.Cases.{Dutiful, Known, first_known, known_after, shown, with_waits}
use Rattle.spec_duties.specs.Answering.{Waits, may_wait, ready_after, ready_since, waits_after}
use Rattle.spec_duties.specs.Observations.{observe, view_in}
use Rattle.spec_duties.specs.Watching.{duties_after}
use Rattle.spec_duties.specs.declared.answering.Awaited.{Awaited}
use Rattle.spec_duties.specs.declared.answering.SocketChange.{SocketChange}
use Rattle.spec_duties.specs.declared.answering.SocketChange.TheVariants as socket_change
use Rattle.spec_duties.specs.declared.events.Event.{Event}
use Rattle.spec_duties.specs.declared.observations.Observation.{Observation}
use Rattle.spec_duties.specs.declared.observations.TouchedEndpoint.{TouchedEndpoint}
use Rattle.checker.specs.Seen.{moves, stamped}
use Rattle.kept_duties.specs.Happens.{act_at, known_before}
use Rattle.kept_duties.proofs.Excused.{Sees, judged_by, sees}
use Rattle.kept_duties.proofs.Runs.{onward}
use Rattle.kept_calls.specs.Awaiting.{IsAt}
use Rattle.kept_calls.proofs.Acts.{acts, is_at, moments_rise, nothing_done}
use Rattle.kept_calls.proofs.Naming.{Closed, Listed, alone, closed_now, given_new, listed_after, live_given}
use Rattle.kept_calls.proofs.Renewing.{Held, Stays, after_given, after_keeps, after_sees}
use Rattle.kept_calls.proofs.Sockets.{Kept, Sees as Looked, both_kept, may_stays}

-- ---- what a step leaves of calls that wait

abbrev shown_by : Header → Known → Stamped tcp_shape → Observation
shown_by h k x = observe h x.moment k.model x.step

-- who is touched counts, not what happens there
waits_alike : (w : World tcp_shape) (moment : ℕ) (judge : Event → Event) (s : Observation) (a : Waits) (o : Option TouchedEndpoint)
    → waits_after w moment (judged_by judge o) s.call_change s.socket_change a ≡ waits_after w moment o s.call_change s.socket_change a
waits_alike w moment judge s a None = refl
waits_alike w moment judge s a (Some t) = refl

pub waits_next : (h : Header) (slack : ℕ) → h.slack ≡ Some slack → says_sender h.version ≡ true → (k : Known) (x : Stamped tcp_shape)
    → (known_after h x.moment k x.step).duties.waits
    ≡ waits_after (known_after h x.moment k x.step).model x.moment (shown_by h k x).touched (shown_by h k x).call_change (shown_by h k x).socket_change
    k.duties.waits
waits_next h slack given six k x =
    ap (λ (o : Option ℕ). (on o k.duties (λ slack. with_waits (says_sender h.version) x.moment w e
    (duties_after (says_sender h.version) slack (view_in w e.touched) x.moment e k.duties))).waits) given
    ∙ ap (λ (b : Bool). if b then waits_after w x.moment e.touched e.call_change e.socket_change k.duties.waits else k.duties.waits) six
    ∙ ap (λ (e : Observation). waits_after w x.moment e.touched e.call_change e.socket_change k.duties.waits) seen.is
    ∙ waits_alike w x.moment seen.judge s k.duties.waits s.touched
  where
    w : World tcp_shape
    w = (known_after h x.moment k x.step).model

    s : Observation
    s = shown_by h k x

    e : Observation
    e = shown h x.moment k x.step

    seen : Sees h s e
    seen = sees h k.flights s

-- ---- moments

-- a moment is at most that of each step from a place on
abbrev pub IsBefore : Witness → (place moment : ℕ) → Type 0
IsBefore w place moment = (later m : ℕ) → place ≤ later → IsAt w later m → moment ≤ m

pub is_before_next : (w : Witness) (place moment : ℕ) → IsBefore w place moment → IsBefore w (suc place) moment
is_before_next w place moment low later m le at = low later m (omega arith) at

-- what is kept of a socket, if calls on it may have to wait or not
abbrev pub Bounded : Witness → (place : ℕ) → Option ℕ → Type 0
Bounded w place o = (since : ℕ) → o ≡ Some since → IsBefore w place since

abbrev pub Known_since : Witness → (place : ℕ) → (may : Bool) → Option ℕ → Type 0
Known_since w place may o = (may ≡ false → (since : ℕ) × (o ≡ Some since)) × Bounded w place o

-- duties look at it
looked : (w : Witness) (place moment : ℕ) → IsBefore w place moment → (may : Bool) (o : Option ℕ) → Bounded w place o
    → Known_since w place may (ready_after may moment o)
looked w place moment low true o bound = (λ no. absurd (let e : true ≡ false = no in cc), λ since is. absurd (none-some since is))
looked w place moment low false None bound = (λ no. (moment, refl), λ since is. subst (IsBefore w place) (same_Some moment since is) low)
looked w place moment low false (Some old) bound = (λ no. (old, refl), λ since is. bound since is)

-- ---- all places

pub record Tracks (t : Trace) (w : Witness) (place : ℕ) (k : Known) : Type 0 where
  pub steady : Steady k.model.hosts
  pub listed : (host : Host) → Listed (pick k.model.hosts host).body
  pub sockets : (host : Host) (n : ℕ) (target : SocketTarget) (awaited : Awaited) → socket_target (pick k.model.hosts host).body n ≡ Some target
      → Held host target awaited k.duties.waits (Known_since w place (may_wait (pick k.model.hosts host).body target awaited))

module _ (t : Trace) (w : Witness) (slack : ℕ) (given' : t.header.slack ≡ Some slack) (six : says_sender t.header.version ≡ true)
    (placed : Placed t.header t.lines (moves w.steps)) where
  module _ (place : ℕ) (k : Known) (x : Stamped tcp_shape) (at : IsAt w place x.moment) (may : Permitted (tcp t.header) x.moment k.model x.step)
      (old : Tracks t w place k) where
    abbrev next : Known
    next = known_after t.header x.moment k x.step

    abbrev s : Observation
    s = shown_by t.header k x

    pub kept : (host : Host) → Kept s host (pick k.model.hosts host).body (pick next.model.hosts host).body
    kept host = both_kept t.header x.moment k.model six x.step host

    pub steady_next : Steady next.model.hosts
    steady_next = steady_step t.header x.moment k.model x.step old.steady may

    pub listed_next : (host : Host) → Listed (pick next.model.hosts host).body
    listed_next host = listed_after s host (pick k.model.hosts host).body (pick next.model.hosts host).body (old.listed host) (kept host)

    pub low : IsBefore w (suc place) x.moment
    low later m le there = moments_rise t w placed place later x.moment m (omega arith) at there

    -- a socket number that was live and is: what it names is neither closed nor returned
    pub stays : (host : Host) (n : ℕ) (target : SocketTarget) (awaited : Awaited) → socket_target (pick k.model.hosts host).body n ≡ Some target
        → socket_target (pick next.model.hosts host).body n ≡ Some target → Stays next.model x.moment host target awaited s.socket_change
    stays host n target awaited was is = record {
      lives = λ closes. ended (closed_now t.header x.moment k.model six x.step host target closes);
      given = λ m gives names.
          let one : m ≡ n = alone (pick next.model.hosts host).body (steady_next.sound host) (listed_next host) m n target names is in
          true_false (live_given (pick k.model.hosts host).body n target was)
          (subst (λ (q : ℕ). given (pick k.model.hosts host).body q ≡ false) one (given_new t.header x.moment k.model six x.step may host m gives host));
    }
      where
        ended : Closed (pick k.model.hosts host).body (pick next.model.hosts host).body target → ⊥
        ended c =
            let one : c.number ≡ n = alone (pick k.model.hosts host).body (old.steady.sound host) (old.listed host) c.number n target c.was was in
            c.gone target (subst (λ (q : ℕ). socket_target (pick next.model.hosts host).body q ≡ Some target) (sym one) is)

    -- a socket number that is live was, and named the same, or it is returned
    abbrev WasLive : Host → ℕ → SocketTarget → Type 0
    WasLive host n target =
        (socket_target (pick k.model.hosts host).body n ≡ Some target)
        ⊎ ((s.socket_change ≡ socket_change.Gives host n)
        × ((l : ℕ) → target ≡ ListenerAt l
        → (length (pick k.model.hosts host).body.listeners ≤ l) × (l < length (pick next.model.hosts host).body.listeners)))

    abbrev wait : Waits
    wait = waits_after next.model x.moment s.touched s.call_change s.socket_change k.duties.waits

    sockets_next : (host : Host) (n : ℕ) (target : SocketTarget) (awaited : Awaited) → socket_target (pick next.model.hosts host).body n ≡ Some target
        → Held host target awaited wait (Known_since w (suc place) (may_wait (pick next.model.hosts host).body target awaited))
    sockets_next host n target awaited is = by ((kept host).sockets n target is)
      where
        can : Bool
        can = may_wait (pick next.model.hosts host).body target awaited

        renewed : (o : Option ℕ) → Bounded w (suc place) o → Known_since w (suc place) can (ready_after can x.moment o)
        renewed o bound = looked w (suc place) x.moment low can o bound

        by : WasLive host n target → Held host target awaited wait (Known_since w (suc place) can)
        by (inr new) =
            subst (λ (c : SocketChange). Held host target awaited (waits_after next.model x.moment s.touched s.call_change c k.duties.waits)
            (Known_since w (suc place) can)) (sym new.0)
            (after_given next.model x.moment host target awaited (Known_since w (suc place) can) (renewed None (λ since none. absurd (none-some since none)))
            s.touched s.call_change n is k.duties.waits)
        by (inl was) = which (may_stays (kept host) target)
          where
            held : Held host target awaited k.duties.waits (Known_since w place (may_wait (pick k.model.hosts host).body target awaited))
            held = old.sockets host n target awaited was

            bounded : Bounded w (suc place) (ready_since held.ready awaited)
            bounded since it = is_before_next w place since (held.holds.1 since it)

            which : Looked s host target
                ⊎ ((a : Awaited) → may_wait (pick next.model.hosts host).body target a ≡ false → may_wait (pick k.model.hosts host).body target a ≡ false)
                → Held host target awaited wait (Known_since w (suc place) can)
            which (inl looks) =
                after_sees next.model x.moment host target awaited (Bounded w (suc place)) (Known_since w (suc place) can) (λ o q. (renewed o q).1)
                (λ o q. renewed o q.1) renewed s looks (stays host n target awaited was is) k.duties.waits
                (record { ready = held.ready; is = held.is; holds = bounded })
            which (inr same) =
                after_keeps next.model x.moment host target awaited (Known_since w (suc place) can) (λ o q. renewed o q.1) s.touched s.call_change
                s.socket_change
                (stays host n target awaited was is) k.duties.waits
                (record { ready = held.ready; is = held.is; holds = (λ no. held.holds.0 (same awaited no), bounded) })

    pub tracks_next : Tracks t w (suc place) next
    tracks_next = record {
      steady = steady_next;
      listed = listed_next;
      sockets = λ host n target awaited is.
          subst (λ (a : Waits). Held host target awaited a (Known_since w (suc place) (may_wait (pick next.model.hosts host).body target awaited)))
          (sym (waits_next t.header slack given' six k x)) (sockets_next host n target awaited is);
    }

  tracks_start : Tracks t w 0 (first_known t.header)
  tracks_start = record { steady = steady_start t.header; listed = listed; sockets = sockets }
    where
      listed : (host : Host) → Listed (pick (first_known t.header).model.hosts host).body
      listed Zero = record { low = λ n l is. absurd (none-some _ is); alone = λ m n l is at. absurd (none-some _ is) }
      listed One = record { low = λ n l is. absurd (none-some _ is); alone = λ m n l is at. absurd (none-some _ is) }

      sockets : (host : Host) (n : ℕ) (target : SocketTarget) (awaited : Awaited)
          → socket_target (pick (first_known t.header).model.hosts host).body n ≡ Some target
          → Held host target awaited (first_known t.header).duties.waits
          (Known_since w 0 (may_wait (pick (first_known t.header).model.hosts host).body target awaited))
      sockets Zero n target awaited is = absurd (none-some target is)
      sockets One n target awaited is = absurd (none-some target is)

  module _ (lawful : Lawful (tcp t.header) (first_known t.header).model (stamped t.header t.lines w.steps))
      (dutiful : Dutiful t.header (first_known t.header) (stamped t.header t.lines w.steps)) where
    pub tracks : (place : ℕ) → Tracks t w place (known_before t w place)
    tracks place = onward (λ j. Tracks t w j (known_before t w j)) 0 place (omega arith) tracks_start (λ j low high here. step j here)
      where
        step : (j : ℕ) → Tracks t w j (known_before t w j) → Tracks t w (suc j) (known_before t w (suc j))
        step j here = by (act_at t w j) refl
          where
            by : (o : Option (Stamped tcp_shape)) → act_at t w j ≡ o → Tracks t w (suc j) (known_before t w (suc j))
            by None is =
                subst (Tracks t w (suc j)) (sym (nothing_done t w j is)) (record {
                  steady = here.steady;
                  listed = here.listed;
                  sockets = λ host n target awaited live.
                      let held = here.sockets host n target awaited live in
                      record {
                        ready = held.ready;
                        is = held.is;
                        holds = (held.holds.0, λ since it. is_before_next w j since (held.holds.1 since it));
                      };
                })
            by (Some x) is =
                let a = acts t w lawful dutiful j x is in
                subst (Tracks t w (suc j)) (sym a.next) (tracks_next j (known_before t w j) x (is_at t w j x is) a.permitted here)
