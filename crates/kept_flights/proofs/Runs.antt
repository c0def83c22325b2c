-- A run, place by place: what is kept of an endpoint after a step, by what the step shows.
use Rattle.std.proofs.Common.{◌≡◌, ℕ, zero, suc, ◌+◌, ◌<◌, ◌≤◌, ◌⊎◌, inl, inr, Bool, true, false, cond, List, [], ◌∷◌, Option, Some, None, refl, ap, sym, subst}
use Rattle.std.proofs.Common.{◌∙◌, nat_eq, arith}
use Rattle.std.specs.Prelude.{if◌then◌else◌, slice_get, take, unwrap_or}
use Rattle.std.specs.Map.{lookup}
use Rattle.std.specs.Option.{option_map_or}
use Rattle.std.proofs.Math.Nat.{eq-or-lt_of_le}
use Rattle.std.proofs.lemmas.Bool.Decides.{nat_tests}
use Rattle.std.proofs.lemmas.Option.{none-some, same_Some}
use Rattle.indexmap.specs.IndexMap.{insert_entry}
use Rattle.case_forms.specs.Versions.{says_sender}
use Rattle.case_forms.specs.declared.calls.Host.{Host}
use Rattle.case_forms.specs.declared.calls.Host.TheVariants.{Zero, One}
use Rattle.case_forms.specs.declared.trace.Header.{Header}
use Rattle.spec_network.specs.Hosts.{Stamped, World}
use Rattle.spec_network.specs.HostSteps.{after, after_all}
use Rattle.spec_network.specs.Tables.{on, pick, with_host}
use Rattle.spec_network.proofs.Entries.{lookup_insert}
use Rattle.spec_tcp.specs.Machine.{tcp, tcp_shape}
use Rattle.spec_tcp.specs.declared.endpoint.EndpointId.{EndpointId}
use Rattle.spec_tcp_laws.specs.Consequences.{find}
use Rattle.spec_duties.specs.Observations.{observe, unseen, view_in}
use Rattle.spec_duties.specs.Views.{unborn, view_of}
use Rattle.spec_duties.specs.declared.events.Event.{Event}
use Rattle.spec_duties.specs.declared.observations.Observation.{Observation}
use Rattle.spec_duties.specs.declared.observations.TouchedEndpoint.{TouchedEndpoint}
use Rattle.spec_duties.specs.declared.views.View.{View}
use Rattle.spec_flights.specs.Flights as flights
use Rattle.spec_flights.specs.Flights.{Flight, Flights, flight_after, flight_at, flights_touched, unflown}
use Rattle.spec_cases.specs.Cases.{Dutiful, IsDutiful, Known, first_known, flown, known_after, known_after_all}
use Rattle.kept_flights.specs.Places.{Happens, observed, seen_before, world_before}

-- an induction from one place up to another
pub onward : (P : ℕ → Type 0) (from n : ℕ) → from ≤ n → P from → ((j : ℕ) → from ≤ j → j < n → P j → P (suc j)) → P n
onward P from zero le p more = subst P (let e : from ≡ zero = omega arith in e) p
onward P from (suc n) le p more =
    by (eq-or-lt_of_le le) (λ low. onward P from n low p (λ j a b. more j a (omega (arith, b))))
  where
    by : (from ≡ suc n) ⊎ (from < suc n) → (from ≤ n → P n) → P (suc n)
    by (inl same) before = subst P same p
    by (inr less) before = let low : from ≤ n = omega (arith, less) in more n low (omega arith) (before low)

-- an endpoint in a world
abbrev pub seen : World tcp_shape → EndpointId → View
seen w me = option_map_or view_of (find w.hosts me) unborn

-- what a step does at an endpoint
abbrev pub touched : EndpointId → Event → View → TouchedEndpoint
touched me event before = record { host = me.host; place = me.number; event = event; before = before }

-- what happens at an endpoint is one thing
pub one_event : (s : Observation) (me : EndpointId) (event other : Event) (before other_before : View) → Happens s me event before
    → Happens s me other other_before → (event ≡ other) × (before ≡ other_before)
one_event s me event other before other_before here there =
    let one : touched me event before ≡ touched me other other_before =
    same_Some (touched me event before) (touched me other other_before) (sym here ∙ there) in
    (ap (λ (t : TouchedEndpoint). t.event) one, ap (λ (t : TouchedEndpoint). t.before) one)

-- what is kept of an endpoint
abbrev pub flight_in : Flights → EndpointId → Flight
flight_in fs me = flight_at fs me.host me.number

-- at the start
pub started : (host : Host) (place : ℕ) → flight_at flights.start host place ≡ unflown
started Zero place = refl
started One place = refl

-- ---- one step

module _ (Q : Flight → Type 0) where
  -- the entry of another endpoint stays
  entry_keeps : (es : List (ℕ × Flight)) (place number : ℕ) (f : Flight)
      → ((place ≡ number → ⊥) → Q (unwrap_or (lookup (nat_eq number) es) unflown)) → (place ≡ number → Q f)
      → Q (unwrap_or (lookup (nat_eq number) (insert_entry nat_eq es place f)) unflown)
  entry_keeps es place number f old new =
      subst (λ (o : Option Flight). Q (unwrap_or o unflown)) (sym (lookup_insert number place f es)) (by (nat_eq number place) refl)
    where
      by : (b : Bool) → nat_eq number place ≡ b → Q (unwrap_or (cond b (Some f) (lookup (nat_eq number) es)) unflown)
      by true same = new (grind (arith, nat_tests, same))
      by false differs = old (λ same. grind (arith, nat_tests, differs, same))

  both_keep : (fs : Flights) (g host : Host) (place number : ℕ) (f : Flight)
      → ((g ≡ host → place ≡ number → ⊥) → Q (flight_at fs host number)) → (g ≡ host → place ≡ number → Q f)
      → Q (flight_at (with_host fs g (insert_entry nat_eq (pick fs g) place f)) host number)
  both_keep fs Zero Zero place number f old new = entry_keeps fs.zero place number f (λ no. old (λ same. no)) (new refl)
  both_keep fs One One place number f old new = entry_keeps fs.one place number f (λ no. old (λ same. no)) (new refl)
  both_keep fs Zero One place number f old new = old (λ same. absurd cc)
  both_keep fs One Zero place number f old new = old (λ same. absurd cc)

  -- a fact about what is kept of an endpoint holds after a step if it did before, or the step is at the endpoint
  pub step_keeps : (h : Header) (moment : ℕ) (s : Observation) (w : World tcp_shape) (fs : Flights) (me : EndpointId) → says_sender h.version ≡ true
      → (((event : Event) (before : View) → Happens s me event before → ⊥) → Q (flight_in fs me))
      → ((event : Event) (before : View) → Happens s me event before
      → Q (flight_after moment (moment + h.grain) s (touched me event before) (seen w me) (flight_in fs me)))
      → Q (flight_in (flown h moment w s fs) me)
  step_keeps h moment s w fs me six old new =
      subst (λ (b : Bool). Q (flight_in (if b then on s.touched fs (flights_touched moment (moment + h.grain) s (view_in w s.touched) fs) else fs) me))
      (sym six) (by s.touched refl)
    where
      by : (o : Option TouchedEndpoint) → s.touched ≡ o
          → Q (flight_in (on o fs (flights_touched moment (moment + h.grain) s (view_in w o) fs)) me)
      by None shows = old (λ event before here. none-some (touched me event before) (sym shows ∙ here))
      by (Some t) shows =
          both_keep fs t.host me.host t.place me.number
          (flight_after moment (moment + h.grain) s t (view_in w (Some t)) (flight_at fs t.host t.place))
          (λ no. old (λ event before here.
          let one : t ≡ touched me event before = same_Some t (touched me event before) (sym shows ∙ here) in
          no (ap (λ (u : TouchedEndpoint). u.host) one) (ap (λ (u : TouchedEndpoint). u.place) one)))
          (λ host place. subst
          (λ (n : EndpointId). Q (flight_after moment (moment + h.grain) s (touched n t.event t.before) (seen w n) (flight_in fs n)))
          (sym (λ i. record { host = host i; number = place i }))
          (new t.event t.before (shows ∙ (λ i. Some (record { host = host i; place = place i; event = t.event; before = t.before })))))

-- ---- a run

module _ (h : Header) where
  abbrev known_from : Known → List (Stamped tcp_shape) → (place : ℕ) → Known
  known_from k xs place = known_after_all h k (take place xs)

  abbrev next_known : Known → Option (Stamped tcp_shape) → Known
  next_known k act = option_map_or (λ x. known_after h x.moment k x.step) act k

  known_next : (k : Known) (xs : List (Stamped tcp_shape)) (place : ℕ)
      → known_from k xs (suc place) ≡ next_known (known_from k xs place) (slice_get xs place)
  known_next k [] zero = refl
  known_next k [] (suc place) = refl
  known_next k (x ∷ xs) zero = refl
  known_next k (x ∷ xs) (suc place) = known_next (known_after h x.moment k x.step) xs place

  model_after : (k : Known) (xs : List (Stamped tcp_shape)) → (known_after_all h k xs).model ≡ after_all (tcp h) k.model xs
  model_after k [] = refl
  model_after k (x ∷ xs) = model_after (known_after h x.moment k x.step) xs

  dutiful_at : (k : Known) (xs : List (Stamped tcp_shape)) → Dutiful h k xs → (place : ℕ) (x : Stamped tcp_shape) → slice_get xs place ≡ Some x
      → IsDutiful h x.moment (known_from k xs place) x.step
  dutiful_at k [] may place x is = absurd (none-some x is)
  dutiful_at k (y ∷ xs) may zero x is = subst (λ (z : Stamped tcp_shape). IsDutiful h z.moment k z.step) (same_Some y x is) may.0
  dutiful_at k (y ∷ xs) may (suc place) x is = dutiful_at (known_after h y.moment k y.step) xs may.1 place x is

module _ (h : Header) (xs : List (Stamped tcp_shape)) where
  -- what is known before the step at a place
  abbrev pub known_before : (place : ℕ) → Known
  known_before place = known_after_all h (first_known h) (take place xs)

  abbrev pub flight_before : (place : ℕ) → EndpointId → Flight
  flight_before place me = flight_in (known_before place).flights me

  pub model_is : (place : ℕ) → (known_before place).model ≡ world_before h xs place
  model_is place = model_after h (first_known h) (take place xs)

  pub dutiful_there : Dutiful h (first_known h) xs → (place : ℕ) (x : Stamped tcp_shape) → slice_get xs place ≡ Some x
      → IsDutiful h x.moment (known_before place) x.step
  dutiful_there may place x is = dutiful_at h (first_known h) xs may place x is

  module _ (six : says_sender h.version ≡ true) (Q : Flight → Type 0) (me : EndpointId) where
    -- what the step at a place makes of what is kept
    abbrev pub Keeps : (place : ℕ) → Type 0
    Keeps place =
        (moment clock : ℕ) (event : Event) (before : View) → Happens (observed h xs place) me event before
        → Q (flight_after moment clock (observed h xs place) (touched me event before) (seen_before h xs (suc place) me) (flight_before place me))

    pub place_after : (place : ℕ)
        → (((event : Event) (before : View) → Happens (observed h xs place) me event before → ⊥) → Q (flight_before place me)) → Keeps place
        → Q (flight_before (suc place) me)
    place_after place old new = by (slice_get xs place) refl
      where
        by : (o : Option (Stamped tcp_shape)) → slice_get xs place ≡ o → Q (flight_before (suc place) me)
        by None is =
            let same : known_before (suc place) ≡ known_before place =
            known_next h (first_known h) xs place ∙ ap (next_known h (known_before place)) is in
            let none : (observed h xs place).touched ≡ None =
            ap (λ (o : Option (Stamped tcp_shape)). (option_map_or (λ y. observe h y.moment (world_before h xs place) y.step) o unseen).touched) is in
            subst (λ (k : Known). Q (flight_in k.flights me)) (sym same)
            (old (λ event before here. none-some (touched me event before) (sym none ∙ here)))
        by (Some x) is =
            let k : Known = known_before place in
            let next : known_before (suc place) ≡ known_after h x.moment k x.step =
            known_next h (first_known h) xs place ∙ ap (next_known h k) is in
            let shows : observed h xs place ≡ observe h x.moment k.model x.step =
            ap (λ (o : Option (Stamped tcp_shape)). option_map_or (λ y. observe h y.moment (world_before h xs place) y.step) o unseen) is
            ∙ ap (λ (w : World tcp_shape). observe h x.moment w x.step) (sym (model_is place)) in
            let world : world_before h xs (suc place) ≡ after (tcp h) x.moment k.model x.step =
            sym (model_is (suc place)) ∙ ap (λ (n : Known). n.model) next in
            subst (λ (n : Known). Q (flight_in n.flights me)) (sym next)
            (step_keeps Q h x.moment (observe h x.moment k.model x.step) (after (tcp h) x.moment k.model x.step) k.flights me six
            (λ no. old (subst (λ (s : Observation). (event : Event) (before : View) → Happens s me event before → ⊥) (sym shows) no))
            (λ event before here. subst
            (λ (w : World tcp_shape). Q (flight_after x.moment (x.moment + h.grain) (observe h x.moment k.model x.step) (touched me event before)
            (seen w me) (flight_in k.flights me))) world
            (subst
            (λ (s : Observation). (event : Event) (before : View) → Happens s me event before
            → Q (flight_after x.moment (x.moment + h.grain) s (touched me event before) (seen_before h xs (suc place) me) (flight_in k.flights me)))
            shows (new x.moment (x.moment + h.grain)) event before here)))

    -- by a step at the endpoint
    pub place_makes : (place : ℕ) (event : Event) (before : View) → Happens (observed h xs place) me event before → Keeps place
        → Q (flight_before (suc place) me)
    place_makes place event before here new = place_after place (λ none. absurd (none event before here)) new

    -- a fact stays from one place up to another if each step at the endpoint keeps it
    pub run_keeps : (from to : ℕ) → from ≤ to → Q (flight_before from me)
        → ((place : ℕ) → from ≤ place → place < to → Q (flight_before place me) → Keeps place) → Q (flight_before to me)
    run_keeps from to le old each =
        onward (λ place. Q (flight_before place me)) from to le old (λ place low high here. place_after place (λ none. here) (each place low high here))

  -- the same of facts that speak of the place: `stays`, where no step is at the endpoint
  module _ (six : says_sender h.version ≡ true) (Q : ℕ → Flight → Type 0) (me : EndpointId) where
    pub run_tells : (from to : ℕ) → from ≤ to → Q from (flight_before from me)
        → ((place : ℕ) (f : Flight) → ((event : Event) (before : View) → Happens (observed h xs place) me event before → ⊥) → Q place f → Q (suc place) f)
        → ((place : ℕ) → from ≤ place → place < to → Q place (flight_before place me) → Keeps six (Q (suc place)) me place)
        → Q to (flight_before to me)
    run_tells from to le old stays each =
        onward (λ place. Q place (flight_before place me)) from to le old
        (λ place low high here. place_after six (Q (suc place)) me place (λ none. stays place (flight_before place me) none here) (each place low high here))

    -- from the start
    pub run_shows : (place : ℕ) → Q 0 unflown
        → ((n : ℕ) (f : Flight) → ((event : Event) (before : View) → Happens (observed h xs n) me event before → ⊥) → Q n f → Q (suc n) f)
        → ((n : ℕ) → Q n (flight_before n me) → Keeps six (Q (suc n)) me n) → Q place (flight_before place me)
    run_shows place old stays each =
        run_tells 0 place (omega arith) (subst (Q 0) (sym (started me.host me.number)) old) stays (λ n low high here. each n here)
