-- Through a run, an endpoint's positions never fall, and it never returns to SYN-SENT.
use Rattle.std.proofs.Common.{◌≡◌, ℕ, zero, suc, ◌≤◌, inl, inr, Bool, true, false, List, [], ◌∷◌, Option, Some, None, refl, ap, sym, subst, ◌∙◌, arith}
use Rattle.std.specs.Prelude.{slice_get, take}
use Rattle.std.specs.Option.{option_map_or}
use Rattle.std.proofs.lemmas.Option.{none-some, same_Some}
use Rattle.case_forms.specs.States.{is_syn_sent}
use Rattle.case_forms.specs.declared.calls.State.{State}
use Rattle.case_forms.specs.declared.calls.State.TheVariants as states
use Rattle.case_forms.specs.declared.trace.Header.{Header}
use Rattle.spec_network.specs.HostRules.{Permitted}
use Rattle.spec_network.specs.Hosts.{Stamped, Step, World}
use Rattle.spec_network.specs.HostSteps.{Lawful, after, after_all, start}
use Rattle.spec_tcp.specs.Endpoints.{rcv_nxt, snd_max}
use Rattle.spec_tcp.specs.Machine.{tcp, tcp_shape}
use Rattle.spec_tcp.specs.declared.endpoint.Endpoint.{Endpoint}
use Rattle.spec_tcp.specs.declared.endpoint.EndpointId.{EndpointId}
use Rattle.spec_tcp_laws.specs.Consequences.{find}
use Rattle.spec_tcp_laws.specs.Transitions.{ByAbort, ByClose, ByListener, ByOwnReset, ByReset, BySegment, ByTimer, MayLead, Stays, StaysOr}
use Rattle.spec_tcp_laws.specs.Transitions.{close_leads, fin_leads, segment_leads}
use Rattle.spec_tcp_laws.proofs.Transitions.{none_falls, states_lead}
use Rattle.spec_duties.specs.Views.{unborn, view_of}
use Rattle.kept_flights.specs.Places.{seen_before, world_before}
use Rattle.kept_flights.proofs.Runs.{onward}

-- ---- no step leads to SYN-SENT

abbrev pub Answered : State → Type 0
Answered s = is_syn_sent s ≡ false

close_answers : (s t : State) → close_leads s t ≡ true → Answered t
close_answers states.SynSent states.Closed is = refl
close_answers states.Established states.FinWait1 is = refl
close_answers states.CloseWait states.LastAck is = refl
close_answers s t is = absurd cc

segment_answers : (s t : State) → segment_leads s t ≡ true → Answered t
segment_answers states.SynSent states.SynReceived is = refl
segment_answers states.SynSent states.Established is = refl
segment_answers states.SynReceived states.Established is = refl
segment_answers states.SynReceived states.FinWait1 is = refl
segment_answers states.FinWait1 states.FinWait2 is = refl
segment_answers states.Closing states.TimeWait is = refl
segment_answers states.LastAck states.Closed is = refl
segment_answers s t is = absurd cc

fin_answers : (s t : State) → fin_leads s t ≡ true → Answered t
fin_answers states.Established states.CloseWait is = refl
fin_answers states.FinWait1 states.Closing is = refl
fin_answers states.FinWait2 states.TimeWait is = refl
fin_answers s t is = absurd cc

stays_answered : (leads : State → State → Bool) → ((s t : State) → leads s t ≡ true → Answered t) → (s t : State) → StaysOr leads s t → Answered s
    → Answered t
stays_answered leads answers s t (inl same) was = ap is_syn_sent same ∙ was
stays_answered leads answers s t (inr is) was = answers s t is

lead_answered : (w : World tcp_shape) (step : Step tcp_shape) (me : EndpointId) (e : Endpoint) (t : State) → MayLead w step me e t → Answered e.state
    → Answered t
lead_answered w step me e t (Stays same) was = ap is_syn_sent same ∙ was
lead_answered w step me e t (ByClose c is) was = close_answers e.state t is
lead_answered w step me e t (ByAbort c is) was = ap is_syn_sent is
lead_answered w step me e t (ByListener l of' c is) was = ap is_syn_sent is
lead_answered w step me e t (BySegment m between there plain one two) was =
    stays_answered fin_leads fin_answers between t two (stays_answered segment_leads segment_answers e.state between one was)
lead_answered w step me e t (ByReset m there plain is) was = ap is_syn_sent is
lead_answered w step me e t (ByOwnReset c is) was = ap is_syn_sent is
lead_answered w step me e t (ByTimer c is) was = ap is_syn_sent is

-- ---- a run

module _ (h : Header) where
  pub lawful_take : (w : World tcp_shape) (xs : List (Stamped tcp_shape)) → Lawful (tcp h) w xs → (n : ℕ) → Lawful (tcp h) w (take n xs)
  lawful_take w [] may zero = tt
  lawful_take w [] may (suc n) = tt
  lawful_take w (x ∷ xs) may zero = tt
  lawful_take w (x ∷ xs) may (suc n) = (may.0, lawful_take (after (tcp h) x.moment w x.step) xs may.1 n)

  pub permitted_at : (w : World tcp_shape) (xs : List (Stamped tcp_shape)) → Lawful (tcp h) w xs → (place : ℕ) (x : Stamped tcp_shape)
      → slice_get xs place ≡ Some x → Permitted (tcp h) x.moment (after_all (tcp h) w (take place xs)) x.step
  permitted_at w [] may place x is = absurd (none-some x is)
  permitted_at w (y ∷ xs) may zero x is = subst (λ (z : Stamped tcp_shape). Permitted (tcp h) z.moment w z.step) (same_Some y x is) may.0
  permitted_at w (y ∷ xs) may (suc place) x is = permitted_at (after (tcp h) y.moment w y.step) xs may.1 place x is

  abbrev next_world : World tcp_shape → Option (Stamped tcp_shape) → World tcp_shape
  next_world w act = option_map_or (λ x. after (tcp h) x.moment w x.step) act w

  pub world_next : (w : World tcp_shape) (xs : List (Stamped tcp_shape)) (place : ℕ)
      → after_all (tcp h) w (take (suc place) xs) ≡ next_world (after_all (tcp h) w (take place xs)) (slice_get xs place)
  world_next w [] zero = refl
  world_next w [] (suc place) = refl
  world_next w (x ∷ xs) zero = refl
  world_next w (x ∷ xs) (suc place) = world_next (after (tcp h) x.moment w x.step) xs place

-- what an endpoint may have become by a place
pub record Became (h : Header) (xs : List (Stamped tcp_shape)) (e : Endpoint) (place : ℕ) (me : EndpointId) : Type 0 where
  pub now : Endpoint
  pub there : find (world_before h xs place).hosts me ≡ Some now
  pub una : e.stream.snd_una ≤ now.stream.snd_una
  pub made : snd_max e ≤ snd_max now
  pub next : rcv_nxt e ≤ rcv_nxt now
  pub answered : Answered e.state → Answered now.state

module _ (h : Header) (xs : List (Stamped tcp_shape)) (lawful : Lawful (tcp h) (start (tcp h)) xs) (me : EndpointId) where
  next : (e : Endpoint) (place : ℕ) → Became h xs e place me → Became h xs e (suc place) me
  next e place b = by (slice_get xs place) refl
    where
      w : World tcp_shape
      w = world_before h xs place

      by : (o : Option (Stamped tcp_shape)) → slice_get xs place ≡ o → Became h xs e (suc place) me
      by None is =
          let same : world_before h xs (suc place) ≡ w = world_next h (start (tcp h)) xs place ∙ ap (next_world h w) is in
          record {
            now = b.now;
            there = ap (λ (v : World tcp_shape). find v.hosts me) same ∙ b.there;
            una = b.una;
            made = b.made;
            next = b.next;
            answered = b.answered;
          }
      by (Some x) is =
          let goes : world_before h xs (suc place) ≡ after (tcp h) x.moment w x.step = world_next h (start (tcp h)) xs place ∙ ap (next_world h w) is in
          let up =
          none_falls h (take place xs) x (lawful_take h (start (tcp h)) xs lawful place) (permitted_at h (start (tcp h)) xs lawful place x is) me b.now
          b.there in
          let leads = (states_lead h x.moment w x.step).leads me b.now b.there in
          let one : leads.0 ≡ up.0 = same_Some leads.0 up.0 (sym leads.1 ∙ up.1) in
          let una = up.2.snd_una in
          let made = up.2.made in
          let rcv = up.2.rcv_nxt in
          let una_before = b.una in
          let rcv_before = b.next in
          let made_before = b.made in
          record {
            now = up.0;
            there = ap (λ (v : World tcp_shape). find v.hosts me) goes ∙ up.1;
            una = omega (arith, una, una_before);
            made = omega (arith, made, made_before);
            next = omega (arith, rcv, rcv_before);
            answered = λ was. subst (λ (f : Endpoint). Answered f.state) one (lead_answered w x.step me b.now leads.0.state leads.2 (b.answered was));
          }

  pub becomes : (from to : ℕ) → from ≤ to → (e : Endpoint) → find (world_before h xs from).hosts me ≡ Some e → Became h xs e to me
  becomes from to le e there =
      onward (λ place. Became h xs e place me) from to le
      (record { now = e; there = there; una = omega arith; made = omega arith; next = omega arith; answered = λ was. was })
      (λ place low high b. next e place b)

  -- so the oldest unacknowledged position never falls
  pub una_rises : (from to : ℕ) → from ≤ to → (seen_before h xs from me).snd_una ≤ (seen_before h xs to me).snd_una
  una_rises from to le = by (find (world_before h xs from).hosts me) refl
    where
      by : (o : Option Endpoint) → find (world_before h xs from).hosts me ≡ o
          → (option_map_or view_of o unborn).snd_una ≤ (seen_before h xs to me).snd_una
      by None is = omega arith
      by (Some e) is =
          let b = becomes from to le e is in
          subst (λ (o : Option Endpoint). e.stream.snd_una ≤ (option_map_or view_of o unborn).snd_una) (sym b.there) b.una

  -- nor does the position after all that was sent
  pub made_rises : (from to : ℕ) → from ≤ to → (seen_before h xs from me).snd_max ≤ (seen_before h xs to me).snd_max
  made_rises from to le = by (find (world_before h xs from).hosts me) refl
    where
      by : (o : Option Endpoint) → find (world_before h xs from).hosts me ≡ o
          → (option_map_or view_of o unborn).snd_max ≤ (seen_before h xs to me).snd_max
      by None is = omega arith
      by (Some e) is =
          let b = becomes from to le e is in
          subst (λ (o : Option Endpoint). snd_max e ≤ (option_map_or view_of o unborn).snd_max) (sym b.there) b.made
