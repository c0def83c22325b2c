-- A segment that an endpoint built by an `M` step is sent by the same endpoint.
use Rattle.std.proofs.Common.{◌≡◌, ℕ, suc, ◌<◌, ◌≤◌, ◌⊎◌, inl, inr, length, Option, Some, None, refl, ap, sym, subst, ◌∙◌, arith}
use Rattle.std.specs.Option.{option_map, option_map_or}
use Rattle.std.proofs.lemmas.Option.{same_Some}
use Rattle.case_forms.specs.declared.calls.Answer.TheVariants as answers
use Rattle.case_forms.specs.declared.steps.SegmentPlan.{SegmentPlan}
use Rattle.case_forms.specs.declared.steps.Witness.{Witness}
use Rattle.case_forms.specs.declared.trace.Trace.{Trace}
use Rattle.case_forms.specs.declared.trace.Wire.{Wire}
use Rattle.interval_order.specs.Placed.{Placed}
use Rattle.spec_network.specs.Hosts.{At, Effect, Makes, Stamped, Takes, World}
use Rattle.spec_network.specs.Tables.{pick}
use Rattle.spec_tcp.specs.Endpoints.{segment_length}
use Rattle.spec_tcp.specs.HostTcp.{place_of}
use Rattle.spec_tcp.specs.Machine.{made_at, tcp_shape}
use Rattle.spec_tcp.specs.Makes.{emission_of}
use Rattle.spec_tcp.specs.Wire.{is_before_text}
use Rattle.spec_tcp.specs.declared.endpoint.Emission.{Emission}
use Rattle.spec_tcp.specs.declared.endpoint.Endpoint.{Endpoint}
use Rattle.spec_tcp.specs.declared.endpoint.EndpointId.{EndpointId}
use Rattle.spec_tcp_laws.specs.Consequences.{find}
use Rattle.spec_tcp_laws.proofs.Runs.{later_step}
use Rattle.spec_duties.specs.Observations.{at_sender, observe}
use Rattle.spec_duties.specs.declared.events.Event.TheVariants.{Builds, Sends}
use Rattle.spec_duties.specs.declared.events.Sending.{Sending}
use Rattle.checker.specs.Seen.{moves}
use Rattle.kept_duties.specs.Happens.{act_at, known_before}
use Rattle.kept_duties.proofs.Built.{Sent, WasBuilt, same_place, sent_was_built}
use Rattle.kept_duties.proofs.Counts.{sender_shows, sending_shows}
use Rattle.kept_duties.proofs.Observations.{builds, made_by, sends}
use Rattle.kept_duties.proofs.Runs.{Run, run_keeps}
use Rattle.kept_duties.proofs.Segments.{within}
use Rattle.kept_duties.proofs.Since.{steady_at}
use Rattle.kept_duties.proofs.Touched.{AsBefore, AsShown, Child, Opened, as_before, touched}

module _ (t : Trace) (w : Witness) (slack : ℕ) (r : Run t.header slack (length w.steps) (act_at t w) (known_before t w))
    (placed : Placed t.header t.lines (moves w.steps)) (me : EndpointId) where
  -- the act at this place builds a segment at the endpoint
  pub record Building (place : ℕ) : Type 0 where
    pub act : Stamped tcp_shape
    pub plan : SegmentPlan
    pub endpoint : Endpoint
    pub is : act_at t w place ≡ Some act
    pub shows : (observe t.header act.moment (known_before t w place).model act.step).touched ≡ Some (touched (known_before t w place).model me (Builds plan))
    pub step : act.step ≡ At me.host (Makes plan)
    pub ports : place_of (pick (known_before t w place).model.hosts me.host).body plan.lport plan.rport ≡ Some me.number
    pub there : find (known_before t w place).model.hosts me ≡ Some endpoint

  pub building_of : (place : ℕ) (x : Stamped tcp_shape) → act_at t w place ≡ Some x → (m : SegmentPlan)
      → (observe t.header x.moment (known_before t w place).model x.step).touched ≡ Some (touched (known_before t w place).model me (Builds m))
      → Building place
  building_of place x at m shows =
      with_shown (subst (AsBefore (known_before t w place).model x.step) shows (as_before t.header x.moment (known_before t w place).model x.step))
    where
      with_shown : AsShown (known_before t w place).model x.step (touched (known_before t w place).model me (Builds m)) → Building place
      with_shown found = there found.there
        where
          there : ((e : Endpoint) × (find (known_before t w place).model.hosts me ≡ Some e))
              ⊎ Opened (known_before t w place).model x.step (touched (known_before t w place).model me (Builds m))
              ⊎ Child (known_before t w place).model x.step (touched (known_before t w place).model me (Builds m)) → Building place
          there (inl e) = record {
            act = x;
            plan = m;
            endpoint = e.0;
            is = at;
            shows = shows;
            step = found.does;
            ports = found.built m refl;
            there = e.1;
          }
          there (inr (inl o)) =
              let b = found.does in
              absurd (let clash : At me.host (Makes m) ≡ Effect o.thread (answers.Given o.socket) = sym b ∙ o.is in cc clash)
          there (inr (inr c)) =
              let b = found.does in
              absurd (let clash : At me.host (Makes m) ≡ At me.host (Takes c.line c.how) = sym b ∙ c.is in cc clash)

  -- an endpoint stays
  pub stays_there : (e : Endpoint) (i j : ℕ) → i ≤ j → j ≤ length w.steps → find (known_before t w i).model.hosts me ≡ Some e
      → (f : Endpoint) × (find (known_before t w j).model.hosts me ≡ Some f)
  stays_there e i j le high there =
      run_keeps t.header slack (length w.steps) (act_at t w) (known_before t w) r (λ j k. (f : Endpoint) × (find k.model.hosts me ≡ Some f))
      (λ j k p. p) i j le high
      (e, there) (λ q x low less is goes f.
      let g = later_step t.header x.moment (known_before t w q).model x.step
      (steady_at t w slack r placed q (omega (arith, less, high))) goes.permitted me f.0 f.1 in
      (g.0, ap (λ (v : World tcp_shape). find v.hosts me) goes.model ∙ g.1))

  -- how a line shows that a segment is sent
  abbrev pub shown_as : Wire → Emission → Sending
  shown_as wire m = record { flags = m.flags; pos = m.pos; length = segment_length m; before_text = is_before_text wire m }

  -- the act that sends it touches the endpoint
  pub sender_touched : (place : ℕ) (b : Building place) (j : ℕ) (y : Stamped tcp_shape) → place < j → act_at t w j ≡ Some y
      → sends y.step ≡ Some (me.host, suc (known_before t w place).model.count)
      → (s : Sending) × ((observe t.header y.moment (known_before t w j).model y.step).touched ≡ Some (touched (known_before t w j).model me (Sends s)))
  sender_touched place b j y below at sending = (
    shown_as shown.0 sent.made.emission,
    shown.1
        ∙ sender_shows (known_before t w j).model me shown.0 sent.made.emission f.0 (ap (λ (e : Emission). e.is_reset_reply) built)
        (ap (λ (e : Emission). e.sender.number) built) f.1,
  )
    where
      low : j < length w.steps
      low = within t w j y at

      sent : Sent t.header slack (length w.steps) (act_at t w) (known_before t w) r j y me.host (suc (known_before t w place).model.count)
      sent = sent_was_built t.header slack (length w.steps) (act_at t w) (known_before t w) r j y me.host (suc (known_before t w place).model.count)
          (within t w j y at) at sending

      shown : (wire : Wire) × ((observe t.header y.moment (known_before t w j).model y.step).touched
          ≡ at_sender me.host (pick (known_before t w j).model.hosts me.host).body wire sent.made.emission)
      shown = sending_shows t.header y.moment (known_before t w j).model y.step me.host (suc (known_before t w place).model.count) sent.made sending sent.there

      here_built : WasBuilt t.header slack (length w.steps) (act_at t w) (known_before t w) r j me.host (suc (known_before t w place).model.count)
      here_built = record { place = place; act = b.act; low = below; is = b.is; builds = ap builds b.step; count = refl }

      same : sent.was.place ≡ place
      same = same_place t.header slack (length w.steps) (act_at t w) (known_before t w) r j me.host me.host (suc (known_before t w place).model.count)
          (let top = low in omega (arith, top)) sent.was here_built

      act_same : sent.was.act ≡ b.act
      act_same = same_Some sent.was.act b.act (sym sent.was.is ∙ ap (act_at t w) same ∙ b.is)

      is_built : Some sent.made.emission ≡ Some (emission_of (record { host = me.host; number = me.number }) b.endpoint b.plan b.act.moment)
      is_built =
          let k = known_before t w place in
          let body = (pick k.model.hosts me.host).body in
          let content = subst (λ (q : ℕ). made_by b.act.moment (known_before t w q).model b.act.step ≡ Some sent.made.emission) same
          (subst (λ (x : Stamped tcp_shape). made_by x.moment (known_before t w sent.was.place).model x.step ≡ Some sent.made.emission)
          act_same sent.content) in
          sym content
          ∙ ap (made_by b.act.moment k.model) b.step
          ∙ ap (λ (o : Option ℕ). option_map_or (made_at me.host b.act.moment body b.plan) o None) b.ports
          ∙ ap (option_map (λ (e : Endpoint). emission_of (record { host = me.host; number = me.number }) e b.plan b.act.moment)) b.there

      built : sent.made.emission ≡ emission_of (record { host = me.host; number = me.number }) b.endpoint b.plan b.act.moment
      built = same_Some sent.made.emission (emission_of (record { host = me.host; number = me.number }) b.endpoint b.plan b.act.moment) is_built

      f : (f : Endpoint) × (find (known_before t w j).model.hosts me ≡ Some f)
      f = stays_there b.endpoint place j (omega (arith, below)) (let top = low in omega (arith, top)) b.there
