-- Between two recorded hosts, each segment that is no reset in answer was sent by an `O` line of its sender, and what an
-- endpoint knows of its peer's first number is that number.
use Rattle.std.proofs.Common.{◌≡◌, ℕ, zero, suc, ◌-◌, ◌<◌, ◌≤◌, ◌⊎◌, inl, inr, Bool, true, false, List, [], ◌∷◌}
use Rattle.std.proofs.Common.{Option, Some, None, refl, ap, sym, subst, ◌∙◌, nat_eq, arith}
use Rattle.std.specs.Prelude.{if◌then◌else◌, ◌==◌, ◌&&◌, is_some, not, slice_get, take}
use Rattle.std.specs.Map.{lookup}
use Rattle.std.specs.Option.{option_map, option_map_or, option_or}
use Rattle.std.proofs.lemmas.Option.{none-some, same_Some}
use Rattle.seqno.specs.Numbers.{number_of}
use Rattle.seqno.specs.declared.word.Word.{Word}
use Rattle.segment.specs.Flags.{has_flag}
use Rattle.segment.specs.declared.flag.Flag.TheVariants.{Ack}
use Rattle.case_forms.specs.Versions.{is_half}
use Rattle.case_forms.specs.declared.calls.Host.{Host}
use Rattle.case_forms.specs.declared.calls.Host.TheVariants.{Zero, One}
use Rattle.case_forms.specs.declared.steps.SegmentPlan.{SegmentPlan}
use Rattle.case_forms.specs.declared.trace.Header.{Header}
use Rattle.case_forms.specs.declared.trace.Wire.{Wire}
use Rattle.verdict.specs.Rules.{first_broken}
use Rattle.verdict.specs.declared.rule.Rule.TheVariants as rules
use Rattle.verdict.proofs.RuleLemmas.{none_all}
use Rattle.streams.specs.Received.{next}
use Rattle.spec_network.specs.HostRules.{Permitted}
use Rattle.spec_network.specs.Hosts.{At, HostState, Makes, Sends, Stamped, Step, World}
use Rattle.spec_network.specs.HostSteps.{Lawful, after, host_step_after, start}
use Rattle.spec_network.specs.Tables.{Both, Made, on, other, pick, with_host}
use Rattle.spec_tcp.specs.Calls.Close.{shut_down}
use Rattle.spec_tcp.specs.HostTcp.{HostTcp, place_of, with_endpoint}
use Rattle.spec_tcp.specs.Machine as acts
use Rattle.spec_tcp.specs.Machine.{act_makes, made_at, tcp, tcp_shape}
use Rattle.spec_tcp.specs.Makes.{after_making, emission_of, endpoint_made, making_rules}
use Rattle.spec_tcp.specs.Makes.Kind.{seq_of}
use Rattle.spec_tcp.specs.Makes.Payload.{is_bad_payload}
use Rattle.spec_tcp.specs.Wire.{is_before_text, sent}
use Rattle.spec_tcp.specs.declared.endpoint.Emission.{Emission}
use Rattle.spec_tcp.specs.declared.endpoint.Endpoint.{Endpoint}
use Rattle.spec_tcp.specs.declared.endpoint.EndpointId.{EndpointId}
use Rattle.spec_tcp_laws.specs.Consequences.{HasStream, find}
use Rattle.spec_tcp_laws.proofs.Later.{GoodEmission, Hosts, name}
use Rattle.spec_tcp_laws.proofs.Rules.{both_true, is_not, not_false, true_false, zero_from}
use Rattle.spec_tcp_laws.proofs.Runs.{Fine, fine_run, fine_start, nowhere}
use Rattle.spec_tcp_laws.proofs.Sound.{modify_here}
use Rattle.spec_duties.specs.Arrivals.{acked_sent, stamps_read}
use Rattle.spec_duties.specs.Observations.{at_place, at_sender, observe, sending_of, syn_sent, unseen}
use Rattle.spec_duties.specs.Views.{unborn, view_of}
use Rattle.spec_duties.specs.declared.observations.BuiltChange.TheVariants as built_change
use Rattle.kept_flights.specs.Holding.{IsSent}
use Rattle.kept_flights.specs.Places.{observed, seen_before, world_before}
use Rattle.kept_flights.proofs.FirstNumbers.{Begins, BothFollow, Meets, Numbered, both_not, both_step, created, meets, opened, stays}
use Rattle.kept_flights.proofs.Positions.{lawful_take, permitted_at, world_next}
use Rattle.kept_flights.proofs.Tables.{Adds, Filled, filled_step}

-- ---- numbers

-- an endpoint chose the number with which its stream begins, and this is the number of position 0
abbrev pub HasIss : Hosts → EndpointId → Word → Type 0
HasIss hosts p i = (e : Endpoint) × (find hosts p ≡ Some e) × (iss : Word) × (e.iss ≡ Some iss) × (i ≡ number_of iss 0)

iss_stays : (w : World tcp_shape) (host : Host) (e f : Endpoint) (iss : Word) → Numbered w host e f → e.iss ≡ Some iss → f.iss ≡ Some iss
iss_stays w host e f iss (stays s) is = s.iss iss is
iss_stays w host e f iss (meets waits same m) is = same ∙ is

iss_later : (w : World tcp_shape) (b : Hosts) → BothFollow w b → (p : EndpointId) (i : Word) → HasIss w.hosts p i → HasIss b p i
iss_later w b follows p i x =
    let n = (follows p.host).onward p.number x.0 x.1 in
    (n.0, n.1, x.2, iss_stays w p.host x.0 n.0 x.2 n.2 x.3, x.4)

-- ---- what is true of the tables

-- a SYN has its sender's number
abbrev pub Syn : Hosts → Emission → Type 0
Syn hosts m = m.flags.syn ≡ true → HasIss hosts m.sender m.seq

abbrev pub OfMade : Hosts → Host → Emission → Type 0
OfMade hosts host m = m.is_reset_reply ≡ false → (m.sender.host ≡ host) × Syn hosts m

module _ (h : Header) (xs : List (Stamped tcp_shape)) where
  -- an `O` line before this place showed the segment, with a number of acknowledgment that its sender had reached
  pub record WasSent (place : ℕ) (m : Emission) : Type 0 where
    pub sent : ℕ
    pub earlier : sent < place
    pub wire : Wire
    pub is_sent : IsSent h xs sent m.sender wire
    pub bytes : m.bytes ≡ wire.bytes
    pub ack : m.flags.ack ≡ true → m.ack ≤ (seen_before h xs sent m.sender).rcv_nxt

  abbrev pub OfWire : Hosts → (place : ℕ) → Emission → Type 0
  OfWire hosts place m = m.is_reset_reply ≡ false → Syn hosts m × WasSent place m

  abbrev pub Tables : Hosts → Hosts → (place : ℕ) → Type 0
  Tables hosts these place = (x : Host) → Filled (OfMade hosts x) (OfWire hosts place) (pick these x)

  abbrev pub Peers : Hosts → Type 0
  Peers hosts =
      (q : EndpointId) (f : Endpoint) → find hosts q ≡ Some f → (i : Word) (p : EndpointId) → f.irs ≡ Some i → f.stream.peer ≡ Some p
      → HasIss hosts p i

  pub record Traced (hosts : Hosts) (place : ℕ) : Type 0 where
    pub tables : Tables hosts hosts place
    pub peers : Peers hosts

  -- ---- from one place to the next

  sent_later : (place : ℕ) (m : Emission) → WasSent place m → WasSent (suc place) m
  sent_later place m s =
      let less = s.earlier in
      record { sent = s.sent; earlier = omega (arith, less); wire = s.wire; is_sent = s.is_sent; bytes = s.bytes; ack = s.ack }

  tables_later : (w : World tcp_shape) (b : Hosts) (place : ℕ) → BothFollow w b → Tables w.hosts w.hosts place → Tables b w.hosts (suc place)
  tables_later w b place follows t x = record {
    made = λ n m is plain. let old = (t x).made n m is plain in (old.0, λ syn. iss_later w b follows m.emission.sender m.emission.seq (old.1 syn));
    wire = λ n m is plain. lifted m ((t x).wire n m is plain);
    inbox = λ n m is plain. lifted m ((t x).inbox n m is plain);
  }
    where
      lifted : (m : Emission) → Syn w.hosts m × WasSent place m → Syn b m × WasSent (suc place) m
      lifted m old = ((λ syn. iss_later w b follows m.sender m.seq (old.0 syn)), sent_later place m old.1)

-- ---- what a step adds

pick_here : {X : Type 0} (both : Both X) (host : Host) (x : X) → pick (with_host both host x) host ≡ x
pick_here both Zero x = refl
pick_here both One x = refl

-- the number is chosen by then
is_chosen : (old new : Option Word) (syn : Bool) → (if is_some old then is_some new else not (is_some new && syn)) ≡ false
    → (iss : Word) × (option_or old new ≡ Some iss)
is_chosen (Some word) new syn good = (word, refl)
is_chosen None (Some word) syn good = (word, refl)
is_chosen None None syn good = absurd cc

-- a SYN is at position 0
syn_first : (e : Endpoint) (m : SegmentPlan) → is_bad_payload e m ≡ false → m.flags.syn ≡ true → m.pos ≡ 0
syn_first e m good syn = by _ m.flags.syn syn good
  where
    by : (other b : Bool) → b ≡ true → (if b then not (m.pos == 0 && m.len == 0) else other) ≡ false → m.pos ≡ 0
    by other true is fine = zero_from m.pos (both_true (m.pos == 0) (m.len == 0) (not_false _ fine)).0
    by other false is fine = absurd cc

made_iss : (rst : Bool) (e : Endpoint) (m : SegmentPlan) (moment : ℕ)
    → (if rst then record (shut_down (endpoint_made e m moment)) { reset_due = false } else endpoint_made e m moment).iss ≡ option_or e.iss m.iss
made_iss true e m moment = refl
made_iss false e m moment = refl

module _ (h : Header) (moment : ℕ) (w : World tcp_shape) (host : Host) (m : SegmentPlan) where
  abbrev body : HostTcp
  body = (pick w.hosts host).body

  abbrev made_hosts : Hosts
  made_hosts = (after (tcp h) moment w (At host (Makes m))).hosts

  -- the endpoint that builds
  maker_there : (i : ℕ) (e : Endpoint) → place_of body m.lport m.rport ≡ Some i → slice_get body.endpoints i ≡ Some e
      → find made_hosts (name host i) ≡ Some (after_making e m moment)
  maker_there i e at there =
      ap (λ (k : HostState tcp_shape). slice_get k.body.endpoints i)
      (pick_here w.hosts host (host_step_after (tcp h) host moment (suc w.count) (pick w.hosts (other host)).wire (pick w.hosts host) (Makes m)))
      ∙ (ap (λ (o : Option ℕ). slice_get (option_map_or (λ j. with_endpoint body j (λ x. after_making x m moment)) o body).endpoints i) at
      ∙ modify_here (λ x. after_making x m moment) body.endpoints i e there)

  -- a SYN that it builds
  built_syn : (i : ℕ) (e : Endpoint) → place_of body m.lport m.rport ≡ Some i → slice_get body.endpoints i ≡ Some e
      → first_broken (making_rules h.version e m) ≡ None → Syn made_hosts (emission_of (name host i) e m moment)
  built_syn i e at there may syn =
      let rules = none_all (making_rules h.version e m) may in
      let iss = is_chosen e.iss m.iss m.flags.syn rules.1.1.0 in
      let first = syn_first e m rules.1.1.1.0 syn in (
        after_making e m moment,
        maker_there i e at there,
        iss.0,
        made_iss m.flags.rst e m moment ∙ iss.1,
        (λ j. seq_of (iss.1 j) (first j)),
      )

  made_fine : Permitted (tcp h) moment w (At host (Makes m)) → (x : Emission) → act_makes host moment body (acts.Makes m) ≡ Some x
      → OfMade made_hosts host x
  made_fine may x made plain = go (place_of body m.lport m.rport) refl may made
    where
      by : (i : ℕ) → place_of body m.lport m.rport ≡ Some i → (o : Option Endpoint) → slice_get body.endpoints i ≡ o
          → first_broken (option_map_or (λ e. making_rules h.version e m) o ((rules.NoEndpoint, true) ∷ [])) ≡ None
          → option_map (λ e. emission_of (name host i) e m moment) o ≡ Some x → (x.sender.host ≡ host) × Syn made_hosts x
      by i at None there may is = absurd (none-some x is)
      by i at (Some e) there may is =
          let one : emission_of (name host i) e m moment ≡ x = same_Some (emission_of (name host i) e m moment) x is in
          (ap (λ (y : Emission). y.sender.host) (sym one), subst (λ (y : Emission). Syn made_hosts y) one (built_syn i e at there may))

      go : (o : Option ℕ) → place_of body m.lport m.rport ≡ o
          → first_broken (option_map_or (λ e. making_rules h.version e m) (option_map_or (λ i. slice_get body.endpoints i) o None)
          ((rules.NoEndpoint, true) ∷ [])) ≡ None
          → option_map_or (made_at host moment body m) o None ≡ Some x → (x.sender.host ≡ host) × Syn made_hosts x
      go None at may is = absurd (none-some x is)
      go (Some i) at may is = by i at (slice_get body.endpoints i) refl may is

-- ---- along a run

module _ (h : Header) (whole : is_half h.version ≡ false) (xs : List (Stamped tcp_shape)) (lawful : Lawful (tcp h) (start (tcp h)) xs) where
  pub fine_at : (place : ℕ) → Fine h (world_before h xs place).hosts
  fine_at place = fine_run h (start (tcp h)) (take place xs) (fine_start h whole) (lawful_take h (start (tcp h)) xs lawful place)

  -- an `O` line shows its sender
  module _ (place : ℕ) (moment line number : ℕ) (wire : Wire) (host : Host) (x : Made Emission) where
    abbrev w : World tcp_shape
    w = world_before h xs place

    shows_sender : lookup (nat_eq number) (pick w.hosts host).made ≡ Some x → x.emission.is_reset_reply ≡ false
        → (e : Endpoint) → slice_get (pick w.hosts host).body.endpoints x.emission.sender.number ≡ Some e
        → (observe h moment w (At host (Sends line number wire))).touched
        ≡ Some (record { host = host; place = x.emission.sender.number; event = sending_of wire x.emission; before = view_of e })
    shows_sender waits plain e there =
        ap (λ (o : Option (Made Emission)). (on o unseen (λ m. record unseen {
          touched = at_sender host (pick w.hosts host).body wire m.emission;
          built_change = built_change.Sends number;
          syn_change = syn_sent h.version m.emission wire.bytes;
          stamps = stamps_read h.version wire.bytes;
          acked = acked_sent h.version wire m.emission;
        })).touched) waits
        ∙ ap (λ (r : Bool). if r then None else at_place host (pick w.hosts host).body (sending_of wire x.emission) x.emission.sender.number) plain
        ∙ ap (option_map (λ e. record { host = host; place = x.emission.sender.number; event = sending_of wire x.emission; before = view_of e })) there

  -- the segment that it shows was sent
  shown_sent : (place moment line number : ℕ) (wire : Wire) (host : Host) (x : Made Emission)
      → slice_get xs place ≡ Some (record { moment = moment; step = At host (Sends line number wire) })
      → lookup (nat_eq number) (pick (world_before h xs place).hosts host).made ≡ Some x → x.emission.is_reset_reply ≡ false
      → x.emission.sender.host ≡ host → WasSent h xs (suc place) (sent moment wire x.emission)
  shown_sent place moment line number wire host x step waits plain mine = record {
    sent = place;
    earlier = omega arith;
    wire = wire;
    is_sent = record {
      line = line;
      number = number;
      step = (moment, subst (λ (g : Host). slice_get xs place ≡ Some (record { moment = moment; step = At g (Sends line number wire) })) (sym mine) step);
      event = sending_of wire x.emission;
      before = view_of there.0;
      happens = shows ∙ (λ i. Some (record { host = sym mine i; place = q.number; event = sending_of wire x.emission; before = view_of there.0 }));
    };
    bytes = refl;
    ack = λ acks. reached (is_before_text wire x.emission) acks;
  }
    where
      w : World tcp_shape
      w = world_before h xs place

      q : EndpointId
      q = x.emission.sender

      good : GoodEmission w.hosts x.emission
      good = ((fine_at place).good host).tables.made number x waits

      there : HasStream w.hosts q (λ s. Unit {0})
      there = good.there

      at_host : slice_get (pick w.hosts host).body.endpoints q.number ≡ Some there.0
      at_host = subst (λ (g : Host). slice_get (pick w.hosts g).body.endpoints q.number ≡ Some there.0) mine there.1

      shows : (observed h xs place).touched
          ≡ Some (record { host = host; place = q.number; event = sending_of wire x.emission; before = view_of there.0 })
      shows =
          ap (λ (o : Option (Stamped tcp_shape)). (option_map_or (λ y. observe h y.moment w y.step) o unseen).touched) step
          ∙ shows_sender place moment line number wire host x waits plain there.0 at_host

      -- what it acknowledges
      seen : HasStream w.hosts q (λ s. x.emission.ack ≤ next s.receive) → x.emission.ack ≤ (seen_before h xs place q).rcv_nxt
      seen t = subst (λ (o : Option Endpoint). x.emission.ack ≤ (option_map_or view_of o unborn).rcv_nxt) (sym t.1) t.2

      built_ack : (r told : Bool) → r ≡ false → (if r then told else x.emission.flags.ack) ≡ true → x.emission.flags.ack ≡ true
      built_ack true told own acks = absurd cc
      built_ack false told own acks = acks

      lower : (before : Bool) → x.emission.ack ≤ (seen_before h xs place q).rcv_nxt
          → (if before then x.emission.ack - x.emission.raised else x.emission.ack) ≤ (seen_before h xs place q).rcv_nxt
      lower true most = omega (arith, most)
      lower false most = most

      reached : (before : Bool) → (if x.emission.is_reset_reply then has_flag wire.seg.flags Ack else x.emission.flags.ack) ≡ true
          → (if before then x.emission.ack - x.emission.raised else x.emission.ack) ≤ (seen_before h xs place q).rcv_nxt
      reached before acks =
          let most = seen (good.ack (built_ack x.emission.is_reset_reply (has_flag wire.seg.flags Ack) plain acks) plain).1 in
          lower before most

  -- ---- from one place to the next

  -- a SYN that is taken has its sender's number
  met_number : (w : World tcp_shape) (place : ℕ) → Fine h w.hosts → Tables h xs w.hosts w.hosts place → (host : Host) (f : Endpoint) → Meets w host f
      → (i : Word) (p : EndpointId) → f.irs ≡ Some i → f.stream.peer ≡ Some p → HasIss w.hosts p i
  met_number w place fine t host f m i p irs peer =
      let good : GoodEmission w.hosts m.segment = (fine.good host).tables.inbox m.line m.segment m.waits in
      let plain : m.segment.is_reset_reply ≡ false = is_not m.segment.is_reset_reply (λ reply. true_false (good.resets reply) m.no_reset) in
      let number : m.segment.seq ≡ i = same_Some m.segment.seq i (sym m.irs ∙ irs) in
      let sender : m.segment.sender ≡ p = same_Some m.segment.sender p (sym m.peer ∙ peer) in
      subst (λ (n : Word). HasIss w.hosts p n) number
      (subst (λ (q : EndpointId). HasIss w.hosts q m.segment.seq) sender (((t host).inbox m.line m.segment m.waits plain).0 m.syn))

  peers_next : (w : World tcp_shape) (b : Hosts) (place : ℕ) → Fine h w.hosts → BothFollow w b → Traced h xs w.hosts place → Peers h xs b
  peers_next w b place fine follows t q f at i p irs peer =
      from ((follows q.host).back q.number f at)
    where
      of_old : (e g : Endpoint) → find w.hosts q ≡ Some e → g ≡ f → Numbered w q.host e g → HasIss b p i
      of_old e g there same (stays s) =
          iss_later w b follows p i
          (t.peers q e there i p (sym s.irs ∙ ap (λ (x : Endpoint). x.irs) same ∙ irs)
          (sym s.peer ∙ ap (λ (x : Endpoint). x.stream.peer) same ∙ peer))
      of_old e g there same (meets waits iss m) =
          iss_later w b follows p i
          (met_number w place fine t.tables q.host g m i p (ap (λ (x : Endpoint). x.irs) same ∙ irs)
          (ap (λ (x : Endpoint). x.stream.peer) same ∙ peer))

      of_new : Begins w q.host f → HasIss b p i
      of_new (opened unknown alone) = absurd (none-some i (sym unknown ∙ irs))
      of_new (created m) = iss_later w b follows p i (met_number w place fine t.tables q.host f m i p irs peer)

      from : ((e : Endpoint) × (find w.hosts q ≡ Some e)) ⊎ Begins w q.host f → HasIss b p i
      from (inl old) =
          let n = (follows q.host).onward q.number old.0 old.1 in
          of_old old.0 n.0 old.1 (same_Some n.0 f (sym n.1 ∙ at)) n.2
      from (inr new) = of_new new

  abbrev TracedAt : (place : ℕ) → Type 0
  TracedAt place = Traced h xs (world_before h xs place).hosts place

  traced_next : (place : ℕ) → TracedAt place → TracedAt (suc place)
  traced_next place t = by (slice_get xs place) refl
    where
      w : World tcp_shape
      w = world_before h xs place

      step_world : Option (Stamped tcp_shape) → World tcp_shape
      step_world o = option_map_or (λ x. after (tcp h) x.moment w x.step) o w

      goes : (o : Option (Stamped tcp_shape)) → slice_get xs place ≡ o → world_before h xs (suc place) ≡ step_world o
      goes o is = world_next h (start (tcp h)) xs place ∙ ap step_world is

      adds : (x : Stamped tcp_shape) → slice_get xs place ≡ Some x → Permitted (tcp h) x.moment w x.step
          → Adds h x.moment w x.step (OfMade (after (tcp h) x.moment w x.step).hosts) (OfWire h xs (after (tcp h) x.moment w x.step).hosts (suc place))
      adds x is may = record {
        makes = λ host m e step made. subst (λ (d : Step tcp_shape). OfMade (after (tcp h) x.moment w d).hosts host e) (sym step)
            (made_fine h x.moment w host m (subst (λ (d : Step tcp_shape). Permitted (tcp h) x.moment w d) step may) e made);
        resets = λ host e plain. absurd cc;
        sends = λ host line number wire e step found fine plain. (
          (fine plain).1,
          shown_sent place x.moment line number wire host e
              (is ∙ ap (λ (d : Step tcp_shape). Some (record { moment = x.moment; step = d })) step) found plain (fine plain).0,
        );
      }

      by : (o : Option (Stamped tcp_shape)) → slice_get xs place ≡ o → TracedAt (suc place)
      by None is =
          subst (λ (v : World tcp_shape). Traced h xs v.hosts (suc place)) (sym (goes None is))
          (record { tables = tables_later h xs w w.hosts place (both_not w) t.tables; peers = t.peers })
      by (Some x) is =
          let may : Permitted (tcp h) x.moment w x.step = permitted_at h (start (tcp h)) xs lawful place x is in
          let b : Hosts = (after (tcp h) x.moment w x.step).hosts in
          let follows : BothFollow w b = both_step h x.moment w x.step may in
          subst (λ (v : World tcp_shape). Traced h xs v.hosts (suc place)) (sym (goes (Some x) is))
          (record {
            tables = filled_step h whole x.moment w (OfMade b) (OfWire h xs b (suc place)) x.step may (tables_later h xs w b place follows t.tables)
                (adds x is may);
            peers = peers_next w b place (fine_at place) follows t;
          })

  traced_first : TracedAt 0
  traced_first = by xs
    where
      empty : Traced h xs (start (tcp h)).hosts 0
      empty = record { tables = tables; peers = λ q f at. absurd (nowhere h q.host q.number f at) }
        where
          tables : Tables h xs (start (tcp h)).hosts (start (tcp h)).hosts 0
          tables Zero = record {
            made = λ n m is. absurd (none-some m is);
            wire = λ n m is. absurd (none-some m is);
            inbox = λ n m is. absurd (none-some m is);
          }
          tables One = record {
            made = λ n m is. absurd (none-some m is);
            wire = λ n m is. absurd (none-some m is);
            inbox = λ n m is. absurd (none-some m is);
          }

      by : (ys : List (Stamped tcp_shape)) → Traced h xs (world_before h ys 0).hosts 0
      by [] = empty
      by (y ∷ ys) = empty

  pub traced : (place : ℕ) → TracedAt place
  traced zero = traced_first
  traced (suc place) = traced_next place (traced place)
