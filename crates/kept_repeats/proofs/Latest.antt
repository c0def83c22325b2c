-- Along a run: with which step each outstanding position was built last, and by which the latest segment was delivered.
use Rattle.std.proofs.Common.{◌≡◌, ℕ, suc, ◌+◌, ◌<◌, ◌≤◌, ◌⊎◌, inl, inr, min, Bool, true, false, List, length, Option, Some, refl, ap, sym}
use Rattle.std.proofs.Common.{subst, ◌∙◌, arith}
use Rattle.std.specs.Prelude.{◌&&◌, ◌||◌, if◌then◌else◌, nat_le, nat_lt, slice_get}
use Rattle.std.specs.FinSet.{from_list}
use Rattle.std.proofs.lemmas.Bool.Decides.{nat_tests}
use Rattle.std.proofs.lemmas.Option.{none-some, slice_get_within}
use Rattle.case_forms.specs.States.{is_syn_sent}
use Rattle.case_forms.specs.Versions.{says_sender}
use Rattle.case_forms.specs.declared.steps.SegmentPlan.{SegmentPlan}
use Rattle.case_forms.specs.declared.timer.RecoveryChange.TheVariants.{Begins, IsUndone}
use Rattle.case_forms.specs.declared.timer.Timer.TheVariants.{Persist, Rto}
use Rattle.case_forms.specs.declared.trace.Header.{Header}
use Rattle.streams.specs.Pieces.{acknowledged, known_from}
use Rattle.streams.specs.declared.outstanding.Outstanding.{Outstanding}
use Rattle.spec_network.specs.Hosts.{Stamped}
use Rattle.spec_network.specs.HostSteps.{Lawful, start}
use Rattle.spec_tcp.specs.Machine.{tcp, tcp_shape}
use Rattle.spec_tcp.specs.Makes.Payload.{making_length}
use Rattle.spec_tcp.specs.declared.endpoint.EndpointId.{EndpointId}
use Rattle.spec_duties.specs.Strict.{is_fin_alone}
use Rattle.spec_duties.specs.declared.events.Event.{Event}
use Rattle.spec_duties.specs.declared.events.Event.TheVariants.{Builds, Expires, Processes, Recovers}
use Rattle.spec_duties.specs.declared.views.View.{View}
use Rattle.spec_flights.specs.Delivered.{delivered, heard, latest_after, least_after, read_reports, within}
use Rattle.spec_flights.specs.Flights.{board_after, board_heard, board_opened}
use Rattle.spec_flights.specs.Late.{reordering_time, settled, three_are_told}
use Rattle.spec_flights.specs.Marks.{opens_probed}
use Rattle.spec_flights.specs.Recovering.{is_recovering}
use Rattle.spec_flights.specs.Scoreboard.{Scoreboard, in_flight, number_built, stretch_built, with_built, with_given_up}
use Rattle.spec_flights.specs.Sides.{sides_after}
use Rattle.spec_flights.specs.Stretches.{no_positions}
use Rattle.spec_flights.specs.declared.making.Latest.{Latest}
use Rattle.spec_flights.specs.declared.reports.Reports.{Reports}
use Rattle.spec_flights.specs.declared.sides.Sides.{Sides}
use Rattle.spec_flights.specs.declared.stretch.Stretch.{Stretch}
use Rattle.scoreboard.proofs.DeliveredLemmas.{latest_parts}
use Rattle.kept_flights.specs.Places.{Happens, observed, seen_before, world_before}
use Rattle.kept_flights.specs.Reported.{Holds, IsBuilt, reports}
use Rattle.kept_flights.proofs.Always.{whole}
use Rattle.kept_flights.proofs.Building.{building}
use Rattle.kept_flights.proofs.Numbers.{IsNew, IsOld, IsWhole, built_board, covered_some, has_number, made_is, whole_from}
use Rattle.kept_flights.proofs.Runs.{flight_before, one_event, run_shows}
use Rattle.kept_flights.proofs.Shows.{built_at}
use Rattle.kept_repeats.specs.Deliveries.{BuildsAt, DeliversAt, IsLast}
use Rattle.kept_repeats.proofs.Heard.{Numbers, in_numbers, lost_below_top, top, top_rises}
use Rattle.kept_repeats.proofs.ReadBlocks.{first_read, fourth_read, second_read, third_read}
use Rattle.kept_repeats.proofs.Placing.{built_with, is_built, is_building, last_later, never_next, not_built, same_plan}

module _ (h : Header) (xs : List (Stamped tcp_shape)) (me : EndpointId) (six : says_sender h.version ≡ true) where
  -- before a place, a segment of this number was the last one with a position
  pub record IsMade (place q number : ℕ) : Type 0 where
    pub built : ℕ
    pub last : IsLast h xs me q built place
    pub number_is : number ≡ suc (world_before h xs built).count

  -- before a place, something of the segment of this number was delivered
  pub record IsHeard (place number : ℕ) : Type 0 where
    pub position : ℕ
    pub delivered_at : ℕ
    pub earlier : delivered_at < place
    pub made : IsMade delivered_at position number
    pub delivers : DeliversAt h xs me position delivered_at

  pub record IsTraced (place : ℕ) (known : List (Option Outstanding)) (latest : Option Latest) (lost : ℕ) : Type 0 where
    pub made : (q : ℕ) (x : Outstanding) → slice_get known q ≡ Some (Some x) → IsMade place q x.number
    pub heard_of : (l : Latest) → latest ≡ Some l → IsHeard place l.number
    pub low : lost ≤ top latest

  abbrev pub Traced : (place : ℕ) → Scoreboard → Type 0
  Traced place b = IsTraced place b.known b.latest b.lost

  heard_later : (place number : ℕ) → IsHeard place number → IsHeard (suc place) number
  heard_later place number i =
      let less = i.earlier in
      record { position = i.position; delivered_at = i.delivered_at; earlier = omega (arith, less); made = i.made; delivers = i.delivers }

  made_later : (place q number : ℕ) → (BuildsAt h xs me q place → ⊥) → IsMade place q number → IsMade (suc place) q number
  made_later place q number none i = record { built = i.built; last = last_later h xs me q i.built place none i.last; number_is = i.number_is }

  traced_later : (place : ℕ) (b : Scoreboard) → ((q : ℕ) → BuildsAt h xs me q place → ⊥) → Traced place b → Traced (suc place) b
  traced_later place b none t = record {
    made = λ q x is. made_later place q x.number (none q) (t.made q x is);
    heard_of = λ l is. heard_later place l.number (t.heard_of l is);
    low = t.low;
  }

  -- what settles is lost by the latest segment
  settled_traced : (recovers : Bool) (clock place : ℕ) (b : Scoreboard) → Traced place b → Traced place (settled recovers clock b)
  settled_traced recovers clock place b t = record {
    made = t.made;
    heard_of = t.heard_of;
    low = lost_below_top (recovers || three_are_told b) clock (reordering_time b) b.latest b.lost b.built t.low;
  }

  either_traced : (place : ℕ) (c : Bool) (x y : Scoreboard) → Traced place x → Traced place y → Traced place (if c then x else y)
  either_traced place true x y here there = here
  either_traced place false x y here there = there

  -- ---- a segment is processed

  module _ (n length : ℕ) (before : View) (here : Happens (observed h xs n) me (Processes length false) before) where
    abbrev after : View
    after = seen_before h xs (suc n) me

    -- what is delivered now
    module _ (b : Scoreboard) (t : Traced n b) where
      now : (q : ℕ) (y : Outstanding) → DeliversAt h xs me q n → slice_get b.known q ≡ Some (Some y) → IsHeard (suc n) y.number
      now q y delivers is = record { position = q; delivered_at = n; earlier = omega arith; made = t.made q y is; delivers = delivers }

      acknowledged_now : (q : ℕ) → before.snd_una ≤ q → q < after.snd_una → DeliversAt h xs me q n
      acknowledged_now q low high = inl (length, before, here, low, high)

      reported_now : (q : ℕ) → reports (observed h xs n).blocks q ≡ true → DeliversAt h xs me q n
      reported_now q is = inr (length, before, here, is)

      module _ (sides : Sides) where
        abbrev r : Reports
        r = read_reports sides (observed h xs n).blocks

        heard_traced : (moment : ℕ) → Traced (suc n) (heard moment before.snd_una after.snd_una r b)
        heard_traced moment = record {
          made = λ q x is.
              made_later n q x.number (not_built h xs me n q (Processes length false) before here refl)
              (t.made q x (covered_some after.snd_una b.known q x is));
          heard_of =
              subst (λ (o : Option Latest). Numbers moment least P o)
              (sym (latest_parts moment least b.latest (in_flight before.snd_una after.snd_una b) (within r.first b) (within r.second b) (within r.third b)
              (within r.fourth b)))
              (more r.fourth (λ q low high. reported_now q (fourth_read sides (observed h xs n).blocks q (low, high))) _
              (more r.third (λ q low high. reported_now q (third_read sides (observed h xs n).blocks q (low, high))) _
              (more r.second (λ q low high. reported_now q (second_read sides (observed h xs n).blocks q (low, high))) _
              (more r.first (λ q low high. reported_now q (first_read sides (observed h xs n).blocks q (low, high))) _
              (more (record { from = before.snd_una; upto = after.snd_una }) acknowledged_now b.latest
              (λ l is. heard_later n l.number (t.heard_of l is)))))));
          low =
              let low = t.low in
              let rise = top_rises moment least b.latest (delivered before.snd_una after.snd_una r b) in
              omega (arith, low, rise);
        }
          where
            least : Option ℕ
            least = least_after moment b.least (delivered before.snd_una after.snd_una r b)

            P : ℕ → Type 0
            P number = IsHeard (suc n) number

            more : (s : Stretch) → ((q : ℕ) → s.from ≤ q → q < s.upto → DeliversAt h xs me q n) → (latest : Option Latest)
                → Numbers moment least P latest → Numbers moment least P (latest_after moment least latest (within s b))
            more s delivers latest old =
                in_numbers moment least P b.known (from_list b.told) s.from s.upto latest (λ q y low high is. now q y (delivers q low high) is) old

  -- ---- a step

  module _ (lawful : Lawful (tcp h) (start (tcp h)) xs) (n : ℕ) (moment clock : ℕ) (recovers : Bool) (event : Event) (before : View)
      (here : Happens (observed h xs n) me event before) (sides : Sides) (b : Scoreboard)
      (known_whole : IsWhole (seen_before h xs n me).snd_una b) (t : Traced n b) where
    abbrev next : View
    next = seen_before h xs (suc n) me

    abbrev number : ℕ
    number = number_built (observed h xs n).built_change

    there : (other : Event) → event ≡ other → Happens (observed h xs n) me other before
    there other is = subst (λ (e : Event). Happens (observed h xs n) me e before) is here

    idle : is_building event ≡ false → (q : ℕ) → BuildsAt h xs me q n → ⊥
    idle other q = not_built h xs me n q event before here other

    -- a reset, and a segment that comes before the endpoint is open, show nothing
    forgets : (length : ℕ) (rst : Bool) → event ≡ Processes length rst → Traced (suc n) (record b { known = known_from next.snd_una b.known })
    forgets length rst is = record {
      made = λ q x known.
          made_later n q x.number (idle (ap is_building is) q) (t.made q x (covered_some next.snd_una b.known q x known));
      heard_of = λ l known. heard_later n l.number (t.heard_of l known);
      low = t.low;
    }

    processes : (length : ℕ) (rst : Bool) → event ≡ Processes length rst
        → Traced (suc n) (board_heard moment clock recovers rst before next (read_reports sides (observed h xs n).blocks) b)
    processes length true is = forgets length true is
    processes length false is =
        either_traced (suc n) (is_syn_sent before.state) (record b { known = known_from next.snd_una b.known })
        (heard moment before.snd_una next.snd_una (read_reports sides (observed h xs n).blocks) (settled recovers clock b)) (forgets length false is)
        (heard_traced n length before (there (Processes length false) is) (settled recovers clock b) (settled_traced recovers clock n b t) sides moment)

    opened : (c : Scoreboard) → Traced (suc n) c → Traced (suc n) (board_opened before next c)
    opened c old = either_traced (suc n) (opens_probed before next) (with_given_up c) c old old

    -- a FIN alone changes nothing
    alone : (m : SegmentPlan) → event ≡ Builds m → is_fin_alone m before ≡ true → (q : ℕ) → BuildsAt h xs me q n → ⊥
    alone m is fin q built =
        let same = one_event (observed h xs n) me (Builds built.0) (Builds m) built.1.before before built.1.happens (there (Builds m) is) in
        let bad : true ≡ false = sym fin ∙ subst (λ (v : View). is_fin_alone m v ≡ false) same.1
        (subst (λ (x : SegmentPlan). is_fin_alone x built.1.before ≡ false) (same_plan built.0 m same.0) built.1.no_fin_alone) in
        cc

    module _ (m : SegmentPlan) (is : event ≡ Builds m) (no_fin : is_fin_alone m before ≡ false) where
      abbrev s : Stretch
      s = record { from = m.pos; upto = min (m.pos + making_length m) next.snd_max }

      abbrev c : Scoreboard
      c = settled recovers clock b

      u : Traced n c
      u = settled_traced recovers clock n b t

      builds : IsBuilt h xs n me m
      builds = is_built h xs me n m before (there (Builds m) is) no_fin

      held_within : (q : ℕ) → Holds m q → q < s.upto
      held_within q held =
          let low = held.0 in
          let high = held.1 in
          let sent = (building h xs lawful six n me m builds (omega (arith, low, high))).sent in
          omega (arith, high, sent)

      -- what isn't built with it was built before
      older : (q : ℕ) (x : Outstanding) → (Holds m q → ⊥) → slice_get c.known q ≡ Some (Some x) → IsMade (suc n) q x.number
      older q x out known =
          made_later n q x.number (λ built. out (built_with h xs me n q m before (there (Builds m) is) built)) (u.made q x known)

      some : (nat_lt s.from s.upto && nat_le (acknowledged c.known) s.from && nat_le s.from (length c.known)) ≡ true → s.from < s.upto
      some all = grind (arith, nat_tests, all)

      adjoins : (nat_lt s.from s.upto && nat_le (acknowledged c.known) s.from && nat_le s.from (length c.known)) ≡ true → s.from ≤ length c.known
      adjoins all = grind (arith, nat_tests, all)

      less_test : (a b : ℕ) → a < b → nat_lt a b ≡ true
      less_test a b less = grind (arith, nat_tests, less)

      le_test : (a b : ℕ) → a ≤ b → nat_le a b ≡ true
      le_test a b le = grind (arith, nat_tests, le)

      newer : (q : ℕ) (x : Outstanding) → IsOld s.from s.upto c.known q (Some x) ⊎ IsNew s.from s.upto number q (Some x) → IsMade (suc n) q x.number
      newer q x (inl (known, inl under)) = older q x (λ held. let low = held.0 in omega (arith, low, under)) known
      newer q x (inl (known, inr over)) = older q x (λ held. let high = held_within q held in omega (arith, high, over)) known
      newer q x (inr new) =
          let low = new.1 in
          let high = new.2 in
          record {
            built = n;
            last = record {
              before = omega arith;
              builds = (m, builds, (low, omega (arith, high)));
              not_since = never_next (BuildsAt h xs me q) n;
            };
            number_is = has_number number x new.0 ∙ (built_at h xs n me m before (there (Builds m) is)).number;
          }

      -- it adjoins what is outstanding, or lies within
      gap : (q : ℕ) (x : Outstanding) → (nat_lt s.from s.upto && nat_le (acknowledged c.known) s.from && nat_le s.from (length c.known)) ≡ false
          → slice_get c.known q ≡ Some (Some x) → Holds m q → ⊥
      gap q x out known held =
          let low = held.0 in
          let high = held_within q held in
          let una = (building h xs lawful six n me m builds (let high = held.1 in omega (arith, low, high))).low in
          let within = slice_get_within c.known q (Some x) known in
          let one : nat_lt s.from s.upto ≡ true = less_test s.from s.upto (omega (arith, low, high)) in
          let two : nat_le (acknowledged c.known) s.from ≡ true =
          whole_from (seen_before h xs n me).snd_una m.pos c known_whole una in
          let three : nat_le s.from (length c.known) ≡ true = le_test s.from (length c.known) (omega (arith, low, within)) in
          let bad : true ≡ false = sym (λ i. one i && two i && three i) ∙ out in
          cc

      abbrev fits : Bool
      fits = nat_lt s.from s.upto && nat_le (acknowledged c.known) s.from && nat_le s.from (length c.known)

      fitting : (f : Bool) → fits ≡ f → Traced (suc n) (if f then built_board number moment s c else c)
      fitting true all = record {
        made = λ q x known. newer q x (made_is s.from s.upto number moment c.known (some all) (adjoins all) q (Some x) known);
        heard_of = λ l known. heard_later n l.number (u.heard_of l known);
        low = u.low;
      }
      fitting false out = record {
        made = λ q x known. older q x (gap q x out known) known;
        heard_of = λ l known. heard_later n l.number (u.heard_of l known);
        low = u.low;
      }

      whole_built : Traced (suc n) (with_built number moment s c)
      whole_built = fitting fits refl

    builds_traced : (m : SegmentPlan) → event ≡ Builds m
        → Traced (suc n) (with_built number moment (stretch_built m before next) (settled recovers clock b))
    builds_traced m is = by (is_fin_alone m before) refl
      where
        of_stretch : Bool → Type 0
        of_stretch f =
            Traced (suc n)
            (with_built number moment (if f then no_positions else record { from = m.pos; upto = min (m.pos + making_length m) next.snd_max })
            (settled recovers clock b))

        by : (f : Bool) → is_fin_alone m before ≡ f → of_stretch f
        by true fin = traced_later n (settled recovers clock b) (alone m is fin) (settled_traced recovers clock n b t)
        by false no_fin = whole_built m is no_fin

    later : is_building event ≡ false → Traced (suc n) b
    later other = traced_later n b (idle other) t

    traced_after : Traced (suc n) (board_after moment clock recovers number event before next (read_reports sides (observed h xs n).blocks) b)
    traced_after = by event refl
      where
        by : (e : Event) → event ≡ e
            → Traced (suc n) (board_after moment clock recovers number e before next (read_reports sides (observed h xs n).blocks) b)
        by (Processes length rst) is =
            opened (board_heard moment clock recovers rst before next (read_reports sides (observed h xs n).blocks) b) (processes length rst is)
        by (Builds m) is = builds_traced m is
        by (Expires Rto) is = later (ap is_building is)
        by (Expires Persist) is = later (ap is_building is)
        by (Recovers Begins) is = settled_traced recovers clock (suc n) b (later (ap is_building is))
        by (Recovers IsUndone) is = settled_traced recovers clock (suc n) b (later (ap is_building is))
        by e is = later (ap is_building is)

  pub traced : Lawful (tcp h) (start (tcp h)) xs → (place : ℕ) → Traced place (flight_before h xs place me).board
  traced lawful place =
      run_shows h xs six (λ n f. Traced n f.board) me place
      (record { made = λ q x is. absurd (none-some (Some x) is); heard_of = λ l is. absurd (none-some l is); low = omega arith })
      (λ n f none old. traced_later n f.board (λ q built. none (Builds built.0) built.1.before built.1.happens) old)
      (λ n old moment clock event before here.
      traced_after lawful n moment clock (is_recovering before (flight_before h xs n me).recovery) event before here
      (sides_after (observed h xs n).syn_change (flight_before h xs n me).sides) (flight_before h xs n me).board (whole h xs me six lawful n) old)
