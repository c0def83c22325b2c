-- In version 6, how many segments with ACK an endpoint sent lately, by what duties keep.
use Rattle.std.proofs.Common.{◌≡◌, ℕ, zero, suc, ◌+◌, ◌<◌, ◌≤◌, ◌⊎◌, inl, inr, Bool, true, false, List, [], ◌∷◌, length, replicate, take, Option, Some, None}
use Rattle.std.proofs.Common.{refl, ap, sym, subst, ◌∙◌, arith}
use Rattle.std.proofs.lemmas.Bool.Decides.{nat_tests}
use Rattle.std.proofs.lemmas.Option.{none-some, same_Some}
use Rattle.std.specs.Prelude.{◌&&◌, if◌then◌else◌, nat_le, slice_index_or}
use Rattle.std.specs.Option.{option_map_or}
use Rattle.case_forms.specs.Versions.{says_sender}
use Rattle.case_forms.specs.declared.steps.Witness.{Witness}
use Rattle.case_forms.specs.declared.trace.Trace.{Trace}
use Rattle.interval_order.specs.Placed.{Placed}
use Rattle.spec_network.specs.Hosts.{Stamped, World}
use Rattle.spec_network.specs.Tables.{on}
use Rattle.spec_tcp.specs.Machine.{tcp_shape}
use Rattle.spec_tcp.specs.declared.endpoint.EndpointId.{EndpointId}
use Rattle.spec_tcp_laws.proofs.Rules.{is_not}
use Rattle.spec_cases.specs.Cases.{Known}
use Rattle.spec_duties.specs.Observations.{observe}
use Rattle.spec_duties.specs.Strict.{answered_after, answered_often, nothing_strict, rate_period}
use Rattle.spec_duties.specs.Watching.{owed_by, strict_by}
use Rattle.spec_duties.specs.declared.events.Event.{Event}
use Rattle.spec_duties.specs.declared.events.Event.TheVariants.{Sends}
use Rattle.spec_duties.specs.declared.strict.StrictOwed.{StrictOwed}
use Rattle.checker.specs.Seen.{moves}
use Rattle.kept_duties.specs.Answered.{five_seconds, sends_ack, sends_ack_lately}
use Rattle.kept_duties.specs.Counts.{count_before, event_at, event_for}
use Rattle.kept_duties.specs.Happens.{act_at, known_before, world_before}
use Rattle.kept_duties.proofs.Counts.{event_here}
use Rattle.kept_duties.proofs.Excused.{as_event}
use Rattle.kept_duties.proofs.Runs.{Goes, Run, run_keeps, world_is}
use Rattle.kept_duties.proofs.Since.{Began, began_before, began_low, began_now}
use Rattle.kept_duties.proofs.StrictSince.{strict_first}
use Rattle.kept_duties.proofs.Stricter.{strict_kept, strict_touched}
use Rattle.kept_duties.proofs.Touched.{Touches, touched, touches_or_not}

-- the moment at a place of such a list
abbrev moment_in : List (Option ℕ) → ℕ → Option ℕ
moment_in moments i = slice_index_or moments i None

-- a list that is cut has no other moments
moment_cut : (n : ℕ) (moments : List (Option ℕ)) (i since : ℕ) → moment_in (take n moments) i ≡ Some since → moment_in moments i ≡ Some since
moment_cut zero moments i since is = absurd (none-some since is)
moment_cut (suc n) [] i since is = is
moment_cut (suc n) (o ∷ moments) zero since is = is
moment_cut (suc n) (o ∷ moments) (suc i) since is = moment_cut n moments i since is

-- at first there is none
none_among : (n i : ℕ) → moment_in (replicate n None) i ≡ None
none_among zero i = refl
none_among (suc n) zero = refl
none_among (suc n) (suc i) = none_among n i

none_first : (i : ℕ) → moment_in nothing_strict.answered i ≡ None
none_first i = none_among 10 i

count_grows : (test : ℕ → Bool) (place : ℕ) → count_before test place ≤ count_before test (suc place)
count_grows test place = by (test place)
  where
    by : (b : Bool) → count_before test place ≤ (if b then suc (count_before test place) else count_before test place)
    by true = omega arith
    by false = omega arith

module _ (t : Trace) (w : Witness) (slack : ℕ) (r : Run t.header slack (length w.steps) (act_at t w) (known_before t w))
    (placed : Placed t.header t.lines (moves w.steps)) (six : says_sender t.header.version ≡ true) (me : EndpointId) where
  -- as many as the place says were sent since that moment
  record IsCounted (j i since : ℕ) : Type 0 where
    began : Began t w j since
    counts : (moment : ℕ) → moment ≤ since + five_seconds → i < count_before (sends_ack_lately t w me moment) j

  abbrev AreCounted : ℕ → List (Option ℕ) → Type 0
  AreCounted j moments = (i since : ℕ) → moment_in moments i ≡ Some since → IsCounted j i since

  later : (j i since : ℕ) → IsCounted j i since → IsCounted (suc j) i since
  later j i since c = record {
    began = began_before t w j since c.began;
    counts = λ moment low.
        let old = c.counts moment low in
        let grows = count_grows (sends_ack_lately t w me moment) j in
        omega (arith, old, grows);
  }

  -- a segment with ACK that is sent is counted
  module _ (j : ℕ) (x : Stamped tcp_shape) (is : act_at t w j ≡ Some x) (event : Event)
      (shows : (observe t.header x.moment (known_before t w j).model x.step).touched ≡ Some (touched (known_before t w j).model me event))
      (sends : sends_ack event ≡ true) where
    event_is : event_at t w me j ≡ Some event
    event_is =
        ap (λ (o : Option (Stamped tcp_shape)). on o None (λ x. event_for me (observe t.header x.moment (world_before t w j) x.step).touched)) is
        ∙ sym (ap (λ (v : World tcp_shape). event_for me (observe t.header x.moment v x.step).touched) (world_is t w j))
        ∙ ap (event_for me) shows ∙ event_here (known_before t w j).model me event

    lately : (moment : ℕ) → moment ≤ x.moment + five_seconds → sends_ack_lately t w me moment j ≡ true
    lately moment low =
        let soon : nat_le moment (x.moment + five_seconds) ≡ true = grind (arith, nat_tests, low) in
        ap (λ (o : Option (Stamped tcp_shape)). option_map_or (λ x. nat_le moment (x.moment + five_seconds)) o false
        && option_map_or sends_ack (event_at t w me j) false) is
        ∙ ap (λ (o : Option Event). nat_le moment (x.moment + five_seconds) && option_map_or sends_ack o false) event_is
        ∙ (λ i. soon i && sends i)

    one_more : (moment : ℕ) → moment ≤ x.moment + five_seconds
        → count_before (sends_ack_lately t w me moment) (suc j) ≡ suc (count_before (sends_ack_lately t w me moment) j)
    one_more moment low =
        ap (λ (b : Bool). if b then suc (count_before (sends_ack_lately t w me moment) j) else count_before (sends_ack_lately t w me moment) j)
        (lately moment low)

    with_one : (moments : List (Option ℕ)) → AreCounted j moments → AreCounted (suc j) (Some x.moment ∷ take 9 moments)
    with_one moments all zero since here =
        let same = same_Some x.moment since here in
        record {
          began = began_now t w j x is since (sym same);
          counts = λ moment low.
              let now = one_more moment (omega (arith, low, same)) in
              omega (arith, now);
        }
    with_one moments all (suc i) since here =
        let c = all i since (moment_cut 9 moments i since here) in
        let began = began_before t w j since c.began in
        record {
          began = began;
          counts = λ moment low.
              let early = began_low t w placed j x is since began in
              let now = one_more moment (omega (arith, low, early)) in
              let old = c.counts moment low in
              omega (arith, now, old);
        }

  counted_at : (to : ℕ) → to ≤ length w.steps → AreCounted to (strict_by (known_before t w to).duties me.host me.number).answered
  counted_at to high =
      run_keeps t.header slack (length w.steps) (act_at t w) (known_before t w) r
      (λ j k. AreCounted j (strict_by k.duties me.host me.number).answered) (λ j k all i since is. later j i since (all i since is)) 0 to
      (omega arith) high
      (λ i since is. absurd (none-some since (sym (ap (λ (k : Known). moment_in (strict_by k.duties me.host me.number).answered i) r.start
      ∙ ap (λ (o : StrictOwed). moment_in o.answered i) (strict_first t.header me.host me.number) ∙ none_first i) ∙ is)))
      (λ j x low less is goes all. next j x is goes all (touches_or_not t.header slack (known_before t w j) (known_before t w (suc j)) x me goes))
    where
      by_event : (j : ℕ) (x : Stamped tcp_shape) → act_at t w j ≡ Some x → (event : Event)
          → (observe t.header x.moment (known_before t w j).model x.step).touched ≡ Some (touched (known_before t w j).model me event)
          → (moments : List (Option ℕ)) → AreCounted j moments → AreCounted (suc j) (answered_after event x.moment moments)
      by_event j x is (Sends s) shows moments all = test s.flags.ack refl
        where
          test : (b : Bool) → s.flags.ack ≡ b → AreCounted (suc j) (if b then Some x.moment ∷ take 9 moments else moments)
          test true ack = with_one j x is (Sends s) shows ack moments all
          test false none = λ i since here. later j i since (all i since here)
      by_event j x is event shows moments all = λ i since here. later j i since (all i since here)

      next : (j : ℕ) (x : Stamped tcp_shape) → act_at t w j ≡ Some x → Goes t.header slack (known_before t w j) (known_before t w (suc j)) x
          → AreCounted j (strict_by (known_before t w j).duties me.host me.number).answered
          → Touches t.header (known_before t w j) x me
          ⊎ ((owed_by (known_before t w (suc j)).duties me.host me.number ≡ owed_by (known_before t w j).duties me.host me.number)
          × ((event : Event) → (observe t.header x.moment (known_before t w j).model x.step).touched ≡ Some (touched (known_before t w j).model me event)
          → ⊥))
          → AreCounted (suc j) (strict_by (known_before t w (suc j)).duties me.host me.number).answered
      next j x is goes all (inr same) =
          subst (λ (o : StrictOwed). AreCounted (suc j) o.answered)
          (sym (strict_kept t.header slack (known_before t w j) (known_before t w (suc j)) x me goes six same.1))
          (λ i since here. later j i since (all i since here))
      next j x is goes all (inl at) =
          let q = (strict_by (known_before t w j).duties me.host me.number).answered in
          let as_shown : answered_after (goes.sees.judge at.event) x.moment q ≡ answered_after at.event x.moment q =
          as_event (λ (e : Event). answered_after (goes.sees.judge at.event) x.moment q ≡ answered_after e x.moment q) (λ asks now unlimited q. q) at.event
          (goes.sees.judge at.event) (goes.sees.alike at.event) refl in
          subst (λ (o : StrictOwed). AreCounted (suc j) o.answered)
          (sym (strict_touched t.header slack (known_before t w j) (known_before t w (suc j)) x me goes six at.event at.shows))
          (subst (AreCounted (suc j)) (sym as_shown) (by_event j x is at.event at.shows q all))

  -- so it isn't many if few were sent
  pub not_often : (place moment : ℕ) → place ≤ length w.steps → count_before (sends_ack_lately t w me moment) place < 10
      → answered_often moment (strict_by (known_before t w place).duties me.host me.number).answered ≡ false
  not_often place moment high few = by (moment_in (strict_by (known_before t w place).duties me.host me.number).answered 9) (counted_at place high 9)
    where
      by : (o : Option ℕ) → ((since : ℕ) → o ≡ Some since → IsCounted place 9 since) → option_map_or (λ m. nat_le moment (m + rate_period)) o false ≡ false
      by None all = refl
      by (Some since) all =
          is_not (nat_le moment (since + rate_period)) (λ is.
          let low : moment ≤ since + five_seconds = grind (arith, nat_tests, is) in
          let many = (all since refl).counts moment low in
          omega (arith, many, few))
