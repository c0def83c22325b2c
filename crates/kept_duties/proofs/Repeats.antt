-- Each position is sent again once for each expiry.
use Rattle.std.proofs.Common.{◌≡◌, ℕ, suc, ◌+◌, ◌<◌, ◌≤◌, ◌⊎◌, inl, inr, Bool, true, false, length, Option, Some, refl, ap, sym, subst, ◌∙◌, arith}
use Rattle.std.specs.Prelude.{◌&&◌, if◌then◌else◌, max, nat_le, nat_lt, not}
use Rattle.std.proofs.lemmas.Bool.Decides.{nat_tests}
use Rattle.case_forms.specs.States.{is_closed}
use Rattle.case_forms.specs.Versions.{says_sender}
use Rattle.case_forms.specs.declared.timer.RecoveryChange.TheVariants.{Begins}
use Rattle.case_forms.specs.declared.steps.SegmentPlan.{SegmentPlan}
use Rattle.case_forms.specs.declared.steps.Witness.{Witness}
use Rattle.case_forms.specs.declared.timer.Timer.TheVariants.{Persist, Rto}
use Rattle.case_forms.specs.declared.trace.Trace.{Trace}
use Rattle.case_forms.specs.declared.version.Judged.{Judged}
use Rattle.case_forms.specs.declared.version.Judged.TheVariants as judged
use Rattle.spec_network.specs.Hosts.{Stamped, World}
use Rattle.spec_tcp.specs.Machine.{tcp_shape}
use Rattle.spec_tcp.specs.Makes.Payload.{making_length}
use Rattle.spec_tcp.specs.declared.endpoint.EndpointId.{EndpointId}
use Rattle.spec_tcp_laws.proofs.Rules.{less_to}
use Rattle.spec_cases.specs.Cases.{Known}
use Rattle.spec_duties.specs.Owed.{once_closed, owed_after, owed_open}
use Rattle.spec_duties.specs.Resent.{again_after, begins_again, is_repeating, judges_repeats, judges_windows, passed_by, repeated_end}
use Rattle.spec_duties.specs.Observations.{observe}
use Rattle.spec_duties.specs.Watching.{owed_by}
use Rattle.spec_duties.specs.declared.events.Event.{Event}
use Rattle.spec_duties.specs.declared.events.Event.TheVariants.{Builds, Expires, Processes, Recovers}
use Rattle.spec_duties.specs.declared.owed.Owed.{Owed}
use Rattle.spec_duties.specs.declared.views.View.{View}
use Rattle.kept_duties.specs.Happens.{Happens, act_at, known_before, seen_before}
use Rattle.kept_duties.specs.Repeats.{BuildsAgain, NothingBegins, NothingIsResentTwice, RepeatsStayWithin, begins}
use Rattle.kept_duties.proofs.Runs.{Goes, Run, run_goes, run_keeps, world_is}
use Rattle.kept_duties.proofs.Segments.{within}
use Rattle.kept_duties.proofs.Touched.{Owes, Touches, owes_after, seen, touched, touches_or_not}

again_is : (event : Event) (before after : View) (moment : ℕ) (listener : Option ℕ) (counts : Bool) (o : Owed)
    → (owed_after event before after moment listener counts o).again ≡ again_after event before after o.again
again_is event before after moment listener counts o = by (is_closed after.state)
  where
    by : (c : Bool)
        → (if c then once_closed (owed_open event before after moment listener counts o) else owed_open event before after moment listener counts o).again
        ≡ again_after event before after o.again
    by true = refl
    by false = refl

-- the levels at which retransmissions are judged
pub judged_repeats : (j : Judged) → (j ≡ judged.NoControl → ⊥) → judges_repeats j ≡ true
judged_repeats judged.Full not_none = refl
judged_repeats judged.Recovery not_none = refl
judged_repeats judged.NoControl not_none = absurd (not_none refl)

-- what duties test is what the law says
begins_is : (event : Event) (before after : View) → begins_again event before after ≡ begins event before after
begins_is (Expires Rto) before after = refl
begins_is (Expires Persist) before after = refl
begins_is (Recovers Begins) before after = refl
begins_is (Processes length rst) before after = refl
begins_is event before after = refl

repeats_is : (t : Trace) (w : Witness) (place : ℕ) (me : EndpointId) (m : SegmentPlan) → BuildsAgain t w place me m
    → is_repeating (seen_before t w place me) m ≡ true
repeats_is t w place me m a =
    let old = less_to m.pos (seen_before t w place me).snd_max a.again in
    let some = less_to 0 (making_length m) a.some in
    (λ i. old i && some i && not (a.not_syn_ack i) && not (a.no_reset i))

passed_grows : (event : Event) (before : View) (again : ℕ) → again ≤ passed_by event before again
passed_grows (Builds m) before again = by (is_repeating before m)
  where
    by : (b : Bool) → again ≤ (if b then max again (repeated_end before m) else again)
    by true = omega arith
    by false = omega arith
passed_grows event before again = omega arith

-- an act by what is known
pub happens_to : (t : Trace) (w : Witness) (place moment : ℕ) (me : EndpointId) (event : Event) → (a : Happens t w place moment me event)
    → (observe t.header a.act.moment (known_before t w place).model a.act.step).touched ≡ Some (touched (known_before t w place).model me event)
happens_to t w place moment me event a =
    subst (λ (v : World tcp_shape). (observe t.header a.act.moment v a.act.step).touched ≡ Some (touched v me event)) (sym (world_is t w place)) a.touches

pub happens_from : (t : Trace) (w : Witness) (place : ℕ) (x : Stamped tcp_shape) (me : EndpointId) (event : Event) → act_at t w place ≡ Some x
    → (observe t.header x.moment (known_before t w place).model x.step).touched ≡ Some (touched (known_before t w place).model me event)
    → Happens t w place x.moment me event
happens_from t w place x me event is shows = record {
  act = x;
  is = is;
  time = refl;
  touches = subst (λ (v : World tcp_shape). (observe t.header x.moment v x.step).touched ≡ Some (touched v me event)) (world_is t w place) shows;
}

module _ (t : Trace) (w : Witness) (slack : ℕ) (r : Run t.header slack (length w.steps) (act_at t w) (known_before t w)) where
  pub goes_of : (place : ℕ) (x : Stamped tcp_shape) → act_at t w place ≡ Some x → Goes t.header slack (known_before t w place) (known_before t w (suc place)) x
  goes_of place x is = run_goes t.header slack (length w.steps) (act_at t w) (known_before t w) r place x (within t w place x is) is

  -- an act at an endpoint: its duties are compared, and changed
  pub owes_of : (place : ℕ) (x : Stamped tcp_shape) (me : EndpointId) (event : Event) → act_at t w place ≡ Some x
      → (observe t.header x.moment (known_before t w place).model x.step).touched ≡ Some (touched (known_before t w place).model me event)
      → Owes t.header slack (known_before t w place) (known_before t w (suc place)) x me event
  owes_of place x me event is shows =
      owes_after t.header slack (known_before t w place) (known_before t w (suc place)) x me (goes_of place x is) event shows

  module _ (old : says_sender t.header.version ≡ false) (judged : judges_repeats t.header.congestion ≡ true)
      (first second : ℕ) (me : EndpointId) (p q : SegmentPlan) (less : first < second)
      (a : BuildsAgain t w first me p) (b : BuildsAgain t w second me q) (nothing : NothingBegins t w me first second) where
    abbrev again : Known → ℕ
    again k = (owed_by k.duties me.host me.number).again

    abbrev ends : ℕ
    ends = repeated_end (seen_before t w first me) p

    began : ends ≤ again (known_before t w (suc first))
    began =
        let x = a.happens.act in
        let k = known_before t w first in
        let owes = owes_of first x me (Builds p) a.happens.is (happens_to t w first a.moment me (Builds p) a.happens) in
        let repeats : is_repeating (seen k.model me) p ≡ true =
        subst (λ (v : World tcp_shape). is_repeating (seen v me) p ≡ true) (sym (world_is t w first)) (repeats_is t w first me p a) in
        let now : again (known_before t w (suc first)) ≡ max (again k) (repeated_end (seen k.model me) p) =
        ap (λ (o : Owed). o.again) owes.rest
        ∙ again_is (Builds p) (seen k.model me) (seen (known_before t w (suc first)).model me) x.moment owes.listener owes.counts
        (owed_by k.duties me.host me.number)
        ∙ ap (λ (c : Bool). if c then max (again k) (repeated_end (seen k.model me) p) else again k) repeats in
        let same : repeated_end (seen k.model me) p ≡ ends = ap (λ (v : World tcp_shape). repeated_end (seen v me) p) (world_is t w first) in
        omega (arith, now, same)

    goes_on : (j : ℕ) (y : Stamped tcp_shape) → suc first ≤ j → j < second → act_at t w j ≡ Some y
        → Goes t.header slack (known_before t w j) (known_before t w (suc j)) y → ends ≤ again (known_before t w j) → ends ≤ again (known_before t w (suc j))
    goes_on j y low high is goes old = by (touches_or_not t.header slack (known_before t w j) (known_before t w (suc j)) y me goes)
      where
        k : Known
        k = known_before t w j

        by : Touches t.header (known_before t w j) y me
            ⊎ ((owed_by (known_before t w (suc j)).duties me.host me.number ≡ owed_by (known_before t w j).duties me.host me.number)
            × ((event : Event) → (observe t.header y.moment (known_before t w j).model y.step).touched ≡ Some (touched (known_before t w j).model me event)
            → ⊥))
            → ends ≤ again (known_before t w (suc j))
        by (inr same) = subst (λ (n : ℕ). ends ≤ n) (sym (ap (λ (o : Owed). o.again) same.0)) old
        by (inl at) =
            let old' = old in
            let owes = owes_of j y me at.event is at.shows in
            let before = seen (known_before t w j).model me in
            let after = seen (known_before t w (suc j)).model me in
            let none : begins_again at.event before after ≡ false =
            ap (λ (v : World tcp_shape). begins_again at.event (seen v me) after) (world_is t w j)
            ∙ ap (λ (v : World tcp_shape). begins_again at.event (seen_before t w j me) (seen v me)) (world_is t w (suc j))
            ∙ begins_is at.event (seen_before t w j me) (seen_before t w (suc j) me)
            ∙ nothing j y.moment at.event (omega arith) high (happens_from t w j y me at.event is at.shows) in
            let now : again (known_before t w (suc j)) ≡ passed_by at.event before (again (known_before t w j)) =
            ap (λ (o : Owed). o.again) owes.rest
            ∙ again_is at.event before after y.moment owes.listener owes.counts (owed_by (known_before t w j).duties me.host me.number)
            ∙ ap (λ (c : Bool). if c then before.snd_una else passed_by at.event before (again (known_before t w j))) none in
            let grows = passed_grows at.event before (again (known_before t w j)) in
            omega (arith, now, grows, old')

    pub comes_behind : ends ≤ q.pos
    comes_behind =
        let y = b.happens.act in
        let k = known_before t w second in
        let low = within t w second y b.happens.is in
        let kept = run_keeps t.header slack (length w.steps) (act_at t w) (known_before t w) r (λ j k. ends ≤ again k) (λ j k p. p) (suc first) second
        (omega (arith, less)) (omega (arith, low)) began goes_on in
        let owes = owes_of second y me (Builds q) b.happens.is (happens_to t w second b.moment me (Builds q) b.happens) in
        let repeats : is_repeating (seen k.model me) q ≡ true =
        subst (λ (v : World tcp_shape). is_repeating (seen v me) q ≡ true) (sym (world_is t w second)) (repeats_is t w second me q b) in
        at_most q.pos (again k) kept (sym (ap (λ (c : Bool). c && is_repeating (seen k.model me) q && nat_lt q.pos (again k)) judged
        ∙ ap (λ (c : Bool). true && c && nat_lt q.pos (again k)) repeats) ∙ owes.resent old)
      where
        at_most : (pos n : ℕ) → ends ≤ n → nat_lt pos n ≡ false → ends ≤ pos
        at_most pos n le e = grind (arith, nat_tests, e, le)

  pub nothing_resent_twice : says_sender t.header.version ≡ false → judges_repeats t.header.congestion ≡ true → NothingIsResentTwice t w
  nothing_resent_twice old judged first second me p q less a b nothing = comes_behind old judged first second me p q less a b nothing

  pub repeats_within : says_sender t.header.version ≡ false → judges_windows t.header.congestion ≡ true → RepeatsStayWithin t w
  repeats_within old judged place moment me m a some low =
      let k = known_before t w place in
      let owes = owes_of place a.act me (Builds m) a.is (happens_to t w place moment me (Builds m) a) in
      at_most (seen_before t w place me) some low
      (subst (λ (v : World tcp_shape). (judges_windows t.header.congestion && nat_lt 0 m.len && nat_le (m.pos + m.len) (seen v me).snd_max
      && nat_lt (seen v me).congestion_edge (m.pos + m.len)) ≡ false) (world_is t w place) (owes.beyond old))
    where
      at_most : (v : View) → 0 < m.len → m.pos + m.len ≤ v.snd_max
          → (judges_windows t.header.congestion && nat_lt 0 m.len && nat_le (m.pos + m.len) v.snd_max && nat_lt v.congestion_edge (m.pos + m.len)) ≡ false
          → m.pos + m.len ≤ v.congestion_edge
      at_most v some low none =
          let more : nat_lt 0 m.len ≡ true = grind (arith, nat_tests, some) in
          let old : nat_le (m.pos + m.len) v.snd_max ≡ true = grind (arith, nat_tests, low) in
          let fits : nat_lt v.congestion_edge (m.pos + m.len) ≡ false =
          sym (ap (λ (c : Bool). c && nat_lt 0 m.len && nat_le (m.pos + m.len) v.snd_max && nat_lt v.congestion_edge (m.pos + m.len)) judged
          ∙ ap (λ (c : Bool). true && c && nat_le (m.pos + m.len) v.snd_max && nat_lt v.congestion_edge (m.pos + m.len)) more
          ∙ ap (λ (c : Bool). true && true && c && nat_lt v.congestion_edge (m.pos + m.len)) old) ∙ none in
          grind (arith, nat_tests, fits)
