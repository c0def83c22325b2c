-- What a yes with a slack says of data that is sent again: each position once for each expiry (RFC 6298, 5.4 and 5.5;
-- RFC 5681, 3.2), and within the congestion window.
use Rattle.std.specs.Prelude.{◌≡◌, ◌+◌, ◌<◌, ◌≤◌, ℕ, suc, min, nat_lt, Bool, true, false, ◌&&◌, is_some}
use Rattle.case_forms.specs.declared.timer.RecoveryChange.TheVariants.{Begins}
use Rattle.case_forms.specs.declared.steps.SegmentPlan.{SegmentPlan}
use Rattle.case_forms.specs.declared.steps.Witness.{Witness}
use Rattle.case_forms.specs.declared.timer.Timer.TheVariants.{Persist, Rto}
use Rattle.case_forms.specs.declared.trace.Trace.{Trace}
use Rattle.spec_tcp.specs.declared.endpoint.EndpointId.{EndpointId}
use Rattle.spec_tcp.specs.Makes.Payload.{making_length}
use Rattle.spec_duties.specs.declared.events.Event.{Event}
use Rattle.spec_duties.specs.declared.events.Event.TheVariants.{Builds, Expires, Processes, Recovers}
use Rattle.spec_duties.specs.declared.views.View.{View}
use Rattle.kept_duties.specs.Happens.{Happens, seen_before}

-- outstanding data may be sent again from the beginning: a timer expires, fast recovery begins, or a segment opens a
-- window that was probed
abbrev pub begins : Event → (before after : View) → Bool
begins (Expires Rto) before after = true
begins (Expires Persist) before after = true
begins (Recovers Begins) before after = true
begins (Processes length rst) before after = is_some before.timers.persist_armed && nat_lt 0 after.snd_wnd
begins event before after = false

-- between these places this doesn't happen at the endpoint
abbrev pub NothingBegins : Trace → Witness → EndpointId → (from to : ℕ) → Type 0
NothingBegins t w me from to =
    (place moment : ℕ) (event : Event) → from < place → place < to → Happens t w place moment me event
    → begins event (seen_before t w place me) (seen_before t w (suc place) me) ≡ false

-- a segment is built with positions that were built before; a SYN with ACK or a reset may be repeated at any time
pub record BuildsAgain (t : Trace) (w : Witness) (place : ℕ) (me : EndpointId) (m : SegmentPlan) : Type 0 where
  pub moment : ℕ
  pub happens : Happens t w place moment me (Builds m)
  pub again : m.pos < (seen_before t w place me).snd_max
  pub some : 0 < making_length m
  pub not_syn_ack : (m.flags.syn && m.flags.ack) ≡ false
  pub no_reset : m.flags.rst ≡ false

-- the position after the last of these
abbrev pub again_end : View → SegmentPlan → ℕ
again_end v m = min (m.pos + making_length m) v.snd_max

-- of two such segments the second begins where the first one's such positions end, or later; unless an expiry or the
-- like lies between
abbrev pub NothingIsResentTwice : Trace → Witness → Type 0
NothingIsResentTwice t w =
    (first second : ℕ) (me : EndpointId) (p q : SegmentPlan) → first < second
    → BuildsAgain t w first me p → BuildsAgain t w second me q → NothingBegins t w me first second
    → again_end (seen_before t w first me) p ≤ q.pos

-- bytes that were all built before end within the congestion window when they are built again (RFC 5681, 3.1)
abbrev pub RepeatsStayWithin : Trace → Witness → Type 0
RepeatsStayWithin t w =
    (place moment : ℕ) (me : EndpointId) (m : SegmentPlan) → Happens t w place moment me (Builds m) → 0 < m.len
    → m.pos + m.len ≤ (seen_before t w place me).snd_max → m.pos + m.len ≤ (seen_before t w place me).congestion_edge
