-- What reports a position is processed by an endpoint that the peer has answered and that sent the position, and is no
-- reset. What is seen of an endpoint at a step is how it is.
use Rattle.std.proofs.Common.{◌≡◌, ℕ, ◌<◌, max, Bool, true, false, List, Option, None, Some, refl, ap, sym, subst, ◌∙◌, arith}
use Rattle.std.specs.Prelude.{◌&&◌, ◌||◌, if◌then◌else◌, nat_le, nat_lt, not, slice_get}
use Rattle.std.specs.Option.{option_and_then, option_map, option_map_or}
use Rattle.std.proofs.lemmas.Bool.Decides.{nat_tests}
use Rattle.std.proofs.lemmas.Option.{none-some, same_Some}
use Rattle.seqno.specs.Near.{near_position}
use Rattle.seqno.specs.declared.word.Word.{Word}
use Rattle.segment.specs.Reading.{sack_blocks}
use Rattle.segment.specs.declared.options.SackBlock.{SackBlock}
use Rattle.case_forms.specs.States.{is_syn_sent}
use Rattle.case_forms.specs.Versions.{says_sender}
use Rattle.case_forms.specs.declared.steps.TakeChoice.{TakeChoice}
use Rattle.case_forms.specs.declared.trace.Header.{Header}
use Rattle.case_forms.specs.declared.steps.SegmentPlan.{SegmentPlan}
use Rattle.spec_network.specs.Hosts.{At, Makes, Takes, World}
use Rattle.spec_network.specs.Tables.{on, pick, waiting}
use Rattle.spec_tcp.specs.Arrives.{AtEndpoint, AtListener, Nobody, Taker, taker}
use Rattle.spec_tcp.specs.Arrives.OtherStates.Ack.{snd_una_after_segment}
use Rattle.spec_tcp.specs.Endpoints.{segment_length, snd_max}
use Rattle.spec_tcp.specs.Heard.{as_read}
use Rattle.spec_tcp.specs.HostTcp.{HostTcp, place_of}
use Rattle.spec_tcp.specs.Machine.{tcp_shape}
use Rattle.spec_tcp.specs.declared.endpoint.EndpointId.{EndpointId}
use Rattle.spec_tcp.specs.declared.endpoint.Emission.{Emission}
use Rattle.spec_tcp.specs.declared.endpoint.Endpoint.{Endpoint}
use Rattle.spec_tcp_laws.specs.Consequences.{find}
use Rattle.spec_tcp_laws.proofs.Takes.{taker_there}
use Rattle.spec_duties.specs.Blocks.{block_between, block_of, block_read, blocks_of, no_blocks, reads_blocks}
use Rattle.spec_duties.specs.Observations.{at_place, observe, observe_taking, unseen}
use Rattle.spec_duties.specs.Views.{view_of}
use Rattle.spec_duties.specs.declared.events.Event.{Event}
use Rattle.spec_duties.specs.declared.events.Event.TheVariants.{Builds, Processes}
use Rattle.spec_duties.specs.declared.observations.Blocks.{Blocks}
use Rattle.spec_duties.specs.declared.observations.Observation.{Observation}
use Rattle.spec_duties.specs.declared.observations.TouchedEndpoint.{TouchedEndpoint}
use Rattle.spec_duties.specs.declared.views.View.{View}
use Rattle.kept_flights.specs.Places.{Happens}
use Rattle.kept_flights.specs.Reported.{is_within, reports}
use Rattle.kept_flights.proofs.Runs.{touched}

-- ---- what a step shows of an endpoint

-- the endpoint is there, and is like this
pub record IsThere (w : World tcp_shape) (me : EndpointId) (before : View) : Type 0 where
  pub endpoint : Endpoint
  pub there : find w.hosts me ≡ Some endpoint
  pub seen : before ≡ view_of endpoint

module _ (w : World tcp_shape) (me : EndpointId) (event : Event) (before : View) where
  abbrev body : HostTcp
  body = (pick w.hosts me.host).body

  -- what is shown of the endpoint of a place
  shown_there : (i : ℕ) (e : Endpoint) (other : Event) → slice_get body.endpoints i ≡ Some e
      → Some (record { host = me.host; place = i; event = other; before = view_of e }) ≡ Some (touched me event before) → IsThere w me before
  shown_there i e other there same =
      let one = same_Some (record { host = me.host; place = i; event = other; before = view_of e }) (touched me event before) same in
      record {
        endpoint = e;
        there = subst (λ (n : ℕ). slice_get body.endpoints n ≡ Some e) (ap (λ (t : TouchedEndpoint). t.place) one) there;
        seen = sym (ap (λ (t : TouchedEndpoint). t.before) one);
      }

  place_there : (i : ℕ) (other : Event) → at_place me.host body other i ≡ Some (touched me event before) → IsThere w me before
  place_there i other = by (slice_get body.endpoints i) refl
    where
      by : (o : Option Endpoint) → slice_get body.endpoints i ≡ o
          → option_map (λ e. record { host = me.host; place = i; event = other; before = view_of e }) o ≡ Some (touched me event before)
          → IsThere w me before
      by None is here = absurd (none-some (touched me event before) here)
      by (Some e) is here = shown_there i e other is here

  -- a segment is built by an endpoint that is there
  pub built_there : (h : Header) (moment : ℕ) (m : SegmentPlan) → Happens (observe h moment w (At me.host (Makes m))) me event before
      → IsThere w me before
  built_there h moment m = by (place_of body m.lport m.rport)
    where
      by : (o : Option ℕ) → option_map_or (at_place me.host body (Builds m)) o None ≡ Some (touched me event before) → IsThere w me before
      by None here = absurd (none-some (touched me event before) here)
      by (Some i) here = place_there i (Builds m) here

-- ---- a block ends at most with what was sent

above : (near top left right p : ℕ) → is_within p (block_between near top left right) ≡ true → p < top
above near top left right p = by (nat_lt left right && nat_lt near right && nat_le right top) refl
  where
    by : (c : Bool) → (nat_lt left right && nat_lt near right && nat_le right top) ≡ c
        → is_within p (if c then Some (record { from = max left near; upto = right }) else None) ≡ true → p < top
    by true fits is = grind (arith, nat_tests, fits, is)
    by false fits is = absurd cc

read_above : (near top : ℕ) (iss : Word) (k : SackBlock) (p : ℕ) → is_within p (block_read near top iss k) ≡ true → p < top
read_above near top iss k p = by (near_position near iss k.left) (near_position near iss k.right)
  where
    by : (left right : Option ℕ) → is_within p (option_and_then (λ l. option_and_then (block_between near top l) right) left) ≡ true → p < top
    by None right is = absurd cc
    by (Some l) None is = absurd cc
    by (Some l) (Some r) is = above near top l r p is

block_above : (near top : ℕ) (iss : Word) (ks : List SackBlock) (place p : ℕ) → is_within p (block_of near top iss ks place) ≡ true → p < top
block_above near top iss ks place p = by (slice_get ks place)
  where
    by : (o : Option SackBlock) → is_within p (option_and_then (block_read near top iss) o) ≡ true → p < top
    by None is = absurd cc
    by (Some k) is = read_above near top iss k p is

all_above : (near top : ℕ) (iss : Word) (ks : List SackBlock) (p : ℕ) → reports (blocks_of near top iss ks) p ≡ true → p < top
all_above near top iss ks p = by (is_within p (block_of near top iss ks 0)) (is_within p (block_of near top iss ks 1))
    (is_within p (block_of near top iss ks 2)) (is_within p (block_of near top iss ks 3)) refl refl refl refl
  where
    by : (a b c d : Bool) → is_within p (block_of near top iss ks 0) ≡ a → is_within p (block_of near top iss ks 1) ≡ b
        → is_within p (block_of near top iss ks 2) ≡ c → is_within p (block_of near top iss ks 3) ≡ d → (a || b || c || d) ≡ true → p < top
    by true b c d e f g i is = block_above near top iss ks 0 p e
    by false true c d e f g i is = block_above near top iss ks 1 p f
    by false false true d e f g i is = block_above near top iss ks 2 p g
    by false false false true e f g i is = block_above near top iss ks 3 p i
    by false false false false e f g i is = absurd cc

-- ---- what is read

pub record Read (w : World tcp_shape) (me : EndpointId) (event : Event) (before : View) (p : ℕ) : Type 0 where
  pub length : ℕ
  pub is : event ≡ Processes length false
  pub answered : is_syn_sent before.state ≡ false
  pub place : IsThere w me before
  pub sent : p < before.snd_max

second_third : (a rst sent : Bool) → (a && not rst && not sent) ≡ true → (rst ≡ false) × (sent ≡ false)
second_third true false false is = (refl, refl)
second_third true false true is = absurd cc
second_third true true sent is = absurd cc
second_third false rst sent is = absurd cc

module _ (h : Header) (w : World tcp_shape) (line : ℕ) (how : TakeChoice) (m : Emission) (me : EndpointId) (event : Event) (before : View)
    (p : ℕ) where
  abbrev b : HostTcp
  b = (pick w.hosts me.host).body

  -- what an endpoint reads, if it does
  abbrev blocks_read : Endpoint → Blocks
  blocks_read e =
      option_map_or (λ iss. blocks_of (snd_una_after_segment e (as_read h.version e m)) (snd_max e) iss (sack_blocks m.bytes)) e.iss no_blocks

  was_sent : (e : Endpoint) → reports (blocks_read e) p ≡ true → p < snd_max e
  was_sent e = by e.iss
    where
      by : (o : Option Word)
          → reports (option_map_or (λ iss. blocks_of (snd_una_after_segment e (as_read h.version e m)) (snd_max e) iss (sack_blocks m.bytes)) o no_blocks) p
          ≡ true → p < snd_max e
      by None is = absurd cc
      by (Some iss) is = all_above (snd_una_after_segment e (as_read h.version e m)) (snd_max e) iss (sack_blocks m.bytes) p is

  -- at an endpoint
  at_endpoint : (i : ℕ) (e : Endpoint) → slice_get b.endpoints i ≡ Some e
      → Happens (observe_taking h me.host b line how m (AtEndpoint i e)) me event before → reads_blocks h.version e m ≡ true
      → reports (blocks_read e) p ≡ true → Read w me event before p
  at_endpoint i e there here read told =
      let flags = second_third (says_sender h.version) m.flags.rst (is_syn_sent e.state) read in
      let same : Some (record { host = me.host; place = i; event = Processes (segment_length m) m.flags.rst; before = view_of e })
      ≡ Some (touched me event before) =
      sym (ap (option_map (λ f. record { host = me.host; place = i; event = Processes (segment_length m) m.flags.rst; before = view_of f })) there)
      ∙ here in
      let one : record { host = me.host; place = i; event = Processes (segment_length m) m.flags.rst; before = view_of e } ≡ touched me event before =
      same_Some _ (touched me event before) same in
      record {
        length = segment_length m;
        is = sym (ap (λ (t : TouchedEndpoint). t.event) one) ∙ ap (λ r. Processes (segment_length m) r) flags.0;
        answered = sym (ap (λ (t : TouchedEndpoint). is_syn_sent t.before.state) one) ∙ flags.1;
        place = shown_there w me event before i e (Processes (segment_length m) m.flags.rst) there same;
        sent = subst (λ (t : TouchedEndpoint). p < t.before.snd_max) one (was_sent e told);
      }

  taken : (t : Taker) → taker b m ≡ t → Happens (observe_taking h me.host b line how m t) me event before
      → reports (observe_taking h me.host b line how m t).blocks p ≡ true → Read w me event before p
  taken Nobody is here told = absurd (none-some (touched me event before) here)
  taken (AtListener l) is here told = absurd cc
  taken (AtEndpoint i e) is here told = by (reads_blocks h.version e m) refl told
    where
      by : (c : Bool) → reads_blocks h.version e m ≡ c → reports (if c then blocks_read e else no_blocks) p ≡ true → Read w me event before p
      by true read told = at_endpoint i e (taker_there b m i e is) here read told
      by false read told = absurd cc

pub reads : (h : Header) (moment : ℕ) (w : World tcp_shape) (line : ℕ) (how : TakeChoice) (me : EndpointId) (event : Event) (before : View)
    (p : ℕ) → Happens (observe h moment w (At me.host (Takes line how))) me event before
    → reports (observe h moment w (At me.host (Takes line how))).blocks p ≡ true → Read w me event before p
reads h moment w line how me event before p = by (waiting line (pick w.hosts me.host).inbox)
  where
    shown : Option Emission → Observation
    shown o = on o unseen (λ m. observe_taking h me.host (pick w.hosts me.host).body line how m (taker (pick w.hosts me.host).body m))

    by : (o : Option Emission) → Happens (shown o) me event before → reports (shown o).blocks p ≡ true → Read w me event before p
    by None here told = absurd (none-some (touched me event before) here)
    by (Some m) here told = taken h w line how m me event before p (taker (pick w.hosts me.host).body m) refl here told
