-- What a block reports to an endpoint was taken by its peer before.
use Rattle.std.proofs.Common.{◌≡◌, ℕ, ◌+◌, ◌^◌, ◌<◌, ◌≤◌, ◌⊎◌, inl, inr, max, Bool, true, false, List, Option, Some, None, refl, ap, sym, subst, ◌∙◌, arith}
use Rattle.std.specs.Prelude.{◌&&◌, ◌||◌, if◌then◌else◌, nat_le, nat_lt, not, slice_get}
use Rattle.std.specs.Option.{option_and_then, option_map, option_map_or}
use Rattle.std.proofs.lemmas.Bool.{cases_lt}
use Rattle.std.proofs.lemmas.Bool.Decides.{nat_tests}
use Rattle.std.proofs.lemmas.Option.{none-some, same_Some}
use Rattle.seqno.specs.Near.{near_position}
use Rattle.seqno.specs.Numbers.{number_of}
use Rattle.seqno.specs.declared.word.Word.{Word}
use Rattle.segment.specs.Reading.{sack_blocks}
use Rattle.segment.specs.declared.options.SackBlock.{SackBlock}
use Rattle.case_forms.specs.States.{is_syn_received, is_syn_sent}
use Rattle.case_forms.specs.Versions.{is_half, says_sender}
use Rattle.case_forms.specs.declared.steps.TakeChoice.{TakeChoice}
use Rattle.case_forms.specs.declared.trace.Header.{Header}
use Rattle.verdict.specs.Rules.{first_broken}
use Rattle.verdict.specs.declared.rule.Rule.TheVariants as rules
use Rattle.verdict.proofs.RuleLemmas.{none_all}
use Rattle.spec_network.specs.HostRules.{Permitted}
use Rattle.spec_network.specs.Hosts.{At, Stamped, Takes, World}
use Rattle.spec_network.specs.HostSteps.{Lawful, start}
use Rattle.spec_network.specs.Tables.{on, pick, waiting}
use Rattle.spec_tcp.specs.Arrives.{AtEndpoint, AtListener, Nobody, Taker, taker, taker_rules}
use Rattle.spec_tcp.specs.Arrives.OtherStates.{connected_rules}
use Rattle.spec_tcp.specs.Arrives.OtherStates.Ack.{snd_una_after_segment}
use Rattle.spec_tcp.specs.Arrives.OtherStates.Peer.{is_from_peer}
use Rattle.spec_tcp.specs.Arrives.SynSent.{syn_sent_rules}
use Rattle.spec_tcp.specs.Endpoints.{rcv_nxt, snd_max}
use Rattle.spec_tcp.specs.Heard.{as_read, read_at}
use Rattle.spec_tcp.specs.HostTcp.{HostTcp}
use Rattle.spec_tcp.specs.Machine.{tcp, tcp_shape}
use Rattle.spec_tcp.specs.Same.{same_endpoint}
use Rattle.spec_tcp.specs.declared.endpoint.Emission.{Emission}
use Rattle.spec_tcp.specs.declared.endpoint.Endpoint.{Endpoint}
use Rattle.spec_tcp.specs.declared.endpoint.EndpointId.{EndpointId}
use Rattle.spec_tcp_laws.specs.Consequences.{HasStream, find}
use Rattle.spec_tcp_laws.proofs.Later.{GoodEmission}
use Rattle.spec_tcp_laws.proofs.Rules.{any_name, both_true, is_not, on_passes, some_name, true_false}
use Rattle.spec_tcp_laws.proofs.Takes.{taker_there}
use Rattle.spec_duties.specs.Arrivals.{arrival_of}
use Rattle.spec_duties.specs.Blocks.{block_between, block_of, block_read, blocks_of, no_blocks, reads_blocks}
use Rattle.spec_duties.specs.Observations.{observe, observe_taking, processing_of, unseen}
use Rattle.spec_duties.specs.Views.{unborn, view_of}
use Rattle.spec_duties.specs.declared.events.Event.{Event}
use Rattle.spec_duties.specs.declared.observations.Arrival.{Arrival}
use Rattle.spec_duties.specs.declared.observations.Blocks.{Blocks}
use Rattle.spec_duties.specs.declared.observations.Observation.{Observation}
use Rattle.spec_duties.specs.declared.observations.TouchedEndpoint.{TouchedEndpoint}
use Rattle.spec_duties.specs.declared.views.View.{View}
use Rattle.spec_cases.specs.Cases.{Dutiful, first_known}
use Rattle.kept_flights.specs.Holding.{Has, irs_before}
use Rattle.kept_flights.specs.Peers.{IsYoung, PeerHas, ReportsAreTaken}
use Rattle.kept_flights.specs.Places.{Happens, observed, seen_before, world_before}
use Rattle.kept_flights.specs.Reported.{is_within, reports}
use Rattle.kept_flights.proofs.Agreeing.{agree, alike, is_at}
use Rattle.kept_flights.proofs.Knowing.{Knows, knows_on, knows_then}
use Rattle.kept_flights.proofs.Positions.{becomes, permitted_at}
use Rattle.kept_flights.proofs.Reporting.{may_report}
use Rattle.kept_flights.proofs.Runs.{touched}
use Rattle.kept_flights.proofs.Tracing.{HasIss, WasSent, fine_at, traced}

-- ---- the block that reports a position

module _ (near top : ℕ) (iss : Word) (ks : List SackBlock) (p : ℕ) where
  pub record Reported : Type 0 where
    pub number : ℕ
    pub low : number < 4
    pub block : SackBlock
    pub there : slice_get ks number ≡ Some block
    pub left : ℕ
    pub right : ℕ
    pub begins : near_position near iss block.left ≡ Some left
    pub ends : near_position near iss block.right ≡ Some right
    pub sent : right ≤ top
    pub from : left ≤ p
    pub upto : p < right

  between : (number : ℕ) → number < 4 → (k : SackBlock) → slice_get ks number ≡ Some k → (left right : ℕ)
      → near_position near iss k.left ≡ Some left → near_position near iss k.right ≡ Some right
      → is_within p (block_between near top left right) ≡ true → Reported
  between number low k there left right begins ends = by (nat_lt left right && nat_lt near right && nat_le right top) refl
    where
      by : (c : Bool) → (nat_lt left right && nat_lt near right && nat_le right top) ≡ c
          → is_within p (if c then Some (record { from = max left near; upto = right }) else None) ≡ true → Reported
      by true fits is = record {
        number = number;
        low = low;
        block = k;
        there = there;
        left = left;
        right = right;
        begins = begins;
        ends = ends;
        sent = grind (arith, nat_tests, fits);
        from = grind (arith, nat_tests, is);
        upto = grind (arith, nat_tests, is);
      }
      by false fits is = absurd cc

  in_block : (number : ℕ) → number < 4 → is_within p (block_of near top iss ks number) ≡ true → Reported
  in_block number low = by (slice_get ks number) refl
    where
      edges : (k : SackBlock) → slice_get ks number ≡ Some k → (l r : Option ℕ) → near_position near iss k.left ≡ l → near_position near iss k.right ≡ r
          → is_within p (option_and_then (λ left. option_and_then (block_between near top left) r) l) ≡ true → Reported
      edges k there None r begins ends is = absurd cc
      edges k there (Some left) None begins ends is = absurd cc
      edges k there (Some left) (Some right) begins ends is = between number low k there left right begins ends is

      by : (o : Option SackBlock) → slice_get ks number ≡ o → is_within p (option_and_then (block_read near top iss) o) ≡ true → Reported
      by None there is = absurd cc
      by (Some k) there is = edges k there (near_position near iss k.left) (near_position near iss k.right) refl refl is

  pub in_one : reports (blocks_of near top iss ks) p ≡ true → Reported
  in_one = by (is_within p (block_of near top iss ks 0)) (is_within p (block_of near top iss ks 1)) (is_within p (block_of near top iss ks 2)) refl refl
      refl
    where
      by : (a b c : Bool) → is_within p (block_of near top iss ks 0) ≡ a → is_within p (block_of near top iss ks 1) ≡ b
          → is_within p (block_of near top iss ks 2) ≡ c → (a || b || c || is_within p (block_of near top iss ks 3)) ≡ true → Reported
      by true b c e f g is = in_block 0 (omega arith) e
      by false true c e f g is = in_block 1 (omega arith) f
      by false false true e f g is = in_block 2 (omega arith) g
      by false false false e f g is = in_block 3 (omega arith) is

-- ---- the segment that is processed

pub record Processed (h : Header) (w : World tcp_shape) (line : ℕ) (me : EndpointId) (before : View) (arrival : Option Arrival) (p : ℕ) : Type 0 where
  pub segment : Emission
  pub waits : waiting line (pick w.hosts me.host).inbox ≡ Some segment
  pub endpoint : Endpoint
  pub is_taker : taker (pick w.hosts me.host).body segment ≡ AtEndpoint me.number endpoint
  pub there : find w.hosts me ≡ Some endpoint
  pub no_reset : segment.flags.rst ≡ false
  pub answered : is_syn_sent endpoint.state ≡ false
  pub top : before.snd_max ≡ snd_max endpoint
  pub arrives : arrival ≡ Some (arrival_of (as_read h.version endpoint segment))
  pub iss : Word
  pub chosen : endpoint.iss ≡ Some iss
  pub reported : reports (blocks_of (snd_una_after_segment endpoint (as_read h.version endpoint segment)) (snd_max endpoint) iss
      (sack_blocks segment.bytes)) p ≡ true

reading_parts : (a rst sent : Bool) → (a && not rst && not sent) ≡ true → (rst ≡ false) × (sent ≡ false)
reading_parts true false false is = (refl, refl)
reading_parts true false true is = absurd cc
reading_parts true true sent is = absurd cc
reading_parts false rst sent is = absurd cc

module _ (h : Header) (w : World tcp_shape) (line : ℕ) (how : TakeChoice) (me : EndpointId) (event : Event) (before : View) (p : ℕ) where
  abbrev b : HostTcp
  b = (pick w.hosts me.host).body

  abbrev taking : Emission → Taker → Observation
  taking m t = observe_taking h me.host b line how m t

  abbrev blocks_read : Endpoint → Emission → Option Word → Blocks
  blocks_read e m o =
      option_map_or (λ iss. blocks_of (snd_una_after_segment e (as_read h.version e m)) (snd_max e) iss (sack_blocks m.bytes)) o no_blocks

  at_endpoint : (m : Emission) → waiting line (pick w.hosts me.host).inbox ≡ Some m → (i : ℕ) (e : Endpoint) → taker b m ≡ AtEndpoint i e
      → Happens (taking m (AtEndpoint i e)) me event before → reads_blocks h.version e m ≡ true → (o : Option Word) → e.iss ≡ o
      → reports (blocks_read e m o) p ≡ true → Processed h w line me before (taking m (AtEndpoint i e)).arrival p
  at_endpoint m waits i e is here read None iss told = absurd cc
  at_endpoint m waits i e is here read (Some word) iss told =
      let there : slice_get b.endpoints i ≡ Some e = taker_there b m i e is in
      let flags = reading_parts (says_sender h.version) m.flags.rst (is_syn_sent e.state) read in
      let one : record { host = me.host; place = i; event = processing_of m; before = view_of e } ≡ touched me event before =
      same_Some (record { host = me.host; place = i; event = processing_of m; before = view_of e }) (touched me event before)
      (sym (ap (option_map (λ f. record { host = me.host; place = i; event = processing_of m; before = view_of f })) there) ∙ here) in
      let mine : i ≡ me.number = ap (λ (t : TouchedEndpoint). t.place) one in
      record {
        segment = m;
        waits = waits;
        endpoint = e;
        is_taker = is ∙ ap (λ (n : ℕ). AtEndpoint n e) mine;
        there = subst (λ (n : ℕ). slice_get b.endpoints n ≡ Some e) mine there;
        no_reset = flags.0;
        answered = flags.1;
        top = sym (ap (λ (t : TouchedEndpoint). t.before.snd_max) one);
        arrives = ap (λ (c : Bool). if c then Some (arrival_of (as_read h.version e m)) else None) read;
        iss = word;
        chosen = iss;
        reported = told;
      }

  at_taker : (m : Emission) → waiting line (pick w.hosts me.host).inbox ≡ Some m → (t : Taker) → taker b m ≡ t → Happens (taking m t) me event before
      → reports (taking m t).blocks p ≡ true → Processed h w line me before (taking m t).arrival p
  at_taker m waits Nobody is here told = absurd (none-some (touched me event before) here)
  at_taker m waits (AtListener l) is here told = absurd cc
  at_taker m waits (AtEndpoint i e) is here told = by (reads_blocks h.version e m) refl told
    where
      by : (c : Bool) → reads_blocks h.version e m ≡ c → reports (if c then blocks_read e m e.iss else no_blocks) p ≡ true
          → Processed h w line me before (taking m (AtEndpoint i e)).arrival p
      by true read some = at_endpoint m waits i e is here read e.iss refl some
      by false read some = absurd cc

  pub processed : (moment : ℕ) → Happens (observe h moment w (At me.host (Takes line how))) me event before
      → reports (observe h moment w (At me.host (Takes line how))).blocks p ≡ true
      → Processed h w line me before (observe h moment w (At me.host (Takes line how))).arrival p
  processed moment = by (waiting line (pick w.hosts me.host).inbox) refl
    where
      shown : Option Emission → Observation
      shown o = on o unseen (λ m. observe_taking h me.host b line how m (taker b m))

      by : (o : Option Emission) → waiting line (pick w.hosts me.host).inbox ≡ o → Happens (shown o) me event before → reports (shown o).blocks p ≡ true
          → Processed h w line me before (shown o).arrival p
      by None waits here told = absurd (none-some (touched me event before) here)
      by (Some m) waits here told = at_taker m waits (taker b m) refl here told

-- ---- what the rules say of it, where both hosts are recorded

pub record FromPeer (e : Endpoint) (me : EndpointId) (m : Emission) : Type 0 where
  pub peer : e.stream.peer ≡ Some m.sender
  pub at_send : option_map_or (λ q. same_endpoint q me) m.peer_at_send true ≡ true
  pub acks : m.flags.ack ≡ true

module _ (h : Header) (whole : is_half h.version ≡ false) where
  read_whole : (e : Endpoint) (m : Emission) → as_read h.version e m ≡ m
  read_whole e m = ap (λ (c : Bool). if c then read_at e m else m) whole

  peer_rules : (t : HostTcp) (me : EndpointId) (e : Endpoint) (how : TakeChoice) (m : Emission) (moment : ℕ)
      → first_broken (connected_rules h t me e how m moment) ≡ None → m.flags.rst ≡ false → m.is_reset_reply ≡ false → FromPeer e me m
  peer_rules t me e how m moment may no_reset plain =
      let rules = none_all (connected_rules h t me e how m moment) may in
      let from : is_from_peer me e m ≡ true = whole_peer (is_half h.version) (is_from_peer me e m) whole rules.0 in
      let parts =
      both_true (option_map_or (λ peer. same_endpoint peer m.sender) e.stream.peer false)
      (option_map_or (λ q. same_endpoint q me) m.peer_at_send true)
      (not_reply m.is_reset_reply (same_endpoint m.sender me)
      (option_map_or (λ peer. same_endpoint peer m.sender) e.stream.peer false
      && option_map_or (λ q. same_endpoint q me) m.peer_at_send true) plain from) in
      record {
        peer = some_name e.stream.peer m.sender parts.0;
        at_send = parts.1;
        acks = acknowledges m.flags.rst m.flags.ack (nat_lt (snd_max e) m.ack) (is_syn_received e.state && nat_le m.ack e.stream.snd_una) no_reset
            rules.1.1.1.0;
      }
    where
      whole_peer : (half from : Bool) → half ≡ false → (not half && not from) ≡ false → from ≡ true
      whole_peer true from is fine = absurd cc
      whole_peer false true is fine = refl
      whole_peer false false is fine = absurd cc

      not_reply : (r x y : Bool) → r ≡ false → (if r then x else y) ≡ true → y ≡ true
      not_reply true x y is fine = absurd cc
      not_reply false x y is fine = fine

      acknowledges : (r a x y : Bool) → r ≡ false → (not r && (not a || x || y)) ≡ false → a ≡ true
      acknowledges true a x y is fine = absurd cc
      acknowledges false true x y is fine = refl
      acknowledges false false x y is fine = absurd cc

  from_peer : (moment : ℕ) (w : World tcp_shape) (line : ℕ) (how : TakeChoice) (me : EndpointId) (m : Emission) (e : Endpoint)
      → Permitted (tcp h) moment w (At me.host (Takes line how)) → waiting line (pick w.hosts me.host).inbox ≡ Some m
      → taker (pick w.hosts me.host).body m ≡ AtEndpoint me.number e → is_syn_sent e.state ≡ false → m.flags.rst ≡ false
      → m.is_reset_reply ≡ false → FromPeer e me m
  from_peer moment w line how me m e may waits is answered no_reset plain =
      peer_rules b me e how m moment
      (subst (λ (x : Emission). first_broken (connected_rules h b me e how x moment) ≡ None) (read_whole e m) connected) no_reset plain
    where
      b : HostTcp
      b = (pick w.hosts me.host).body

      passed : first_broken (taker_rules h me.host b how m moment (taker b m)) ≡ None
      passed =
          let t = on_passes (waiting line (pick w.hosts me.host).inbox) rules.Inbox (λ x. taker_rules h me.host b how x moment (taker b x)) may in
          let one : t.0 ≡ m = same_Some t.0 m (sym t.1 ∙ waits) in
          subst (λ (x : Emission). first_broken (taker_rules h me.host b how x moment (taker b x)) ≡ None) one t.2

      connected : first_broken (connected_rules h b me e how (as_read h.version e m) moment) ≡ None
      connected =
          subst
          (λ (c : Bool). first_broken (if c then syn_sent_rules e how (as_read h.version e m) moment
          else connected_rules h b me e how (as_read h.version e m) moment) ≡ None) answered
          (subst (λ (t : Taker). first_broken (taker_rules h me.host b how m moment t) ≡ None) is passed)

-- ---- along a run

begun : (a b c : Word) → a ≡ b → a ≡ c → b ≡ c
begun a b c same is = sym same ∙ is

-- there is one number
one_irs : (h : Header) (xs : List (Stamped tcp_shape)) (place : ℕ) (me : EndpointId) (e : Endpoint)
    → find (world_before h xs place).hosts me ≡ Some e → (a b : Word) → e.irs ≡ Some a → irs_before h xs place me ≡ Some b → a ≡ b
one_irs h xs place me e there a b here known =
    same_Some a b (sym here ∙ (sym (ap (λ (o : Option Endpoint). option_and_then (λ x. x.irs) o) there) ∙ known))

module _ (h : Header) (whole : is_half h.version ≡ false) (xs : List (Stamped tcp_shape)) (six : says_sender h.version ≡ true)
    (lawful : Lawful (tcp h) (start (tcp h)) xs) (may : Dutiful h (first_known h) xs) where
  -- the next position expected never falls
  rcv_rises : (q : EndpointId) (from to : ℕ) → from ≤ to → (seen_before h xs from q).rcv_nxt ≤ (seen_before h xs to q).rcv_nxt
  rcv_rises q from to le = by (find (world_before h xs from).hosts q) refl
    where
      by : (o : Option Endpoint) → find (world_before h xs from).hosts q ≡ o
          → (option_map_or view_of o unborn).rcv_nxt ≤ (seen_before h xs to q).rcv_nxt
      by None is = omega arith
      by (Some e) is =
          let b = becomes h xs lawful q from to le e is in
          subst (λ (o : Option Endpoint). rcv_nxt e ≤ (option_map_or view_of o unborn).rcv_nxt) (sym b.there) b.next

  has_later : (from to : ℕ) → from ≤ to → (q : EndpointId) (p : ℕ) → Has h xs from q p → Has h xs to q p
  has_later from to le q p (inl below) =
      let rises = rcv_rises q from to le in
      inl (omega (arith, below, rises))
  has_later from to le q p (inr k) = let less = k.earlier in inr (record {
    kept = k.kept;
    earlier = omega (arith, less, le);
    line = k.line;
    choice = k.choice;
    step = k.step;
    event = k.event;
    before = k.before;
    happens = k.happens;
    from = k.from;
    upto = k.upto;
  })

  module _ (place p : ℕ) (me : EndpointId) (moment line : ℕ) (how : TakeChoice) (before : View) (arrival : Arrival)
      (r : Processed h (world_before h xs place) line me before (Some arrival) p)
      (allowed : Permitted (tcp h) moment (world_before h xs place) (At me.host (Takes line how))) (young : IsYoung before.snd_max arrival) where
    abbrev w : World tcp_shape
    w = world_before h xs place

    abbrev m : Emission
    m = r.segment

    good : GoodEmission w.hosts m
    good = ((fine_at h whole xs lawful place).good me.host).tables.inbox line m r.waits

    plain : m.is_reset_reply ≡ false
    plain = is_not m.is_reset_reply (λ reply. true_false (good.resets reply) r.no_reset)

    from : FromPeer r.endpoint me m
    from = from_peer h whole moment w line how me m r.endpoint allowed r.waits r.is_taker r.answered r.no_reset plain

    -- its sender's peer is this endpoint
    is_peer : HasStream w.hosts m.sender (λ s. s.peer ≡ Some me)
    is_peer =
        let acked = good.ack from.acks plain in
        good.peer_at_send me (any_name m.peer_at_send me acked.0.0 from.at_send acked.0.1)

    -- the sender knows the number with which this endpoint's stream begins
    begins : (irs : Word) (peer : Option EndpointId) → Knows h xs place m.sender irs peer → irs ≡ number_of r.iss 0
    begins irs peer k =
        let one : is_peer.0 ≡ k.endpoint = same_Some is_peer.0 k.endpoint (sym is_peer.1 ∙ k.there) in
        let x : HasIss w.hosts me irs =
        (traced h whole xs lawful place).peers m.sender k.endpoint k.there irs me k.known
        (sym (ap (λ (e : Endpoint). e.stream.peer) one) ∙ is_peer.2) in
        let mine : x.0 ≡ r.endpoint = same_Some x.0 r.endpoint (sym x.1 ∙ r.there) in
        let iss : x.2 ≡ r.iss = same_Some x.2 r.iss (sym x.3 ∙ (ap (λ (e : Endpoint). e.iss) mine ∙ r.chosen)) in
        x.4 ∙ ap (λ (i : Word). number_of i 0) iss

    -- what the endpoint reads
    block : Reported (max r.endpoint.stream.snd_una m.ack) (snd_max r.endpoint) r.iss (sack_blocks m.bytes) p
    block =
        in_one (max r.endpoint.stream.snd_una m.ack) (snd_max r.endpoint) r.iss (sack_blocks m.bytes) p
        (subst (λ (x : Emission). reports (blocks_of (snd_una_after_segment r.endpoint x) (snd_max r.endpoint) r.iss (sack_blocks m.bytes)) p ≡ true)
        (read_whole h whole r.endpoint m) r.reported)

    near_top : snd_max r.endpoint < m.ack + 2 ^ 31
    near_top =
        let same : arrival ≡ arrival_of (as_read h.version r.endpoint m) = same_Some arrival (arrival_of (as_read h.version r.endpoint m)) r.arrives in
        let ack : arrival.ack ≡ m.ack = ap (λ (x : Arrival). x.ack) same ∙ ap (λ (x : Emission). x.ack) (read_whole h whole r.endpoint m) in
        let top = r.top in
        omega (arith, young, ack, top)

    abbrev q : EndpointId
    q = m.sender

    -- what its sender had then
    sender_had : (s : WasSent h xs place m) → Has h xs s.sent q p
    sender_had s =
        let other : ℕ = (seen_before h xs s.sent q).rcv_nxt in
        let bytes : slice_get (sack_blocks s.wire.bytes) block.number ≡ Some block.block =
        subst (λ (l : List ℕ). slice_get (sack_blocks l) block.number ≡ Some block.block) s.bytes block.there in
        let told = may_report h xs six lawful may s.sent block.number q s.wire block.block block.low bytes s.is_sent in
        let t = told.is_true in
        let known = knows_then h xs lawful q told.permits.taken s.sent true told.permits.alone told.permits.earlier told.permits.takes in
        let number = one_irs h xs s.sent q known.2.endpoint known.2.there known.0 told.irs known.2.known told.known in
        let less = s.earlier in
        let same =
        begun known.0 told.irs (number_of r.iss 0) number
        (begins known.0 known.1 (knows_on h xs lawful q known.0 known.1 s.sent place (omega (arith, less)) known.2)) in
        let here_left = is_at (max r.endpoint.stream.snd_una m.ack) r.iss block.block.left block.left block.begins in
        let here_right = is_at (max r.endpoint.stream.snd_una m.ack) r.iss block.block.right block.right block.ends in
        let there_left = is_at other told.irs block.block.left t.left t.begins in
        let there_right = is_at other told.irs block.block.right t.right t.ends in
        had (cases_lt p other) (λ beyond.
        let a =
        agree (max r.endpoint.stream.snd_una m.ack) other m.ack (snd_max r.endpoint) block.left block.right t.left t.right p
        (alike (max r.endpoint.stream.snd_una m.ack) other r.iss told.irs block.block.left block.left t.left same here_left there_left)
        (alike (max r.endpoint.stream.snd_una m.ack) other r.iss told.irs block.block.right block.right t.right same here_right there_right)
        here_left.least here_right.most there_right.least there_right.most t.some (s.ack from.acks) near_top block.sent block.from block.upto beyond in
        t.each p a.from a.upto)
      where
        had : (p < (seen_before h xs s.sent q).rcv_nxt) ⊎ ((seen_before h xs s.sent q).rcv_nxt ≤ p)
            → ((seen_before h xs s.sent q).rcv_nxt ≤ p → Has h xs s.sent q p) → Has h xs s.sent q p
        had (inl below) rest = inl below
        had (inr beyond) rest = rest beyond

    peer_has : PeerHas h xs place me p
    peer_has =
        let s : WasSent h xs place m = (((traced h whole xs lawful place).tables me.host).inbox line m r.waits plain).1 in
        let less = s.earlier in (
          q,
          ap (λ (o : Option Endpoint). option_and_then (λ e. e.stream.peer) o) r.there ∙ from.peer,
          has_later s.sent place (omega (arith, less)) q p (sender_had s),
        )

  pub are_taken : ReportsAreTaken h xs
  are_taken place p me arrival r arrives young =
      let is : observed h xs place ≡ observe h r.step.0 (world_before h xs place) (At me.host (Takes r.line r.choice)) =
      ap (λ (o : Option (Stamped tcp_shape)). option_map_or (λ y. observe h y.moment (world_before h xs place) y.step) o unseen) r.step.1 in
      let read =
      processed h (world_before h xs place) r.line r.choice me r.event r.before p r.step.0
      (ap (λ (s : Observation). s.touched) (sym is) ∙ r.happens) (ap (λ (s : Observation). reports s.blocks p) (sym is) ∙ r.reports) in
      let known : (observe h r.step.0 (world_before h xs place) (At me.host (Takes r.line r.choice))).arrival ≡ Some arrival =
      ap (λ (s : Observation). s.arrival) (sym is) ∙ arrives in
      peer_has place p me r.step.0 r.line r.choice r.before arrival
      (subst (λ (o : Option Arrival). Processed h (world_before h xs place) r.line me r.before o p) known read)
      (permitted_at h (start (tcp h)) xs lawful place (record { moment = r.step.0; step = At me.host (Takes r.line r.choice) }) r.step.1) young
