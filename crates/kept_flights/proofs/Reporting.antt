-- The blocks that are sent are true.
use Rattle.std.proofs.Common.{◌≡◌, ℕ, zero, suc, ◌<◌, ◌≤◌, ◌⊎◌, inl, inr, max, Bool, true, false, List, [], ◌∷◌, ◌++◌}
use Rattle.std.proofs.Common.{Option, None, Some, refl, ap, sym, subst, ◌∙◌, nat_eq, arith}
use Rattle.std.specs.Prelude.{◌&&◌, ◌||◌, if◌then◌else◌, is_some, nat_lt, not, slice_get}
use Rattle.std.specs.FinSet.{FinSet, contains, from_list}
use Rattle.std.specs.List.{AllByRecursion}
use Rattle.std.specs.Map.{lookup}
use Rattle.std.specs.Option.{option_and_then, option_map, option_map_or}
use Rattle.std.specs.Ordering.{nat_cmp}
use Rattle.std.proofs.lemmas.Bool.Decides.{nat_tests}
use Rattle.std.proofs.lemmas.Option.{none-some, same_Some}
use Rattle.seqno.specs.Near.{near_position}
use Rattle.seqno.specs.declared.word.Word.{Word}
use Rattle.segment.specs.Reading.{sack_blocks}
use Rattle.segment.specs.declared.options.SackBlock.{SackBlock}
use Rattle.case_forms.specs.Versions.{says_sender}
use Rattle.case_forms.specs.declared.trace.Header.{Header}
use Rattle.case_forms.specs.declared.trace.Wire.{Wire}
use Rattle.verdict.specs.Rules.{first_broken}
use Rattle.verdict.specs.declared.rule.Rule.{Rule}
use Rattle.verdict.specs.declared.rule.Rule.TheVariants as rules
use Rattle.verdict.proofs.RuleLemmas.{none_all, none_both}
use Rattle.streams.specs.Ranges.{covers}
use Rattle.streams.proofs.RangeLemmas.{covers_each}
use Rattle.spec_network.specs.Hosts.{At, Sends, Stamped, World}
use Rattle.spec_network.specs.HostSteps.{Lawful, start}
use Rattle.spec_network.specs.Tables.{Made, on, pick}
use Rattle.spec_tcp.specs.Endpoints.{rcv_nxt}
use Rattle.spec_tcp.specs.HostTcp.{HostTcp}
use Rattle.spec_tcp.specs.Machine.{tcp, tcp_shape}
use Rattle.spec_tcp.specs.declared.endpoint.Emission.{Emission}
use Rattle.spec_tcp.specs.declared.endpoint.Endpoint.{Endpoint}
use Rattle.spec_tcp.specs.declared.endpoint.EndpointId.{EndpointId}
use Rattle.spec_tcp_laws.specs.Consequences.{find}
use Rattle.spec_duties.specs.Observations.{at_place, at_sender, observe, sending_of, syn_sent, unseen}
use Rattle.spec_duties.specs.Arrivals.{acked_sent, stamps_read}
use Rattle.spec_duties.specs.Owed.{late_rules}
use Rattle.spec_duties.specs.Sampling.{is_sample_due}
use Rattle.spec_duties.specs.Strict.{brought_by}
use Rattle.spec_duties.specs.Views.{unborn, view_of}
use Rattle.spec_duties.specs.Watching.{Duties, answer_rules, built_by, counts_now, drops_needed, duty_rules, judged_lates, leaves_late}
use Rattle.spec_duties.specs.Watching.{limit_rules, owed_by, sends_in_excess, sent_by, sent_late, strict_by, touched_rules, untrue_rules}
use Rattle.spec_duties.specs.declared.events.Event.{Event}
use Rattle.spec_duties.specs.declared.observations.BuiltChange.TheVariants as built_change
use Rattle.spec_duties.specs.declared.observations.Observation.{Observation}
use Rattle.spec_duties.specs.declared.observations.TouchedEndpoint.{TouchedEndpoint}
use Rattle.spec_duties.specs.declared.observations.Untruth.{Untruth}
use Rattle.spec_duties.specs.declared.observations.Untruth.TheVariants as untruth
use Rattle.spec_duties.specs.declared.owed.Owed.{Owed}
use Rattle.spec_duties.specs.declared.views.View.{View}
use Rattle.spec_flights.specs.Flights.{sends_untrue}
use Rattle.spec_flights.specs.Held.{are_untrue, is_true_block, is_untrue, is_untrue_at, reports_held}
use Rattle.spec_cases.specs.Cases.{Dutiful, Known, first_known, judged_rules, shown as shown_by, untrue_at, untrue_from, untrue_sent}
use Rattle.kept_flights.specs.Holding.{BlocksAreTrue, Has, IsTrueBlock, irs_before}
use Rattle.kept_flights.specs.Places.{Happens, observed, seen_before, world_before}
use Rattle.kept_flights.proofs.Keeping.{held_was_kept, peer_permits}
use Rattle.kept_flights.proofs.Knowing.{knows_then}
use Rattle.kept_flights.proofs.Runs.{dutiful_there, flight_before, flight_in, known_before, model_is, touched}

-- ---- rules 53 to 55 are judged at each step, at whatever slack

judged_none : (h : Header) (moment : ℕ) (d : Duties) (untrue : Option Untruth) (s : Observation) → first_broken (judged_rules h moment d untrue s) ≡ None
    → untrue ≡ None
judged_none h moment d untrue s = by h.slack
  where
    first : (o : Option Untruth) (rest : List (Rule × Bool)) → AllByRecursion (λ r. r.1 ≡ false) (untrue_rules o ++ rest) → o ≡ None
    first None rest all = refl
    first (Some untruth) rest all = let is : true ≡ false = all.0 in absurd cc

    alone : (o : Option Untruth) → first_broken (untrue_rules o) ≡ None → o ≡ None
    alone None e = refl
    alone (Some untruth) e = absurd cc

    limits : (t : TouchedEndpoint) (counts lacks due : Bool) (o : Owed) → first_broken (limit_rules h t counts lacks untrue due o) ≡ None → untrue ≡ None
    limits t counts lacks due o e = first untrue _ (none_all (limit_rules h t counts lacks untrue due o) e).1.1.1

    of_rules : (slack : ℕ) (o : Option TouchedEndpoint) (w x y z : Rule × Bool) (f : TouchedEndpoint → List (Rule × Bool))
        → ((t : TouchedEndpoint) → first_broken (f t) ≡ None → untrue ≡ None)
        → first_broken (w ∷ x ∷ y ∷ z ∷ on o (answer_rules slack moment d untrue s.call_change) f) ≡ None → untrue ≡ None
    of_rules slack None w x y z f each e =
        first untrue _ (none_all (w ∷ x ∷ y ∷ z ∷ answer_rules slack moment d untrue s.call_change) e).1.1.1.1
    of_rules slack (Some t) w x y z f each e = each t (none_both (w ∷ x ∷ y ∷ z ∷ []) (f t) e).1

    by : (o : Option ℕ) → first_broken (on o (untrue_rules untrue) (λ slack. duty_rules h slack moment d untrue s)) ≡ None → untrue ≡ None
    by None e = alone untrue e
    by (Some slack) e =
        of_rules slack s.touched (rules.Dropped, drops_needed d s.dropping) (rules.Discarded, s.discards)
        (rules.ProcessLate, leaves_late slack moment d s.inbox_change) (rules.SendLate, sent_late slack moment (built_by d s.built_change))
        (touched_rules h slack moment d (counts_now (built_by d s.built_change)) untrue (sent_by d s.built_change) s.sampling)
        (λ t all.
        limits t (counts_now (built_by d s.built_change)) (sends_in_excess h slack d (sent_by d s.built_change) t)
        (is_sample_due s.sampling (strict_by d t.host t.place).timed) (owed_by d t.host t.place)
        (none_both (late_rules (judged_lates h slack moment d (brought_by (sent_by d s.built_change)) t.host t.place t.before))
        (limit_rules h t (counts_now (built_by d s.built_change)) (sends_in_excess h slack d (sent_by d s.built_change) t) untrue
        (is_sample_due s.sampling (strict_by d t.host t.place).timed) (owed_by d t.host t.place)) all).1) e

-- ---- what is true

true_or : (held : FinSet nat_cmp) (next left right : ℕ) → reports_held held next left right ≡ true
    → (left < right) × ((position : ℕ) → left ≤ position → position < right → (position < next) ⊎ (contains held position ≡ true))
true_or held next left right is =
    let parts = both (nat_lt left right) (covers held (max left next) right) is in
    let less = parts.0 in
    (grind (arith, nat_tests, less), λ position low high. by position low high (nat_lt position next) refl parts.1)
  where
    both : (a b : Bool) → (a && b) ≡ true → (a ≡ true) × (b ≡ true)
    both true true c = (refl, refl)
    both true false c = absurd cc
    both false b c = absurd cc

    by : (position : ℕ) → left ≤ position → position < right → (b : Bool) → nat_lt position next ≡ b → covers held (max left next) right ≡ true
        → (position < next) ⊎ (contains held position ≡ true)
    by position low high true below all = inl (grind (arith, nat_tests, below))
    by position low high false below all =
        inr (covers_each held (max left next) right all position (grind (arith, nat_tests, low, below)) high)

-- of one block, and of all
module _ (held : FinSet nat_cmp) (next : ℕ) (irs : Word) where
  record Read (block : SackBlock) : Type 0 where
    pub left : ℕ
    pub right : ℕ
    pub begins : near_position next irs block.left ≡ Some left
    pub ends : near_position next irs block.right ≡ Some right
    pub holds : reports_held held next left right ≡ true

  read : (block : SackBlock) → is_true_block held next irs block ≡ true → Read block
  read block is = by (near_position next irs block.left) (near_position next irs block.right) refl refl is
    where
      by : (l r : Option ℕ) → near_position next irs block.left ≡ l → near_position next irs block.right ≡ r
          → option_map_or (λ left. option_map_or (reports_held held next left) r false) l false ≡ true → Read block
      by (Some left) (Some right) begins ends holds = record { left = left; right = right; begins = begins; ends = ends; holds = holds }
      by (Some left) None begins ends holds = absurd cc
      by None r begins ends holds = absurd cc

  true_at : (blocks : List SackBlock) (number : ℕ) (block : SackBlock) → is_untrue_at held next irs blocks number ≡ false
      → slice_get blocks number ≡ Some block → is_true_block held next irs block ≡ true
  true_at blocks number block is there = by (is_true_block held next irs block) refl
    where
      by : (b : Bool) → is_true_block held next irs block ≡ b → b ≡ true
      by true e = refl
      by false e =
          let bad : true ≡ false =
          sym (ap (λ (o : Option SackBlock). option_map_or (λ k. not (is_true_block held next irs k)) o false) there ∙ ap not e) ∙ is in
          absurd cc

  none_untrue : (blocks : List SackBlock) (number : ℕ) → number < 4 → are_untrue held next blocks irs ≡ false
      → is_untrue_at held next irs blocks number ≡ false
  none_untrue blocks number less is =
      let four = parts (is_untrue_at held next irs blocks 0) (is_untrue_at held next irs blocks 1) (is_untrue_at held next irs blocks 2)
      (is_untrue_at held next irs blocks 3) is in
      by number less four
    where
      parts : (a b c d : Bool) → (a || b || c || d) ≡ false → (a ≡ false) × (b ≡ false) × (c ≡ false) × (d ≡ false)
      parts false false false false e = (refl, refl, refl, refl)
      parts true b c d e = absurd cc
      parts false true c d e = absurd cc
      parts false false true d e = absurd cc
      parts false false false true e = absurd cc

      by : (n : ℕ) → n < 4
          → (is_untrue_at held next irs blocks 0 ≡ false) × (is_untrue_at held next irs blocks 1 ≡ false)
          × (is_untrue_at held next irs blocks 2 ≡ false) × (is_untrue_at held next irs blocks 3 ≡ false)
          → is_untrue_at held next irs blocks n ≡ false
      by zero low four = four.0
      by (suc zero) low four = four.1
      by (suc (suc zero)) low four = four.2
      by (suc (suc (suc zero))) low four = four.3
      by (suc (suc (suc (suc n)))) low four = let none : ⊥ = omega (arith, low) in absurd none

-- if blocks aren't untrue, they are permitted; and each is true, where the endpoint knows its peer's first number
record Judged (permitted : Bool) (held : FinSet nat_cmp) (next : ℕ) (irs : Option Word) (block : SackBlock) : Type 0 where
  pub permits : permitted ≡ true
  pub each : (word : Word) → irs ≡ Some word → Read held next word block

judged : (permitted : Bool) (held : FinSet nat_cmp) (next : ℕ) (irs : Option Word) (blocks : List SackBlock) (number : ℕ) (block : SackBlock) → number < 4
    → slice_get blocks number ≡ Some block → is_untrue permitted held next irs blocks ≡ false → Judged permitted held next irs block
judged permitted held next irs blocks number block less there is =
    let rest : (not permitted || option_map_or (are_untrue held next blocks) irs false) ≡ false = some blocks number there is in
    record {
      permits = allowed permitted (option_map_or (are_untrue held next blocks) irs false) rest;
      each = λ word known.
          let all : are_untrue held next blocks word ≡ false =
          sym (ap (λ (o : Option Word). option_map_or (are_untrue held next blocks) o false) known)
          ∙ untrue permitted (option_map_or (are_untrue held next blocks) irs false) rest in
          read held next word block (true_at held next word blocks number block (none_untrue held next word blocks number less all) there);
    }
  where
    allowed : (a b : Bool) → (not a || b) ≡ false → a ≡ true
    allowed true b e = refl
    allowed false b e = absurd cc

    untrue : (a b : Bool) → (not a || b) ≡ false → b ≡ false
    untrue true b e = e
    untrue false b e = absurd cc

    some : (ks : List SackBlock) (n : ℕ) → slice_get ks n ≡ Some block
        → (is_some (slice_get ks 0) && (not permitted || option_map_or (are_untrue held next blocks) irs false)) ≡ false
        → (not permitted || option_map_or (are_untrue held next blocks) irs false) ≡ false
    some [] n e f = absurd (none-some block e)
    some (k ∷ ks) n e f = f

-- ---- the endpoint that sends

-- what a line shows of its sender
record Sender (w : World tcp_shape) (me : EndpointId) (number : ℕ) : Type 0 where
  pub made : Made Emission
  pub waits : lookup (nat_eq number) (pick w.hosts me.host).made ≡ Some made
  pub no_reply : made.emission.is_reset_reply ≡ false
  pub mine : made.emission.sender.number ≡ me.number
  pub endpoint : Endpoint
  pub there : find w.hosts me ≡ Some endpoint

sender : (h : Header) (moment : ℕ) (w : World tcp_shape) (me : EndpointId) (line number : ℕ) (wire : Wire) (event : Event) (before : View)
    → Happens (observe h moment w (At me.host (Sends line number wire))) me event before → Sender w me number
sender h moment w me line number wire event before = by (lookup (nat_eq number) (pick w.hosts me.host).made) refl
  where
    b : HostTcp
    b = (pick w.hosts me.host).body

    place : (m : Made Emission) → lookup (nat_eq number) (pick w.hosts me.host).made ≡ Some m → m.emission.is_reset_reply ≡ false → (o : Option Endpoint)
        → slice_get b.endpoints m.emission.sender.number ≡ o
        → option_map (λ e. record { host = me.host; place = m.emission.sender.number; event = sending_of wire m.emission; before = view_of e }) o
        ≡ Some (touched me event before) → Sender w me number
    place m waits plain None is here = absurd (none-some (touched me event before) here)
    place m waits plain (Some e) is here =
        let one =
        same_Some (record { host = me.host; place = m.emission.sender.number; event = sending_of wire m.emission; before = view_of e })
        (touched me event before) here in
        let mine : m.emission.sender.number ≡ me.number = ap (λ (t : TouchedEndpoint). t.place) one in
        record {
          made = m;
          waits = waits;
          no_reply = plain;
          mine = mine;
          endpoint = e;
          there = subst (λ (n : ℕ). slice_get b.endpoints n ≡ Some e) mine is;
        }

    at : (m : Made Emission) → lookup (nat_eq number) (pick w.hosts me.host).made ≡ Some m → (r : Bool) → m.emission.is_reset_reply ≡ r
        → (if r then None else at_place me.host b (sending_of wire m.emission) m.emission.sender.number) ≡ Some (touched me event before)
        → Sender w me number
    at m waits true r here = absurd (none-some (touched me event before) here)
    at m waits false r here = place m waits r (slice_get b.endpoints m.emission.sender.number) refl here

    by : (o : Option (Made Emission)) → lookup (nat_eq number) (pick w.hosts me.host).made ≡ o
        → (on o unseen (λ m. record unseen {
          touched = at_sender me.host b wire m.emission;
          built_change = built_change.Sends number;
          syn_change = syn_sent h.version m.emission wire.bytes;
          stamps = stamps_read h.version wire.bytes;
          acked = acked_sent h.version wire m.emission;
        })).touched ≡ Some (touched me event before) → Sender w me number
    by None waits here = absurd (none-some (touched me event before) here)
    by (Some m) waits here = at m waits m.emission.is_reset_reply refl here

-- its blocks aren't untrue
blocks_true : (b : Bool) (other : Option Untruth) → (if b then Some untruth.Blocks else other) ≡ None → b ≡ false
blocks_true true other e = absurd cc
blocks_true false other e = refl

not_untrue : (h : Header) (moment : ℕ) (k : Known) (me : EndpointId) (line number : ℕ) (wire : Wire) → says_sender h.version ≡ true
    → untrue_at h moment k (At me.host (Sends line number wire)) ≡ None → (s : Sender k.model me number)
    → is_untrue (flight_in k.flights me).sides.peers (from_list (flight_in k.flights me).held) (rcv_nxt s.endpoint) s.endpoint.irs (sack_blocks wire.bytes)
    ≡ false
not_untrue h moment k me line number wire six is s =
    sym
    (ap (λ (b : Bool). b && untrue_sent k.flights me.host (pick k.model.hosts me.host) number wire) six
    ∙ ap (λ (o : Option (Made Emission)). option_map_or (λ m. untrue_from k.flights me.host (pick k.model.hosts me.host).body wire m.emission) o false)
    s.waits
    ∙ ap (λ (r : Bool). not r
    && option_map_or (λ e. sends_untrue k.flights me.host s.made.emission.sender.number e wire.bytes)
    (slice_get (pick k.model.hosts me.host).body.endpoints s.made.emission.sender.number) false) s.no_reply
    ∙ ap (λ (n : ℕ). option_map_or (λ e. sends_untrue k.flights me.host n e wire.bytes) (slice_get (pick k.model.hosts me.host).body.endpoints n) false)
    s.mine
    ∙ ap (λ (o : Option Endpoint). option_map_or (λ e. sends_untrue k.flights me.host me.number e wire.bytes) o false) s.there)
    ∙ blocks_true (says_sender h.version && untrue_sent k.flights me.host (pick k.model.hosts me.host) number wire) _ is

-- ---- along a run

same_irs : (w : World tcp_shape) (me : EndpointId) (a b : Endpoint) (irs : Word) → find w.hosts me ≡ Some a → find w.hosts me ≡ Some b
    → a.irs ≡ Some irs → b.irs ≡ Some irs
same_irs w me a b irs here there known = subst (λ (e : Endpoint). e.irs ≡ Some irs) (same_Some a b (sym here ∙ there)) known

irs_there : (h : Header) (xs : List (Stamped tcp_shape)) (place : ℕ) (me : EndpointId) (e : Endpoint)
    → find (world_before h xs place).hosts me ≡ Some e → (irs : Word) → e.irs ≡ Some irs → irs_before h xs place me ≡ Some irs
irs_there h xs place me e there irs known = ap (λ (o : Option Endpoint). option_and_then (λ x. x.irs) o) there ∙ known

module _ (h : Header) (xs : List (Stamped tcp_shape)) (six : says_sender h.version ≡ true)
    (lawful : Lawful (tcp h) (start (tcp h)) xs) where
  pub may_report : Dutiful h (first_known h) xs → BlocksAreTrue h xs
  may_report may place number me wire block less there s =
      let k : Known = known_before h xs place in
      let is : observed h xs place ≡ observe h s.step.0 (world_before h xs place) (At me.host (Sends s.line s.number wire)) =
      ap (λ (o : Option (Stamped tcp_shape)). option_map_or (λ y. observe h y.moment (world_before h xs place) y.step) o unseen) s.step.1 in
      let who : Sender k.model me s.number =
      sender h s.step.0 k.model me s.line s.number wire s.event s.before
      (ap (λ (w : World tcp_shape). (observe h s.step.0 w (At me.host (Sends s.line s.number wire))).touched) (model_is h xs place)
      ∙ ap (λ (o : Observation). o.touched) (sym is) ∙ s.happens) in
      let duties =
      (dutiful_there h xs may place (record { moment = s.step.0; step = At me.host (Sends s.line s.number wire) }) s.step.1).duties in
      let calm : untrue_at h s.step.0 k (At me.host (Sends s.line s.number wire)) ≡ None =
      judged_none h s.step.0 k.duties (untrue_at h s.step.0 k (At me.host (Sends s.line s.number wire)))
      (shown_by h s.step.0 k (At me.host (Sends s.line s.number wire))) duties in
      let j =
      judged (flight_before h xs place me).sides.peers (from_list (flight_before h xs place me).held) (rcv_nxt who.endpoint) who.endpoint.irs
      (sack_blocks wire.bytes) number block less there (not_untrue h s.step.0 k me s.line s.number wire six calm who) in
      let found : find (world_before h xs place).hosts me ≡ Some who.endpoint =
      ap (λ (w : World tcp_shape). find w.hosts me) (sym (model_is h xs place)) ∙ who.there in
      let permits = peer_permits h xs six me place j.permits in
      let knows = knows_then h xs lawful me permits.taken place true permits.alone permits.earlier permits.takes in
      let known = same_irs (world_before h xs place) me knows.2.endpoint who.endpoint knows.0 knows.2.there found knows.2.known in
      record {
        permits = permits;
        irs = knows.0;
        known = irs_there h xs place me who.endpoint found knows.0 known;
        is_true = is_true place me block who.endpoint found knows.0 (j.each knows.0 known);
      }
    where
      has : (place : ℕ) (me : EndpointId) (position next : ℕ) → next ≡ (seen_before h xs place me).rcv_nxt
          → (position < next) ⊎ (contains {K = ℕ} {R = nat_cmp} (from_list (flight_before h xs place me).held) position ≡ true)
          → Has h xs place me position
      has place me position next is (inl below) = inl (subst (λ (n : ℕ). position < n) is below)
      has place me position next is (inr held) = inr (held_was_kept h xs six me place position held)

      is_true : (place : ℕ) (me : EndpointId) (block : SackBlock) (e : Endpoint) → find (world_before h xs place).hosts me ≡ Some e → (irs : Word)
          → Read (from_list (flight_before h xs place me).held) (rcv_nxt e) irs block → IsTrueBlock h xs place me irs block
      is_true place me block e found irs r =
          let next : rcv_nxt e ≡ (seen_before h xs place me).rcv_nxt = sym (ap (λ (o : Option Endpoint). (option_map_or view_of o unborn).rcv_nxt) found) in
          let t = true_or (from_list (flight_before h xs place me).held) (rcv_nxt e) r.left r.right r.holds in
          record {
            left = r.left;
            right = r.right;
            begins = subst (λ (n : ℕ). near_position n irs block.left ≡ Some r.left) next r.begins;
            ends = subst (λ (n : ℕ). near_position n irs block.right ≡ Some r.right) next r.ends;
            some = t.0;
            each = λ position low high. has place me position (rcv_nxt e) next (t.1 position low high);
          }
