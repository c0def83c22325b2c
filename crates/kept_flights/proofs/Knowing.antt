-- Once an endpoint took its peer's SYN, it knows its peer's first number, which stays.
use Rattle.std.proofs.Common.{◌≡◌, ℕ, suc, ◌<◌, ◌≤◌, Bool, true, false, List, Option, Some, None, refl, ap, sym, subst, ◌∙◌, arith}
use Rattle.std.specs.Prelude.{slice_get}
use Rattle.std.specs.Option.{option_map_or}
use Rattle.std.proofs.lemmas.Option.{same_Some}
use Rattle.seqno.specs.declared.word.Word.{Word}
use Rattle.case_forms.specs.declared.trace.Header.{Header}
use Rattle.spec_network.specs.Hosts.{Stamped, World}
use Rattle.spec_network.specs.HostSteps.{Lawful, after, start}
use Rattle.spec_tcp.specs.Machine.{tcp, tcp_shape}
use Rattle.spec_tcp.specs.declared.endpoint.Endpoint.{Endpoint}
use Rattle.spec_tcp.specs.declared.endpoint.EndpointId.{EndpointId}
use Rattle.spec_tcp_laws.specs.Consequences.{find}
use Rattle.spec_duties.specs.declared.observations.SynChange.TheVariants as syn_change
use Rattle.kept_flights.specs.Places.{world_before}
use Rattle.kept_flights.specs.Reported.{HasSyn}
use Rattle.kept_flights.proofs.FirstNumbers.{Numbered, both_step, meets, stays}
use Rattle.kept_flights.proofs.Positions.{Answered, becomes, permitted_at, world_next}
use Rattle.kept_flights.proofs.Runs.{onward}
use Rattle.kept_flights.proofs.Syns.{shown_at}

-- the endpoint is there, has left SYN-SENT, and knows this number, and its peer
pub record Knows (h : Header) (xs : List (Stamped tcp_shape)) (place : ℕ) (me : EndpointId) (irs : Word) (peer : Option EndpointId) : Type 0 where
  pub endpoint : Endpoint
  pub there : find (world_before h xs place).hosts me ≡ Some endpoint
  pub answered : Answered endpoint.state
  pub known : endpoint.irs ≡ Some irs
  pub met : endpoint.stream.peer ≡ peer

module _ (h : Header) (xs : List (Stamped tcp_shape)) (lawful : Lawful (tcp h) (start (tcp h)) xs) (me : EndpointId) (irs : Word)
    (peer : Option EndpointId) where
  -- by a step that makes this of it
  kept_by : (w : World tcp_shape) (e f : Endpoint) → Answered e.state → Numbered w me.host e f → (f.irs ≡ e.irs) × (f.stream.peer ≡ e.stream.peer)
  kept_by w e f left (stays s) = (s.irs, s.peer)
  kept_by w e f left (meets waits iss m) = let bad : true ≡ false = sym waits ∙ left in absurd cc

  next : (place : ℕ) → Knows h xs place me irs peer → Knows h xs (suc place) me irs peer
  next place k = by (slice_get xs place) refl
    where
      w : World tcp_shape
      w = world_before h xs place

      step_world : Option (Stamped tcp_shape) → World tcp_shape
      step_world o = option_map_or (λ x. after (tcp h) x.moment w x.step) o w

      by : (o : Option (Stamped tcp_shape)) → slice_get xs place ≡ o → Knows h xs (suc place) me irs peer
      by None is =
          let same : world_before h xs (suc place) ≡ w = world_next h (start (tcp h)) xs place ∙ ap step_world is in
          record {
            endpoint = k.endpoint;
            there = ap (λ (v : World tcp_shape). find v.hosts me) same ∙ k.there;
            answered = k.answered;
            known = k.known;
            met = k.met;
          }
      by (Some x) is =
          let goes : world_before h xs (suc place) ≡ after (tcp h) x.moment w x.step = world_next h (start (tcp h)) xs place ∙ ap step_world is in
          let n = (both_step h x.moment w x.step (permitted_at h (start (tcp h)) xs lawful place x is) me.host).onward me.number k.endpoint k.there in
          let there : find (world_before h xs (suc place)).hosts me ≡ Some n.0 = ap (λ (v : World tcp_shape). find v.hosts me) goes ∙ n.1 in
          let b = becomes h xs lawful me place (suc place) (omega arith) k.endpoint k.there in
          let same = kept_by w k.endpoint n.0 k.answered n.2 in
          record {
            endpoint = n.0;
            there = there;
            answered = subst (λ (f : Endpoint). Answered f.state) (same_Some b.now n.0 (sym b.there ∙ there)) (b.answered k.answered);
            known = same.0 ∙ k.known;
            met = same.1 ∙ k.met;
          }

  pub knows_on : (from to : ℕ) → from ≤ to → Knows h xs from me irs peer → Knows h xs to me irs peer
  knows_on from to le k = onward (λ place. Knows h xs place me irs peer) from to le k (λ place low high. next place)

-- so it does after it took the SYN
module _ (h : Header) (xs : List (Stamped tcp_shape)) (lawful : Lawful (tcp h) (start (tcp h)) xs) (me : EndpointId) where
  pub knows_then : (from to : ℕ) (permits alone : Bool) → from < to → HasSyn h xs from me (syn_change.Takes permits alone)
      → (irs : Word) × (peer : Option EndpointId) × Knows h xs to me irs peer
  knows_then from to permits alone less syn =
      let x = shown_at h xs me from permits alone syn in
      let goes : world_before h xs (suc from) ≡ after (tcp h) x.0.moment (world_before h xs from) x.0.step =
      world_next h (start (tcp h)) xs from
      ∙ ap (λ (o : Option (Stamped tcp_shape)). option_map_or (λ z. after (tcp h) z.moment (world_before h xs from) z.step) o (world_before h xs from)) x.1 in (
        x.2.irs,
        x.2.now.stream.peer,
        knows_on h xs lawful me x.2.irs x.2.now.stream.peer (suc from) to (omega (arith, less)) (record {
          endpoint = x.2.now;
          there = ap (λ (v : World tcp_shape). find v.hosts me) goes ∙ x.2.there;
          answered = x.2.answered;
          known = x.2.known;
          met = refl;
        }),
      )
