-- Taking a segment: what the rules say of it, and what the endpoint becomes.
use Rattle.std.proofs.Common.{◌≡◌, ℕ, suc, ◌+◌, ◌-◌, ◌<◌, ◌≤◌, ◌⊎◌, Bool, true, false, List, [], ◌∷◌, ◌++◌, length}
use Rattle.std.proofs.Common.{take, drop, min, max, Option, Some, None, refl, ap, sym, subst, ◌∙◌, inl, inr, arith}
use Rattle.std.specs.Prelude.{if◌then◌else◌, ◌&&◌, ◌||◌, not, nat_lt, nat_le, slice_get, slice_range, is_some}
use Rattle.std.specs.Option.{option_map_or}
use Rattle.std.proofs.Math.Nat.{suc-add}
use Rattle.std.proofs.lemmas.Bool.{cases_lt}
use Rattle.std.proofs.lemmas.List.{append-nil, take-append-le, length-append}
use Rattle.std.proofs.lemmas.Option.{none-some, same_Some}
use Rattle.case_forms.specs.declared.trace.Header.{Header}
use Rattle.case_forms.specs.declared.calls.Host.{Host}
use Rattle.case_forms.specs.declared.calls.State.{State}
use Rattle.case_forms.specs.declared.calls.State.TheVariants as states
use Rattle.verdict.specs.Rules.{first_broken}
use Rattle.verdict.proofs.RuleLemmas.{none_all}
use Rattle.streams.specs.declared.cell.Cell.{Cell}
use Rattle.streams.specs.declared.cell.Cell.TheVariants.{Syn}
use Rattle.streams.specs.Cells.{Taken, body, bytes_of, front}
use Rattle.streams.specs.Received.{Receiving, arrived, body_kept, kept, next, received}
use Rattle.streams.proofs.Keeping.{kept_within}
use Rattle.streams.proofs.Fronts.{all_put_all, next_put_all, syn_taken, front_put_all, bytes_of-append}
use Rattle.streams.proofs.Pieces.{carried_in}
use Rattle.window_rules.specs.declared.control.Profile.{Profile}
use Rattle.spec_tcp.specs.Signals.{profile_of}
use Rattle.spec_tcp.specs.declared.endpoint.EndpointId.{EndpointId}
use Rattle.spec_tcp.specs.declared.endpoint.Stream.{Stream}
use Rattle.spec_tcp.specs.declared.endpoint.Endpoint.{Endpoint}
use Rattle.spec_tcp.specs.declared.endpoint.Emission.{Emission}
use Rattle.spec_tcp.specs.Endpoints.{flag_count, snd_max, rcv_nxt as next_of}
use Rattle.seqno.specs.declared.word.Word.{Word}
use Rattle.seqno.specs.Near.{near_position}
use Rattle.spec_network.specs.Tables.{pick, waiting}
use Rattle.spec_network.specs.Hosts.{World, Takes, At}
use Rattle.spec_tcp.specs.Arrives.OtherStates.Sequence.{is_bad_number, reads_as}
use Rattle.spec_tcp.specs.HostTcp.{HostTcp, place_of, listener_on}
use Rattle.spec_tcp.specs.Same.{same_endpoint}
use Rattle.case_forms.specs.States.{is_closed, is_syn_sent}
use Rattle.case_forms.specs.declared.steps.Flags.{Flags}
use Rattle.case_forms.specs.declared.steps.TakeChoice.{TakeChoice}
use Rattle.spec_tcp.specs.Arrives.OtherStates.Ack.{acknowledges_syn, fin_acknowledged, acknowledged}
use Rattle.spec_tcp.specs.Arrives.OtherStates.{connected_rules, taken}
use Rattle.spec_tcp.specs.Arrives.SynSent.{syn_sent_rules, on_syn}
use Rattle.spec_tcp.specs.Heard.{as_read, read_at}
use Rattle.case_forms.specs.Versions.{is_half}
use Rattle.spec_tcp.specs.Arrives.OtherStates.Peer.{is_from_peer}
use Rattle.spec_tcp.specs.Arrives.OtherStates.Fin.{first_byte, keeps_fin, finished}
use Rattle.spec_tcp.specs.Arrives.OtherStates.Text.{kept_bytes, receive_after}
use Rattle.spec_tcp.specs.Arrives.OtherStates.Reset.{was_reset}
use Rattle.spec_tcp.specs.Arrives.Listen.{child}
use Rattle.spec_tcp.specs.Arrives.{Taker, Nobody, AtListener, AtEndpoint, listener_taker, endpoint_taker, taker, taker_rules, endpoint_taken, after_taking}
use Rattle.spec_tcp.specs.Machine.{tcp_shape}
use Rattle.spec_tcp_laws.specs.Carried.{Carries}
use Rattle.spec_tcp_laws.specs.Consequences.{HasStream}
use Rattle.spec_tcp_laws.proofs.Rules.{not_false, both_true, neither, and_false, is_not, some_name, any_name, at_most_to}
use Rattle.spec_tcp_laws.proofs.Later.{Hosts, name, all_cells, emission_later, GoodEmission, GoodStream, GoodEnd}
use Rattle.spec_tcp_laws.proofs.Reading.{take_nothing}
use Rattle.spec_tcp_laws.proofs.Ordered.{Begun, next_begun, stays_put_all, begun_kept, begun_met}
use Rattle.spec_tcp_laws.proofs.Grows.{nothing, adds_nothing, silent, Own, Grows, Bare, Plain, plain_keeps, Coming}
use Rattle.spec_tcp_laws.proofs.Grows.{Grown, AllOwn, grows_plain, grown_not, grown_one, grown_push}
use Rattle.spec_tcp_laws.proofs.Moves.{Changes, changes_keeps, GoodEnds, Moves, moves_not, moves_one, moves_push}

-- 1. what is kept of a segment stands in it

kept_part : (payload : List ℕ) (f : Bool) (q hi : ℕ) (kf : Bool) → hi ≤ length payload → (kf ≡ true → (f ≡ true) × (q ≤ length payload) × (hi ≡ length payload))
    → (k : ℕ) (c : Cell) → slice_get (body (take (hi - q) (drop q payload)) kf) k ≡ Some c → slice_get (Syn ∷ body payload f) (suc (q + k)) ≡ Some c
kept_part payload f q hi kf within whole k c e =
    let less : suc q - 1 ≡ q = omega arith in
    rw (← suc-add) (carried_in payload f (suc q) (hi - q) false kf (λ h. absurd cc) (λ h. absurd cc) (λ h. absurd cc)
    (λ h. omega arith) (λ h. omega arith) (λ h. let w = whole h in let x = w.1 in let y = w.2 in omega arith) (λ h. (whole h).0) k c
    (subst (λ j. slice_get (body (take (hi - q) (drop j payload)) kf) k ≡ Some c) (sym less) e))

-- what is kept stands in the segment
kept_place : (payload : List ℕ) (keep f : Bool) (first n edge : ℕ) (k : ℕ) (c : Cell)
    → slice_get (body (if keep then slice_range payload (max n first - first)
    (min (first + length payload) edge - first) else [])
    (keep && f && nat_le n (first + length payload) && nat_le (first + length payload) edge)) k ≡ Some c
    → (keep ≡ true) × (slice_get (body payload f) (max n first - first + k) ≡ Some c)
kept_place payload false f first n edge k c e = absurd (none-some c e)
kept_place payload true f first n edge k c e = (
  refl,
  kept_part payload f (max n first - first) (min (first + length payload) edge - first)
      (f && nat_le n (first + length payload) && nat_le (first + length payload) edge) (omega arith)
      (λ h.
      let outer = both_true (f && nat_le n (first + length payload)) (nat_le (first + length payload) edge) h in
      let inner = both_true f (nat_le n (first + length payload)) outer.0 in
      let low = at_most_to n (first + length payload) inner.1 in
      let high = at_most_to (first + length payload) edge outer.1 in
      (inner.0, omega arith, omega arith)) k c e,
)

-- where a cell that is kept stands in all that it carries
pub kept_cell : (payload : List ℕ) (keep f s : Bool) (pos n edge : ℕ) (k : ℕ) (c : Cell)
    → slice_get (body (if keep then slice_range payload (max n (pos + flag_count s) - (pos + flag_count s))
    (min (pos + flag_count s + length payload) edge - (pos + flag_count s)) else [])
    (keep && f && nat_le n (pos + flag_count s + length payload) && nat_le (pos + flag_count s + length payload) edge)) k ≡ Some c
    → (p : ℕ) × (pos + p ≡ max n (pos + flag_count s) + k) × (slice_get (if s then Syn ∷ body payload f else body payload f) p ≡ Some c)
kept_cell payload keep f s pos n edge k c e = place s refl (kept_place payload keep f (pos + flag_count s) n edge k c e).1
  where
    place : (b : Bool) → s ≡ b → slice_get (body payload f) (max n (pos + flag_count s) - (pos + flag_count s) + k) ≡ Some c
        → (p : ℕ) × (pos + p ≡ max n (pos + flag_count s) + k) × (slice_get (if b then Syn ∷ body payload f else body payload f) p ≡ Some c)
    place true is x = (suc (max n (pos + flag_count s) - (pos + flag_count s) + k), (let one = ap flag_count is in omega arith), x)
    place false is x = (max n (pos + flag_count s) - (pos + flag_count s) + k, (let none = ap flag_count is in omega arith), x)

-- 2. no state turns to SYN-SENT

either_state : (b : Bool) (x y : State) → (is_syn_sent x ≡ true → ⊥) → (is_syn_sent y ≡ true → ⊥) → is_syn_sent (if b then x else y) ≡ true → ⊥
either_state true x y p q h = p h
either_state false x y p q h = q h

acknowledged_waits : (st : State) (e : Endpoint) (m : Emission) → is_syn_sent (acknowledged st e m) ≡ true → is_syn_sent st ≡ true
acknowledged_waits states.SynReceived e m x =
    absurd (either_state (acknowledges_syn e m)
    (if e.stream.ended then states.FinWait1 else states.Established) states.SynReceived
    (either_state e.stream.ended states.FinWait1 states.Established (λ y. cc) (λ y. cc)) (λ y. cc) x)
acknowledged_waits states.FinWait1 e m x = absurd (either_state (fin_acknowledged e m) states.FinWait2 states.FinWait1 (λ y. cc) (λ y. cc) x)
acknowledged_waits states.Closing e m x = absurd (either_state (fin_acknowledged e m) states.TimeWait states.Closing (λ y. cc) (λ y. cc) x)
acknowledged_waits states.LastAck e m x = absurd (either_state (fin_acknowledged e m) states.Closed states.LastAck (λ y. cc) (λ y. cc) x)
acknowledged_waits states.Closed e m x = x
acknowledged_waits states.Listen e m x = x
acknowledged_waits states.SynSent e m x = x
acknowledged_waits states.Established e m x = x
acknowledged_waits states.FinWait2 e m x = x
acknowledged_waits states.CloseWait e m x = x
acknowledged_waits states.TimeWait e m x = x

finished_waits : (st : State) (passed : Bool) → is_syn_sent (finished st passed) ≡ true → is_syn_sent st ≡ true
finished_waits states.Established true x = absurd cc
finished_waits states.FinWait1 true x = absurd cc
finished_waits states.FinWait2 true x = absurd cc
finished_waits states.Established false x = x
finished_waits states.FinWait1 false x = x
finished_waits states.FinWait2 false x = x
finished_waits states.Closed passed x = x
finished_waits states.Listen passed x = x
finished_waits states.SynSent passed x = x
finished_waits states.SynReceived passed x = x
finished_waits states.CloseWait passed x = x
finished_waits states.Closing passed x = x
finished_waits states.LastAck passed x = x
finished_waits states.TimeWait passed x = x

-- nor where the peer's SYN is taken
met_state : (b : Bool) → is_syn_sent (if b then states.Established else states.SynReceived) ≡ true → ⊥
met_state true y = cc
met_state false y = cc

-- 3. who takes it

no_endpoint : (o : Option ℕ) (i : ℕ) (e : Endpoint) → option_map_or (λ l. AtListener l) o Nobody ≡ AtEndpoint i e → ⊥
no_endpoint None i e x = cc
no_endpoint (Some l) i e x = cc

pub taker_there : (b : HostTcp) (m : Emission) (i : ℕ) (e : Endpoint) → taker b m ≡ AtEndpoint i e → slice_get b.endpoints i ≡ Some e
taker_there b m i e x = go (place_of b m.rport m.lport) x
  where
    inner : (j : ℕ) (o : Option Endpoint) → slice_get b.endpoints j ≡ o
        → option_map_or (λ f. if is_closed f.state then listener_taker b m else AtEndpoint j f) o (listener_taker b m)
        ≡ AtEndpoint i e → slice_get b.endpoints i ≡ Some e
    inner j None at x = absurd (no_endpoint (listener_on b m.rport) i e x)
    inner j (Some f) at x = by (is_closed f.state) x
      where
        by : (c : Bool) → (if c then listener_taker b m else AtEndpoint j f) ≡ AtEndpoint i e → slice_get b.endpoints i ≡ Some e
        by true x = absurd (no_endpoint (listener_on b m.rport) i e x)
        by false x =
            let places : j ≡ i = cc in
            let ends : f ≡ e = cc in
            subst (λ k. slice_get b.endpoints k ≡ Some e) places (at ∙ ap (λ (y : Endpoint). Some y) ends)

    go : (o : Option ℕ) → option_map_or (endpoint_taker b m) o (listener_taker b m) ≡ AtEndpoint i e → slice_get b.endpoints i ≡ Some e
    go None x = absurd (no_endpoint (listener_on b m.rport) i e x)
    go (Some j) x = inner j (slice_get b.endpoints j) refl x

-- 4. the endpoint by itself

-- what was received stays, and the next position doesn't fall
pub kept_told : (r : Receiving) (position : ℕ) (bytes : List ℕ) (fin : Bool) → next r ≤ position → r.delivered ≤ length (arrived r)
    → (received r ≡ received (kept r position bytes fin)) × (r.delivered ≤ length (arrived (kept r position bytes fin)))
kept_told r position bytes fin le d =
    let more = front_put_all (front r.taken) r.taken position (body_kept r.taken position bytes fin) ([], append-nil (front r.taken)) le in
    let all : arrived r ++ bytes_of more.0 ≡ arrived (kept r position bytes fin) = sym (bytes_of-append (front r.taken) more.0) ∙ ap bytes_of more.1 in (
      sym (take-append-le r.delivered (arrived r) (bytes_of more.0) d) ∙ ap (λ (l : List ℕ). take r.delivered l) all,
      (let longer = ap length all in omega (arith, length-append (arrived r) (bytes_of more.0), longer)),
    )

-- a reset changes no stream
plain_reset : (e : Endpoint) (how : TakeChoice) (moment : ℕ) → Plain e (was_reset e how moment)
plain_reset e how moment = record { stream = refl; irs = refl; waits = λ y. absurd cc }

-- what is taken behind the SYN is what the segment has
grows_taken : (comes : ℕ → Cell → Type 0) (h : Header) (e : Endpoint) (how : TakeChoice) (m : Emission) (moment : ℕ)
    → Own e → is_syn_sent e.state ≡ false → (irs : Word) → e.irs ≡ Some irs
    → ((k : ℕ) (c : Cell) → how.keep ≡ true → slice_get (body m.payload m.flags.fin) k ≡ Some c
    → comes (first_byte m + k) c) → Grows comes nothing e (taken h e how m moment)
grows_taken comes h e how m moment g up irs met new = record {
  own = record {
    waits = λ y. absurd (let back = acknowledged_waits e.state e m (finished_waits (acknowledged e.state e m) _ y) in cc);
    order = inr all;
    begun = λ base is. all;
    delivered = told.1;
  };
  later = record {
    peer = λ q p. p;
    cells = λ p c y. y;
    next = next_put_all r.taken start (body_kept r.taken start (kept_bytes e how m) (keeps_fin e how m));
    told = ([], append-nil (received r) ∙ told.0);
  };
  adds = record { told = append-nil (received r) ∙ told.0; accepted = (adds_nothing e.stream).accepted; ended = (adds_nothing e.stream).ended };
  stays = stays_put_all r.taken start (body_kept r.taken start (kept_bytes e how m) (keeps_fin e how m));
  gains =
      all_put_all (λ p c. 0 < p → (slice_get r.taken p ≡ Some (Some c)) ⊎ comes p c) r.taken start
      (body_kept r.taken start (kept_bytes e how m) (keeps_fin e how m)) (λ p c x some. inl x)
      (λ k c x some.
      let at =
      kept_place m.payload how.keep m.flags.fin (first_byte m) (next r) e.window.rcv_adv k c
      (kept_within r.taken start (kept_bytes e how m) (keeps_fin e how m) k c x) in
      let place : first_byte m + (start - first_byte m + k) ≡ start + k = omega arith in
      inr (subst (λ p. comes p c) place (new (start - first_byte m + k) c at.0 at.1)));
}
  where
    r : Receiving
    r = e.stream.receive

    start : ℕ
    start = max (next r) (first_byte m)

    begun : Begun r.taken
    begun = g.begun irs met

    all : Begun (kept r start (kept_bytes e how m) (keeps_fin e how m)).taken
    all = begun_kept r.taken start (kept_bytes e how m) (keeps_fin e how m) begun (let some = next_begun r.taken begun in omega arith)

    told : (received r ≡ received (kept r start (kept_bytes e how m) (keeps_fin e how m)))
        × (r.delivered ≤ length (arrived (kept r start (kept_bytes e how m) (keeps_fin e how m))))
    told = kept_told r start (kept_bytes e how m) (keeps_fin e how m) (omega arith) g.delivered

-- the SYN alone
grows_met : (comes : ℕ → Cell → Type 0) (h : Header) (e : Endpoint) (how : TakeChoice) (m : Emission) (moment : ℕ)
    → Own e → is_syn_sent e.state ≡ true → Grows comes nothing e (on_syn h e how m moment)
grows_met comes h e how m moment g waits =
    let alone = g.waits waits in
    let none : received e.stream.receive ≡ [] =
    take_nothing e.stream.receive.delivered (arrived e.stream.receive)
    (ap (λ (l : List (Option Cell)). bytes_of (front l)) alone.1) in
    record {
      own = record { waits = λ y. absurd (met_state m.flags.ack y); order = inr begun_met; begun = λ base is. begun_met; delivered = omega arith };
      later = record {
        peer = λ q p. absurd (none-some q (sym alone.0 ∙ p));
        cells = λ p c y. y;
        next = let empty : front e.stream.receive.taken ≡ [] = ap front alone.1 in omega (arith, ap length empty);
        told = ([], append-nil (received e.stream.receive) ∙ none);
      };
      adds = record {
        told = append-nil (received e.stream.receive) ∙ none;
        accepted = (adds_nothing e.stream).accepted;
        ended = (adds_nothing e.stream).ended;
      };
      stays = λ p c x. absurd (none-some _ (subst (λ (l : List (Option Cell)). slice_get l p ≡ Some (Some c)) alone.1 x));
      gains = syn_taken (λ p c. 0 < p → (slice_get e.stream.receive.taken p ≡ Some (Some c)) ⊎ comes p c) (λ some. absurd (omega arith));
    }

bare_child : (p : Profile) (l : ℕ) (how : TakeChoice) (m : Emission) (moment : ℕ) → Bare (child p l how m moment)
bare_child p l how m moment = record {
  own = record { waits = λ y. absurd cc; order = inr begun_met; begun = λ base is. begun_met; delivered = omega arith };
  untouched = record { told = refl; accepted = refl; ended = refl };
  bare = syn_taken (λ p c. 0 < p → ⊥) (λ some. omega arith);
}

-- a number reads as a position only where the peer's SYN was taken
base_there : (e : Endpoint) (m : Emission) → is_bad_number e m ≡ false → (irs : Word) × (e.irs ≡ Some irs)
base_there e m good = go m.is_reset_reply e.irs refl good
  where
    go : (answers : Bool) (o : Option Word) → e.irs ≡ o
        → (if answers then not (is_some
        (if answers then option_map_or (λ irs. near_position (next_of e) irs m.seq) o None else Some m.pos))
        else not (reads_as (next_of e) o m.seq m.pos) || m.flags.ack
        && not (reads_as e.stream.snd_una e.iss m.ack_seq m.ack)) ≡ false
        → (irs : Word) × (e.irs ≡ Some irs)
    go true None is x = absurd cc
    go false None is x = absurd cc
    go true (Some irs) is x = (irs, is)
    go false (Some irs) is x = (irs, is)

grows_endpoint : (comes : ℕ → Cell → Type 0) (h : Header) (b : HostTcp) (me : EndpointId) (e : Endpoint) (how : TakeChoice) (m : Emission) (moment : ℕ) → Own e
    → ((k : ℕ) (c : Cell) → how.keep ≡ true → m.flags.rst ≡ false → slice_get (body m.payload m.flags.fin) k ≡ Some c → comes (first_byte m + k) c)
    → first_broken (if is_syn_sent e.state then syn_sent_rules e how m moment else connected_rules h b me e how m moment) ≡ None
    → Grows comes nothing e (endpoint_taken h e how m moment)
grows_endpoint comes h b me e how m moment g new may = go m.flags.rst (is_syn_sent e.state) refl refl may
  where
    go : (r s : Bool) → m.flags.rst ≡ r → is_syn_sent e.state ≡ s
        → first_broken (if s then syn_sent_rules e how m moment else connected_rules h b me e how m moment) ≡ None
        → Grows comes nothing e (if r then was_reset e how moment else if s then on_syn h e how m moment else taken h e how m moment)
    go true s is x may = grows_plain comes e (was_reset e how moment) g (plain_reset e how moment)
    go false true is x may = grows_met comes h e how m moment g x
    go false false is x may =
        let base = base_there e m (none_all (connected_rules h b me e how m moment) may).1.0 in
        grows_taken comes h e how m moment g x base.0 base.1 (λ k c keep. new k c keep is)

-- reading a segment changes neither its flags nor what it carries
read_flags : (b : Bool) (e : Endpoint) (m : Emission) → (if b then read_at e m else m).flags ≡ m.flags
read_flags true e m = refl
read_flags false e m = refl

read_body : (b : Bool) (e : Endpoint) (m : Emission)
    → body (if b then read_at e m else m).payload (if b then read_at e m else m).flags.fin ≡ body m.payload m.flags.fin
read_body true e m = refl
read_body false e m = refl

pub grown_taking : (h : Header) (s : ℕ) (w : World tcp_shape) (host : Host) (line : ℕ) (how : TakeChoice) (m : Emission)
    → AllOwn w.hosts → waiting line (pick w.hosts host).inbox ≡ Some m
    → first_broken (taker_rules h host (pick w.hosts host).body how m s (taker (pick w.hosts host).body m)) ≡ None
    → Grown (Carries h w (At host (Takes line how))) host silent (pick w.hosts host).body.endpoints
    (after_taking h (pick w.hosts host).body how m s (taker (pick w.hosts host).body m)).endpoints
grown_taking h s w host line how m g waits may = go (taker (pick w.hosts host).body m) refl may
  where
    b : HostTcp
    b = (pick w.hosts host).body

    comes : Coming
    comes = Carries h w (At host (Takes line how))

    go : (t : Taker) → taker b m ≡ t → first_broken (taker_rules h host b how m s t) ≡ None
        → Grown comes host silent b.endpoints (after_taking h b how m s t).endpoints
    go Nobody is may = grown_not comes host silent b.endpoints (λ i. refl) (g host)
    go (AtListener l) is may = grown_push comes host b.endpoints (child (profile_of h) l how m s) (g host) (bare_child (profile_of h) l how m s)
    go (AtEndpoint i e) is may = let at = taker_there b m i e is in
        grown_one comes host silent b.endpoints i (λ x. endpoint_taken h x how (as_read h.version e m) s) (g host) (λ j n. refl)
        (λ x there.
        let one : e ≡ x = same_Some e x (sym at ∙ there) in
        grows_endpoint (comes (name host i)) h b (name host i) x how (as_read h.version e m) s (g host i x there)
        (λ k c keep plain has. record {
          line = line;
          how = how;
          segment = m;
          endpoint = e;
          place = k;
          takes = refl;
          keeps = keep;
          waits = waits;
          there = is;
          plain = ap (λ (f : Flags). f.rst) (sym (read_flags (is_half h.version) e m)) ∙ plain;
          stands = refl;
          has = subst (λ (cs : List Cell). slice_get cs k ≡ Some c) (read_body (is_half h.version) e m) has;
        })
        (subst (λ (y : Endpoint). first_broken
        (if is_syn_sent y.state then syn_sent_rules y how (as_read h.version e m) s
        else connected_rules h b (name host i) y how (as_read h.version e m) s) ≡ None) one may))

-- 5. the endpoint and its peer

kept_taken : (b : Hosts) (e : Endpoint) (how : TakeChoice) (m : Emission) → e.stream.peer ≡ Some m.sender → GoodEmission b m
    → Taken (λ p c. (q : EndpointId) × (e.stream.peer ≡ Some q) × HasStream b q (λ t. slice_get (all_cells t) p ≡ Some c)) e.stream.receive.taken
    → Taken (λ p c. (q : EndpointId) × (e.stream.peer ≡ Some q) × HasStream b q (λ t. slice_get (all_cells t) p ≡ Some c)) (receive_after e how m).taken
kept_taken b e how m peer good old =
    let r = e.stream.receive in
    let start = max (next r) (m.pos + flag_count m.flags.syn) in
    all_put_all (λ p c. (q : EndpointId) × (e.stream.peer ≡ Some q) × HasStream b q (λ t. slice_get (all_cells t) p ≡ Some c)) r.taken start _ old
    (λ k c x.
    let at =
    kept_cell m.payload how.keep m.flags.fin m.flags.syn m.pos (next r) e.window.rcv_adv k c
    (kept_within r.taken start (kept_bytes e how m) (keeps_fin e how m) k c x) in
    (m.sender, peer, subst (λ p. HasStream b m.sender (λ t. slice_get (all_cells t) p ≡ Some c)) at.1 (good.sent at.0 c at.2)))

-- what is acknowledged then
una_taken : (b : Hosts) (me : EndpointId) (peer : Option EndpointId) (q : EndpointId) (snd_una ack : ℕ) → peer ≡ Some q
    → HasStream b q (λ t. (t.peer ≡ Some me) × (ack ≤ next t.receive))
    → (1 < snd_una → (r : EndpointId) × (peer ≡ Some r) × HasStream b r (λ t. (t.peer ≡ Some me) × (snd_una ≤ next t.receive)))
    → 1 < max snd_una ack → (r : EndpointId) × (peer ≡ Some r) × HasStream b r (λ t. (t.peer ≡ Some me) × (max snd_una ack ≤ next t.receive))
una_taken b me peer q snd_una ack e new old more = elim (cases_lt snd_una ack) [
  | inl lt ↦ (q, e, (new.0, new.1, (new.2.0, let up = new.2.1 in omega arith)))
  | inr ge ↦ (let t = old (omega arith) in (t.0, t.1, (t.2.0, t.2.1, (t.2.2.0, let up = t.2.2.1 in omega arith))))
]

-- what the rules say of a segment without RST
record FromPeer (me : EndpointId) (e : Endpoint) (m : Emission) : Type 0 where
  pub peer : e.stream.peer ≡ Some m.sender
  pub ack : m.flags.ack ≡ true
  pub plain : m.is_reset_reply ≡ false
  pub peer_at_send : (q : EndpointId) → m.peer_at_send ≡ Some q → m.peer_at_send ≡ Some me

-- at a whole case the sender is looked at
whole_case : (h : Header) → is_half h.version ≡ false → (b : Bool) → (not (is_half h.version) && not b) ≡ false → not b ≡ false
whole_case h whole b e = subst (λ (c : Bool). (not c && not b) ≡ false) whole e

from_peer : (a : Hosts) (h : Header) → is_half h.version ≡ false → (b : HostTcp) (me : EndpointId) (e : Endpoint) (how : TakeChoice) (m : Emission) (moment : ℕ)
    → GoodEmission a m → m.flags.rst ≡ false → first_broken (connected_rules h b me e how m moment) ≡ None → FromPeer me e m
from_peer a h whole b me e how m moment good r may =
    let t = none_all (connected_rules h b me e how m moment) may in
    let plain : m.is_reset_reply ≡ false = is_not m.is_reset_reply (λ x. let y = good.resets x in cc) in
    let from =
    both_true (option_map_or (λ peer. same_endpoint peer m.sender) e.stream.peer false) _
    (other m.is_reset_reply plain (not_false _ (whole_case h whole (is_from_peer me e m) t.0))) in
    let acks = neither (not m.flags.ack || nat_lt (snd_max e) m.ack) _ (and_false (not m.flags.rst) _ t.1.1.1.0 (flip m.flags.rst r)) in
    record {
      peer = some_name e.stream.peer m.sender from.0;
      ack = not_false m.flags.ack (neither (not m.flags.ack) _ acks.0).0;
      plain = plain;
      peer_at_send = λ q x. any_name m.peer_at_send me q from.1 x;
    }
  where
    other : (c : Bool) → c ≡ false
        → (if c then same_endpoint m.sender me
        else option_map_or (λ peer. same_endpoint peer m.sender) e.stream.peer false
        && option_map_or (λ peer_at_send. same_endpoint peer_at_send me) m.peer_at_send true) ≡ true
        → (option_map_or (λ peer. same_endpoint peer m.sender) e.stream.peer false
        && option_map_or (λ peer_at_send. same_endpoint peer_at_send me) m.peer_at_send true) ≡ true
    other true is x = absurd cc
    other false is x = x

    flip : (c : Bool) → c ≡ false → not c ≡ true
    flip true is = absurd cc
    flip false is = refl

changes_taken : (a : Hosts) (h : Header) (me : EndpointId) (e : Endpoint) (how : TakeChoice) (m : Emission) (moment : ℕ)
    → GoodEnd a me e → GoodEmission a m → FromPeer me e m → is_syn_sent e.state ≡ false
    → Changes a me e (taken h e how m moment)
changes_taken a h me e how m moment g good f up = record {
  snd_una = acked_in a good g.stream;
  good = λ c later was.
      let good' = emission_later a c later m good in
      record {
        stream = record { taken = kept_taken c e how m f.peer good' was.stream.taken; snd_una = acked_in c good' was.stream; peer = was.stream.peer };
        waits = λ y. absurd (let back = acknowledged_waits e.state e m (finished_waits (acknowledged e.state e m) _ y) in cc);
      };
}
  where
    -- what is acknowledged then was taken by the sender, whose peer is this endpoint
    acked_in : (b : Hosts) → GoodEmission b m → GoodStream b me e.stream → 1 < max e.stream.snd_una m.ack
        → (r : EndpointId) × (e.stream.peer ≡ Some r)
        × HasStream b r (λ t. (t.peer ≡ Some me) × (max e.stream.snd_una m.ack ≤ next t.receive))
    acked_in b good was = una_taken b me e.stream.peer m.sender e.stream.snd_una m.ack f.peer
        (let acked = good.ack f.ack f.plain in
        let peer_at_send = good.peer_at_send me (f.peer_at_send acked.0.0 acked.0.1) in
        let one : peer_at_send.0 ≡ acked.1.0 = same_Some peer_at_send.0 acked.1.0 (sym peer_at_send.1 ∙ acked.1.1) in
        (peer_at_send.0, peer_at_send.1, (peer_at_send.2, subst (λ (t : Endpoint). m.ack ≤ next t.stream.receive) (sym one) acked.1.2)))
        was.snd_una

-- the SYN of the peer was taken, and nothing else
met_good : (b : Hosts) (me q : EndpointId) (s : Stream) → HasStream b q (λ t. Unit {0}) → s.peer ≡ Some q
    → s.receive.taken ≡ Some Syn ∷ [] → (1 < s.snd_una → ⊥) → GoodStream b me s
met_good b me q s there p is none = record {
  taken = subst (Taken (λ p c. (r : EndpointId) × (s.peer ≡ Some r) × HasStream b r (λ t. slice_get (all_cells t) p ≡ Some c))) (sym is)
      (syn_taken (λ p c. (r : EndpointId) × (s.peer ≡ Some r) × HasStream b r (λ t. slice_get (all_cells t) p ≡ Some c)) (q, p, (there.0, there.1, refl)));
  snd_una = λ more. absurd (none more);
  peer = λ r e. subst (λ (k : EndpointId). HasStream b k (λ t. Unit {0})) (same_Some q r (sym p ∙ e)) there;
}

changes_met : (a : Hosts) (h : Header) (me : EndpointId) (e : Endpoint) (how : TakeChoice) (m : Emission) (moment : ℕ)
    → GoodEnd a me e → GoodEmission a m → is_syn_sent e.state ≡ true → Changes a me e (on_syn h e how m moment)
changes_met a h me e how m moment g good waits =
    let alone = g.waits waits in
    record {
      snd_una = λ more. absurd (met_una m.flags.ack e.stream.snd_una more (λ own. let p = g.stream.snd_una own in none-some p.0 (sym alone.0 ∙ p.1)));
      good = λ c later was. record {
        stream =
            met_good c me m.sender (on_syn h e how m moment).stream (emission_later a c later m good).there refl refl
            (λ more. met_una m.flags.ack e.stream.snd_una more
            (λ own. let p = g.stream.snd_una own in none-some p.0 (sym alone.0 ∙ p.1)));
        waits = λ y. absurd (met_state m.flags.ack y);
      };
    }
  where
    met_una : (b : Bool) (snd_una : ℕ) → 1 < (if b then max snd_una 1 else snd_una) → (1 < snd_una → ⊥) → ⊥
    met_una true snd_una more = λ no. no (omega arith)
    met_una false snd_una more = λ no. no more

changes_endpoint : (a : Hosts) (h : Header) → is_half h.version ≡ false
    → (b : HostTcp) (me : EndpointId) (e : Endpoint) (how : TakeChoice) (m : Emission) (moment : ℕ) → GoodEnd a me e
    → GoodEmission a m
    → first_broken (if is_syn_sent e.state then syn_sent_rules e how m moment else connected_rules h b me e how m moment) ≡ None
    → Changes a me e (endpoint_taken h e how m moment)
changes_endpoint a h whole b me e how m moment g good may = go m.flags.rst (is_syn_sent e.state) refl refl may
  where
    go : (r s : Bool) → m.flags.rst ≡ r → is_syn_sent e.state ≡ s
        → first_broken (if s then syn_sent_rules e how m moment else connected_rules h b me e how m moment) ≡ None
        → Changes a me e (if r then was_reset e how moment else if s then on_syn h e how m moment else taken h e how m moment)
    go true s is x may = changes_keeps a me e (was_reset e how moment) g (plain_keeps e (was_reset e how moment) (plain_reset e how moment))
    go false true is x may = changes_met a h me e how m moment g good x
    go false false is x may = changes_taken a h me e how m moment g good (from_peer a h whole b me e how m moment good is may) x

-- at a whole case a segment is read as what it is
reads_itself : (h : Header) → is_half h.version ≡ false → (e : Endpoint) (m : Emission) → as_read h.version e m ≡ m
reads_itself h whole e m = ap (λ (b : Bool). if b then read_at e m else m) whole

pub moves_taking : (a : Hosts) (h : Header) → is_half h.version ≡ false
    → (host : Host) (b : HostTcp) (how : TakeChoice) (m : Emission) (moment : ℕ) → GoodEnds a host b.endpoints
    → GoodEmission a m
    → first_broken (taker_rules h host b how m moment (taker b m)) ≡ None → Moves a host b.endpoints (after_taking h b how m moment (taker b m)).endpoints
moves_taking a h whole host b how m moment g good may = go (taker b m) refl may
  where
    go : (t : Taker) → taker b m ≡ t → first_broken (taker_rules h host b how m moment t) ≡ None
        → Moves a host b.endpoints (after_taking h b how m moment t).endpoints
    go Nobody is may = moves_not a host b.endpoints g
    go (AtListener l) is may = moves_push a host b.endpoints (child (profile_of h) l how m moment) g (record {
      snd_una = λ more. absurd (omega arith);
      good =
          λ c later. record {
            stream = met_good c _ m.sender (child (profile_of h) l how m moment).stream
                (emission_later a c later m good).there refl refl (λ more. omega arith);
            waits = λ y. absurd cc;
          };
    })
    go (AtEndpoint i e) is may = let at = taker_there b m i e is in
        moves_one a host b.endpoints i (λ x. endpoint_taken h x how (as_read h.version e m) moment) g
        (λ x there.
        let one : e ≡ x = same_Some e x (sym at ∙ there) in
        changes_endpoint a h whole b (name host i) x how (as_read h.version e m) moment (g i x there)
        (subst (GoodEmission a) (sym (reads_itself h whole e m)) good)
        (subst (λ (y : Endpoint). first_broken
        (if is_syn_sent y.state then syn_sent_rules y how (as_read h.version e m) moment
        else connected_rules h b (name host i) y how (as_read h.version e m) moment) ≡ None) one may))
