-- Where an endpoint may make any segment without RST that takes new positions, it may make its SYN, one new byte, or its FIN.
use Rattle.std.proofs.Common.{◌≡◌, ◌≤◌, ◌<◌, ◌+◌, ℕ, zero, suc, Bool, true, false, List, [], ◌∷◌, Option, None, Some}
use Rattle.std.proofs.Common.{refl, ap, sym, ◌∙◌, subst, nat_lt, min, inl, inr, arith}
use Rattle.std.proofs.Math.Nat.{add-zero, zero-add}
use Rattle.std.proofs.lemmas.Option.{none-some, same_Some}
use Rattle.std.specs.Option.{option_map_or}
use Rattle.case_forms.specs.declared.calls.Host.{Host}
use Rattle.case_forms.specs.declared.trace.Header.{Header}
use Rattle.case_forms.specs.declared.version.Version.{Version}
use Rattle.case_forms.specs.Versions.{says_sender, scales}
use Rattle.case_forms.specs.Witnesses.{IsShift}
use Rattle.verdict.specs.declared.rule.Rule.TheVariants as rules
use Rattle.spec_network.specs.Tables.{pick}
use Rattle.spec_network.specs.Hosts.{World, At, Makes}
use Rattle.spec_network.specs.HostRules.{Permitted}
use Rattle.spec_tcp.specs.Machine.{tcp, tcp_shape}
use Rattle.spec_tcp.specs.HostTcp.{HostTcp}
use Rattle.std.specs.Prelude.{if◌then◌else◌, nat_le, slice_get, not, ◌&&◌, ◌||◌, ◌==◌, is_some, ◌⊎◌}
use Rattle.std.proofs.lemmas.Bool.Decides.{nat_tests}
use Rattle.verdict.specs.Rules.{first_broken}
use Rattle.verdict.proofs.RuleLemmas.{none_all, all_none}
use Rattle.seqno.specs.declared.word.Word.{Word}
use Rattle.streams.specs.Sent.{end_of}
use Rattle.window_rules.specs.Windows.{offered_edge}
use Rattle.window_rules.specs.Control.{control_edge}
use Rattle.case_forms.specs.declared.steps.SegmentPlan.{SegmentPlan}
use Rattle.spec_tcp.specs.declared.endpoint.Endpoint.{Endpoint}
use Rattle.spec_tcp.specs.Endpoints.{snd_max, rcv_nxt, flag_count}
use Rattle.spec_tcp.specs.HostTcp.{last_from, has_ports, place_of, endpoint_of}
use Rattle.case_forms.specs.States.{is_closed, is_syn_sent, is_syn_received}
use Rattle.spec_tcp.specs.Makes.{making_rules}
use Rattle.spec_tcp.specs.Makes.Payload.{making_length, is_bad_empty_place, old_end}
use Rattle.spec_tcp.specs.Makes.Kind.{may_not_send, may_carry, may_finish}
use Rattle.stack_core.specs.declared.plans.SynOptions.{SynOptions}
use Rattle.stack_core.specs.Makings.{syn_of, bytes_of, fin_of, IsMakeable, IsTried, NothingToMake, Refuses}
use Rattle.stack_core.specs.Told.{MayOpen, TellsWell}
use Rattle.std.specs.List.{All}
use Rattle.std.specs.Prelude.{IfNone}
use Rattle.std.specs.Option.{IfSome}
use Rattle.verdict.specs.declared.rule.Rule.{Rule}
use Rattle.std.specs.Option.{option_map}
use Rattle.spec_tcp.specs.Forgetting.{forget, forget_endpoint}
use Rattle.spec_tcp_laws.proofs.ForgetBodies.{endpoint-forget}
use Rattle.spec_tcp_laws.proofs.ForgetReads.{snd_max-forget}
use Rattle.stack_core.proofs.AnswerLemmas.{kept_body}
use Rattle.spec_tcp_laws.specs.ForgettingLaws.{ForgettingIsFree}
use Rattle.endpoint_state.specs.Worlds.{Progress}
use Rattle.stack_core.specs.Recordings.{Recorded, world_left}
use Rattle.std.proofs.lemmas.List.Elements.{All-head, All-tail, All-weaker}
use Rattle.spec_tcp.specs.Bounds.{greatest_position, most_steps, IsKept, IsKeptBody}
use Rattle.endpoint_state.specs.Kept.{IsKeptWorld}
use Rattle.case_forms.specs.declared.calls.Host.TheVariants.{Zero, One}

-- a segment without SYN and RST
abbrev pub plain : Endpoint → ℕ → ℕ → Bool → Bool → ℕ → Option Word → Option ℕ → SegmentPlan
plain e pos len ack fin window iss shift =
    record {
      lport = e.lport;
      rport = e.rport;
      pos = pos;
      len = len;
      flags = record { ack = ack; rst = false; syn = false; fin = fin };
      window = window;
      iss = iss;
      shift = shift;
    }

-- what holds where a plain segment that takes new positions may be made
pub record Room (e : Endpoint) (pos len : ℕ) (fin : Bool) : Type 0 where
  pub opened : is_closed e.state ≡ false
  pub quiet : may_not_send e.state ≡ false
  pub carry : 0 < len → may_carry e.state ≡ true
  pub ends : fin ≡ true → may_finish e.state ≡ true
  pub numbered : is_some e.iss ≡ true
  pub positive : 0 < len → 0 < pos
  pub accepted : 0 < len → pos + len ≤ end_of e.stream.accepted
  pub behind : fin ≡ true → pos + len ≡ end_of e.stream.accepted
  pub ended : fin ≡ true → e.stream.ended ≡ true
  pub snd_una : e.stream.snd_una ≤ pos
  pub max : pos ≤ snd_max e
  pub offered : 0 < len → snd_max e < pos + len → pos + len ≤ offered_edge e.stream.snd_una e.window.snd_wnd e.probe_due
  pub congested : 0 < len → snd_max e < pos + len → pos + len ≤ control_edge e.stream.snd_una e.control
  pub size : len ≤ e.control.values.smss

-- tests that are false, or true
left_false : (a : Bool) → (a && true) ≡ false → a ≡ false
left_false true h = absurd cc
left_false false h = refl

both_true : (a b : Bool) → not (a && b) ≡ false → (a ≡ true) × (b ≡ true)
both_true true true h = (refl, refl)
both_true true false h = absurd cc
both_true false b h = absurd cc

both_hold : (a b : Bool) → (a && b) ≡ true → (a ≡ true) × (b ≡ true)
both_hold true true h = (refl, refl)
both_hold true false h = absurd cc
both_hold false b h = absurd cc

neither : (a b : Bool) → (a || b) ≡ false → (a ≡ false) × (b ≡ false)
neither true b h = absurd cc
neither false b h = (refl, h)

then_false : (a b : Bool) → (a && b) ≡ false → a ≡ true → b ≡ false
then_false true b h is = h
then_false false b h is = absurd cc

then_true : (a b : Bool) → (a || b) ≡ true → a ≡ false → b ≡ true
then_true true b h is = absurd cc
then_true false b h is = h

not_true : (a : Bool) → not a ≡ true → a ≡ false
not_true true h = absurd cc
not_true false h = refl

not_false : (a : Bool) → not a ≡ false → a ≡ true
not_false true h = refl
not_false false h = absurd cc

some_number : (a b : Bool) → (if a then b else not (b && false)) ≡ false → a ≡ true
some_number true b h = refl
some_number false true h = absurd cc
some_number false false h = absurd cc

is_less : (a b : ℕ) → a < b → nat_lt a b ≡ true
is_less a b p = grind (arith, nat_tests)

at_most : (a b : ℕ) → nat_lt b a ≡ false → a ≤ b
at_most a b p = grind (arith, nat_tests)

is_same : (a b : ℕ) → (a == b) ≡ true → a ≡ b
is_same a b p = grind (arith, nat_tests)

not_zero : (a : ℕ) → (a == 0) ≡ false → 0 < a
not_zero a p = grind (arith, nat_tests)

is_zero : (a : ℕ) → 0 < a → (a == 0) ≡ false
is_zero a p = grind (arith, nat_tests)

module _ (v : Version) (e : Endpoint) (pos len : ℕ) (ack fin : Bool) (window : ℕ) (iss : Option Word) (shift : Option ℕ) where
  abbrev m : SegmentPlan
  m = plain e pos len ack fin window iss shift

  room : first_broken (making_rules v e m) ≡ None → 0 < making_length m → Room e pos len fin
  room h some =
      let t = none_all (making_rules v e m) h in
      let state = both_true (not (may_not_send e.state) && (len == 0 || may_carry e.state)) (not fin || may_finish e.state) t.1.0 in
      let more = both_hold (not (may_not_send e.state)) (len == 0 || may_carry e.state) state.0 in
      let payload =
      neither (nat_lt 0 len && (pos == 0 || nat_lt (end_of e.stream.accepted) (pos + len)))
      (fin && not (e.stream.ended && pos + len == end_of e.stream.accepted)) t.1.1.1.0 in
      let bytes : 0 < len → (pos == 0 || nat_lt (end_of e.stream.accepted) (pos + len)) ≡ false =
      λ p. then_false (nat_lt 0 len) _ payload.0 (is_less 0 len p) in
      let finish : fin ≡ true → (e.stream.ended ≡ true) × ((pos + len == end_of e.stream.accepted) ≡ true) =
      λ p. both_true e.stream.ended _ (then_false fin _ payload.1 p) in
      let place : ((nat_lt pos e.stream.snd_una || nat_lt (snd_max e) pos)
      || (nat_lt pos (snd_max e) && not (says_sender v) && nat_lt e.recover (old_end e m))) ≡ false =
      subst (λ (b : Bool). (if b then is_bad_empty_place e m
      else ((nat_lt pos e.stream.snd_una || nat_lt (snd_max e) pos)
      || (nat_lt pos (snd_max e) && not (says_sender v) && nat_lt e.recover (old_end e m)))) ≡ false)
      (is_zero (making_length m) some) t.1.1.1.1.1.0 in
      let both = neither (nat_lt pos e.stream.snd_una || nat_lt (snd_max e) pos)
      (nat_lt pos (snd_max e) && not (says_sender v) && nat_lt e.recover (old_end e m)) place in
      let low = neither (nat_lt pos e.stream.snd_una) (nat_lt (snd_max e) pos) both.0 in
      let fresh : 0 < len → snd_max e < pos + len → (nat_lt 0 len && nat_lt (snd_max e) (pos + len)) ≡ true =
      λ p q. rw (is_less 0 len p, is_less (snd_max e) (pos + len) q) refl in
      record {
        opened = left_false (is_closed e.state) t.0;
        quiet = not_true (may_not_send e.state) more.0;
        carry = λ p. then_true (len == 0) (may_carry e.state) more.1 (is_zero len p);
        ends = λ p. then_true (not fin) (may_finish e.state) state.1 (ap not p);
        numbered = some_number (is_some e.iss) (is_some iss) t.1.1.0;
        positive = λ p. not_zero pos (neither (pos == 0) _ (bytes p)).0;
        accepted = λ p. at_most (pos + len) (end_of e.stream.accepted) (neither (pos == 0) _ (bytes p)).1;
        behind = λ p. is_same (pos + len) (end_of e.stream.accepted) (finish p).1;
        ended = λ p. (finish p).0;
        snd_una = at_most e.stream.snd_una pos low.0;
        max = at_most pos (snd_max e) low.1;
        offered = λ p q. at_most (pos + len) _ (then_false (nat_lt 0 len && nat_lt (snd_max e) (pos + len)) _ t.1.1.1.1.1.1.0 (fresh p q));
        congested = λ p q. at_most (pos + len) _ (then_false (nat_lt 0 len && nat_lt (snd_max e) (pos + len)) _ t.1.1.1.1.1.1.1.0 (fresh p q));
        size = at_most len e.control.values.smss t.1.1.1.1.1.1.1.1.0;
      }

ack_good : (n : ℕ) → (if nat_le 1 n then n == 0 else nat_le 1 n) ≡ false
ack_good n = by (nat_le 1 n) refl
  where
    by : (b : Bool) → nat_le 1 n ≡ b → (if b then n == 0 else b) ≡ false
    by true h = grind (arith, nat_tests)
    by false h = refl

not_above : (a b : ℕ) → a ≤ b → nat_lt b a ≡ false
not_above a b p = grind (arith, nat_tests)

same : (a b : ℕ) → a ≡ b → (a == b) ≡ true
same a b p = grind (arith, nat_tests)

no_test : (b : Bool) → (b && false) ≡ false
no_test true = refl
no_test false = refl

pub byte_may : (v : Version) (e : Endpoint) (pos len window : ℕ) (fin : Bool) → Room e pos len fin → 0 < len → snd_max e < pos + len
    → first_broken (making_rules v e (bytes_of e 1 window)) ≡ None
byte_may v e pos len window fin r some new =
    let r_max = r.max in
    let r_una = r.snd_una in
    let r_size = r.size in
    let positive : 0 < pos = r.positive some in
    let accepted : pos + len ≤ end_of e.stream.accepted = r.accepted some in
    let offered : pos + len ≤ offered_edge e.stream.snd_una e.window.snd_wnd e.probe_due = r.offered some new in
    let congested : pos + len ≤ control_edge e.stream.snd_una e.control = r.congested some new in
    all_none (making_rules v e (bytes_of e 1 window)) ((
      rw r.opened refl,
      (
        rw (r.quiet, r.carry some) refl,
        (
          rw r.numbered refl,
          (
            rw (is_zero (snd_max e) (omega arith), not_above (snd_max e + 1) (end_of e.stream.accepted) (omega arith)) refl,
            (
              ack_good (rcv_nxt e),
              (
                rw (not_above e.stream.snd_una (snd_max e) (omega arith), not_above (snd_max e) (snd_max e) (omega arith)) refl,
                (
                  rw (not_above (snd_max e + 1) (offered_edge e.stream.snd_una e.window.snd_wnd e.probe_due) (omega arith)) (no_test _),
                  (
                    rw (not_above (snd_max e + 1) (control_edge e.stream.snd_una e.control) (omega arith)) (no_test _),
                    (
                      not_above 1 e.control.values.smss (omega arith),
                      tt,
                    ),
                  ),
                ),
              ),
            ),
          ),
        ),
      ),
    ))

pub fin_may : (v : Version) (e : Endpoint) (pos len window : ℕ) → Room e pos len true → pos + len ≡ snd_max e
    → first_broken (making_rules v e (fin_of e window)) ≡ None
fin_may v e pos len window r new =
    let r_max = r.max in
    let r_una = r.snd_una in
    let behind : pos + len ≡ end_of e.stream.accepted = r.behind refl in
    all_none (making_rules v e (fin_of e window)) ((
      rw r.opened refl,
      (
        rw (r.quiet, r.ends refl) refl,
        (
          rw r.numbered refl,
          (
            rw (r.ended refl, same (snd_max e + 0) (end_of e.stream.accepted) (omega arith)) refl,
            (
              ack_good (rcv_nxt e),
              (
                rw (not_above e.stream.snd_una (snd_max e) (omega arith), not_above (snd_max e) (snd_max e) (omega arith)) refl,
                (
                  refl,
                  (
                    refl,
                    (
                      not_above 0 e.control.values.smss (omega arith),
                      tt,
                    ),
                  ),
                ),
              ),
            ),
          ),
        ),
      ),
    ))

-- a segment with SYN and without RST
abbrev pub synned : Endpoint → ℕ → ℕ → Bool → Bool → ℕ → Option Word → Option ℕ → SegmentPlan
synned e pos len ack fin window iss shift =
    record {
      lport = e.lport;
      rport = e.rport;
      pos = pos;
      len = len;
      flags = record { ack = ack; rst = false; syn = true; fin = fin };
      window = window;
      iss = iss;
      shift = shift;
    }

ack_is : (n : ℕ) (ack : Bool) → (if ack then n == 0 else nat_le 1 n) ≡ false → nat_le 1 n ≡ ack
ack_is n true h = grind (arith, nat_tests)
ack_is n false h = h

iss_good : (b : Bool) (iss : Word) → (if b then is_some (if b then None else Some iss) else not (is_some (if b then None else Some iss) && true)) ≡ false
iss_good true iss = refl
iss_good false iss = refl

pub syn_place : (e : Endpoint) (ack free : Bool) → e.stream.snd_una ≡ 0 → snd_max e ≤ 0
    → (if ack then false
    else ((nat_lt 0 e.stream.snd_una || nat_lt (snd_max e) 0) || (nat_lt 0 (snd_max e) && free && nat_lt e.recover (min 1 (snd_max e)))))
    ≡ false
syn_place e true free snd_una max = refl
syn_place e false free snd_una max = rw (snd_una, not_above 0 (snd_max e) (omega arith), not_above (snd_max e) 0 max) refl

pub syn_may : (p q : Version) (e : Endpoint) (pos len window w : ℕ) (ack fin : Bool) (iss : Option Word) (shift : Option ℕ)
    (new : SynOptions) → first_broken (making_rules p e (synned e pos len ack fin window iss shift)) ≡ None
    → snd_max e < pos + making_length (synned e pos len ack fin window iss shift) → (snd_max e ≤ 0) × (first_broken (making_rules q e (syn_of e new w)) ≡ None)
syn_may p q e pos len window w ack fin iss shift new h past =
    let t = none_all (making_rules p e (synned e pos len ack fin window iss shift)) h in
    let acks : nat_le 1 (rcv_nxt e) ≡ ack = ack_is (rcv_nxt e) ack t.1.1.1.1.0 in
    let state = both_hold (((if ack then is_syn_received e.state else is_syn_sent e.state) && e.stream.snd_una == 0) && not fin) true (not_false _ t.1.0) in
    let fins = both_hold ((if ack then is_syn_received e.state else is_syn_sent e.state) && e.stream.snd_una == 0) (not fin) state.0 in
    let at_zero = both_hold (if ack then is_syn_received e.state else is_syn_sent e.state) (e.stream.snd_una == 0) fins.0 in
    let empty = both_true (pos == 0) (len == 0) t.1.1.1.0 in
    let snd_una : e.stream.snd_una ≡ 0 = is_same e.stream.snd_una 0 at_zero.1 in
    let pos_is : pos ≡ 0 = is_same pos 0 empty.0 in
    let len_is : len ≡ 0 = is_same len 0 empty.1 in
    let past2 : snd_max e < pos + (len + 1 + 0) = subst (λ (b : Bool). snd_max e < pos + (len + 1 + flag_count b)) (not_true fin fins.1) past in
    let max : snd_max e ≤ 0 = omega arith in (
      max,
      all_none (making_rules q e (syn_of e new w)) (
        rw (left_false (is_closed e.state) t.0) refl,
        (
          rw (acks, at_zero.0, at_zero.1) refl,
          (
            iss_good (is_some e.iss) new.iss,
            (
              refl,
              (
                ack_good (rcv_nxt e),
                (
                  syn_place e (nat_le 1 (rcv_nxt e) && not (says_sender q)) (not (says_sender q)) snd_una max,
                  (
                    refl,
                    (
                      refl,
                      (
                        not_above 0 e.control.values.smss (omega arith),
                        tt,
                      ),
                    ),
                  ),
                ),
              ),
            ),
          ),
        ),
      ),
    )

-- 2. one of the three may be made, where any may, in whichever version

by_test : {P : Type 0} (b : Bool) → (b ≡ true → P) → (b ≡ false → P) → P
by_test true yes_ no_ = yes_ refl
by_test false yes_ no_ = no_ refl

abbrev pub OneMay : Version → Endpoint → SynOptions → (at_syn window : ℕ) → Type 0
OneMay q e new v w =
    ((snd_max e ≤ 0) × (first_broken (making_rules q e (syn_of e new v)) ≡ None))
    ⊎ ((first_broken (making_rules q e (bytes_of e 1 w)) ≡ None) ⊎ (first_broken (making_rules q e (fin_of e w)) ≡ None))

-- so many positions, with the counts of SYN and FIN
abbrev pub reach : SegmentPlan → Bool → Bool → ℕ
reach m syn fin = m.pos + (m.len + flag_count syn + flag_count fin)

abbrev pub flagged : SegmentPlan → Bool → Bool → Bool → SegmentPlan
flagged m rst syn fin =
    record {
      lport = m.lport;
      rport = m.rport;
      pos = m.pos;
      len = m.len;
      flags = record { ack = m.flags.ack; rst = rst; syn = syn; fin = fin };
      window = m.window;
      iss = m.iss;
      shift = m.shift;
    }

-- an empty one takes no new positions
not_empty : (v : Version) (e : Endpoint) (m : SegmentPlan) (fin : Bool)
    → first_broken (making_rules v e (flagged m false false fin)) ≡ None → snd_max e < reach m false fin
    → 0 < making_length (flagged m false false fin)
not_empty v e m fin h past = by_test (making_length (flagged m false false fin) == 0) empty (not_zero (making_length (flagged m false false fin)))
  where
    empty : (making_length (flagged m false false fin) == 0) ≡ true → 0 < making_length (flagged m false false fin)
    empty is =
        let t = none_all (making_rules v e (flagged m false false fin)) h in
        let place : (nat_lt (m.pos + 1) e.stream.snd_una || nat_lt (snd_max e) m.pos) ≡ false =
        subst (λ (b : Bool). (if b then is_bad_empty_place e (flagged m false false fin)
        else ((nat_lt m.pos e.stream.snd_una || nat_lt (snd_max e) m.pos)
        || (nat_lt m.pos (snd_max e) && not (says_sender v)
        && nat_lt e.recover (old_end e (flagged m false false fin))))) ≡ false)
        is t.1.1.1.1.1.0 in
        let low : m.pos ≤ snd_max e = at_most m.pos (snd_max e) (neither (nat_lt (m.pos + 1) e.stream.snd_una) (nat_lt (snd_max e) m.pos) place).1 in
        let zero_long : making_length (flagged m false false fin) ≡ 0 = is_same (making_length (flagged m false false fin)) 0 is in
        let past2 : snd_max e < m.pos + making_length (flagged m false false fin) = past in
        absurd (omega arith)

is_more : (a b : ℕ) → nat_lt a b ≡ true → a < b
is_more a b p = grind (arith, nat_tests)

spent : (max pos len : ℕ) (fin : Bool) → max < pos + (len + 0 + flag_count fin) → nat_lt max (pos + len) ≡ false → (fin ≡ true) × (pos + len ≡ max)
spent max pos len true past is = let top = at_most (pos + len) max is in (refl, omega arith)
spent max pos len false past is = let top = at_most (pos + len) max is in absurd (omega arith)

plain_may : (p q : Version) (e : Endpoint) (new : SynOptions) (v w : ℕ) (m : SegmentPlan) (fin : Bool)
    → first_broken (making_rules p e (flagged m false false fin)) ≡ None → snd_max e < reach m false fin
    → OneMay q e new v w
plain_may p q e new v w m fin h past =
    let r : Room e m.pos m.len fin = room p e m.pos m.len m.flags.ack fin m.window m.iss m.shift h (not_empty p e m fin h past) in
    let low = r.max in
    by_test (nat_lt (snd_max e) (m.pos + m.len))
    (λ is. let new_end : snd_max e < m.pos + m.len = is_more (snd_max e) (m.pos + m.len) is in
    inr (inl (byte_may q e m.pos m.len w fin r (omega arith) new_end)))
    (λ is. let fins = spent (snd_max e) m.pos m.len fin past is in
    inr (inr (fin_may q e m.pos m.len w (subst (λ (b : Bool). Room e m.pos m.len b) fins.0 r) fins.1)))

pub one_may : (p q : Version) (e : Endpoint) (new : SynOptions) (v w : ℕ) (m : SegmentPlan) → m.flags.rst ≡ false
    → first_broken (making_rules p e m) ≡ None → snd_max e < m.pos + making_length m → OneMay q e new v w
one_may p q e new v w m rst h past =
    by m.flags.syn (subst (λ (b : Bool). first_broken (making_rules p e (flagged m b m.flags.syn m.flags.fin)) ≡ None) rst h) past
  where
    by : (syn : Bool) → first_broken (making_rules p e (flagged m false syn m.flags.fin)) ≡ None → snd_max e < reach m syn m.flags.fin
        → OneMay q e new v w
    by true h past = inl (syn_may p q e m.pos m.len m.window v m.flags.ack m.flags.fin m.iss m.shift new h past)
    by false h past = plain_may p q e new v w m m.flags.fin h past

-- 3. at a host

last_has : {X : Type 0} (test : X → Bool) (xs : List X) (k : ℕ) (found : Option ℕ) (i : ℕ)
    → last_from test k found xs ≡ Some i
    → (found ≡ Some i) ⊎ ((j : ℕ) × (x : X) × (i ≡ k + j) × (slice_get xs j ≡ Some x) × (test x ≡ true))
last_has test [] k found i is = inl is
last_has {X} test (x ∷ xs) k found i is = go (last_has test xs (suc k) (if test x then Some k else found) i is)
  where
    here : (b : Bool) → test x ≡ b → (if b then Some k else found) ≡ Some i
        → (found ≡ Some i) ⊎ ((j : ℕ) × (y : X) × (i ≡ k + j) × (slice_get (x ∷ xs) j ≡ Some y) × (test y ≡ true))
    here true passes same = inr (0, x, sym (same_Some k i same) ∙ sym (add-zero k), refl, passes)
    here false fails same = inl same

    go : ((if test x then Some k else found) ≡ Some i)
        ⊎ ((j : ℕ) × (y : X) × (i ≡ suc k + j) × (slice_get xs j ≡ Some y) × (test y ≡ true))
        → (found ≡ Some i) ⊎ ((j : ℕ) × (y : X) × (i ≡ k + j) × (slice_get (x ∷ xs) j ≡ Some y) × (test y ≡ true))
    go (inl same) = here (test x) refl same
    go (inr (j, y, at, there, passes)) = inr (suc j, y, at ∙ omega arith, there, passes)

same_ports : (l r : ℕ) (e : Endpoint) → has_ports l r e ≡ true → (e.lport ≡ l) × (e.rport ≡ r)
same_ports l r e is = let both = both_hold (e.lport == l) (e.rport == r) is in (is_same e.lport l both.0, is_same e.rport r both.1)

-- the endpoint of ports has them
pub of_ports : (b : HostTcp) (l r : ℕ) (e : Endpoint) → endpoint_of b l r ≡ Some e
    → (i : ℕ) × (slice_get b.endpoints i ≡ Some e) × (e.lport ≡ l) × (e.rport ≡ r)
of_ports b l r e found = by (place_of b l r) refl found
  where
    by : (o : Option ℕ) → place_of b l r ≡ o → option_map_or (λ i. slice_get b.endpoints i) o None ≡ Some e
        → (i : ℕ) × (slice_get b.endpoints i ≡ Some e) × (e.lport ≡ l) × (e.rport ≡ r)
    by None is found = absurd (none-some e found)
    by (Some i) is found = go (last_has (has_ports l r) b.endpoints 0 None i is)
      where
        go : (None ≡ Some i) ⊎ ((j : ℕ) × (x : Endpoint) × (i ≡ 0 + j) × (slice_get b.endpoints j ≡ Some x)
            × (has_ports l r x ≡ true)) → (i : ℕ) × (slice_get b.endpoints i ≡ Some e) × (e.lport ≡ l) × (e.rport ≡ r)
        go (inl none) = absurd (none-some i none)
        go (inr (j, x, at, there, passes)) =
            let same : x ≡ e = same_Some x e (sym there ∙ ap (λ (n : ℕ). slice_get b.endpoints n) (sym (at ∙ zero-add j)) ∙ found) in
            let ports = same_ports l r e (subst (λ (y : Endpoint). has_ports l r y ≡ true) same passes) in
            (i, found, ports.0, ports.1)

pub nothing : (h : Header) (me : Host) (w : World tcp_shape)
    → ((i : ℕ) (e : Endpoint) → slice_get (pick w.hosts me).body.endpoints i ≡ Some e → IsTried h me w e)
    → NothingToMake h me w
nothing h me w tried m e rst found past permitted = refute (one_may h.version h.version e t.opening t.at_syn t.window m rst may past)
  where
    b : HostTcp
    b = (pick w.hosts me).body

    at : (i : ℕ) × (slice_get b.endpoints i ≡ Some e) × (e.lport ≡ m.lport) × (e.rport ≡ m.rport)
    at = of_ports b m.lport m.rport e found

    t : IsTried h me w e
    t = tried at.0 e at.1

    found2 : endpoint_of b e.lport e.rport ≡ Some e
    found2 = subst (λ (l : ℕ). endpoint_of b l e.rport ≡ Some e) (sym at.2) (subst (λ (r : ℕ). endpoint_of b m.lport r ≡ Some e) (sym at.3) found)

    may : first_broken (making_rules h.version e m) ≡ None
    may = subst (λ (o : Option Endpoint).
        first_broken (option_map_or (λ x. making_rules h.version x m) o ((rules.NoEndpoint, true) ∷ [])) ≡ None) found permitted

    back : (c : SegmentPlan) → c.lport ≡ e.lport → c.rport ≡ e.rport → first_broken (making_rules h.version e c) ≡ None
        → Permitted (tcp h) 0 w (At me (Makes c))
    back c l r is =
        subst (λ (o : Option Endpoint).
        first_broken (option_map_or (λ x. making_rules h.version x c) o ((rules.NoEndpoint, true) ∷ [])) ≡ None)
        (sym (subst (λ (p : ℕ). endpoint_of b p c.rport ≡ Some e) (sym l)
        (subst (λ (q : ℕ). endpoint_of b e.lport q ≡ Some e) (sym r) found2))) is

    refute : OneMay h.version e t.opening t.at_syn t.window → ⊥
    refute (inl (low, is)) = t.syn low (back (syn_of e t.opening t.at_syn) refl refl is)
    refute (inr (inl is)) = t.byte (back (bytes_of e 1 t.window) refl refl is)
    refute (inr (inr is)) = t.fin (back (fin_of e t.window) refl refl is)

-- 4. nothing is made above the greatest position

abbrev pub IsShort : Endpoint → Type 0
IsShort e = end_of e.stream.accepted ≤ greatest_position

short_at : {X : Type 0} (P : X → Type 0) (xs : List X) (i : ℕ) (x : X) → slice_get xs i ≡ Some x → All P xs → P x
short_at P [] i x at all = absurd (none-some x at)
short_at P (y ∷ ys) zero x at all = subst P (same_Some y x at) (All-head P y ys all)
short_at P (y ∷ ys) (suc i) x at all = short_at P ys i x at (All-tail P y ys all)

far : (h : Header) (me : Host) (w : World tcp_shape) (m : SegmentPlan) (fin : Bool)
    → All (λ e. IsShort e) (pick w.hosts me).body.endpoints → 0 < m.len + flag_count false + flag_count fin
    → greatest_position < m.pos → (m.len ≡ 0 → fin ≡ true) → Refuses h me w (flagged m false false fin)
far h me w m fin all some above ends permitted = by (endpoint_of (pick w.hosts me).body m.lport m.rport) refl permitted
  where
    too_far : (e : Endpoint) → IsShort e → Room e m.pos m.len fin → ⊥
    too_far e short r = by_test (m.len == 0)
        (λ is. let behind = r.behind (ends (is_same m.len 0 is)) in absurd (omega arith))
        (λ is. let accepted = r.accepted (not_zero m.len is) in absurd (omega arith))

    by : (o : Option Endpoint) → endpoint_of (pick w.hosts me).body m.lport m.rport ≡ o
        → first_broken (option_map_or (λ x. making_rules h.version x (flagged m false false fin)) o
        ((rules.NoEndpoint, true) ∷ [])) ≡ None → ⊥
    by None is may = absurd cc
    by (Some e) is may =
        let place = of_ports (pick w.hosts me).body m.lport m.rport e is in
        too_far e (short_at IsShort (pick w.hosts me).body.endpoints place.0 e place.1 all)
        (room h.version e m.pos m.len m.flags.ack fin m.window m.iss m.shift may some)

-- an endpoint with more than that was tried where its SYN was
pub tried_far : (h : Header) (me : Host) (w : World tcp_shape) (opening : SynOptions) (window : ℕ) (e : Endpoint)
    → All (λ e. IsShort e) (pick w.hosts me).body.endpoints → greatest_position < snd_max e → IsTried h me w e
tried_far h me w opening window e all above = record {
  opening = opening;
  at_syn = window;
  window = window;
  syn = λ low. absurd (omega arith);
  byte = far h me w (bytes_of e 1 window) false all (omega arith) above (λ is. absurd (omega arith));
  fin = far h me w (fin_of e window) true all (omega arith) above (λ is. refl);
}

-- of every world that is kept
short_body : (steps : ℕ) (b : HostTcp) → steps < most_steps → IsKeptBody steps b → All (λ e. IsShort e) b.endpoints
short_body steps b few k = All-weaker (IsKept steps) IsShort (λ e kept. short e kept) b.endpoints k.kept
  where
    short : (e : Endpoint) → IsKept steps e → IsShort e
    short e kept = let accepted = kept.accepted in omega arith

pub short_host : (steps : ℕ) (w : World tcp_shape) (me : Host) → steps < most_steps → IsKeptWorld steps w
    → All (λ e. IsShort e) (pick w.hosts me).body.endpoints
short_host steps w Zero few k = short_body steps w.hosts.zero.body few k.zero.body
short_host steps w One few k = short_body steps w.hosts.one.body few k.one.body

-- 5. the search

pub one_more : {X : Type 0} (T : X → Type 0) (xs : List X) (p : ℕ) (x : X)
    → ((j : ℕ) (e : X) → j < p → slice_get xs j ≡ Some e → T e) → slice_get xs p ≡ Some x → T x → (j : ℕ) (e : X)
    → j < p + 1 → slice_get xs j ≡ Some e → T e
one_more {X} T xs p x were here is j e less at = by_test (nat_lt j p) (λ b. were j e (is_more j p b) at)
    (λ b. let low = at_most p j b in let same : j ≡ p = omega arith in subst T (same_Some x e (sym here ∙ ap (λ (n : ℕ). slice_get xs n) (sym same) ∙ at)) is)

pub inside : {X : Type 0} (xs : List X) (i p : ℕ) (x : X) → slice_get xs i ≡ Some x → slice_get xs p ≡ None → i < p
inside [] i p x at out = absurd (none-some x at)
inside (y ∷ ys) zero zero x at out = absurd (none-some y (sym out))
inside (y ∷ ys) zero (suc p) x at out = omega arith
inside (y ∷ ys) (suc i) zero x at out = absurd (none-some y (sym out))
inside (y ∷ ys) (suc i) (suc p) x at out = let less = inside ys i p x at out in omega arith

-- 6. told of the whole world

pub plan_whole : ForgettingIsFree → (p : Progress) (r : Recorded) (me : Host) → p.header ≡ r.header
    → p.world ≡ forget (world_left r) → me ≡ r.me → (o : Option SegmentPlan)
    → IfSome o (λ m. IsMakeable p.header me p.world m) → IfSome o (λ m. IsMakeable r.header r.me (world_left r) m)
plan_whole free p r me header left is None f = tt
plan_whole free p r me header left is (Some m) f = (
  f.0,
  f.1,
  subst (λ (h : Header). TellsWell h.version m) header f.2,
  subst (λ (rs : List (Rule × Bool)). first_broken rs ≡ None) (free.rules r.header 0 (world_left r) (At r.me (Makes m)))
      (subst (λ (h : Header). Permitted (tcp h) 0 (forget (world_left r)) (At r.me (Makes m))) header
      (subst (λ (w : World tcp_shape). Permitted (tcp p.header) 0 w (At r.me (Makes m))) left
      (subst (λ (x : Host). Permitted (tcp p.header) 0 p.world (At x (Makes m))) is f.3))),
)

-- the same is refused where nothing was forgotten
nothing_whole : ForgettingIsFree → (h : Header) (me : Host) (w : World tcp_shape) → NothingToMake h me (forget w) → NothingToMake h me w
nothing_whole free h me w none m e rst found past permitted = none m (forget_endpoint e) rst
    (ap (λ (b : HostTcp). endpoint_of b m.lport m.rport) (kept_body me w)
    ∙ endpoint-forget (pick w.hosts me).body m.lport m.rport ∙ ap (option_map forget_endpoint) found)
    (subst (λ (n : ℕ). n < m.pos + making_length m) (sym (snd_max-forget e)) past)
    (subst (λ (rs : List (Rule × Bool)). first_broken rs ≡ None) (sym (free.rules h 0 w (At me (Makes m)))) permitted)

pub none_whole : ForgettingIsFree → (p : Progress) (r : Recorded) (me : Host) → p.header ≡ r.header
    → p.world ≡ forget (world_left r) → me ≡ r.me → (o : Option SegmentPlan)
    → IfNone o (NothingToMake p.header me p.world) → IfNone o (NothingToMake r.header r.me (world_left r))
none_whole free p r me header left is (Some m) f = tt
none_whole free p r me header left is None f =
    nothing_whole free r.header r.me (world_left r)
    (subst (λ (h : Header). NothingToMake h r.me (forget (world_left r))) header
    (subst (λ (w : World tcp_shape). NothingToMake p.header r.me w) left
    (subst (λ (x : Host). NothingToMake p.header x p.world) is f)))

-- 7. all three were tried

pub all_tried : (h : Header) (me : Host) (w : World tcp_shape) (opening : SynOptions) (at_syn window : ℕ) (e : Endpoint)
    (byte fin : SegmentPlan) (o : Option SegmentPlan) → (snd_max e ≤ 0 → Refuses h me w (syn_of e opening at_syn))
    → byte ≡ bytes_of e 1 window → Refuses h me w byte
    → fin ≡ fin_of e window → IfNone o (Refuses h me w fin) → IfNone o (IsTried h me w e)
all_tried h me w opening at_syn window e byte fin (Some m) syn byte_is no_byte fin_is no_fin = tt
all_tried h me w opening at_syn window e byte fin None syn byte_is no_byte fin_is no_fin =
    record {
      opening = opening;
      at_syn = at_syn;
      window = window;
      syn = syn;
      byte = subst (λ (m : SegmentPlan). Refuses h me w m) byte_is no_byte;
      fin = subst (λ (m : SegmentPlan). Refuses h me w m) fin_is no_fin;
    }

-- a SYN tells the shift that its endpoint is given with its initial number
pub syn_tells : (v : Version) (e : Endpoint) (opening : SynOptions) (window : ℕ) (plan : SegmentPlan)
    → MayOpen v opening → plan ≡ syn_of e opening window → TellsWell v plan
syn_tells v e opening window plan may is = subst (λ (m : SegmentPlan). TellsWell v m) (sym is) (by (is_some e.iss) opening.shift may)
  where
    by : (known : Bool) (shift : Option ℕ) → IfSome shift (λ n. (scales v ≡ true) × (n ≤ 14))
        → IfSome (if known then None else shift) (IsShift v (if known then None else Some opening.iss))
    by true shift may = tt
    by false None may = tt
    by false (Some n) may = (may.0, refl, may.1)
