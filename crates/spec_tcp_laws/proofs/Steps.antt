-- Each step keeps what holds, and adds to streams what it says.
use Rattle.std.proofs.Common.{◌≡◌, ℕ, suc, ◌-◌, ◌≤◌, Bool, true, false, List, [], ◌∷◌, arith, take, Option, Some, None, refl, ap, sym, subst, ◌∙◌, nat_eq}
use Rattle.std.specs.Prelude.{if◌then◌else◌, not}
use Rattle.std.specs.Option.{option_map_or}
use Rattle.std.specs.Map.{lookup}
use Rattle.std.proofs.lemmas.Option.{none-some, same_Some}
use Rattle.indexmap.specs.IndexMap.{insert_entry}
use Rattle.case_forms.specs.Versions.{is_half}
use Rattle.case_forms.specs.declared.trace.Header.{Header}
use Rattle.case_forms.specs.declared.trace.Wire.{Wire}
use Rattle.case_forms.specs.declared.version.Version.{Version}
use Rattle.case_forms.specs.declared.calls.Host.{Host}
use Rattle.case_forms.specs.declared.calls.Call.{Call}
use Rattle.case_forms.specs.declared.calls.Call.TheVariants as calls
use Rattle.case_forms.specs.declared.calls.Answer.{Answer}
use Rattle.case_forms.specs.declared.calls.Answer.TheVariants as answers
use Rattle.verdict.specs.declared.rule.Rule.TheVariants as rules
use Rattle.verdict.specs.Rules.{first_broken}
use Rattle.verdict.proofs.RuleLemmas.{none_all, none_both}
use Rattle.spec_network.specs.Tables.{pick, other, with_host, on, Made, unsent, gone_out, waiting, settled}
use Rattle.spec_network.specs.Hosts.{HostState, Turn, Idle, Called, Answered, World, HostStep, Does, Expires, Makes, Sends}
use Rattle.spec_network.specs.Hosts.{Gets, Hears, Takes, Drops, Answers, Step, Begin, Finish, Effect, At, turn_of}
use Rattle.spec_network.specs.HostRules.{aim_of, just, fresh_rules, call_rules, effect_rules, Permitted}
use Rattle.spec_network.specs.HostSteps.{host_step_after, call_after, effect_after, after}
use Rattle.window_rules.specs.declared.control.Profile.{Profile}
use Rattle.spec_tcp.specs.Signals.{profile_of}
use Rattle.streams.specs.Received.{next}
use Rattle.spec_tcp.specs.declared.endpoint.EndpointId.{EndpointId}
use Rattle.spec_tcp.specs.declared.endpoint.Emission.{Emission}
use Rattle.spec_tcp.specs.declared.endpoint.Endpoint.{Endpoint}
use Rattle.spec_tcp.specs.declared.endpoint.SocketTarget.{SocketTarget}
use Rattle.spec_tcp.specs.HostTcp.{HostTcp, given, socket_target}
use Rattle.spec_tcp.specs.Calls.{is_bad_socket, target_allows, socket_allows, call_allows, after_call}
use Rattle.case_forms.specs.declared.steps.SegmentPlan.{SegmentPlan}
use Rattle.spec_tcp.specs.Wire.{is_before_text, sent}
use Rattle.case_forms.specs.declared.steps.TakeChoice.{TakeChoice}
use Rattle.spec_tcp.specs.Arrives.{taker, taker_rules}
use Rattle.spec_tcp.specs.Reset.{reset_of}
use Rattle.spec_tcp.specs.Machine.{Calls, tcp, tcp_shape, aim, gives}
use Rattle.spec_tcp_laws.specs.Runs.{of_effect, of_turn, call_accepted, call_ended}
use Rattle.spec_tcp_laws.proofs.Rules.{on_passes, on_cases, option_cases, not_false}
use Rattle.spec_tcp_laws.proofs.Tables.{AllIn, all_insert, inbox_join, inbox_settled}
use Rattle.spec_tcp_laws.proofs.Later.{Hosts, name, AllLater, GoodEmission, Good, emission_later}
use Rattle.spec_tcp_laws.proofs.Moves.{moves_not, Kept, kept_not, kept_host, kept_same, GoodEnds}
use Rattle.spec_tcp_laws.specs.Carried.{Carries}
use Rattle.spec_tcp.specs.Makes.{after_making}
use Rattle.spec_tcp.specs.Timeouts.{after_expiry}
use Rattle.spec_tcp.specs.Recovery.{after_recovery}
use Rattle.spec_tcp_laws.proofs.Grows.{Added, nothing, silent, all_silent, Coming, Grown, AllOwn, AllGrown, grown_not}
use Rattle.spec_tcp_laws.proofs.Grows.{grown_at_ports, all_grown_not, all_grown_host}
use Rattle.spec_tcp_laws.proofs.Makes.{makes_good, moves_at_ports, plain_making, plain_expiry, plain_recovery}
use Rattle.spec_tcp_laws.proofs.Takes.{moves_taking, grown_taking}
use Rattle.spec_tcp_laws.proofs.Calls.{name_told, call_adds, Apart, owner_elsewhere, owner_of, socket_none, moves_call, grown_call}

-- 1. what hosts do

ends : (a : Hosts) (host : Host) → Good a → GoodEnds a host (pick a host).body.endpoints
ends a host g = (g host).endpoints

-- what isn't a reset in answer to a segment acknowledges as it was built
own_ack : (reply told built : Bool) → reply ≡ false → (if reply then told else built) ≡ true → built ≡ true
own_ack true told built plain acks = absurd cc
own_ack false told built plain acks = acks

emission_sent : (b : Hosts) (moment : ℕ) (wire : Wire) (m : Emission) → GoodEmission b m → GoodEmission b (sent moment wire m)
emission_sent b moment wire m g = record {
  there = g.there;
  sent = g.sent;
  peer_at_send = g.peer_at_send;
  resets = g.resets;
  ack = λ acks plain. let h = g.ack (own_ack m.is_reset_reply _ m.flags.ack plain acks) plain in
      (h.0, (h.1.0, h.1.1, lower h.1.0 (is_before_text wire m) h.1.2));
}
  where
    -- the number from before the text is lower
    lower : (x : Endpoint) (before : Bool) → m.ack ≤ next x.stream.receive
        → (if before then m.ack - m.raised else m.ack) ≤ next x.stream.receive
    lower x true most = omega arith
    lower x false most = most

reset_good : (b : Hosts) (m : Emission) → GoodEmission b m → GoodEmission b (reset_of m)
reset_good b m g = record {
  there = g.there;
  sent = λ p c e. absurd (none-some c e);
  peer_at_send = λ q e. absurd (none-some q e);
  resets = λ e. refl;
  ack = λ x e. absurd cc;
}

-- the table of what was made, with what an act makes
made_after : (c : Hosts) (made : List (ℕ × Made Emission)) (fresh : ℕ) (o : Option Emission)
    → ((x : Emission) → o ≡ Some x → GoodEmission c x) → AllIn (λ (x : Made Emission). GoodEmission c x.emission) made
    → AllIn (λ (x : Made Emission). GoodEmission c x.emission) (on o made (λ x. insert_entry nat_eq made fresh (unsent x)))
made_after c made fresh None new old = old
made_after c made fresh (Some x) new old = all_insert (λ (y : Made Emission). GoodEmission c y.emission) made fresh (unsent x) (new x refl) old

-- each step of a host keeps what is good, where endpoints become what they may become
abbrev Keeps : (h : Header) → ℕ → World tcp_shape → Host → HostStep tcp_shape → Type 0
Keeps h s w host d = AllLater w.hosts (after (tcp h) s w (At host d)).hosts → Kept w.hosts (after (tcp h) s w (At host d)).hosts

kept_sends : (h : Header) (s : ℕ) (w : World tcp_shape) (host : Host) (line number : ℕ) (wire : Wire) → Good w.hosts → Keeps h s w host (Sends line number wire)
kept_sends h s w host line number wire g = let a = w.hosts in let k = pick a host in
    option_cases (λ (o : Option (Made Emission)).
    AllLater a (with_host a host (record k {
      made = on o k.made (λ m. insert_entry nat_eq k.made number (gone_out m));
      wire = on o k.wire (λ m. insert_entry nat_eq k.wire line (sent s wire m.emission));
    }))
    → Kept a (with_host a host (record k {
      made = on o k.made (λ m. insert_entry nat_eq k.made number (gone_out m));
      wire = on o k.wire (λ m. insert_entry nat_eq k.wire line (sent s wire m.emission));
    })))
    (lookup (nat_eq number) k.made) (λ up. kept_same a host g)
    (λ m e up. kept_host a host (record k {
      made = insert_entry nat_eq k.made number (gone_out m);
      wire = insert_entry nat_eq k.wire line (sent s wire m.emission);
    }) g up
    (moves_not a host k.body.endpoints (ends a host g))
    (λ c later t. record {
      made = all_insert (λ (x : Made Emission). GoodEmission c x.emission) k.made number (gone_out m) (t.made number m e) t.made;
      wire = all_insert (GoodEmission c) k.wire line (sent s wire m.emission) (emission_sent c s wire m.emission (t.made number m e)) t.wire;
      inbox = t.inbox;
    }))

kept_gets : (h : Header) (s : ℕ) (w : World tcp_shape) (host : Host) (line copied : ℕ) (wire : Wire) → Good w.hosts → Keeps h s w host (Gets line copied wire)
kept_gets h s w host line copied wire g = let a = w.hosts in let k = pick a host in
    option_cases (λ (o : Option Emission).
    AllLater a (with_host a host (record k {
      inbox = on o k.inbox (λ m. insert_entry nat_eq k.inbox line (Some m));
    }))
    → Kept a (with_host a host (record k {
      inbox = on o k.inbox (λ m. insert_entry nat_eq k.inbox line (Some m));
    })))
    (lookup (nat_eq copied) (pick a (other host)).wire) (λ up. kept_same a host g)
    (λ m e up. kept_host a host (record k { inbox = insert_entry nat_eq k.inbox line (Some m) }) g up
    (moves_not a host k.body.endpoints (ends a host g))
    (λ c later t. record {
      made = t.made;
      wire = t.wire;
      inbox = inbox_join (GoodEmission c) k.inbox line m (emission_later a c later m ((g (other host)).tables.wire copied m e)) t.inbox;
    }))

kept_drops : (h : Header) (s : ℕ) (w : World tcp_shape) (host : Host) (line : ℕ) → Good w.hosts → Keeps h s w host (Drops line)
kept_drops h s w host line g = let a = w.hosts in let k = pick a host in
    option_cases (λ (o : Option Emission).
    AllLater a (with_host a host (record k { inbox = on o k.inbox (λ m. settled line k.inbox) }))
    → Kept a (with_host a host (record k { inbox = on o k.inbox (λ m. settled line k.inbox) })))
    (waiting line k.inbox) (λ up. kept_same a host g)
    (λ m e up. kept_host a host (record k { inbox = settled line k.inbox }) g up
    (moves_not a host k.body.endpoints (ends a host g))
    (λ c later t. record { made = t.made; wire = t.wire; inbox = inbox_settled (GoodEmission c) k.inbox line t.inbox }))

kept_answers : (h : Header) (s : ℕ) (w : World tcp_shape) (host : Host) (line : ℕ) → Good w.hosts → Keeps h s w host (Answers line)
kept_answers h s w host line g = let a = w.hosts in let k = pick a host in
    option_cases (λ (o : Option Emission).
    AllLater a (with_host a host (record k {
      body = on o k.body (λ m. k.body);
      made = on o k.made (λ m. insert_entry nat_eq k.made (suc w.count) (unsent (reset_of m)));
      inbox = on o k.inbox (λ m. settled line k.inbox);
    }))
    → Kept a (with_host a host (record k {
      body = on o k.body (λ m. k.body);
      made = on o k.made (λ m. insert_entry nat_eq k.made (suc w.count) (unsent (reset_of m)));
      inbox = on o k.inbox (λ m. settled line k.inbox);
    })))
    (waiting line k.inbox) (λ up. kept_same a host g)
    (λ m e up. kept_host a host (record k { made = insert_entry nat_eq k.made (suc w.count) (unsent (reset_of m)); inbox = settled line k.inbox }) g up
    (moves_not a host k.body.endpoints (ends a host g))
    (λ c later t. record {
      made = all_insert (λ (x : Made Emission). GoodEmission c x.emission) k.made (suc w.count) (unsent (reset_of m))
          (reset_good c m (t.inbox line m e)) t.made;
      wire = t.wire;
      inbox = inbox_settled (GoodEmission c) k.inbox line t.inbox;
    }))

kept_takes : (h : Header) → is_half h.version ≡ false
    → (s : ℕ) (w : World tcp_shape) (host : Host) (line : ℕ) (how : TakeChoice) → Good w.hosts
    → Permitted (tcp h) s w (At host (Takes line how)) → Keeps h s w host (Takes line how)
kept_takes h whole s w host line how g may = let a = w.hosts in let k = pick a host in
    option_cases (λ (o : Option Emission).
    AllLater a (with_host a host (record k {
      body = on o k.body (λ m. (tcp h).act_after host s k.body ((tcp h).takes how m));
      inbox = on o k.inbox (λ m. settled line k.inbox);
    }))
    → Kept a (with_host a host (record k {
      body = on o k.body (λ m. (tcp h).act_after host s k.body ((tcp h).takes how m));
      inbox = on o k.inbox (λ m. settled line k.inbox);
    })))
    (waiting line k.inbox) (λ up. kept_same a host g)
    (λ m e up.
    let t = on_passes (waiting line k.inbox) rules.Inbox (λ x. taker_rules h host k.body how x s (taker k.body x)) may in
    let one : t.0 ≡ m = same_Some t.0 m (sym t.1 ∙ e) in
    kept_host a host (host_step_taken m) g up
    (moves_taking a h whole host k.body how m s (ends a host g) ((g host).tables.inbox line m e)
    (subst (λ (x : Emission). first_broken (taker_rules h host k.body how x s (taker k.body x)) ≡ None) one
    t.2))
    (λ c later t. record { made = t.made; wire = t.wire; inbox = inbox_settled (GoodEmission c) k.inbox line t.inbox }))
  where
    host_step_taken : Emission → HostState tcp_shape
    host_step_taken m =
        record (pick w.hosts host) {
          body = (tcp h).act_after host s (pick w.hosts host).body ((tcp h).takes how m);
          inbox = settled line (pick w.hosts host).inbox;
        }

kept_makes : (h : Header) (s : ℕ) (w : World tcp_shape) (host : Host) (m : SegmentPlan) → Good w.hosts
    → Permitted (tcp h) s w (At host (Makes m)) → Keeps h s w host (Makes m)
kept_makes h s w host m g may up = let a = w.hosts in let k = pick a host in
    kept_host a host (host_step_after (tcp h) host s (suc w.count) (pick a (other host)).wire k (Makes m)) g up
    (moves_at_ports a host k.body m.lport m.rport (λ e. after_making e m s) (ends a host g) (plain_making m s))
    (λ c later t. record {
      made = made_after c k.made (suc w.count) ((tcp h).act_makes host s k.body ((tcp h).making m))
          (λ x e. emission_later a c later x (makes_good h.version a host s m x g may e)) t.made;
      wire = t.wire;
      inbox = t.inbox;
    })

-- at a whole case nothing is heard of a host that is not recorded
pub heard_nothing : (h : Header) → is_half h.version ≡ false → first_broken (just rules.NoEmission (not (is_half h.version))) ≡ None → ⊥
heard_nothing h whole may = let e : first_broken (just rules.NoEmission true) ≡ None =
    subst (λ (b : Bool). first_broken (just rules.NoEmission (not b)) ≡ None) whole may in absurd cc

kept_host_step : (h : Header) → is_half h.version ≡ false → (s : ℕ) (w : World tcp_shape) (host : Host) (d : HostStep tcp_shape)
    → Good w.hosts → Permitted (tcp h) s w (At host d) → Keeps h s w host d
kept_host_step h whole s w host (Does x) g may up = let k = pick w.hosts host in
    kept_host w.hosts host (host_step_after (tcp h) host s (suc w.count) (pick w.hosts (other host)).wire k (Does x)) g up
    (moves_at_ports w.hosts host k.body x.lport x.rport (λ e. after_recovery e x.change x.cwnd x.ssthresh s)
    (ends w.hosts host g) (plain_recovery x.change x.cwnd x.ssthresh s))
    (λ c later t. record { made = t.made; wire = t.wire; inbox = t.inbox })
kept_host_step h whole s w host (Expires line x) g may up = let k = pick w.hosts host in
    kept_host w.hosts host (host_step_after (tcp h) host s (suc w.count) (pick w.hosts (other host)).wire k (Expires line x)) g up
    (moves_at_ports w.hosts host k.body x.lport x.rport (λ e. after_expiry e x.expired s) (ends w.hosts host g)
    (plain_expiry x.expired s)) (λ c later t. record { made = t.made; wire = t.wire; inbox = t.inbox })
kept_host_step h whole s w host (Makes m) g may up = kept_makes h s w host m g may up
kept_host_step h whole s w host (Sends line number wire) g may up = kept_sends h s w host line number wire g up
kept_host_step h whole s w host (Gets line copied wire) g may up = kept_gets h s w host line copied wire g up
kept_host_step h whole s w host (Hears line wire) g may up = absurd (heard_nothing h whole may)
kept_host_step h whole s w host (Takes line how) g may up = kept_takes h whole s w host line how g may up
kept_host_step h whole s w host (Drops line) g may up = kept_drops h s w host line g up
kept_host_step h whole s w host (Answers line) g may up = kept_answers h s w host line g up

-- 2. calls

-- an answer other than that of a dead number is to a live one
live : (v : Version) (b : HostTcp) (n : ℕ) (call : Call) (answer : Answer) → socket_allows v b n call answer ≡ true → is_bad_socket answer ≡ false
    → given b n ≡ true
live v b n call answer may good = go (socket_target b n) refl may
  where
    go : (o : Option SocketTarget) → socket_target b n ≡ o → option_map_or (target_allows v b call answer) o (is_bad_socket answer) ≡ true → given b n ≡ true
    go None is may = absurd cc
    go (Some target) is may = (owner_of b n target is).1

-- nothing is added at the other host
adds_elsewhere : (v : Version) (a : Hosts) (host : Host) (call : Call) (answer : Answer) → Apart a
    → call_allows v (pick a host).body call answer ≡ true → (i : ℕ)
    → call_adds a call answer (name (other host) i) ≡ nothing
adds_elsewhere v a host (calls.Send n bytes) (answers.Given count) apart may i =
    ap (λ (c : Bool). record { told = []; accepted = if c then take count bytes else []; ended = false })
    (socket_none a (other host) n i (owner_elsewhere a host n apart (live v (pick a host).body n (calls.Send n bytes) (answers.Given count) may refl)))
adds_elsewhere v a host (calls.Recv n most) (answers.Bytes bytes) apart may i =
    ap (λ (c : Bool). record { told = if c then bytes else []; accepted = []; ended = false })
    (socket_none a (other host) n i (owner_elsewhere a host n apart (live v (pick a host).body n (calls.Recv n most) (answers.Bytes bytes) may refl)))
adds_elsewhere v a host (calls.Shut n) answers.Done apart may i = ap (λ (c : Bool). record { told = []; accepted = []; ended = c })
    (socket_none a (other host) n i (owner_elsewhere a host n apart (live v (pick a host).body n (calls.Shut n) answers.Done may refl)))
adds_elsewhere v a host (calls.Close n) answers.Done apart may i = ap (λ (c : Bool). record { told = []; accepted = []; ended = c })
    (socket_none a (other host) n i (owner_elsewhere a host n apart (live v (pick a host).body n (calls.Close n) answers.Done may refl)))
adds_elsewhere v a host call answer apart may i = refl

kept_call : (p : Profile) (a : Hosts) (host : Host) (call : Call) (answer : Answer) → Good a
    → AllLater a (with_host a host (record (pick a host) { body = after_call p (pick a host).body call answer }))
    → Kept a (with_host a host (record (pick a host) { body = after_call p (pick a host).body call answer }))
kept_call p a host call answer g up = kept_host a host (record (pick a host) { body = after_call p (pick a host).body call answer }) g up
    (moves_call p a host (pick a host).body call answer (ends a host g)) (λ c later t. record { made = t.made; wire = t.wire; inbox = t.inbox })

-- nothing is added by the answer of a dead number
stray_adds : (a : Hosts) (call : Call) (answer : Answer) (me : EndpointId) → is_bad_socket answer ≡ true → call_adds a call answer me ≡ nothing
stray_adds a (calls.Send n bytes) (answers.Given count) me e = absurd cc
stray_adds a (calls.Recv n most) (answers.Bytes bytes) me e = absurd cc
stray_adds a (calls.Shut n) answers.Done me e = absurd cc
stray_adds a (calls.Close n) answers.Done me e = absurd cc
stray_adds a call answer me e = refl

-- 3. steps

-- what a step adds to an endpoint
abbrev pub step_adds : Header → World tcp_shape → Step tcp_shape → EndpointId → Added
step_adds h w step me = record {
  told = of_effect h w step [] (λ call answer. name_told w.hosts call answer me);
  accepted = of_effect h w step [] (λ call answer. call_accepted w.hosts call answer me);
  ended = of_effect h w step false (λ call answer. call_ended w.hosts call answer me);
}

-- the call of an effect may have the answer: at the host that it means, or by no host's number
pub effect_allowed : (h : Header) (s : ℕ) (hosts : Hosts) (call : Call) (answer : Answer) (o : Option Host)
    → first_broken (call_rules (tcp h) s hosts call answer o) ≡ None
    → first_broken (fresh_rules (tcp h) hosts (gives call answer)) ≡ None
    × option_map_or (λ host. call_allows h.version (pick hosts host).body call answer) o (is_bad_socket answer) ≡ true
effect_allowed h s hosts call answer None may = let x = none_both (fresh_rules (tcp h) hosts (gives call answer)) _ may in
    (x.0, not_false (is_bad_socket answer) (none_all ((rules.CallAnswer, not (is_bad_socket answer)) ∷ []) x.1).0)
effect_allowed h s hosts call answer (Some host) may = let x = none_both (fresh_rules (tcp h) hosts (gives call answer)) _ may in (
  x.0,
  not_false (call_allows h.version (pick hosts host).body call answer)
      (none_all ((rules.CallAnswer, not (call_allows h.version (pick hosts host).body call answer)) ∷ []) x.1).0,
)

-- endpoints by themselves, in every case
grown_host_step : (h : Header) (s : ℕ) (w : World tcp_shape) (host : Host) (d : HostStep tcp_shape) → AllOwn w.hosts → Permitted (tcp h) s w (At host d)
    → Grown (Carries h w (At host d)) host silent (pick w.hosts host).body.endpoints
    (host_step_after (tcp h) host s (suc w.count) (pick w.hosts (other host)).wire (pick w.hosts host) d).body.endpoints
grown_host_step h s w host (Does x) g may =
    grown_at_ports (Carries h w (At host (Does x))) host (pick w.hosts host).body x.lport x.rport
    (λ e. after_recovery e x.change x.cwnd x.ssthresh s) (g host) (plain_recovery x.change x.cwnd x.ssthresh s)
grown_host_step h s w host (Expires line x) g may =
    grown_at_ports (Carries h w (At host (Expires line x))) host (pick w.hosts host).body x.lport x.rport
    (λ e. after_expiry e x.expired s) (g host) (plain_expiry x.expired s)
grown_host_step h s w host (Makes m) g may =
    grown_at_ports (Carries h w (At host (Makes m))) host (pick w.hosts host).body m.lport m.rport
    (λ e. after_making e m s) (g host) (plain_making m s)
grown_host_step h s w host (Sends line number wire) g may =
    grown_not (Carries h w (At host (Sends line number wire))) host silent (pick w.hosts host).body.endpoints
    (λ i. refl) (g host)
grown_host_step h s w host (Gets line copied wire) g may =
    grown_not (Carries h w (At host (Gets line copied wire))) host silent (pick w.hosts host).body.endpoints (λ i. refl)
    (g host)
grown_host_step h s w host (Hears line wire) g may =
    grown_not (Carries h w (At host (Hears line wire))) host silent (pick w.hosts host).body.endpoints (λ i. refl)
    (g host)
grown_host_step h s w host (Takes line how) g may = let k = pick w.hosts host in let step : Step tcp_shape = At host (Takes line how) in
    on_cases (λ (b : HostTcp). Grown (Carries h w step) host silent k.body.endpoints b.endpoints)
    (waiting line k.inbox) k.body _
    (grown_not (Carries h w step) host silent k.body.endpoints (λ i. refl) (g host))
    (λ m e.
    let t = on_passes (waiting line k.inbox) rules.Inbox (λ x. taker_rules h host k.body how x s (taker k.body x)) may in
    let one : t.0 ≡ m = same_Some t.0 m (sym t.1 ∙ e) in
    grown_taking h s w host line how m g e (subst (λ (x : Emission). first_broken (taker_rules h host k.body how x s (taker k.body x)) ≡ None) one t.2))
grown_host_step h s w host (Drops line) g may =
    grown_not (Carries h w (At host (Drops line))) host silent (pick w.hosts host).body.endpoints (λ i. refl) (g host)
grown_host_step h s w host (Answers line) g may = let k = pick w.hosts host in let step : Step tcp_shape = At host (Answers line) in
    on_cases (λ (b : HostTcp). Grown (Carries h w step) host silent k.body.endpoints b.endpoints)
    (waiting line k.inbox) k.body _
    (grown_not (Carries h w step) host silent k.body.endpoints (λ i. refl) (g host))
    (λ m e. grown_not (Carries h w step) host silent k.body.endpoints (λ i. refl) (g host))

grown_effect : (h : Header) (s : ℕ) (w : World tcp_shape) (t : ℕ) (answer : Answer) → AllOwn w.hosts → Apart w.hosts → Permitted (tcp h) s w (Effect t answer)
    → AllGrown (Carries h w (Effect t answer)) (step_adds h w (Effect t answer)) w.hosts (after (tcp h) s w (Effect t answer)).hosts
grown_effect h s w t answer g apart may = go (turn_of t w.threads) may
  where
    comes : Coming
    comes = Carries h w (Effect t answer)

    by : (call : Call) (o : Option Host)
        → option_map_or (λ host. call_allows h.version (pick w.hosts host).body call answer) o (is_bad_socket answer) ≡ true
        → AllGrown comes (call_adds w.hosts call answer) w.hosts (call_after (tcp h) s w.hosts (Calls call answer) o)
    by call None may = all_grown_not comes w.hosts (call_adds w.hosts call answer) (λ me. stray_adds w.hosts call answer me may) g
    by call (Some host) may =
        all_grown_host comes w.hosts host
        (record (pick w.hosts host) { body = after_call (profile_of h) (pick w.hosts host).body call answer })
        (call_adds w.hosts call answer) g
        (grown_call h.version (profile_of h) comes w.hosts host call answer (g host) may) (adds_elsewhere h.version w.hosts host call answer apart may)

    go : (u : Turn tcp_shape) → first_broken (effect_rules (tcp h) s w.hosts u answer) ≡ None
        → AllGrown comes (λ me. record {
          told = of_turn u [] (λ call. name_told w.hosts call answer me);
          accepted = of_turn u [] (λ call. call_accepted w.hosts call answer me);
          ended = of_turn u false (λ call. call_ended w.hosts call answer me);
        })
        w.hosts (effect_after (tcp h) s w t answer u).hosts
    go Idle may = all_grown_not comes w.hosts all_silent (λ me. refl) g
    go (Called call) may = by call (aim_of (tcp h) w.hosts (aim call)) (effect_allowed h s w.hosts call answer (aim_of (tcp h) w.hosts (aim call)) may).1
    go (Answered x) may = all_grown_not comes w.hosts all_silent (λ me. refl) g

pub grown_step : (h : Header) (s : ℕ) (w : World tcp_shape) (step : Step tcp_shape) → AllOwn w.hosts → Apart w.hosts
    → Permitted (tcp h) s w step
    → AllGrown (Carries h w step) (step_adds h w step) w.hosts (after (tcp h) s w step).hosts
grown_step h s w (Begin line t call) g apart may = all_grown_not (Carries h w (Begin line t call)) w.hosts all_silent (λ me. refl) g
grown_step h s w (Finish line t answer) g apart may = all_grown_not (Carries h w (Finish line t answer)) w.hosts all_silent (λ me. refl) g
grown_step h s w (Effect t answer) g apart may = grown_effect h s w t answer g apart may
grown_step h s w (At host d) g apart may =
    all_grown_host (Carries h w (At host d)) w.hosts host
    (host_step_after (tcp h) host s (suc w.count) (pick w.hosts (other host)).wire (pick w.hosts host) d) all_silent g
    (grown_host_step h s w host d g may) (λ i. refl)

-- and with their peers, in a whole case
kept_effect : (h : Header) (s : ℕ) (w : World tcp_shape) (t : ℕ) (answer : Answer) → Good w.hosts
    → AllLater w.hosts (after (tcp h) s w (Effect t answer)).hosts
    → Kept w.hosts (after (tcp h) s w (Effect t answer)).hosts
kept_effect h s w t answer g = go (turn_of t w.threads)
  where
    by : (call : Call) (o : Option Host) → AllLater w.hosts (call_after (tcp h) s w.hosts (Calls call answer) o)
        → Kept w.hosts (call_after (tcp h) s w.hosts (Calls call answer) o)
    by call None up = kept_not w.hosts g
    by call (Some host) up = kept_call (profile_of h) w.hosts host call answer g up

    go : (u : Turn tcp_shape) → AllLater w.hosts (effect_after (tcp h) s w t answer u).hosts → Kept w.hosts (effect_after (tcp h) s w t answer u).hosts
    go Idle up = kept_not w.hosts g
    go (Called call) up = by call (aim_of (tcp h) w.hosts (aim call)) up
    go (Answered x) up = kept_not w.hosts g

pub kept_step : (h : Header) → is_half h.version ≡ false → (s : ℕ) (w : World tcp_shape) (step : Step tcp_shape)
    → Good w.hosts → AllLater w.hosts (after (tcp h) s w step).hosts → Permitted (tcp h) s w step
    → Kept w.hosts (after (tcp h) s w step).hosts
kept_step h whole s w (Begin line t call) g up may = kept_not w.hosts g
kept_step h whole s w (Finish line t answer) g up may = kept_not w.hosts g
kept_step h whole s w (Effect t answer) g up may = kept_effect h s w t answer g up
kept_step h whole s w (At host d) g up may = kept_host_step h whole s w host d g may up
