-- What live socket numbers name: no two the same; a new number was not returned before, and a closed one is live no more.
use Rattle.std.proofs.Common.{◌≡◌, ℕ, ◌<◌, ◌≤◌, ◌⊎◌, inl, inr, Bool, true, false, cond, [], ◌∷◌, length, Option, Some, None, refl, ap, sym, subst}
use Rattle.std.proofs.Common.{◌∙◌, nat_eq, arith}
use Rattle.std.specs.Prelude.{if◌then◌else◌, is_some}
use Rattle.std.specs.Map.{lookup}
use Rattle.std.specs.Option.{option_map_or}
use Rattle.std.proofs.lemmas.Bool.Decides.{nat_tests}
use Rattle.std.proofs.lemmas.Option.{none-some, same_Some}
use Rattle.indexmap.specs.IndexMap.{insert_entry}
use Rattle.case_forms.specs.Versions.{says_sender}
use Rattle.case_forms.specs.declared.calls.Answer.{Answer}
use Rattle.case_forms.specs.declared.calls.Answer.TheVariants as answers
use Rattle.case_forms.specs.declared.calls.Call.{Call}
use Rattle.case_forms.specs.declared.calls.Call.TheVariants as calls
use Rattle.case_forms.specs.declared.calls.Host.{Host}
use Rattle.case_forms.specs.declared.calls.Host.TheVariants.{Zero, One}
use Rattle.case_forms.specs.declared.trace.Header.{Header}
use Rattle.verdict.specs.Rules.{first_broken}
use Rattle.verdict.specs.declared.rule.Rule.TheVariants as rules
use Rattle.verdict.proofs.RuleLemmas.{none_all}
use Rattle.window_rules.specs.declared.control.Profile.{Profile}
use Rattle.spec_network.proofs.Entries.{lookup_insert}
use Rattle.spec_network.specs.HostRules.{Permitted, aim_of, effect_rules, fresh_rules}
use Rattle.spec_network.specs.Hosts.{Turn, Idle, Called, Answered, World, HostStep, Does, Expires, Makes, Sends}
use Rattle.spec_network.specs.Hosts.{Gets, Hears, Takes, Drops, Answers, Step, Begin, Finish, Effect, At, turn_of}
use Rattle.spec_network.specs.HostSteps.{after, call_after, effect_after}
use Rattle.spec_network.specs.Tables.{on, pick, waiting, with_host}
use Rattle.spec_tcp.specs.Calls.{after_call}
use Rattle.spec_tcp.specs.Calls.Close.{after_abort, after_close, target_gone}
use Rattle.spec_tcp.specs.HostTcp.{HostTcp, dead, given, if_live, socket_target}
use Rattle.spec_tcp.specs.Machine.{Calls, aim, gives, tcp, tcp_shape}
use Rattle.spec_tcp.specs.Signals.{profile_of}
use Rattle.spec_tcp.specs.declared.endpoint.Socket.{Socket}
use Rattle.spec_tcp.specs.declared.endpoint.SocketTarget.{SocketTarget}
use Rattle.spec_tcp.specs.declared.endpoint.SocketTarget.TheVariants.{ListenerAt, EndpointAt}
use Rattle.spec_tcp_laws.specs.Runs.{endpoint_place, owner}
use Rattle.spec_tcp_laws.proofs.Sound.{Sound}
use Rattle.spec_tcp_laws.proofs.Steps.{effect_allowed}
use Rattle.spec_duties.specs.Answering.{closing}
use Rattle.spec_duties.specs.Observations.{observe, observe_effect, unseen}
use Rattle.spec_duties.specs.declared.answering.CallChange.TheVariants as call_change
use Rattle.spec_duties.specs.declared.answering.SocketChange.{SocketChange}
use Rattle.spec_duties.specs.declared.answering.SocketChange.TheVariants as socket_change
use Rattle.spec_duties.specs.declared.observations.Observation.{Observation}
use Rattle.kept_calls.proofs.Sockets.{Kept, shows_effect}

-- ---- numbers

-- a live number was returned, and names this
live_is : (s : Socket) (t : SocketTarget) → if_live s ≡ Some t → s.target ≡ t
live_is s t = by s.live
  where
    by : (live : Bool) → (if live then Some s.target else None) ≡ Some t → s.target ≡ t
    by true is = same_Some s.target t is
    by false is = absurd (none-some t is)

pub live_given : (b : HostTcp) (n : ℕ) (t : SocketTarget) → socket_target b n ≡ Some t → given b n ≡ true
live_given b n t = by (lookup (nat_eq n) b.sockets)
  where
    by : (o : Option Socket) → option_map_or if_live o None ≡ Some t → is_some o ≡ true
    by None is = absurd (none-some t is)
    by (Some s) is = refl

live_owner : (b : HostTcp) (n i : ℕ) → socket_target b n ≡ Some (EndpointAt i) → owner b n ≡ Some i
live_owner b n i = by (lookup (nat_eq n) b.sockets)
  where
    by : (o : Option Socket) → option_map_or if_live o None ≡ Some (EndpointAt i) → option_map_or (λ s. endpoint_place s.target) o None ≡ Some i
    by None is = absurd (none-some (EndpointAt i) is)
    by (Some s) is = ap endpoint_place (live_is s (EndpointAt i) is)

-- the numbers of listeners
pub record Listed (b : HostTcp) : Type 0 where
  pub low : (n l : ℕ) → socket_target b n ≡ Some (ListenerAt l) → l < length b.listeners
  pub alone : (m n l : ℕ) → socket_target b m ≡ Some (ListenerAt l) → socket_target b n ≡ Some (ListenerAt l) → m ≡ n

pub listed_after : (s : Observation) (host : Host) (b c : HostTcp) → Listed b → Kept s host b c → Listed c
listed_after s host b c old kept = record {
  low = λ n l is. low n l (kept.sockets n (ListenerAt l) is);
  alone = λ m n l is at. alone m n l (kept.sockets m (ListenerAt l) is) (kept.sockets n (ListenerAt l) at);
}
  where
    Now : ℕ → ℕ → Type 0
    Now n l =
        (socket_target b n ≡ Some (ListenerAt l))
        ⊎ ((s.socket_change ≡ socket_change.Gives host n)
        × ((k : ℕ) → ListenerAt l ≡ ListenerAt k → (length b.listeners ≤ k) × (k < length c.listeners)))

    low : (n l : ℕ) → Now n l → l < length c.listeners
    low n l (inl was) = let less = old.low n l was in let more = kept.grows in omega arith
    low n l (inr new) = (new.1 l refl).1

    alone : (m n l : ℕ) → Now m l → Now n l → m ≡ n
    alone m n l (inl p) (inl q) = old.alone m n l p q
    alone m n l (inl p) (inr q) = absurd (let less = old.low m l p in let more = (q.1 l refl).0 in omega arith)
    alone m n l (inr p) (inl q) = absurd (let less = old.low n l q in let more = (p.1 l refl).0 in omega arith)
    alone m n l (inr p) (inr q) = let e : socket_change.Gives host m ≡ socket_change.Gives host n = sym p.0 ∙ q.0 in cc

-- no two live numbers name the same
pub alone : (b : HostTcp) → Sound b → Listed b → (m n : ℕ) (t : SocketTarget) → socket_target b m ≡ Some t → socket_target b n ≡ Some t → m ≡ n
alone b sound listed m n (ListenerAt l) p q = listed.alone m n l p q
alone b sound listed m n (EndpointAt i) p q = sound.alone m n i (live_owner b m i p) (live_owner b n i q)

-- ---- what a step shows of sockets

pub record Quiet (s : Observation) : Type 0 where
  pub call_change : s.call_change ≡ call_change.Nothing
  pub socket_change : s.socket_change ≡ socket_change.Nothing

on_quiet : {A : Type 0} (o : Option A) (f : A → Observation) → ((x : A) → Quiet (f x)) → Quiet (on o unseen f)
on_quiet None f each = record { call_change = refl; socket_change = refl }
on_quiet (Some x) f each = each x

pub host_quiet : (h : Header) (moment : ℕ) (w : World tcp_shape) (host : Host) (d : HostStep tcp_shape) → Quiet (observe h moment w (At host d))
host_quiet h moment w host (Does x) = record { call_change = refl; socket_change = refl }
host_quiet h moment w host (Expires line x) = record { call_change = refl; socket_change = refl }
host_quiet h moment w host (Makes m) = record { call_change = refl; socket_change = refl }
host_quiet h moment w host (Sends line number wire) =
    on_quiet (lookup (nat_eq number) (pick w.hosts host).made) _ (λ m. record { call_change = refl; socket_change = refl })
host_quiet h moment w host (Gets line copied wire) = record { call_change = refl; socket_change = refl }
host_quiet h moment w host (Hears line wire) = record { call_change = refl; socket_change = refl }
host_quiet h moment w host (Takes line how) =
    on_quiet (waiting line (pick w.hosts host).inbox) _ (λ m. record { call_change = refl; socket_change = refl })
host_quiet h moment w host (Drops line) =
    on_quiet (waiting line (pick w.hosts host).inbox) _ (λ m. record { call_change = refl; socket_change = refl })
host_quiet h moment w host (Answers line) = record { call_change = refl; socket_change = refl }

-- `shut`, `close` and `abort` return no number
never_gives : (host g : Host) (b : HostTcp) (answer : Answer) (call : Call) (n : ℕ) → closing host b answer call ≡ socket_change.Gives g n → ⊥
never_gives host g b answers.Done (calls.Shut k) n = by (socket_target b k)
  where
    by : (o : Option SocketTarget) → option_map_or (socket_change.Shuts host) o socket_change.Nothing ≡ socket_change.Gives g n → ⊥
    by None is = absurd cc
    by (Some t) is = absurd cc
never_gives host g b answers.Done (calls.Close k) n = by (socket_target b k)
  where
    by : (o : Option SocketTarget) → option_map_or (socket_change.Closes host) o socket_change.Nothing ≡ socket_change.Gives g n → ⊥
    by None is = absurd cc
    by (Some t) is = absurd cc
never_gives host g b answers.Done (calls.Abort k) n = by (socket_target b k)
  where
    by : (o : Option SocketTarget) → option_map_or (socket_change.Closes host) o socket_change.Nothing ≡ socket_change.Gives g n → ⊥
    by None is = absurd cc
    by (Some t) is = absurd cc
never_gives host g b answer call n = λ is. absurd cc

-- a number that is closed is live no more
dead_there : (b : HostTcp) (n : ℕ) (u : SocketTarget) → option_map_or if_live (lookup (nat_eq n) (dead b.sockets n)) None ≡ Some u → ⊥
dead_there b n u = by (lookup (nat_eq n) b.sockets) refl
  where
    self : nat_eq n n ≡ true
    self = grind (arith, nat_tests)

    gone : Socket → Socket
    gone s = record s { live = false }

    by : (o : Option Socket) → lookup (nat_eq n) b.sockets ≡ o
        → option_map_or if_live (lookup (nat_eq n) (option_map_or (λ s. insert_entry nat_eq b.sockets n (record s { live = false })) o b.sockets)) None
        ≡ Some u → ⊥
    by None is live = none-some u (sym (ap (λ (o : Option Socket). option_map_or if_live o None) is) ∙ live)
    by (Some s) is live =
        none-some u (sym (ap (λ (o : Option Socket). option_map_or if_live o None) (lookup_insert n n (gone s) b.sockets)
        ∙ ap (λ (c : Bool). option_map_or if_live (cond c (Some (gone s)) (lookup (nat_eq n) b.sockets)) None) self) ∙ live)

-- such a number
pub record Closed (b c : HostTcp) (t : SocketTarget) : Type 0 where
  pub number : ℕ
  pub was : socket_target b number ≡ Some t
  pub gone : (u : SocketTarget) → socket_target c number ≡ Some u → ⊥

closes : (p : Profile) (host g : Host) (b : HostTcp) (answer : Answer) (call : Call) (t : SocketTarget)
    → closing host b answer call ≡ socket_change.Closes g t → (host ≡ g) × Closed b (after_call p b call answer) t
closes p host g b answers.Done (calls.Shut k) t = by (socket_target b k)
  where
    by : (o : Option SocketTarget) → option_map_or (socket_change.Shuts host) o socket_change.Nothing ≡ socket_change.Closes g t
        → (host ≡ g) × Closed b (after_call p b (calls.Shut k) answers.Done) t
    by None is = absurd cc
    by (Some x) is = absurd cc
closes p host g b answers.Done (calls.Close k) t = by (socket_target b k) refl
  where
    by : (o : Option SocketTarget) → socket_target b k ≡ o → option_map_or (socket_change.Closes host) o socket_change.Nothing ≡ socket_change.Closes g t
        → (host ≡ g) × Closed b (after_call p b (calls.Close k) answers.Done) t
    by None at is = absurd cc
    by (Some x) at is = (
      cc,
      record {
        number = k;
        was = at ∙ ap (λ (y : SocketTarget). Some y) (let e : x ≡ t = cc in e);
        gone = λ u live.
            dead_there b k u (sym (ap (λ (o : Option SocketTarget). socket_target (option_map_or
            (λ target. record (target_gone b target after_close) { sockets = dead b.sockets k }) o b) k) at) ∙ live);
      },
    )
closes p host g b answers.Done (calls.Abort k) t = by (socket_target b k) refl
  where
    by : (o : Option SocketTarget) → socket_target b k ≡ o → option_map_or (socket_change.Closes host) o socket_change.Nothing ≡ socket_change.Closes g t
        → (host ≡ g) × Closed b (after_call p b (calls.Abort k) answers.Done) t
    by None at is = absurd cc
    by (Some x) at is = (
      cc,
      record {
        number = k;
        was = at ∙ ap (λ (y : SocketTarget). Some y) (let e : x ≡ t = cc in e);
        gone = λ u live.
            dead_there b k u (sym (ap (λ (o : Option SocketTarget). socket_target (option_map_or
            (λ target. record (target_gone b target after_abort) { sockets = dead b.sockets k }) o b) k) at) ∙ live);
      },
    )
closes p host g b answer call t = λ is. absurd cc

module _ (h : Header) (moment : ℕ) (w : World tcp_shape) (six : says_sender h.version ≡ true) where
  -- a step at neither socket
  abbrev Change : Step tcp_shape → SocketChange
  Change step = (observe h moment w step).socket_change

  nothing_to_give : {g : Host} {n : ℕ} (k : SocketChange) → k ≡ socket_change.Nothing → k ≡ socket_change.Gives g n → ⊥
  nothing_to_give k none is = absurd (let e : socket_change.Nothing ≡ socket_change.Gives _ _ = sym none ∙ is in cc)

  nothing_to_close : {g : Host} {t : SocketTarget} (k : SocketChange) → k ≡ socket_change.Nothing → k ≡ socket_change.Closes g t → ⊥
  nothing_to_close k none is = absurd (let e : socket_change.Nothing ≡ socket_change.Closes _ _ = sym none ∙ is in cc)

  abbrev IsCalled : Turn tcp_shape → Call → Type 0
  IsCalled u call = u ≡ Called call

  -- the effect of no open call, or of one whose number no host returned
  no_effect : (thread : ℕ) (answer : Answer) (u : Turn tcp_shape) → turn_of thread w.threads ≡ u
      → ((Change (Effect thread answer) ≡ socket_change.Nothing))
      ⊎ ((call : Call) × (host : Host) × IsCalled u call × (aim_of (tcp h) w.hosts (aim call) ≡ Some host))
  no_effect thread answer Idle turn = inl (ap (λ (u : Turn tcp_shape). (observe_effect h w thread answer u).socket_change) turn)
  no_effect thread answer (Answered told) turn = inl (ap (λ (u : Turn tcp_shape). (observe_effect h w thread answer u).socket_change) turn)
  no_effect thread answer (Called call) turn = by (aim_of (tcp h) w.hosts (aim call)) refl
    where
      none : (b : Bool) (o : Option Host) → o ≡ None
          → (if b then on o socket_change.Nothing (λ host. on (gives call answer) (closing host (pick w.hosts host).body answer call)
          (socket_change.Gives host))
          else socket_change.Nothing) ≡ socket_change.Nothing
      none true o is =
          ap (λ (o : Option Host). on o socket_change.Nothing
          (λ host. on (gives call answer) (closing host (pick w.hosts host).body answer call) (socket_change.Gives host))) is
      none false o is = refl

      by : (o : Option Host) → aim_of (tcp h) w.hosts (aim call) ≡ o
          → (Change (Effect thread answer) ≡ socket_change.Nothing)
          ⊎ ((call' : Call) × (host : Host) × IsCalled (Called call) call' × (aim_of (tcp h) w.hosts (aim call') ≡ Some host))
      by None is =
          inl (ap (λ (u : Turn tcp_shape). (observe_effect h w thread answer u).socket_change) turn
          ∙ none (says_sender h.version) (aim_of (tcp h) w.hosts (aim call)) is)
      by (Some host) is = inr (call, host, refl, is)

  -- a number that is returned was not returned before
  pub given_new : (step : Step tcp_shape) → Permitted (tcp h) moment w step → (g : Host) (n : ℕ) → Change step ≡ socket_change.Gives g n
      → (x : Host) → given (pick w.hosts x).body n ≡ false
  given_new (Begin line t call) may g n is x = absurd cc
  given_new (Finish line t answer) may g n is x = absurd cc
  given_new (At host d) may g n is x = absurd (nothing_to_give (Change (At host d)) (host_quiet h moment w host d).socket_change is)
  given_new (Effect t answer) may g n is x = by (no_effect t answer (turn_of t w.threads) refl)
    where
      each : (host : Host) (n : ℕ) → (given w.hosts.zero.body n ≡ false) × (given w.hosts.one.body n ≡ false) → given (pick w.hosts host).body n ≡ false
      each Zero n f = f.0
      each One n f = f.1

      by : (Change (Effect t answer) ≡ socket_change.Nothing)
          ⊎ ((call : Call) × (host : Host) × IsCalled (turn_of t w.threads) call × (aim_of (tcp h) w.hosts (aim call) ≡ Some host))
          → given (pick w.hosts x).body n ≡ false
      by (inl none) = absurd (nothing_to_give (Change (Effect t answer)) none is)
      by (inr (call, host, turn, aims)) =
          at (gives call answer) refl
          (sym (ap (λ (s : Observation). s.socket_change) (shows_effect h moment w six t answer call host turn aims)) ∙ is)
        where
          fresh : first_broken (fresh_rules (tcp h) w.hosts (gives call answer)) ≡ None
          fresh =
              (effect_allowed h moment w.hosts call answer (aim_of (tcp h) w.hosts (aim call))
              (subst (λ (u : Turn tcp_shape). first_broken (effect_rules (tcp h) moment w.hosts u answer) ≡ None) turn may)).0

          at : (o : Option ℕ) → gives call answer ≡ o
              → on o (closing host (pick w.hosts host).body answer call) (socket_change.Gives host) ≡ socket_change.Gives g n
              → given (pick w.hosts x).body n ≡ false
          at None none now = absurd (never_gives host g (pick w.hosts host).body answer call n now)
          at (Some k) some now =
              let one : k ≡ n = let e : socket_change.Gives host k ≡ socket_change.Gives g n = now in cc in
              let both =
              none_all ((rules.Socket, given w.hosts.zero.body k) ∷ (rules.Socket, given w.hosts.one.body k) ∷ [])
              (sym (ap (λ (o : Option ℕ). first_broken (fresh_rules (tcp h) w.hosts o)) some) ∙ fresh) in
              each x n (subst (λ (n : ℕ). (given w.hosts.zero.body n ≡ false) × (given w.hosts.one.body n ≡ false)) one (both.0, both.1.0))

  -- one that is closed was live, and isn't afterwards
  pub closed_now : (step : Step tcp_shape) (g : Host) (t : SocketTarget) → Change step ≡ socket_change.Closes g t
      → Closed (pick w.hosts g).body (pick (after (tcp h) moment w step).hosts g).body t
  closed_now (Begin line thread call) g t is = absurd cc
  closed_now (Finish line thread answer) g t is = absurd cc
  closed_now (At host d) g t is = absurd (nothing_to_close (Change (At host d)) (host_quiet h moment w host d).socket_change is)
  closed_now (Effect thread answer) g t is = by (no_effect thread answer (turn_of thread w.threads) refl)
    where
      by : (Change (Effect thread answer) ≡ socket_change.Nothing)
          ⊎ ((call : Call) × (host : Host) × IsCalled (turn_of thread w.threads) call × (aim_of (tcp h) w.hosts (aim call) ≡ Some host))
          → Closed (pick w.hosts g).body (pick (after (tcp h) moment w (Effect thread answer)).hosts g).body t
      by (inl none) = absurd (nothing_to_close (Change (Effect thread answer)) none is)
      by (inr (call, host, turn, aims)) =
          at (gives call answer)
          (sym (ap (λ (s : Observation). s.socket_change) (shows_effect h moment w six thread answer call host turn aims)) ∙ is)
        where
          there : (pick (after (tcp h) moment w (Effect thread answer)).hosts host).body
              ≡ after_call (profile_of h) (pick w.hosts host).body call answer
          there =
              ap (λ (u : Turn tcp_shape). (pick (effect_after (tcp h) moment w thread answer u).hosts host).body) turn
              ∙ ap (λ (o : Option Host). (pick (call_after (tcp h) moment w.hosts (Calls call answer) o) host).body) aims
              ∙ here host
            where
              here : (x : Host) → (pick (with_host w.hosts x (record (pick w.hosts x) {
                body = after_call (profile_of h) (pick w.hosts x).body call answer;
              })) x).body ≡ after_call (profile_of h) (pick w.hosts x).body call answer
              here Zero = refl
              here One = refl

          at : (o : Option ℕ)
              → on o (closing host (pick w.hosts host).body answer call) (socket_change.Gives host) ≡ socket_change.Closes g t
              → Closed (pick w.hosts g).body (pick (after (tcp h) moment w (Effect thread answer)).hosts g).body t
          at (Some k) now = absurd cc
          at None now =
              let c = closes (profile_of h) host g (pick w.hosts host).body answer call t now in
              subst (λ (x : Host). Closed (pick w.hosts x).body (pick (after (tcp h) moment w (Effect thread answer)).hosts x).body t) c.0
              (subst (λ (y : HostTcp). Closed (pick w.hosts host).body y t) (sym there) c.1)
