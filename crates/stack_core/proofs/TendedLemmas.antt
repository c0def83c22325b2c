-- Endpoints that are not looked at make nothing and have no timer that is due.
use Rattle.std.proofs.Common.{◌≡◌, ◌≤◌, ◌<◌, ◌*◌, ℕ, zero, suc, Bool, true, false, List, [], ◌∷◌, map, drop, length}
use Rattle.std.proofs.Common.{Option, None, Some, refl, ap, sym, ◌∙◌, subst, inl, inr, nat_lt, arith}
use Rattle.std.specs.Prelude.{slice_get, ◌^◌, ◌⊎◌, ◌&&◌, not, is_some, IfNone}
use Rattle.std.specs.List.{All}
use Rattle.std.specs.Option.{IfSome, option_map_or}
use Rattle.std.proofs.lemmas.Bool.Decides.{nat_tests}
use Rattle.std.proofs.lemmas.List.Elements.{All-head, All-tail, All-weaker}
use Rattle.std.proofs.lemmas.Option.{none-some, same_Some}
use Rattle.case_forms.specs.States.{is_closed}
use Rattle.case_forms.specs.declared.calls.Host.{Host}
use Rattle.case_forms.specs.declared.calls.Host.TheVariants.{Zero, One}
use Rattle.case_forms.specs.TakenLines.{timer_of}
use Rattle.case_forms.specs.declared.taken_line.Expired.{Expired}
use Rattle.case_forms.specs.declared.taken_line.Expired.TheVariants as expireds
use Rattle.case_forms.specs.declared.timer.Timer.{Timer}
use Rattle.case_forms.specs.declared.timer.Timer.TheVariants.{Giveup, Msl2, Persist, Pto, Rto}
use Rattle.case_forms.specs.declared.trace.Header.{Header}
use Rattle.case_forms.specs.declared.version.Version.{Version}
use Rattle.verdict.specs.Rules.{first_broken}
use Rattle.verdict.specs.declared.rule.Rule.TheVariants as rules
use Rattle.verdict.proofs.RuleLemmas.{none_all}
use Rattle.spec_network.specs.Tables.{other, pick}
use Rattle.spec_network.specs.Hosts.{Step, World}
use Rattle.spec_network.specs.HostSteps.{after, start}
use Rattle.timer_rules.specs.Timers.{earliest}
use Rattle.spec_tcp.specs.HostTcp.{HostTcp, endpoint_of}
use Rattle.spec_tcp.specs.Bounds.{IsKept}
use Rattle.spec_tcp.specs.declared.endpoint.Endpoint.{Endpoint}
use Rattle.spec_tcp.specs.Endpoints.{is_up, snd_max}
use Rattle.spec_tcp.specs.Forgetting.{forget, forget_endpoint}
use Rattle.spec_tcp.specs.Machine.{tcp, tcp_shape}
use Rattle.spec_tcp.specs.Makes.{making_rules}
use Rattle.spec_tcp.specs.Timeouts.{expiry_rules, has_more}
use Rattle.spec_tcp_laws.proofs.ForgetRules.{expiry_rules-forget}
use Rattle.endpoint_state.specs.Kept.{AreReadable, IsKeptWorld}
use Rattle.spec_merge.specs.Books.{Bring, Do, FitsItem, Flying, bring}
use Rattle.spec_merge.proofs.Growing.{end_more}
use Rattle.stack_core.specs.declared.deadline_queue.DeadlineQueue.{DeadlineQueue}
use Rattle.stack_core.specs.declared.deadline_queue.Affected.{Affected}
use Rattle.stack_core.specs.declared.deadline_queue.Deadline.{Deadline}
use Rattle.stack_core.specs.declared.plans.SynOptions.{SynOptions}
use Rattle.stack_core.specs.declared.tick.Tick.{Tick}
use Rattle.stack_core.specs.DeadlineQueues.{AreFrom, IsListed, IsRenewed, LooksAgain, Leaves, from}
use Rattle.stack_core.specs.Entries.{entry_at}
use Rattle.stack_core.specs.Makings.{NothingToMake, bytes_of, fin_of, syn_of}
use Rattle.stack_core.specs.Recordings.{Recorded, with_entry, world_left}
use Rattle.stack_core.specs.Tended.{AreQuiet, AreTimed, IsDueSince, IsQuiet, IsSlow, IsStill, IsStillAt, IsStillBefore, IsTended, kept_ends, least}
use Rattle.stack_core.specs.TimerEvents.{NoneDueAt, is_kept}
use Rattle.stack_core.specs.Affected.{affected_by}
use Rattle.endpoint_state.specs.Worlds.{Progress}
use Rattle.stack_core.proofs.AnswerLemmas.{kept_body}
use Rattle.stack_core.proofs.DeadlineQueueLemmas.{left_covered, leaves_kept, none_covered, renewed_covered, affected_covered}
use Rattle.stack_core.proofs.MakingLemmas.{OneMay, of_ports, one_may}
use Rattle.stack_core.proofs.ResetLemmas.{own_host}
use Rattle.stack_core.proofs.TimerLemmas.{kept_there}
use Rattle.stack_core.proofs.AffectedLemmas.{bring_leaves, ends, leaves_same, step_leaves}

-- 1. an endpoint makes nothing

pub quiet : (tried : Version) (e : Endpoint) (new : SynOptions)
    → (snd_max e ≤ 0 → first_broken (making_rules tried e (syn_of e new 0)) ≡ None → ⊥)
    → (first_broken (making_rules tried e (bytes_of e 1 0)) ≡ None → ⊥)
    → (first_broken (making_rules tried e (fin_of e 0)) ≡ None → ⊥) → IsQuiet e
quiet tried e new no_syn no_byte no_fin v m rst past may = refute (one_may v tried e new 0 0 m rst may past)
  where
    refute : OneMay tried e new 0 0 → ⊥
    refute (inl (low, is)) = no_syn low is
    refute (inr (inl is)) = no_byte is
    refute (inr (inr is)) = no_fin is

not_below : (i n : ℕ) → n ≤ i → i < n → ⊥
not_below i n a b = omega arith

within : {X : Type 0} (xs : List X) (i : ℕ) (x : X) → slice_get xs i ≡ Some x → i < length xs
within [] i x at = absurd (none-some x at)
within (y ∷ ys) zero x at = omega arith
within (y ∷ ys) (suc i) x at = let less = within ys i x at in omega arith

-- all were looked at, and none is to be looked at again
pub nothing_ready : (h : Header) (me : Host) (w : World tcp_shape) (looked : ℕ) (ks : List Deadline)
    → length (pick w.hosts me).body.endpoints ≤ looked → None ≡ slice_get ks 0
    → AreQuiet looked ks (pick w.hosts me).body.endpoints → NothingToMake h me w
nothing_ready h me w looked (k ∷ ks) all none are m e rst found past permitted = absurd (none-some k none)
nothing_ready h me w looked [] all none are m e rst found past permitted =
    let b : HostTcp = (pick w.hosts me).body in
    let at = of_ports b m.lport m.rport e found in
    let inside : at.0 < length b.endpoints = within b.endpoints at.0 e at.1 in
    let low : at.0 < looked = omega arith in
    by at.0 (are.each at.0 e low at.1)
  where
    may : first_broken (making_rules h.version e m) ≡ None
    may = subst (λ (o : Option Endpoint).
        first_broken (option_map_or (λ x. making_rules h.version x m) o ((rules.NoEndpoint, true) ∷ [])) ≡ None) found permitted

    by : (i : ℕ) → ((n : ℕ) × IsListed (from n i) [] × (Unit {0})) ⊎ IsQuiet e → ⊥
    by i (inl (n, absent, x)) = absent
    by i (inr well) = well h.version m rst past may

-- 2. numbers can be read near the positions of all

readable_all : (steps : ℕ) (es : List Endpoint) → All (IsKept steps) es → AreReadable es
readable_all steps es kept = All-weaker (IsKept steps) (λ e. e.stream.snd_una < 2 ^ 63) (λ e k. k.snd_una) es kept

pub readable_host : (steps : ℕ) (w : World tcp_shape) (me : Host) → IsKeptWorld steps w → AreReadable (pick w.hosts me).body.endpoints
readable_host steps w Zero k = readable_all steps w.hosts.zero.body.endpoints k.zero.body.kept
readable_host steps w One k = readable_all steps w.hosts.one.body.endpoints k.one.body.kept

pub few_host : (steps : ℕ) (w : World tcp_shape) (me : Host) → IsKeptWorld steps w → length (pick w.hosts me).body.endpoints ≤ steps
few_host steps w Zero k = k.zero.body.endpoints
few_host steps w One k = k.one.body.endpoints

pub readable_at : (es : List Endpoint) (i : ℕ) (e : Endpoint) → AreReadable es → slice_get es i ≡ Some e → e.stream.snd_una < 2 ^ 63
readable_at [] i e all at = absurd (none-some e at)
readable_at (x ∷ es) zero e all at =
    subst (λ (y : Endpoint). y.stream.snd_una < 2 ^ 63) (same_Some x e at)
    (All-head (λ (y : Endpoint). y.stream.snd_una < 2 ^ 63) x es all)
readable_at (x ∷ es) (suc i) e all at = readable_at es i e (All-tail (λ (y : Endpoint). y.stream.snd_una < 2 ^ 63) x es all) at

-- 3. timers

-- a closed endpoint has none
pub closed_still : (h : Header) (e : Endpoint) → is_closed e.state ≡ true → IsStill h e
closed_still h e is moment x kept may = differ (sym is ∙ (none_all (expiry_rules h moment e x) may).0)
  where
    differ : true ≡ false → ⊥
    differ x = absurd cc

least_left : (h : Header) (e : Endpoint) (timer : Timer) (a b : Option ℕ) → IsSlow h e timer a → IsSlow h e timer (least a b)
least_left h e timer None None slow = slow
least_left h e timer None (Some n) slow = λ moment x is early may. slow moment x is may
least_left h e timer (Some m) None slow = slow
least_left h e timer (Some m) (Some n) slow = λ moment x is early may. slow moment x is (omega arith) may

least_right : (h : Header) (e : Endpoint) (timer : Timer) (a b : Option ℕ) → IsSlow h e timer b → IsSlow h e timer (least a b)
least_right h e timer None b slow = slow
least_right h e timer (Some m) None slow = λ moment x is early may. slow moment x is may
least_right h e timer (Some m) (Some n) slow = λ moment x is early may. slow moment x is (omega arith) may

module _ (h : Header) (e : Endpoint) (again probe over all : Option ℕ) (is_again : IsSlow h e Rto again)
    (is_probe : IsSlow h e Persist probe) (is_over : IsSlow h e Msl2 over)
    (is : all ≡ least again (least probe over)) where
  each : (timer : Timer) → is_kept timer ≡ true → IsSlow h e timer all
  each Rto kept = subst (λ (o : Option ℕ). IsSlow h e Rto o) (sym is) (least_left h e Rto again (least probe over) is_again)
  each Persist kept =
      subst (λ (o : Option ℕ). IsSlow h e Persist o) (sym is)
      (least_right h e Persist again (least probe over) (least_left h e Persist probe over is_probe))
  each Msl2 kept =
      subst (λ (o : Option ℕ). IsSlow h e Msl2 o) (sym is) (least_right h e Msl2 again (least probe over) (least_right h e Msl2 probe over is_over))
  each Giveup kept = absurd cc
  each Pto kept = absurd cc

  pub still_before : IfSome all (λ m. IsStillBefore h m e)
  still_before = by all each
    where
      by : (o : Option ℕ) → ((timer : Timer) → is_kept timer ≡ true → IsSlow h e timer o) → IfSome o (λ m. IsStillBefore h m e)
      by None slow = tt
      by (Some m) slow = λ moment early x kept may. slow (timer_of x) kept moment x refl early may

  pub still_ever : IfNone all (IsStill h e)
  still_ever = by all each
    where
      by : (o : Option ℕ) → ((timer : Timer) → is_kept timer ≡ true → IsSlow h e timer o) → IfNone o (IsStill h e)
      by None slow = λ moment x kept may. slow (timer_of x) kept moment x refl may
      by (Some m) slow = tt

-- 4. a recording

-- none is due
pub none_due_by : (r : Recorded) (moment : ℕ) → ((i : ℕ) (e : Endpoint) → slice_get (kept_ends r) i ≡ Some e → IsStillAt r.header moment e) → NoneDueAt r moment
none_due_by r moment still x kept may = by (endpoint_of b x.lport x.rport) refl
  where
    b : HostTcp
    b = (pick (world_left r).hosts r.me).body

    by : (o : Option Endpoint) → endpoint_of b x.lport x.rport ≡ o → ⊥
    by None at =
        absurd (let none = subst (λ (o : Option Endpoint).
        first_broken (option_map_or (λ e. expiry_rules r.header moment e x.expired) o
        ((rules.NoEndpoint, true) ∷ [])) ≡ None) at may in cc)
    by (Some e) at =
        let place = of_ports b x.lport x.rport e at in
        let here : first_broken (expiry_rules r.header moment e x.expired) ≡ None =
        subst (λ (o : Option Endpoint).
        first_broken (option_map_or (λ e. expiry_rules r.header moment e x.expired) o
        ((rules.NoEndpoint, true) ∷ [])) ≡ None) at may in
        still place.0 (forget_endpoint e) (kept_there b.endpoints place.0 e place.1) x.expired kept
        (ap first_broken (expiry_rules-forget r.header moment e x.expired) ∙ here)

pub tended_starts : (h : Header) (me : Host) (r : Recorded) (ready wakes : DeadlineQueue) → ready.looked ≡ 0 → wakes.looked ≡ 0 → IsTended r ready wakes
tended_starts h me r ready wakes none_ready none_wake = record {
  quiet = none_covered (λ m e. Unit {0}) IsQuiet ready.looked ready.entries.keys (kept_ends r) none_ready;
  timed = none_covered (IsStillBefore r.header) (IsStill r.header) wakes.looked wakes.entries.keys (kept_ends r) none_wake;
}

pub never_before : (h : Header) (e : Endpoint) → IsStillBefore h 0 e
never_before h e moment early x kept may = absurd (omega arith)

module _ (r : Recorded) (ready wakes ready_then wakes_then : DeadlineQueue) (affected : Affected)
    (is_ready : LooksAgain affected ready.looked ready.entries.keys ready_then.looked ready_then.entries.keys)
    (is_wakes : LooksAgain affected wakes.looked wakes.entries.keys wakes_then.looked wakes_then.entries.keys) (is : IsTended r ready wakes) where
  leads : (s : Recorded) → s.header ≡ r.header → Leaves affected (kept_ends r) (kept_ends s) → IsTended s ready_then wakes_then
  leads s same leaves = record {
    quiet =
        affected_covered (λ m e. Unit {0}) IsQuiet
        (λ e. tt) affected ready.looked ready_then.looked ready.entries.keys ready_then.entries.keys (kept_ends r)
        (kept_ends s) is_ready leaves is.quiet;
    timed = subst (λ (h : Header). AreTimed h wakes_then.looked wakes_then.entries.keys (kept_ends s)) (sym same)
        (affected_covered (IsStillBefore r.header) (IsStill r.header)
        (never_before r.header) affected wakes.looked wakes_then.looked wakes.entries.keys
        wakes_then.entries.keys (kept_ends r) (kept_ends s) is_wakes leaves is.timed);
  }

  -- nothing is done
  pub tended_tried : (s : Recorded) → s ≡ r → IsTended s ready_then wakes_then
  tended_tried s same = subst (λ (t : Recorded). IsTended t ready_then wakes_then) (sym same) (leads r refl (leaves_same affected (kept_ends r)))

  -- a step joins
  pub tended_steps : (s : Recorded) (last : Tick) (step : Step tcp_shape)
      → FitsItem (tcp r.header) r.me last.moment (world_left r) (Do step)
      → affected ≡ affected_by r.me (world_left r) step → s ≡ with_entry r (entry_at r.me last (Do step))
      → IsTended s ready_then wakes_then
  tended_steps s last step fits affected_is same =
      let left : world_left (with_entry r (entry_at r.me last (Do step)))
      ≡ after (tcp r.header) last.moment (world_left r) step =
      end_more (tcp r.header) r.me (start (tcp r.header)) r.entries (entry_at r.me last (Do step) ∷ []) in
      subst (λ (t : Recorded). IsTended t ready_then wakes_then) (sym same) (leads (with_entry r (entry_at r.me last (Do step))) refl
      (subst (λ (w : World tcp_shape). Leaves affected (kept_ends r) (map forget_endpoint (ends r.me w))) (sym left)
      (leaves_kept affected (ends r.me (world_left r)) (ends r.me (after (tcp r.header) last.moment (world_left r) step))
      (subst (λ (t : Affected). Leaves t (ends r.me (world_left r)) (ends r.me (after (tcp r.header) last.moment (world_left r) step))) (sym affected_is)
      (step_leaves r.header r.me last.moment (world_left r) step (own_host r.header r.me (world_left r) step fits.1))))))

-- a segment is brought
pub tended_brings : (r s : Recorded) (ready wakes : DeadlineQueue) (last : Tick) (f : Flying tcp_shape)
    → s ≡ with_entry r (entry_at r.me last (Bring f)) → IsTended r ready wakes → IsTended s ready wakes
tended_brings r s ready wakes last f same is =
    let left : world_left (with_entry r (entry_at r.me last (Bring f)))
    ≡ bring (tcp r.header) (other r.me) f (world_left r) =
    end_more (tcp r.header) r.me (start (tcp r.header)) r.entries (entry_at r.me last (Bring f) ∷ []) in
    let stay : kept_ends (with_entry r (entry_at r.me last (Bring f))) ≡ kept_ends r =
    ap (λ (w : World tcp_shape). map forget_endpoint (ends r.me w)) left
    ∙ ap (map forget_endpoint) (bring_leaves r.header r.me f (world_left r)) in
    subst (λ (t : Recorded). IsTended t ready wakes) (sym same) (record {
      quiet = subst (λ (es : List Endpoint). AreQuiet ready.looked ready.entries.keys es) (sym stay) is.quiet;
      timed = subst (λ (es : List Endpoint). AreTimed r.header wakes.looked wakes.entries.keys es) (sym stay) is.timed;
    })

-- what is kept of a world has them
pub kept_ends_there : (r : Recorded) (p : Progress) (me : Host) → p.world ≡ forget (world_left r) → me ≡ r.me
    → (pick p.world.hosts me).body.endpoints ≡ kept_ends r
kept_ends_there r p me left is =
    ap (λ (w : World tcp_shape). (pick w.hosts me).body.endpoints) left
    ∙ ap (λ (x : Host). (pick (forget (world_left r)).hosts x).body.endpoints) is
    ∙ ap (λ (b : HostTcp). b.endpoints) (kept_body r.me (world_left r))

-- 5. when timers may expire

-- it is armed, and not early
armed_then : (e : Endpoint) (h : Header) (moment time : ℕ) (armed : Option ℕ) → not (is_some armed) ≡ false
    → option_map_or (λ since. nat_lt moment (earliest since time h.grain)) armed false ≡ false
    → (since : ℕ) × (armed ≡ Some since) × (earliest since time h.grain ≤ moment)
armed_then e h moment time None on late = absurd cc
armed_then e h moment time (Some since) on late = (since, refl, at_most (earliest since time h.grain) moment late)
  where
    at_most : (a b : ℕ) → nat_lt b a ≡ false → a ≤ b
    at_most a b p = grind (arith, nat_tests)

sooner : (since short long grain : ℕ) → short ≤ long → earliest since short grain ≤ earliest since long grain
sooner since short long grain low = omega arith

-- what is permitted of a timer, against when it may be
never_due : (h : Header) (e : Endpoint) (moment time shorter : ℕ) (armed o : Option ℕ) → shorter ≤ time
    → IsDueSince armed shorter h.grain o → (since : ℕ) → armed ≡ Some since → earliest since time h.grain ≤ moment
    → (m : ℕ) × (o ≡ Some m) × (m ≤ moment)
never_due h e moment time shorter armed None low off since is late = absurd (none-some since (sym off ∙ is))
never_due h e moment time shorter armed (Some m) low (begun, was, early) since is late =
    let same : begun ≡ since = same_Some begun since (sym was ∙ is) in
    let before : earliest begun shorter h.grain ≤ earliest since time h.grain =
    subst (λ (n : ℕ). earliest n shorter h.grain ≤ earliest since time h.grain) (sym same)
    (sooner since shorter time h.grain low) in
    (m, refl, le_trans3 m (earliest begun shorter h.grain) (earliest since time h.grain) moment early before late)
  where
    le_trans3 : (a b c d : ℕ) → a ≤ b → b ≤ c → c ≤ d → a ≤ d
    le_trans3 a b c d p q r = omega arith

slow_if : (h : Header) (e : Endpoint) (timer : Timer) (o : Option ℕ)
    → ((moment : ℕ) (x : Expired) → timer_of x ≡ timer → first_broken (expiry_rules h moment e x) ≡ None
    → (m : ℕ) × (o ≡ Some m) × (m ≤ moment)) → IsSlow h e timer o
slow_if h e timer None due = λ moment x kind may. absurd (let is = due moment x kind may in none-some is.0 is.1)
slow_if h e timer (Some n) due = λ moment x kind before may.
    let is = due moment x kind may in
    let same : n ≡ is.0 = same_Some n is.0 is.1 in
    let late = is.2 in
    absurd (not_both n is.0 moment same late before)
  where
    not_both : (n m moment : ℕ) → n ≡ m → m ≤ moment → moment < n → ⊥
    not_both n m moment same late before = omega arith

pub again_slow : (h : Header) (e : Endpoint) (o : Option ℕ) → IsDueSince e.timers.rto_armed e.timers.rto h.grain o → IsSlow h e Rto o
again_slow h e o due = slow_if h e Rto o by
  where
    by : (moment : ℕ) (x : Expired) → timer_of x ≡ Rto → first_broken (expiry_rules h moment e x) ≡ None → (m : ℕ) × (o ≡ Some m) × (m ≤ moment)
    by moment (expireds.Rto growth) kind may =
        let t = none_all (expiry_rules h moment e (expireds.Rto growth)) may in
        let on = armed_then e h moment e.timers.rto e.timers.rto_armed t.1.1.0 t.1.1.1.0 in
        never_due h e moment e.timers.rto e.timers.rto e.timers.rto_armed o (omega arith) due on.0 on.1 on.2
    by moment expireds.Persist kind may = absurd cc
    by moment expireds.Msl2 kind may = absurd cc
    by moment expireds.Giveup kind may = absurd cc
    by moment expireds.Pto kind may = absurd cc

pub wait_slow : (h : Header) (e : Endpoint) (time : ℕ) (o : Option ℕ) → time ≤ 2 * h.msl → IsDueSince e.timers.msl_armed time h.grain o → IsSlow h e Msl2 o
wait_slow h e time o low due = slow_if h e Msl2 o by
  where
    by : (moment : ℕ) (x : Expired) → timer_of x ≡ Msl2 → first_broken (expiry_rules h moment e x) ≡ None → (m : ℕ) × (o ≡ Some m) × (m ≤ moment)
    by moment expireds.Msl2 kind may =
        let t = none_all (expiry_rules h moment e expireds.Msl2) may in
        let on = armed_then e h moment (2 * h.msl) e.timers.msl_armed t.1.1.0 t.1.1.1.0 in
        never_due h e moment (2 * h.msl) time e.timers.msl_armed o low due on.0 on.1 on.2
    by moment (expireds.Rto growth) kind may = absurd cc
    by moment expireds.Persist kind may = absurd cc
    by moment expireds.Giveup kind may = absurd cc
    by moment expireds.Pto kind may = absurd cc

-- a probe needs something to send
needs : (armed up more : Bool) → not (armed && up && more) ≡ false → (not armed ≡ false) × (up ≡ true) × (more ≡ true)
needs true true true is = (refl, refl, refl)
needs true true false is = absurd cc
needs true false more is = absurd cc
needs false up more is = absurd cc

pub probe_slow : (h : Header) (e : Endpoint) (o : Option ℕ) → IsDueSince e.timers.persist_armed e.timers.rto h.grain o → IsSlow h e Persist o
probe_slow h e o due = slow_if h e Persist o by
  where
    by : (moment : ℕ) (x : Expired) → timer_of x ≡ Persist → first_broken (expiry_rules h moment e x) ≡ None → (m : ℕ) × (o ≡ Some m) × (m ≤ moment)
    by moment expireds.Persist kind may =
        let t = none_all (expiry_rules h moment e expireds.Persist) may in
        let on =
        armed_then e h moment e.timers.rto e.timers.persist_armed
        (needs (is_some e.timers.persist_armed) (is_up e) (has_more e) t.1.1.0).0 t.1.1.1.0 in
        never_due h e moment e.timers.rto e.timers.rto e.timers.persist_armed o (omega arith) due on.0 on.1 on.2
    by moment (expireds.Rto growth) kind may = absurd cc
    by moment expireds.Msl2 kind may = absurd cc
    by moment expireds.Giveup kind may = absurd cc
    by moment expireds.Pto kind may = absurd cc

pub no_probe : (h : Header) (e : Endpoint) → (is_up e ≡ false) ⊎ (has_more e ≡ false) → IsSlow h e Persist None
no_probe h e lacks moment (expireds.Rto growth) kind may = absurd cc
no_probe h e lacks moment expireds.Msl2 kind may = absurd cc
no_probe h e lacks moment expireds.Giveup kind may = absurd cc
no_probe h e lacks moment expireds.Pto kind may = absurd cc
no_probe h e lacks moment expireds.Persist kind may =
    by lacks (needs (is_some e.timers.persist_armed) (is_up e) (has_more e)
    (none_all (expiry_rules h moment e expireds.Persist) may).1.1.0)
  where
    differ : {b : Bool} → b ≡ true → b ≡ false → ⊥
    differ p q = cc

    by : {A : Type 0} → (is_up e ≡ false) ⊎ (has_more e ≡ false) → A × (is_up e ≡ true) × (has_more e ≡ true) → ⊥
    by (inl not) is = differ is.1 not
    by (inr not) is = differ is.2 not

-- 6. the first entry leaves

pub left_quiet : (me : Host) (w : World tcp_shape) (b : HostTcp) (looked now : ℕ) (ks ls : List Deadline) (x : Deadline)
    → b ≡ (pick w.hosts me).body → Some x ≡ slice_get ks 0 → now ≡ looked → ls ≡ drop 1 ks
    → ((e : Endpoint) → slice_get b.endpoints x.place ≡ Some e → IsQuiet e)
    → (length (pick w.hosts me).body.endpoints ≤ looked) × AreQuiet looked ks (pick w.hosts me).body.endpoints
    → (length (pick w.hosts me).body.endpoints ≤ now) × AreQuiet now ls (pick w.hosts me).body.endpoints
left_quiet me w b looked now ks ls x is first same rest quiet are = (
  subst (λ (n : ℕ). length (pick w.hosts me).body.endpoints ≤ n) (sym same) are.0,
  left_covered (λ m e. Unit {0}) IsQuiet looked now ks ls x (pick w.hosts me).body.endpoints first same rest
      (λ e at. quiet e (ap (λ (c : HostTcp). slice_get c.endpoints x.place) is ∙ at)) are.1,
)

-- 7. timers of a recording

-- none is to be looked at any more by then
pub none_among : (r : Recorded) (moment looked : ℕ) (ks : List Deadline) → length (kept_ends r) ≤ looked
    → ((w : Deadline) → IsListed w ks → moment < w.moment) → AreTimed r.header looked ks (kept_ends r)
    → NoneDueAt r moment
none_among r moment looked ks all later are = none_due_by r moment (λ i e at. by i e (are.each i e (low i e at) at))
  where
    low : (i : ℕ) (e : Endpoint) → slice_get (kept_ends r) i ≡ Some e → i < looked
    low i e at = let inside = within (kept_ends r) i e at in omega arith

    by : (i : ℕ) (e : Endpoint) → ((m : ℕ) × IsListed (from m i) ks × IsStillBefore r.header m e) ⊎ IsStill r.header e → IsStillAt r.header moment e
    by i e (inl (m, listed, before)) = before moment (later (from m i) listed)
    by i e (inr ever) = ever moment

nobody_listed : (ks : List Deadline) → None ≡ slice_get ks 0 → (w : Deadline) → IsListed w ks → ⊥
nobody_listed [] none w listed = listed
nobody_listed (k ∷ ks) none w listed = absurd (none-some k none)

pub none_listed : (r : Recorded) (moment looked : ℕ) (ks : List Deadline) → length (kept_ends r) ≤ looked
    → None ≡ slice_get ks 0 → AreTimed r.header looked ks (kept_ends r) → NoneDueAt r moment
none_listed r moment looked ks all none are = none_among r moment looked ks all (λ w listed. absurd (nobody_listed ks none w listed)) are

-- the first is the earliest
pub all_later : (r : Recorded) (moment looked : ℕ) (ks : List Deadline) (first : Deadline)
    → length (kept_ends r) ≤ looked → AreFrom first.moment ks → moment < first.moment
    → AreTimed r.header looked ks (kept_ends r) → NoneDueAt r moment
all_later r moment looked ks first all lowest less are = none_among r moment looked ks all (λ w listed. let low = lowest w listed in omega arith) are

-- looked at later
pub later_timed : (h : Header) (es : List Endpoint) (looked now : ℕ) (ks ls : List Deadline) (w : Deadline) (m : ℕ)
    → slice_get ks 0 ≡ Some w → IsRenewed (from m w.place) looked ks now ls
    → ((e : Endpoint) → slice_get es w.place ≡ Some e → IsStillBefore h m e) → AreTimed h looked ks es
    → AreTimed h now ls es
later_timed h es looked now ks ls w m first renewed before are =
    renewed_covered (IsStillBefore h) (IsStill h) looked now ks ls w m es (sym first) renewed before are

pub left_timed : (h : Header) (es : List Endpoint) (looked now : ℕ) (ks ls : List Deadline) (w : Deadline)
    → slice_get ks 0 ≡ Some w → now ≡ looked → ls ≡ drop 1 ks
    → ((e : Endpoint) → slice_get es w.place ≡ Some e → IsStill h e) → AreTimed h looked ks es → AreTimed h now ls es
left_timed h es looked now ks ls w first same rest ever are = left_covered (IsStillBefore h) (IsStill h) looked now ks ls w es (sym first) same rest ever are
