-- Each reset that waits stays awaited.
use Rattle.std.proofs.Common.{◌≡◌, ℕ, suc, Bool, true, false, List, [], ◌∷◌, ◌++◌, length, drop, Option, None, Some}
use Rattle.std.proofs.Common.{refl, ap, sym, ◌∙◌, subst, nat_eq, inl, inr, arith}
use Rattle.std.specs.Prelude.{cond, not, ◌&&◌, slice_get}
use Rattle.std.specs.Map.{lookup}
use Rattle.std.specs.Option.{option_map, option_map_or}
use Rattle.std.proofs.lemmas.Bool.Decides.{nat_tests}
use Rattle.std.proofs.lemmas.Option.{none-some, same_Some}
use Rattle.indexmap.specs.IndexMap.{insert_entry}
use Rattle.case_forms.specs.declared.calls.Answer.{Answer}
use Rattle.case_forms.specs.declared.calls.Host.{Host}
use Rattle.case_forms.specs.declared.calls.Host.TheVariants.{Zero, One}
use Rattle.case_forms.specs.declared.steps.SegmentPlan.{SegmentPlan}
use Rattle.case_forms.specs.declared.trace.Header.{Header}
use Rattle.spec_network.specs.Tables.{Both, Made, gone_out, on, other, pick, unsent, waiting, with_host}
use Rattle.spec_network.specs.Hosts.{HostStep, Does, Expires, Makes, Sends, Gets, Hears, Takes, Drops, Answers, HostState}
use Rattle.spec_network.specs.Hosts.{Turn, Idle, Called, Answered, World, Step, Begin, Finish, Effect, At, turn_of}
use Rattle.spec_network.specs.HostRules.{aim_of}
use Rattle.spec_network.specs.HostSteps.{after, call_after, host_step_after, effect_after, made_gone_out, start}
use Rattle.spec_network.proofs.Entries.{lookup_insert}
use Rattle.spec_tcp.specs.HostTcp.{HostTcp, place_of}
use Rattle.spec_tcp.specs.declared.endpoint.Emission.{Emission}
use Rattle.spec_tcp.specs.declared.endpoint.Endpoint.{Endpoint}
use Rattle.spec_tcp.specs.Machine.{act_makes, aim, made_at, tcp, tcp_shape}
use Rattle.spec_tcp.specs.Machine as acts
use Rattle.spec_tcp.specs.Makes.{emission_of}
use Rattle.spec_tcp.specs.Reset.{reset_of}
use Rattle.spec_merge.specs.Books.{Bring, Do, FitsItem, Flying, OwnStep, bring}
use Rattle.spec_merge.proofs.Growing.{end_more}
use Rattle.stack_core.specs.declared.tick.Tick.{Tick}
use Rattle.stack_core.specs.Entries.{entry_at}
use Rattle.stack_core.specs.Recordings.{Recorded, with_entry, world_left}
use Rattle.stack_core.specs.Cores.{Core, event_begun}
use Rattle.stack_core.specs.Outgoing.{WaitsToGo}
use Rattle.stack_core.specs.Resets.{AreAwaited, IsAmong, IsResetToGo, IsWaitingReset, awaited, made_of}

abbrev Table : Type 0
Table = List (ℕ × Made Emission)

-- 1. numbers

pub among_more : (n : ℕ) (xs ys : List ℕ) → IsAmong n xs → IsAmong n (xs ++ ys)
among_more n [] ys is = absurd is
among_more n (x ∷ xs) ys (inl same) = inl same
among_more n (x ∷ xs) ys (inr later) = inr (among_more n xs ys later)

among_last : (n : ℕ) (xs : List ℕ) → IsAmong n (xs ++ n ∷ [])
among_last n [] = inl refl
among_last n (x ∷ xs) = inr (among_last n xs)

same_number : (n m : ℕ) → nat_eq n m ≡ true → n ≡ m
same_number n m is = grind (arith, nat_tests)

more_awaited : (made : Table) (xs ys : List ℕ) → AreAwaited made xs → AreAwaited made (xs ++ ys)
more_awaited made xs ys are n e waits = let is = are n e waits in (among_more n xs ys is.0, is.1)

-- 2. one entry more

unsent_same : (a b : Emission) → Some (unsent a) ≡ Some (unsent b) → a ≡ b
unsent_same a b is = ap (λ (m : Made Emission). m.emission) (same_Some (unsent a) (unsent b) is)

-- a segment that is no answer
plain_joins : (made : Table) (xs : List ℕ) (fresh : ℕ) (a : Emission) → a.is_reset_reply ≡ false → AreAwaited made xs
    → AreAwaited (insert_entry nat_eq made fresh (unsent a)) xs
plain_joins made xs fresh a plain are n e waits = by (nat_eq n fresh) (sym (lookup_insert n fresh (unsent a) made) ∙ waits.found)
  where
    by : (b : Bool) → cond b (Some (unsent a)) (lookup (nat_eq n) made) ≡ Some (unsent e) → IsAmong n xs × (length e.payload ≡ 0)
    by true is = absurd (differ (sym plain ∙ ap (λ (x : Emission). x.is_reset_reply) (unsent_same a e is) ∙ waits.answers))
      where
        differ : false ≡ true → ⊥
        differ is = absurd cc
    by false is = are n e (record { found = is; answers = waits.answers })

-- an answer
answer_joins : (made : Table) (xs : List ℕ) (fresh : ℕ) (a : Emission) → length a.payload ≡ 0 → AreAwaited made xs
    → AreAwaited (insert_entry nat_eq made fresh (unsent a)) (xs ++ fresh ∷ [])
answer_joins made xs fresh a empty are n e waits = by (nat_eq n fresh) refl (sym (lookup_insert n fresh (unsent a) made) ∙ waits.found)
  where
    by : (b : Bool) → nat_eq n fresh ≡ b → cond b (Some (unsent a)) (lookup (nat_eq n) made) ≡ Some (unsent e)
        → IsAmong n (xs ++ fresh ∷ []) × (length e.payload ≡ 0)
    by true same is = (
      subst (λ (m : ℕ). IsAmong m (xs ++ fresh ∷ [])) (sym (same_number n fresh same)) (among_last fresh xs),
      ap (λ (x : Emission). length x.payload) (sym (unsent_same a e is)) ∙ empty,
    )
    by false same is = let old = are n e (record { found = is; answers = waits.answers }) in (among_more n xs (fresh ∷ []) old.0, old.1)

-- a segment goes out
gone : (made : Table) (xs : List ℕ) (number : ℕ) → AreAwaited made xs → AreAwaited (made_gone_out number made) xs
gone made xs number are = by (lookup (nat_eq number) made)
  where
    by : (o : Option (Made Emission)) → AreAwaited (on o made (λ m. insert_entry nat_eq made number (gone_out m))) xs
    by None = are
    by (Some m) = λ n e waits. at n e waits (nat_eq n number) (sym (lookup_insert n number (gone_out m) made) ∙ waits.found)
      where
        at : (n : ℕ) (e : Emission) → IsWaitingReset (insert_entry nat_eq made number (gone_out m)) n e → (b : Bool)
            → cond b (Some (gone_out m)) (lookup (nat_eq n) made) ≡ Some (unsent e)
            → IsAmong n xs × (length e.payload ≡ 0)
        at n e waits true is = absurd (differ (ap (λ (x : Made Emission). x.sent) (same_Some (gone_out m) (unsent e) is)))
          where
            differ : true ≡ false → ⊥
            differ is = absurd cc
        at n e waits false is = are n e (record { found = is; answers = waits.answers })

-- 3. a host's step

making_joins : (me : Host) (moment : ℕ) (b : HostTcp) (m : SegmentPlan) (made : Table) (xs : List ℕ) (fresh : ℕ) → AreAwaited made xs
    → AreAwaited (on (act_makes me moment b (acts.Makes m)) made (λ e. insert_entry nat_eq made fresh (unsent e))) xs
making_joins me moment b m made xs fresh are = by (place_of b m.lport m.rport)
  where
    at : (i : ℕ) (o : Option Endpoint)
        → AreAwaited (on (option_map (λ e. emission_of (record { host = me; number = i }) e m moment) o) made
        (λ e. insert_entry nat_eq made fresh (unsent e))) xs
    at i None = are
    at i (Some e) = plain_joins made xs fresh (emission_of (record { host = me; number = i }) e m moment) refl are

    by : (o : Option ℕ) → AreAwaited (on (option_map_or (made_at me moment b m) o None) made (λ e. insert_entry nat_eq made fresh (unsent e))) xs
    by None = are
    by (Some i) = at i (slice_get b.endpoints i)

answering_joins : (me : Host) (moment : ℕ) (b : HostTcp) (o : Option Emission) (made : Table) (xs : List ℕ) (fresh : ℕ)
    → AreAwaited made xs → AreAwaited
    (on o made (λ e. on (act_makes me moment b (acts.Resets e)) made (λ r. insert_entry nat_eq made fresh (unsent r))))
    (xs ++ fresh ∷ [])
answering_joins me moment b None made xs fresh are = more_awaited made xs (fresh ∷ []) are
answering_joins me moment b (Some e) made xs fresh are = answer_joins made xs fresh (reset_of e) refl are

host_step_awaited : (h : Header) (me : Host) (moment fresh : ℕ) (far : List (ℕ × Emission)) (s : HostState tcp_shape)
    (xs : List ℕ) (d : HostStep tcp_shape) → AreAwaited s.made xs
    → AreAwaited (host_step_after (tcp h) me moment fresh far s d).made (awaited xs (At me d) fresh)
host_step_awaited h me moment fresh far s xs (Does x) are = are
host_step_awaited h me moment fresh far s xs (Expires line x) are = are
host_step_awaited h me moment fresh far s xs (Makes plan) are = making_joins me moment s.body plan s.made xs fresh are
host_step_awaited h me moment fresh far s xs (Sends line number wire) are = gone s.made xs number are
host_step_awaited h me moment fresh far s xs (Gets line copied wire) are = are
host_step_awaited h me moment fresh far s xs (Hears line wire) are = are
host_step_awaited h me moment fresh far s xs (Takes line choice) are = are
host_step_awaited h me moment fresh far s xs (Drops line) are = are
host_step_awaited h me moment fresh far s xs (Answers line) are = answering_joins me moment s.body (waiting line s.inbox) s.made xs fresh are

-- 4. a step

picked : (me : Host) (hosts : Both (HostState tcp_shape)) (s : HostState tcp_shape) → pick (with_host hosts me s) me ≡ s
picked Zero hosts s = refl
picked One hosts s = refl

called_made : (me host : Host) (hosts : Both (HostState tcp_shape)) (b : HostTcp)
    → (pick (with_host hosts host (record (pick hosts host) { body = b })) me).made ≡ (pick hosts me).made
called_made Zero Zero hosts b = refl
called_made Zero One hosts b = refl
called_made One Zero hosts b = refl
called_made One One hosts b = refl

module _ (h : Header) (me : Host) (moment : ℕ) (w : World tcp_shape) (xs : List ℕ) (are : AreAwaited (pick w.hosts me).made xs) where
  effect_awaited : (t : ℕ) (answer : Answer) (u : Turn tcp_shape) → AreAwaited (pick (effect_after (tcp h) moment w t answer u).hosts me).made xs
  effect_awaited t answer Idle = are
  effect_awaited t answer (Answered a) = are
  effect_awaited t answer (Called call) = by (aim_of (tcp h) w.hosts (aim call))
    where
      by : (o : Option Host) → AreAwaited (pick (call_after (tcp h) moment w.hosts (acts.Calls call answer) o) me).made xs
      by None = are
      by (Some host) = subst (λ (made : Table). AreAwaited made xs) (sym (called_made me host w.hosts _)) are

  pub step_awaited : (step : Step tcp_shape) → ((host : Host) (d : HostStep tcp_shape) → step ≡ At host d → host ≡ me)
      → AreAwaited (pick (after (tcp h) moment w step).hosts me).made (awaited xs step (suc w.count))
  step_awaited (Begin line t call) own = are
  step_awaited (Finish line t answer) own = are
  step_awaited (Effect t answer) own = effect_awaited t answer (turn_of t w.threads)
  step_awaited (At host d) own =
      subst (λ (x : Host). AreAwaited
      (pick (with_host w.hosts x (host_step_after (tcp h) x moment (suc w.count) (pick w.hosts (other x)).wire
      (pick w.hosts x) d)) me).made (awaited xs (At x d) (suc w.count))) (sym (own host d refl))
      (subst (λ (s : HostState tcp_shape). AreAwaited s.made (awaited xs (At me d) (suc w.count)))
      (sym (picked me w.hosts (host_step_after (tcp h) me moment (suc w.count) (pick w.hosts (other me)).wire
      (pick w.hosts me) d)))
      (host_step_awaited h me moment (suc w.count) (pick w.hosts (other me)).wire (pick w.hosts me) xs d are))

pub bring_awaited : (h : Header) (me : Host) (f : Flying tcp_shape) (w : World tcp_shape) (xs : List ℕ)
    → AreAwaited (pick w.hosts me).made xs → AreAwaited (pick (bring (tcp h) (other me) f w).hosts me).made xs
bring_awaited h Zero f w xs are = are
bring_awaited h One f w xs are = are

pub none_awaited : (h : Header) (me : Host) → AreAwaited (pick (start (tcp h)).hosts me).made []
none_awaited h Zero n e waits = absurd (none-some (unsent e) waits.found)
none_awaited h One n e waits = absurd (none-some (unsent e) waits.found)

-- whatever step is tried, what was awaited is awaited still
pub tried_awaited : (made : Table) (xs : List ℕ) (step : Step tcp_shape) (n : ℕ) → AreAwaited made xs → AreAwaited made (awaited xs step n)
tried_awaited made xs (Begin line t call) n are = are
tried_awaited made xs (Finish line t answer) n are = are
tried_awaited made xs (Effect t answer) n are = are
tried_awaited made xs (At host (Does x)) n are = are
tried_awaited made xs (At host (Expires line x)) n are = are
tried_awaited made xs (At host (Makes plan)) n are = are
tried_awaited made xs (At host (Sends line number wire)) n are = are
tried_awaited made xs (At host (Gets line copied wire)) n are = are
tried_awaited made xs (At host (Hears line wire)) n are = are
tried_awaited made xs (At host (Takes line choice)) n are = are
tried_awaited made xs (At host (Drops line)) n are = are
tried_awaited made xs (At host (Answers line)) n are = more_awaited made xs (n ∷ []) are

-- 5. the queue

-- the first one does not wait, and leaves
pub first_leaves : (made : Table) (x : ℕ) (xs : List ℕ) → ((e : Emission) → IsWaitingReset made x e → ⊥) → AreAwaited made (x ∷ xs) → AreAwaited made xs
first_leaves made x xs never are n e waits = by (are n e waits)
  where
    by : (IsAmong n (x ∷ xs) × (length e.payload ≡ 0)) → IsAmong n xs × (length e.payload ≡ 0)
    by (inl same, empty) = absurd (never e (subst (λ (m : ℕ). IsWaitingReset made m e) same waits))
    by (inr later, empty) = (later, empty)

pub leaves : (made : Table) (x : ℕ) (xs ys : List ℕ) → Some x ≡ slice_get xs 0 → ys ≡ drop 1 xs
    → ((e : Emission) → IsWaitingReset made x e → ⊥) → AreAwaited made xs → AreAwaited made ys
leaves made x [] ys first rest never are = absurd (none-some x (sym first))
leaves made x (y ∷ xs) ys first rest never are = subst (λ (numbers : List ℕ). AreAwaited made numbers) (sym rest)
    (first_leaves made y xs (subst (λ (n : ℕ). (e : Emission) → IsWaitingReset made n e → ⊥) (same_Some x y first) never) are)

pub none_left : (made : Table) (xs : List ℕ) → None ≡ slice_get xs 0 → AreAwaited made xs → (n : ℕ) (e : Emission) → IsWaitingReset made n e → ⊥
none_left made [] first are n e waits = (are n e waits).0
none_left made (x ∷ xs) first are n e waits = absurd (none-some x first)

-- what is seen of an entry
waits_so : (m : Made Emission) → (not m.sent && m.emission.is_reset_reply) ≡ true → (m ≡ unsent m.emission) × (m.emission.is_reset_reply ≡ true)
waits_so m is = by m.sent m.emission.is_reset_reply refl refl is
  where
    by : (s a : Bool) → m.sent ≡ s → m.emission.is_reset_reply ≡ a → (not s && a) ≡ true → (m ≡ unsent m.emission) × (m.emission.is_reset_reply ≡ true)
    by true a sent answers is = absurd cc
    by false true sent answers is = (ap (λ (b : Bool). record { emission = m.emission; sent = b }) sent, answers)
    by false false sent answers is = absurd cc

pub waits_there : (made : Table) (n : ℕ) (m : Made Emission) → Some m ≡ lookup (nat_eq n) made
    → (not m.sent && m.emission.is_reset_reply) ≡ true → (e : Emission) × IsWaitingReset made n e
waits_there made n m found is = let so = waits_so m is in (m.emission, record { found = sym found ∙ ap (λ (x : Made Emission). Some x) so.0; answers = so.1 })

pub waits_not : (made : Table) (n : ℕ) (m : Made Emission) → Some m ≡ lookup (nat_eq n) made
    → (not m.sent && m.emission.is_reset_reply) ≡ false → (e : Emission) → IsWaitingReset made n e → ⊥
waits_not made n m found is e waits =
    differ (sym is ∙ ap (λ (x : Made Emission). not x.sent && x.emission.is_reset_reply)
    (same_Some m (unsent e) (found ∙ waits.found)) ∙ waits.answers)
  where
    differ : false ≡ true → ⊥
    differ is = absurd cc

-- 6. a core

pub own_host : (h : Header) (me : Host) (w : World tcp_shape) (step : Step tcp_shape) → OwnStep (tcp h) me w step
    → (host : Host) (d : HostStep tcp_shape) → step ≡ At host d → host ≡ me
own_host h me w step own host d is = subst (λ (x : Step tcp_shape). OwnStep (tcp h) me w x) is own

pub core_awaits : (r s : Recorded) (last : Tick) (step : Step tcp_shape) (xs ys : List ℕ) (count : ℕ)
    → FitsItem (tcp r.header) r.me last.moment (world_left r) (Do step)
    → s ≡ with_entry r (entry_at r.me last (Do step))
    → count ≡ (world_left r).count → ys ≡ awaited xs step (suc count) → AreAwaited (made_of r) xs → AreAwaited (made_of s) ys
core_awaits r s last step xs ys count fits same count_is ys_is are =
    subst (λ (numbers : List ℕ). AreAwaited (made_of s) numbers) (sym (ys_is ∙ ap (λ (n : ℕ). awaited xs step (suc n)) count_is))
    (subst (λ (t : Recorded). AreAwaited (made_of t) (awaited xs step (suc (world_left r).count))) (sym same)
    (subst (λ (w : World tcp_shape). AreAwaited (pick w.hosts r.me).made (awaited xs step (suc (world_left r).count)))
    (sym (end_more (tcp r.header) r.me (start (tcp r.header)) r.entries (entry_at r.me last (Do step) ∷ [])))
    (step_awaited r.header r.me last.moment (world_left r) xs are step (own_host r.header r.me (world_left r) step fits.1))))

pub core_awaits_brought : (r s : Recorded) (last : Tick) (f : Flying tcp_shape) (xs : List ℕ)
    → s ≡ with_entry r (entry_at r.me last (Bring f)) → AreAwaited (made_of r) xs → AreAwaited (made_of s) xs
core_awaits_brought r s last f xs same are =
    subst (λ (t : Recorded). AreAwaited (made_of t) xs) (sym same)
    (subst (λ (w : World tcp_shape). AreAwaited (pick w.hosts r.me).made xs)
    (sym (end_more (tcp r.header) r.me (start (tcp r.header)) r.entries (entry_at r.me last (Bring f) ∷ [])))
    (bring_awaited r.header r.me f (world_left r) xs are))

pub core_awaits_none : (h : Header) (me : Host) (r : Recorded) (xs : List ℕ)
    → r ≡ record { header = h; me = me; entries = [] } → xs ≡ [] → AreAwaited (made_of r) xs
core_awaits_none h me r xs is empty =
    subst (λ (numbers : List ℕ). AreAwaited (made_of r) numbers) (sym empty)
    (subst (λ (t : Recorded). AreAwaited (made_of t) []) (sym is) (none_awaited h me))

pub core_tried : (made : Table) (xs ys : List ℕ) (step : Step tcp_shape) (n : ℕ) → ys ≡ awaited xs step n → AreAwaited made xs → AreAwaited made ys
core_tried made xs ys step n is are = subst (λ (numbers : List ℕ). AreAwaited made numbers) (sym is) (tried_awaited made xs step n are)

-- the reset that goes waits in an event that began
pub reset_waits : (c d : Core) (tick : Tick) (n : ℕ) → IsResetToGo c.recorded n → d ≡ event_begun c tick → WaitsToGo d n
reset_waits c d tick n is same =
    subst (λ (x : Core). WaitsToGo x n) (sym same)
    (let empty = is.empty in record { emission = is.emission; found = is.waits.found; short = omega arith })
