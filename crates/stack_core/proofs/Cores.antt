-- What a core adds may join, and leaves a core.
use Rattle.std.proofs.Common.{◌≡◌, ◌≤◌, ◌<◌, ◌+◌, ◌*◌, ℕ, suc, Bool, true, false, List, [], ◌∷◌, ◌++◌, length, Option}
use Rattle.std.proofs.Common.{None, Some, refl, ap, sym, ◌∙◌, subst, nat_lt, arith}
use Rattle.std.specs.Prelude.{if◌then◌else◌}
use Rattle.std.proofs.lemmas.Bool.Decides.{nat_tests}
use Rattle.case_forms.specs.Traces.{first_event_line}
use Rattle.case_forms.specs.declared.calls.Host.{Host}
use Rattle.case_forms.specs.declared.calls.Host.TheVariants.{Zero, One}
use Rattle.case_forms.specs.declared.trace.Header.{Header}
use Rattle.case_forms.specs.declared.version.Version.{Version}
use Rattle.case_forms.specs.declared.version.Version.TheVariants as versions
use Rattle.case_forms.specs.Versions.{first_line_of}
use Rattle.spec_network.specs.Tables.{on, other, pick}
use Rattle.spec_network.specs.Hosts.{World, Step, Begin, Finish, Effect, At, Does, Expires, Makes, Sends, Gets, Hears, Takes, Drops, Answers}
use Rattle.spec_network.specs.HostSteps.{after, start}
use Rattle.spec_tcp.specs.Machine.{tcp, tcp_shape}
use Rattle.spec_merge.specs.Books.{Bring, Do, FitsItem, Flying, Item, Key, bring, step_line}
use Rattle.spec_merge.specs.Keys.{EachEntry, If, before, lesser, rank}
use Rattle.spec_merge.specs.Recordings.{TcpEntry, next_line}
use Rattle.spec_merge.proofs.Growing.{end_more}
use Rattle.spec_merge.proofs.Lines.{next_more}
use Rattle.stack_core.specs.declared.tick.Tick.{Tick}
use Rattle.stack_core.specs.Keys.{key_of}
use Rattle.stack_core.specs.Entries.{entry_at, steps_in}
use Rattle.stack_core.specs.Recordings.{Joins, Recorded, with_entry, world_left}
use Rattle.stack_core.specs.Cores.{Core, IsAfter, IsBelow, IsCore, IsOrderly, IsOwn, lines_taken, with_step, world}
use Rattle.stack_core.specs.Told.{AllTold, IsToldItem, IsToldStep}
use Rattle.stack_core.proofs.Growing.{steps_more}
use Rattle.stack_core.proofs.Owned.{own_brought, own_step}

-- 1. keys

not_less : (a x : ℕ) → x ≤ a → nat_lt a x ≡ false
not_less a x p = grind (arith, nat_tests)

lesser_not : (a b c x y : ℕ) → x ≤ a → y ≤ b → lesser a b c x y c ≡ false
lesser_not a b c x y p q = rw (not_less a x p, not_less b y q, not_less c c (omega arith)) (by (nat_lt x a) (nat_lt y b))
  where
    by : (s t : Bool) → (if s then false else if t then false else false) ≡ false
    by true t = refl
    by false true = refl
    by false false = refl

-- a key that is not above the last tick doesn't come behind it
not_before : (me : Host) (last : Tick) (key : Key) → IsBelow me last key → before (key_of me last) key ≡ false
not_before me last key is =
    subst (λ (h : Host). lesser last.moment last.counter (rank me) key.moment key.counter (rank h) ≡ false)
    (sym is.host) (lesser_not last.moment last.counter (rank me) key.moment key.counter is.moment is.counter)

above_all : (h : Header) (me : Host) (last : Tick) (item : Item tcp_shape) (es : List TcpEntry)
    → EachEntry (tcp h) (λ x. IsBelow me last x.key) es
    → EachEntry (tcp h) (λ e. EachEntry (tcp h) (λ y. before y.key e.key ≡ false) (entry_at me last item ∷ [])) es
above_all h me last item [] all = tt
above_all h me last item (e ∷ es) all = ((not_before me last e.key all.0, tt), above_all h me last item es all.1)

pub below_later : (h : Header) (me : Host) (last tick : Tick) (es : List TcpEntry) → IsAfter last tick
    → EachEntry (tcp h) (λ x. IsBelow me last x.key) es → EachEntry (tcp h) (λ x. IsBelow me tick x.key) es
below_later h me last tick [] is all = tt
below_later h me last tick (e ∷ es) is all =
    let is_moment = is.moment in
    let is_counter = is.counter in
    let moment = all.0.moment in
    let counter = all.0.counter in
    (record { host = all.0.host; moment = omega arith; counter = omega arith }, below_later h me last tick es is all.1)

below_more : (h : Header) (me : Host) (last : Tick) (es : List TcpEntry) (item : Item tcp_shape)
    → EachEntry (tcp h) (λ x. IsBelow me last x.key) es
    → EachEntry (tcp h) (λ x. IsBelow me last x.key) (es ++ entry_at me last item ∷ [])
below_more h me last [] item all = (record { host = refl; moment = omega arith; counter = omega arith }, tt)
below_more h me last (e ∷ es) item all = (all.0, below_more h me last es item all.1)

-- 2. lines

numbered_one : (o : Option ℕ) (m : ℕ) → If o (Unit {0}) (λ line. line ≡ m) → If o (Unit {0}) (λ line. (line ≡ m) × (Unit {0}))
numbered_one None m is = tt
numbered_one (Some n) m is = (is, tt)

one_line : (h : Header) (n : ℕ) (step : Step tcp_shape) → on (step_line (tcp h) step) n (λ line. suc n) ≡ n + lines_taken step
one_line h n (Begin line t call) = omega arith
one_line h n (Finish line t answer) = omega arith
one_line h n (Effect t answer) = omega arith
one_line h n (At host (Does x)) = omega arith
one_line h n (At host (Expires line x)) = omega arith
one_line h n (At host (Makes plan)) = omega arith
one_line h n (At host (Sends line number wire)) = omega arith
one_line h n (At host (Gets line copied wire)) = omega arith
one_line h n (At host (Hears line wire)) = omega arith
one_line h n (At host (Takes line choice)) = omega arith
one_line h n (At host (Drops line)) = omega arith
one_line h n (At host (Answers line)) = omega arith

few_lines_taken : (step : Step tcp_shape) → lines_taken step ≤ 1
few_lines_taken (Begin line t call) = omega arith
few_lines_taken (Finish line t answer) = omega arith
few_lines_taken (Effect t answer) = omega arith
few_lines_taken (At host (Does x)) = omega arith
few_lines_taken (At host (Expires line x)) = omega arith
few_lines_taken (At host (Makes plan)) = omega arith
few_lines_taken (At host (Sends line number wire)) = omega arith
few_lines_taken (At host (Gets line copied wire)) = omega arith
few_lines_taken (At host (Hears line wire)) = omega arith
few_lines_taken (At host (Takes line choice)) = omega arith
few_lines_taken (At host (Drops line)) = omega arith
few_lines_taken (At host (Answers line)) = omega arith

-- 3. a core begins

nothing_own : (h : Header) (me : Host) → IsOwn me (start (tcp h))
nothing_own h Zero =
    record {
      own = λ n is. absurd cc;
      below = λ n is. absurd cc;
      none = λ n. refl;
      aims = λ t call is. absurd cc;
      within = λ t call is. absurd cc;
    }
nothing_own h One =
    record {
      own = λ n is. absurd cc;
      below = λ n is. absurd cc;
      none = λ n. refl;
      aims = λ t call is. absurd cc;
      within = λ t call is. absurd cc;
    }

few_first : (v : Version) → first_line_of v ≤ 16
few_first versions.One = omega arith
few_first versions.Two = omega arith
few_first versions.Three = omega arith
few_first versions.Four = omega arith
few_first versions.FourHalf = omega arith
few_first versions.Five = omega arith
few_first versions.FiveHalf = omega arith
few_first versions.Six = omega arith
few_first versions.SixHalf = omega arith

few_none : (h : Header) (me : Host) → length (pick (start (tcp h)).hosts me).body.sockets ≤ 0
few_none h Zero = omega arith
few_none h One = omega arith

pub core_starts : (h : Header) (me : Host) (r : Recorded) (line : ℕ) (last : Tick)
    → r ≡ record { header = h; me = me; entries = [] } → line ≡ first_event_line h → IsCore r line last 0
core_starts h me r line last is first =
    subst (λ (n : ℕ). IsCore r n last 0) (sym first)
    (subst (λ (r : Recorded). IsCore r (first_event_line h) last 0) (sym is) (record {
      numbered = refl;
      few_lines = let low = few_first h.version in omega arith;
      few_steps = omega arith;
      few_sockets = few_none h me;
      keys = tt;
      own = nothing_own h me;
      told = tt;
    }))

told_more : (v : Version) (es : List TcpEntry) (x : TcpEntry) → AllTold v es → IsToldItem v x.item → AllTold v (es ++ x ∷ [])
told_more v [] x all one = (one, tt)
told_more v (e ∷ es) x all one = (all.0, told_more v es x all.1 one)

-- 4. a step joins

module _ (r : Recorded) (line : ℕ) (last : Tick) (events : ℕ) (is : IsCore r line last events) (step : Step tcp_shape)
    (fits : FitsItem (tcp r.header) r.me last.moment (world_left r) (Do step)) (orderly : IsOrderly r.me (world_left r) step) where
  pub may_join : If (step_line (tcp r.header) step) (Unit {0})
      (λ n. n ≡ next_line r.header (first_event_line r.header) r.entries) → Joins r (entry_at r.me last (Do step))
  may_join next = record {
    runs = (fits, (own_step r.header r.me last.moment (world_left r) is.own step fits orderly).own.own, tt);
    numbered = numbered_one (step_line (tcp r.header) step) (next_line r.header (first_event_line r.header) r.entries) next;
    keys = (refl, tt, tt);
    above = above_all r.header r.me last (Do step) r.entries is.keys;
  }

  pub core_grows : (s : Recorded) (takes : ℕ) → s ≡ with_entry r (entry_at r.me last (Do step))
      → steps_in r.entries < 4 * events → takes ≡ lines_taken step → IsToldStep r.header.version step
      → IsCore s (line + takes) last events
  core_grows s takes same room count can =
      let x : TcpEntry = entry_at r.me last (Do step) in
      let steps : steps_in (r.entries ++ x ∷ []) ≡ suc (steps_in r.entries) = steps_more r.entries x in
      let stepped = own_step r.header r.me last.moment (world_left r) is.own step fits orderly in
      let left : world_left (with_entry r x) ≡ after (tcp r.header) last.moment (world_left r) step =
      end_more (tcp r.header) r.me (start (tcp r.header)) r.entries (x ∷ []) in
      let few_lines = is.few_lines in
      let few_sockets = is.few_sockets in
      let few = few_lines_taken step in
      let one_more = stepped.count in
      let sockets : length (pick (world_left (with_entry r x)).hosts r.me).body.sockets
      ≡ length (pick (after (tcp r.header) last.moment (world_left r) step).hosts r.me).body.sockets =
      ap (λ (w : World tcp_shape). length (pick w.hosts r.me).body.sockets) left in
      subst (λ (t : Recorded). IsCore t (line + takes) last events) (sym same) (record {
        numbered = ap (λ (n : ℕ). n + takes) is.numbered ∙ ap (λ (n : ℕ). next_line r.header (first_event_line r.header) r.entries + n) count
            ∙ sym (one_line r.header (next_line r.header (first_event_line r.header) r.entries) step)
            ∙ sym (next_more r.header (first_event_line r.header) r.entries (x ∷ []));
        few_lines = omega arith;
        few_steps = omega arith;
        few_sockets = omega arith;
        keys = below_more r.header r.me last r.entries (Do step) is.keys;
        own = subst (λ (w : World tcp_shape). IsOwn r.me w) (sym left) stepped.own;
        told = told_more r.header.version r.entries x is.told can;
      })

-- 5. a segment is brought

module _ (r : Recorded) (line : ℕ) (last : Tick) (events : ℕ) (is : IsCore r line last events) (f : Flying tcp_shape) where
  pub may_bring : Joins r (entry_at r.me last (Bring f))
  may_bring = record {
    runs = (tt, (own_brought r.header r.me f (world_left r) is.own).own, tt);
    numbered = tt;
    keys = (refl, tt, tt);
    above = above_all r.header r.me last (Bring f) r.entries is.keys;
  }

  pub core_brings : (s : Recorded) → s ≡ with_entry r (entry_at r.me last (Bring f)) → IsCore s line last events
  core_brings s same =
      let x : TcpEntry = entry_at r.me last (Bring f) in
      let steps : steps_in (r.entries ++ x ∷ []) ≡ steps_in r.entries = steps_more r.entries x in
      let left : world_left (with_entry r x) ≡ bring (tcp r.header) (other r.me) f (world_left r) =
      end_more (tcp r.header) r.me (start (tcp r.header)) r.entries (x ∷ []) in
      let few_lines = is.few_lines in
      let few_steps = is.few_steps in
      let few_sockets = is.few_sockets in
      let sockets : length (pick (world_left (with_entry r x)).hosts r.me).body.sockets
      ≡ length (pick (world_left r).hosts r.me).body.sockets =
      ap (λ (w : World tcp_shape). length (pick w.hosts r.me).body.sockets) left
      ∙ brought_sockets r.me (world_left r) in
      subst (λ (t : Recorded). IsCore t line last events) (sym same) (record {
        numbered = is.numbered ∙ sym (next_more r.header (first_event_line r.header) r.entries (x ∷ []));
        few_lines = omega arith;
        few_steps = omega arith;
        few_sockets = omega arith;
        keys = below_more r.header r.me last r.entries (Bring f) is.keys;
        own = subst (λ (w : World tcp_shape). IsOwn r.me w) (sym left) (own_brought r.header r.me f (world_left r) is.own);
        told = told_more r.header.version r.entries x is.told tt;
      })
    where
      brought_sockets : (me : Host) (w : World tcp_shape)
          → length (pick (bring (tcp r.header) (other me) f w).hosts me).body.sockets
          ≡ length (pick w.hosts me).body.sockets
      brought_sockets Zero w = refl
      brought_sockets One w = refl

-- 6. what callers see

-- the count of steps, and the world, after a step
pub counts : (c d : Core) (step : Step tcp_shape) → d ≡ with_step c step → steps_in d.recorded.entries ≡ suc (steps_in c.recorded.entries)
counts c d step is =
    subst (λ (e : Core). steps_in e.recorded.entries ≡ suc (steps_in c.recorded.entries)) (sym is)
    (steps_more c.recorded.entries (entry_at c.recorded.me c.last (Do step)))

pub leads : (c d : Core) (step : Step tcp_shape) → d ≡ with_step c step → world d ≡ after (tcp c.recorded.header) c.last.moment (world c) step
leads c d step is = subst (λ (e : Core). world e ≡ after (tcp c.recorded.header) c.last.moment (world c) step) (sym is)
    (end_more (tcp c.recorded.header) c.recorded.me (start (tcp c.recorded.header)) c.recorded.entries (entry_at c.recorded.me c.last (Do step) ∷ []))

pub add_ok : (r s : Recorded) (ring : ℕ) (last : Tick) (events : ℕ) (old : Core) (step : Step tcp_shape)
    → record { recorded = r; ring = ring; last = last; events = events } ≡ old
    → s ≡ with_entry r (entry_at r.me last (Do step)) → record { recorded = s; ring = ring; last = last; events = events } ≡ with_step old step
add_ok r s ring last events old step is same =
    subst (λ (c : Core). record { recorded = s; ring = ring; last = last; events = events } ≡ with_step c step) is
    (ap (λ (x : Recorded). let c : Core = record { recorded = x; ring = ring; last = last; events = events } in c)
    same)
