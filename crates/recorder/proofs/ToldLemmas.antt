-- What says the steps of a placement and a run is explained.
use Rattle.std.proofs.Common.{◌≡◌, ℕ, ◌+◌, ◌<◌, ◌≤◌, zero, suc, Bool, true, false, if◌then◌else◌, List, [], ◌∷◌, map}
use Rattle.std.proofs.Common.{refl, sym, ap, ◌∙◌, subst, arith, Option, Some, None}
use Rattle.std.specs.Prelude.{nat_eq, slice_get}
use Rattle.std.specs.List.{cons_option, enumerate_from}
use Rattle.std.specs.Map.{lookup}
use Rattle.std.specs.Option.{option_map, option_map_or}
use Rattle.std.proofs.lemmas.Bool.Decides.{nat_tests}
use Rattle.std.proofs.lemmas.Option.{none-some, same_Some}
use Rattle.case_forms.specs.declared.trace.Header.{Header}
use Rattle.case_forms.specs.declared.trace.Event.{Event}
use Rattle.case_forms.specs.declared.trace.Event.TheVariants as events
use Rattle.case_forms.specs.declared.trace.Line.{Line}
use Rattle.case_forms.specs.declared.trace.Span.{Span}
use Rattle.case_forms.specs.declared.trace.Trace.{Trace}
use Rattle.case_forms.specs.declared.named_line.Extras.{Extras}
use Rattle.case_forms.specs.declared.named_line.Extras.TheVariants as extras
use Rattle.case_forms.specs.declared.named_line.NamedLine.{NamedLine}
use Rattle.case_forms.specs.declared.taken_line.TakenLine.{TakenLine}
use Rattle.case_forms.specs.declared.timer.Timer.TheVariants as timers
use Rattle.case_forms.specs.declared.steps.Label.{Label}
use Rattle.case_forms.specs.declared.steps.Label.TheVariants.{L, D, M, T, K, R, F}
use Rattle.case_forms.specs.declared.steps.Step.{Step}
use Rattle.case_forms.specs.declared.steps.Witness.{Witness}
use Rattle.case_forms.specs.Steps.{extras_count}
use Rattle.case_forms.specs.TakenLines.{taken_of}
use Rattle.case_forms.specs.Traces.{first_event_line, line_at, IsRecorded}
use Rattle.case_forms.specs.Versions.{is_half}
use Rattle.interval_order.specs.Orders.{Take, Move, taking}
use Rattle.interval_order.specs.OrderRules.{extras_of}
use Rattle.interval_order.specs.Placed.{Placed, TakesAt, IsTimely}
use Rattle.spec_network.specs.Hosts.{Stamped}
use Rattle.spec_merge.specs.Books.{step_line}
use Rattle.spec_merge.specs.Placing as placing
use Rattle.spec_merge.specs.Placing.{IsPlacedRun, lines_of, MomentsRise, NamesAt, Placement}
use Rattle.spec_network.specs.HostSteps.{start, Lawful}
use Rattle.spec_tcp.specs.Machine.{tcp, tcp_shape}
use Rattle.spec_tcp.specs.Steps.{line_step, step_of}
use Rattle.checker.specs.Seen.{take_of, move_of, moves, act_of, stamped}
use Rattle.checker.specs.Explains.{Explains}
use Rattle.checker.proofs.LessLateLemmas.{explained_by_model}
use Rattle.recorder.specs.Told.{line_told, TakesWell, AllTakeWell, Tells}

-- 1. lines under their numbers

number_is : (k b n : ℕ) (lines : List Line) (line : Line) → IsRecorded k b lines → lookup (nat_eq n) (enumerate_from k lines) ≡ Some line → line.number ≡ n
number_is k b n [] line r at = absurd (none-some line at)
number_is k b n (x ∷ lines) line r at = go (nat_eq n k) refl (λ a. number_is (k + 1) x.moment n lines line r.2 a)
  where
    go : (t : Bool) → nat_eq n k ≡ t → (lookup (nat_eq n) (enumerate_from (k + 1) lines) ≡ Some line → line.number ≡ n) → line.number ≡ n
    go true is rest =
        let e : x ≡ line = same_Some x line (rw is at at) in
        let same : n ≡ k = grind (arith, nat_tests, is) in
        ap (λ (l : Line). l.number) (sym e) ∙ (r.0 ∙ sym same)
    go false is rest = rest (rw is at at)

place_is : (k n : ℕ) (lines : List Line) (line : Line) → lookup (nat_eq n) (enumerate_from k lines) ≡ Some line
    → (i : ℕ) × (n ≡ k + i) × (slice_get lines i ≡ Some line)
place_is k n [] line at = absurd (none-some line at)
place_is k n (x ∷ lines) line at = go (nat_eq n k) refl (λ a. place_is (k + 1) n lines line a)
  where
    go : (t : Bool) → nat_eq n k ≡ t
        → (lookup (nat_eq n) (enumerate_from (k + 1) lines) ≡ Some line
        → (i : ℕ) × (n ≡ k + 1 + i) × (slice_get lines i ≡ Some line))
        → (i : ℕ) × (n ≡ k + i) × (slice_get (x ∷ lines) i ≡ Some line)
    go true is rest =
        let same : n ≡ k = grind (arith, nat_tests, is) in
        (zero, omega arith, rw is at at)
    go false is rest =
        let r = rest (rw is at at) in
        let e : n ≡ k + 1 + r.0 = r.1 in
        (suc r.0, omega arith, r.2)

map_at : (lines : List Line) (i : ℕ) (line : Line) → slice_get lines i ≡ Some line → slice_get (map line_told lines) i ≡ Some (line_told line)
map_at [] i line at = absurd (none-some line at)
map_at (x ∷ lines) zero line at = ap (λ (l : Line). Some (line_told l)) (same_Some x line at)
map_at (x ∷ lines) (suc i) line at = map_at lines i line at

-- 2. steps and their acts

-- a line that is named with as many numbers as its kind has
abbrev pub IsTaken : Header → Line → Extras → Type 0
IsTaken h line x = (t : TakenLine) × (taken_of x line ≡ Some t) × (step_line (tcp h) (line_step t) ≡ Some line.number)

pub is_taken : (h : Header) (line : Line) (x : Extras) → extras_count x ≡ extras_of h.version line.event → IsTaken h line x
is_taken h line x count = go line.event x count
  where
    -- what came in has at most one number
    came : (b : Bool) (n : ℕ) → n ≡ 2 → n ≡ (if b then 0 else 1) → ⊥
    came true n two one = omega (arith, two, one)
    came false n two one = omega (arith, two, one)

    go : (v : Event) (x : Extras) → extras_count x ≡ extras_of h.version v → IsTaken h (record line { event = v }) x
    go (events.CallBegin call) extras.Bare c = (_, refl, refl)
    go (events.CallBegin call) (extras.One n) c = absurd (omega arith)
    go (events.CallBegin call) (extras.Two m n) c = absurd (omega arith)
    go (events.CallEnd answer) extras.Bare c = (_, refl, refl)
    go (events.CallEnd answer) (extras.One n) c = absurd (omega arith)
    go (events.CallEnd answer) (extras.Two m n) c = absurd (omega arith)
    go (events.Sent host wire) extras.Bare c = absurd (omega arith)
    go (events.Sent host wire) (extras.One n) c = (_, refl, refl)
    go (events.Sent host wire) (extras.Two m n) c = absurd (omega arith)
    go (events.Came host wire) extras.Bare c = (_, refl, refl)
    go (events.Came host wire) (extras.One n) c = (_, refl, refl)
    go (events.Came host wire) (extras.Two m n) c = absurd (came (is_half h.version) 2 refl c)
    go (events.Expired host lport rport timers.Rto) extras.Bare c = absurd (omega arith)
    go (events.Expired host lport rport timers.Rto) (extras.One n) c = absurd (omega arith)
    go (events.Expired host lport rport timers.Rto) (extras.Two m n) c = (_, refl, refl)
    go (events.Expired host lport rport timers.Persist) extras.Bare c = (_, refl, refl)
    go (events.Expired host lport rport timers.Persist) (extras.One n) c = absurd (omega arith)
    go (events.Expired host lport rport timers.Persist) (extras.Two m n) c = absurd (omega arith)
    go (events.Expired host lport rport timers.Msl2) extras.Bare c = (_, refl, refl)
    go (events.Expired host lport rport timers.Msl2) (extras.One n) c = absurd (omega arith)
    go (events.Expired host lport rport timers.Msl2) (extras.Two m n) c = absurd (omega arith)
    go (events.Expired host lport rport timers.Giveup) extras.Bare c = (_, refl, refl)
    go (events.Expired host lport rport timers.Pto) extras.Bare c = (_, refl, refl)
    go (events.Expired host lport rport timers.Giveup) (extras.One n) c = absurd (omega arith)
    go (events.Expired host lport rport timers.Pto) (extras.One n) c = absurd (omega arith)
    go (events.Expired host lport rport timers.Giveup) (extras.Two m n) c = absurd (omega arith)
    go (events.Expired host lport rport timers.Pto) (extras.Two m n) c = absurd (omega arith)

-- the act of a line that was found
abbrev found_act : ℕ → Option TakenLine → Option (Stamped tcp_shape)
found_act moment found = option_map (λ step. record { moment = moment; step = step }) (option_map step_of (option_map (λ t. L t) found))

line_act : (h : Header) (lines : List Line) (moment : ℕ) (named : NamedLine) (span : Span) (line : Line) (t : TakenLine)
    → line_at h lines named.number ≡ Some line → taken_of named.extras line ≡ Some t
    → act_of h lines (record { moment = moment; label = L named; span = span }) ≡ Some (record { moment = moment; step = line_step t })
line_act h lines moment named span line t at taken =
    ap (λ (o : Option Line). found_act moment (option_map_or (taken_of named.extras) o None)) at
    ∙ ap (found_act moment) taken

module _ (h : Header) (lines : List Line) where
  act_at : (s : Step) → TakesWell h lines s.label → (x : Stamped tcp_shape) × (act_of h lines s ≡ Some x) × (x.moment ≡ s.moment)
  act_at s well = go s.label well
    where
      go : (l : Label NamedLine) → TakesWell h lines l
          → (x : Stamped tcp_shape) × (act_of h lines (record { moment = s.moment; label = l; span = s.span }) ≡ Some x)
          × (x.moment ≡ s.moment)
      go (L named) w = let t = is_taken h w.0 named.extras w.2 in (
        record { moment = s.moment; step = line_step t.0 },
        line_act h lines s.moment named s.span w.0 t.0 w.1 t.1,
        refl,
      )
      go (D t answer) w = (_, refl, refl)
      go (M host plan) w = (_, refl, refl)
      go (T host line choice) w = (_, refl, refl)
      go (K host line) w = (_, refl, refl)
      go (R host line) w = (_, refl, refl)
      go (F host recovery) w = (_, refl, refl)

  module _ (b : ℕ) (r : IsRecorded (first_event_line h) b lines) where
    -- the act of a step that takes line n names line n
    names_line : (s : Step) (x : Stamped tcp_shape) (n e : ℕ) → TakesWell h lines s.label → act_of h lines s ≡ Some x
        → take_of s.label ≡ Some (record { number = n; extras = e })
        → (line : Line) × (step_line (tcp h) x.step ≡ Some n) × (line_at h lines n ≡ Some line) × (e ≡ extras_of h.version line.event)
    names_line s x n e well is takes = go s.label well is takes
      where
        go : (l : Label NamedLine) → TakesWell h lines l
            → act_of h lines (record { moment = s.moment; label = l; span = s.span }) ≡ Some x
            → take_of l ≡ Some (record { number = n; extras = e })
            → (line : Line) × (step_line (tcp h) x.step ≡ Some n) × (line_at h lines n ≡ Some line) × (e ≡ extras_of h.version line.event)
        go (L named) w is takes =
            let t = is_taken h w.0 named.extras w.2 in
            let same : record { number = named.number; extras = extras_count named.extras }
            ≡ record { number = n; extras = e } =
            same_Some (let a : Take = record { number = named.number; extras = extras_count named.extras } in a)
            (record { number = n; extras = e }) takes in
            let number : named.number ≡ n = ap (λ (t : Take). t.number) same in
            let count : extras_count named.extras ≡ e = ap (λ (t : Take). t.extras) same in
            let act : record { moment = s.moment; step = line_step t.0 } ≡ x =
            same_Some (let a : Stamped tcp_shape = record { moment = s.moment; step = line_step t.0 } in a) x
            (sym (line_act h lines s.moment named s.span w.0 t.0 w.1 t.1) ∙ is) in
            let own : w.0.number ≡ named.number = number_is (first_event_line h) b named.number lines w.0 r w.1 in (
              w.0,
              ap (λ (y : Stamped tcp_shape). step_line (tcp h) y.step) (sym act)
                  ∙ (t.2 ∙ ap (λ (k : ℕ). Some k) (own ∙ number)),
              subst (λ (k : ℕ). line_at h lines k ≡ Some w.0) number w.1,
              sym count ∙ w.2,
            )
        go (D t answer) w is takes = absurd (none-some _ takes)
        go (M host plan) w is takes = absurd (none-some _ takes)
        go (T host line choice) w is takes = absurd (none-some _ takes)
        go (K host line) w is takes = absurd (none-some _ takes)
        go (R host line) w is takes = absurd (none-some _ takes)
        go (F host recovery) w is takes = absurd (none-some _ takes)

    -- and a step whose act names line n takes it
    takes_line : (s : Step) (x : Stamped tcp_shape) (n : ℕ) → TakesWell h lines s.label → act_of h lines s ≡ Some x → step_line (tcp h) x.step ≡ Some n
        → (e : ℕ) × (take_of s.label ≡ Some (record { number = n; extras = e }))
    takes_line s x n well is names = go s.label well is
      where
        none : (l : Label NamedLine) (y : Stamped tcp_shape)
            → act_of h lines (record { moment = s.moment; label = l; span = s.span }) ≡ Some y
            → act_of h lines (record { moment = s.moment; label = l; span = s.span }) ≡ Some x
            → step_line (tcp h) y.step ≡ None → ⊥
        none l y a b hidden = none-some n (sym hidden ∙ (ap (λ (z : Stamped tcp_shape). step_line (tcp h) z.step) (same_Some y x (sym a ∙ b)) ∙ names))

        go : (l : Label NamedLine) → TakesWell h lines l
            → act_of h lines (record { moment = s.moment; label = l; span = s.span }) ≡ Some x
            → (e : ℕ) × (take_of l ≡ Some (record { number = n; extras = e }))
        go (L named) w is =
            let t = is_taken h w.0 named.extras w.2 in
            let act : record { moment = s.moment; step = line_step t.0 } ≡ x =
            same_Some (let a : Stamped tcp_shape = record { moment = s.moment; step = line_step t.0 } in a) x
            (sym (line_act h lines s.moment named s.span w.0 t.0 w.1 t.1) ∙ is) in
            let own : w.0.number ≡ named.number = number_is (first_event_line h) b named.number lines w.0 r w.1 in
            let same : w.0.number ≡ n = same_Some w.0.number n (sym t.2 ∙ (ap (λ (y : Stamped tcp_shape). step_line (tcp h) y.step) act ∙ names)) in
            (extras_count named.extras, ap (λ (k : ℕ). Some (let t : Take = record { number = k; extras = extras_count named.extras } in t)) (sym own ∙ same))
        go (D t answer) w is = absurd (none (D t answer) _ refl is refl)
        go (M host plan) w is = absurd (none (M host plan) _ refl is refl)
        go (T host line choice) w is = absurd (none (T host line choice) _ refl is refl)
        go (K host line) w is = absurd (none (K host line) _ refl is refl)
        go (R host line) w is = absurd (none (R host line) _ refl is refl)
        go (F host recovery) w is = absurd (none (F host recovery) _ refl is refl)

  -- 3. by places

  record AtPlace (steps : List Step) (p : ℕ) : Type 0 where
    step : Step
    act : Stamped tcp_shape
    well : TakesWell h lines step.label
    moved : slice_get (moves steps) p ≡ Some (move_of step)
    acts : slice_get (stamped h lines steps) p ≡ Some act
    is : act_of h lines step ≡ Some act
    moment : act.moment ≡ step.moment

  later : (s : Step) (steps : List Step) (p : ℕ) → TakesWell h lines s.label → AtPlace steps p → AtPlace (s ∷ steps) (suc p)
  later s steps p w a = record {
    step = a.step;
    act = a.act;
    well = a.well;
    moved = a.moved;
    acts = ap (λ (o : Option (Stamped tcp_shape)). slice_get (cons_option o (stamped h lines steps)) (suc p)) (act_at s w).1 ∙ a.acts;
    is = a.is;
    moment = a.moment;
  }

  here : (s : Step) (steps : List Step) → TakesWell h lines s.label → AtPlace (s ∷ steps) zero
  here s steps w = record {
    step = s;
    act = (act_at s w).0;
    well = w;
    moved = refl;
    acts = ap (λ (o : Option (Stamped tcp_shape)). slice_get (cons_option o (stamped h lines steps)) zero) (act_at s w).1;
    is = (act_at s w).1;
    moment = (act_at s w).2;
  }

  move_place : (steps : List Step) → AllTakeWell h lines steps → (p : ℕ) (m : Move) → slice_get (moves steps) p ≡ Some m → AtPlace steps p
  move_place [] all p m at = absurd (none-some m at)
  move_place (s ∷ steps) all zero m at = here s steps all.0
  move_place (s ∷ steps) all (suc p) m at = later s steps p all.0 (move_place steps all.1 p m at)

  act_place : (steps : List Step) → AllTakeWell h lines steps → (p : ℕ) (x : Stamped tcp_shape) → slice_get (stamped h lines steps) p ≡ Some x → AtPlace steps p
  act_place [] all p x at = absurd (none-some x at)
  act_place (s ∷ steps) all zero x at = here s steps all.0
  act_place (s ∷ steps) all (suc p) x at =
      later s steps p all.0 (act_place steps all.1 p x
      (sym (ap (λ (o : Option (Stamped tcp_shape)). slice_get (cons_option o (stamped h lines steps)) (suc p))
      (act_at s all.0).1) ∙ at))

-- 4. moments

rise_first : (h : Header) (m : ℕ) (xs : List (Stamped tcp_shape)) → MomentsRise (tcp h) m xs
    → (i : ℕ) (x : Stamped tcp_shape) → slice_get xs i ≡ Some x → m ≤ x.moment
rise_first h m [] r i x at = absurd (none-some x at)
rise_first h m (y ∷ xs) r zero x at = let e : y.moment ≡ x.moment =
    ap (λ (z : Stamped tcp_shape). z.moment) (same_Some y x at) in let le : m ≤ y.moment = r.0 in omega arith
rise_first h m (y ∷ xs) r (suc i) x at = let le : m ≤ y.moment = r.0 in let up : y.moment ≤ x.moment = rise_first h y.moment xs r.1 i x at in omega arith

rise_at : (h : Header) (m : ℕ) (xs : List (Stamped tcp_shape)) → MomentsRise (tcp h) m xs
    → (i j : ℕ) (x y : Stamped tcp_shape) → slice_get xs i ≡ Some x → slice_get xs j ≡ Some y → i < j
    → x.moment ≤ y.moment
rise_at h m [] r i j x y a b lt = absurd (none-some x a)
rise_at h m (z ∷ xs) r zero zero x y a b lt = absurd (omega arith)
rise_at h m (z ∷ xs) r (suc i) zero x y a b lt = absurd (omega arith)
rise_at h m (z ∷ xs) r zero (suc j) x y a b lt = let e : z.moment ≡ x.moment =
    ap (λ (w : Stamped tcp_shape). w.moment) (same_Some z x a) in
    let up : z.moment ≤ y.moment = rise_first h z.moment xs r.1 j y b in omega arith
rise_at h m (z ∷ xs) r (suc i) (suc j) x y a b lt = rise_at h z.moment xs r.1 i j x y a b (omega arith)

-- 5. the placement

module _ (t : Trace) (w : Witness) (told : Tells t w (stamped t.header t.lines w.steps))
    (p : Placement (tcp t.header) t.header.skew (first_event_line t.header) (map line_told t.lines)
    (stamped t.header t.lines w.steps)) where
  abbrev steps : List (Stamped tcp_shape)
  steps = stamped t.header t.lines w.steps

  -- a step that takes line n names it in the machine
  record Names (i n : ℕ) (taken : TakesAt (moves w.steps) i n) : Type 0 where
    act : Stamped tcp_shape
    line : Line
    acts : slice_get steps i ≡ Some act
    moment : act.moment ≡ taken.moment
    names : step_line (tcp t.header) act.step ≡ Some n
    is_line : line_at t.header t.lines n ≡ Some line
    count : taken.extras ≡ extras_of t.header.version line.event

  names_at : (i n : ℕ) (taken : TakesAt (moves w.steps) i n) → Names i n taken
  names_at i n taken =
      let a = move_place t.header t.lines w.steps told.takes i (taking taken.moment n taken.extras) taken.here in
      let same : move_of a.step ≡ taking taken.moment n taken.extras =
      same_Some (move_of a.step) (taking taken.moment n taken.extras) (sym a.moved ∙ taken.here) in
      let l = names_line t.header t.lines 0 told.trace a.step a.act n taken.extras a.well a.is (ap (λ (m : Move). m.take) same) in
      record { act = a.act; line = l.0; acts = a.acts; moment = a.moment ∙ ap (λ (m : Move). m.moment) same; names = l.1; is_line = l.2; count = l.3 }

  named : (i n : ℕ) (taken : TakesAt (moves w.steps) i n) → NamesAt (tcp t.header) steps i n
  named i n taken = let a = names_at i n taken in (a.act, a.acts, a.names)

  every : (n : ℕ) (line : Line) → line_at t.header t.lines n ≡ Some line → (i : ℕ) × TakesAt (moves w.steps) i n
  every n line at =
      let place = place_is (first_event_line t.header) n t.lines line at in
      let taken = p.taken place.0 (line_told line) (map_at t.lines place.0 line place.2) in
      let a = act_place t.header t.lines w.steps told.takes taken.0 taken.1.0 taken.1.1 in
      let same : a.act ≡ taken.1.0 = same_Some a.act taken.1.0 (sym a.acts ∙ taken.1.1) in
      let names : step_line (tcp t.header) a.act.step ≡ Some n =
      ap (λ (x : Stamped tcp_shape). step_line (tcp t.header) x.step) same
      ∙ (taken.1.2 ∙ ap (λ (k : ℕ). Some k) (sym place.1)) in
      let e = takes_line t.header t.lines 0 told.trace a.step a.act n a.well a.is names in (
        taken.0,
        record {
          moment = a.step.moment;
          extras = e.0;
          here = a.moved ∙ ap (λ (k : Option Take).
              Some (let m : Move = record { moment = a.step.moment; take = k } in m)) e.1;
        },
      )

  timely : (n i : ℕ) (taken : TakesAt (moves w.steps) i n)
      → (line : Line) × (line_at t.header t.lines n ≡ Some line) × IsTimely t.header line taken.moment taken.extras
  timely n i taken =
      let a = names_at i n taken in
      let place = place_is (first_event_line t.header) n t.lines a.line a.is_line in
      let there = p.taken place.0 (line_told a.line) (map_at t.lines place.0 a.line place.2) in
      let both : i ≡ there.0 = p.once i there.0 n (a.act, a.acts, a.names) (there.1.0, there.1.1, there.1.2 ∙ ap (λ (k : ℕ). Some k) (sym place.1)) in
      let same : a.act ≡ there.1.0 = same_Some a.act there.1.0 (sym a.acts ∙ (ap (λ (j : ℕ). slice_get steps j) both ∙ there.1.1)) in
      let moment : there.1.0.moment ≡ taken.moment = ap (λ (x : Stamped tcp_shape). x.moment) (sym same) ∙ a.moment in
      let since : a.line.moment ≤ there.1.0.moment = there.1.4 in
      let until : there.1.0.moment ≤ a.line.moment + t.header.skew = there.1.5 in
      (a.line, a.is_line, record { count = a.count; since = omega arith; until = omega arith })

  rising : (i j : ℕ) (s u : Move) → slice_get (moves w.steps) i ≡ Some s → slice_get (moves w.steps) j ≡ Some u → i < j → s.moment ≤ u.moment
  rising i j s u at bt lt =
      let a = move_place t.header t.lines w.steps told.takes i s at in
      let b = move_place t.header t.lines w.steps told.takes j u bt in
      let le : a.act.moment ≤ b.act.moment = rise_at t.header 0 steps p.moments i j a.act b.act a.acts b.acts lt in
      let first : a.act.moment ≡ s.moment = a.moment ∙ ap (λ (m : Move). m.moment) (same_Some (move_of a.step) s (sym a.moved ∙ at)) in
      let second : b.act.moment ≡ u.moment = b.moment ∙ ap (λ (m : Move). m.moment) (same_Some (move_of b.step) u (sym b.moved ∙ bt)) in
      omega arith

  pub is_placed : Placed t.header t.lines (moves w.steps)
  is_placed = record {
    rising = rising;
    every = every;
    once = λ n i j a b. p.once i j n (named i n a) (named j n b);
    timely = timely;
    threads = λ m n i j a b is_a is_b same less at bt. p.order i j m n (named i m at) (named j n bt) less;
  }

-- 6. the law

pub told_explains : (t : Trace) (w : Witness) (steps : List (Stamped tcp_shape))
    → IsPlacedRun (tcp t.header) t.header.skew (first_event_line t.header) (lines_of (tcp t.header) steps) steps
    → Tells t w steps → Explains t w
told_explains t w steps e told =
    let seen : steps ≡ stamped t.header t.lines w.steps = sym told.steps_are in
    let tells : Tells t w (stamped t.header t.lines w.steps) = subst (λ (xs : List (Stamped tcp_shape)). Tells t w xs) seen told in
    let placement : Placement (tcp t.header) t.header.skew (first_event_line t.header) (map line_told t.lines) (stamped t.header t.lines w.steps) =
    subst (λ (ls : List (placing.Line tcp_shape)).
    Placement (tcp t.header) t.header.skew (first_event_line t.header) ls (stamped t.header t.lines w.steps))
    (sym tells.lines_are)
    (subst (λ (xs : List (Stamped tcp_shape)). Placement (tcp t.header) t.header.skew (first_event_line t.header) (lines_of (tcp t.header) xs) xs) seen e.0) in
    explained_by_model t w told.slack told.judged (is_placed t w tells placement) placement.turns
    (subst (λ (xs : List (Stamped tcp_shape)). Lawful (tcp t.header) (start (tcp t.header)) xs) seen e.1)
