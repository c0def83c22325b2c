-- What is said of the steps of a run tells them.
use Rattle.std.proofs.Common.{◌≡◌, ℕ, ◌+◌, ◌≤◌, ◌⊎◌, inl, inr, suc, Bool, true, false, List, [], ◌∷◌, map, refl, sym, ap, ◌∙◌, subst, arith, Option, Some, None}
use Rattle.std.specs.Prelude.{nat_eq, if◌then◌else◌, not}
use Rattle.std.specs.List.{cons_option, enumerate_from}
use Rattle.std.specs.Map.{lookup}
use Rattle.std.specs.Option.{option_map, option_map_or}
use Rattle.std.proofs.lemmas.Bool.Decides.{nat_tests}
use Rattle.std.proofs.lemmas.Option.{none-some}
use Rattle.case_forms.specs.declared.calls.Host.{Host}
use Rattle.case_forms.specs.declared.named_line.Extras.{Extras}
use Rattle.case_forms.specs.declared.named_line.Extras.TheVariants as extras
use Rattle.case_forms.specs.declared.steps.Label.TheVariants as labels
use Rattle.case_forms.specs.declared.taken_line.Expired.{Expired}
use Rattle.case_forms.specs.declared.taken_line.Expired.TheVariants as expireds
use Rattle.case_forms.specs.declared.trace.Header.{Header}
use Rattle.case_forms.specs.declared.trace.Line.{Line}
use Rattle.case_forms.specs.declared.trace.Wire.{Wire}
use Rattle.case_forms.specs.TakenLines.{taken_of}
use Rattle.case_forms.specs.Traces.{line_at, IsRecorded}
use Rattle.case_forms.specs.Versions.{is_half}
use Rattle.verdict.specs.declared.rule.Rule.TheVariants as rules
use Rattle.verdict.specs.Rules.{first_broken}
use Rattle.spec_network.specs.Tables.{on, other, pick}
use Rattle.spec_network.specs.Hosts.{HostStep, Does, Expires, Makes, Sends, Gets, Hears, Takes, Drops, Answers, Step, Begin}
use Rattle.spec_network.specs.Hosts.{Finish, Effect, At, Stamped, HostState, World}
use Rattle.spec_network.specs.HostRules.{Permitted, host_step_rules, just}
use Rattle.spec_network.specs.HostSteps.{Lawful, after}
use Rattle.spec_tcp.specs.declared.endpoint.Emission.{Emission}
use Rattle.spec_tcp.specs.Machine.{tcp, tcp_shape}
use Rattle.spec_tcp.specs.Steps.{label_step, step_of}
use Rattle.spec_merge.specs.Books.{step_line}
use Rattle.spec_merge.specs.Keys.{If}
use Rattle.spec_merge.specs.Placing as placing
use Rattle.spec_merge.specs.Placing.{MomentsRise, event_of}
use Rattle.spec_merge.proofs.Joint.{LinesRise}
use Rattle.checker.specs.Seen.{stamped}
use Rattle.recorder.specs.Saying.{label_said, line_said, lines_said, steps_said}
use Rattle.recorder.specs.Told.{TakesWell, AllTakeWell, event_told, line_told}

-- ---- one step

-- a step that takes no line
record IsHidden (h : Header) (moment : ℕ) (step : Step tcp_shape) : Type 0 where
  said : line_said moment step ≡ None
  number : step_line (tcp h) step ≡ None
  event : event_of (tcp h) step ≡ None
  act : (find : ℕ → Option Line) → label_step find (label_said step) ≡ Some step
  takes : (lines : List Line) → TakesWell h lines (label_said step)

-- a step that takes this line
record IsLine (h : Header) (moment : ℕ) (step : Step tcp_shape) : Type 0 where
  line : Line
  said : line_said moment step ≡ Some line
  number : step_line (tcp h) step ≡ Some line.number
  moment_is : line.moment ≡ moment
  event : event_of (tcp h) step ≡ Some (event_told line.thread line.event)
  act : (find : ℕ → Option Line) → find line.number ≡ Some line → label_step find (label_said step) ≡ Some step
  takes : (lines : List Line) → line_at h lines line.number ≡ Some line → TakesWell h lines (label_said step)

-- the step of a line that was looked up
abbrev looked_up : Extras → Option Line → Option (Step tcp_shape)
looked_up x o = option_map step_of (option_map (λ t. labels.L t) (option_map_or (taken_of x) o None))

expiry_line : (h : Header) (moment : ℕ) (host : Host) (line lport rport : ℕ) (e : Expired)
    → IsLine h moment (At host (Expires line (record { lport = lport; rport = rport; expired = e })))
expiry_line h moment host line lport rport (expireds.Rto growth) =
    record {
      line = _;
      said = refl;
      number = refl;
      moment_is = refl;
      event = refl;
      act = λ find at. ap (looked_up (extras.Two growth.cwnd growth.ssthresh)) at;
      takes = λ lines at. (_, at, refl);
    }
expiry_line h moment host line lport rport expireds.Persist =
    record {
      line = _;
      said = refl;
      number = refl;
      moment_is = refl;
      event = refl;
      act = λ find at. ap (looked_up extras.Bare) at;
      takes = λ lines at. (_, at, refl);
    }
expiry_line h moment host line lport rport expireds.Msl2 =
    record {
      line = _;
      said = refl;
      number = refl;
      moment_is = refl;
      event = refl;
      act = λ find at. ap (looked_up extras.Bare) at;
      takes = λ lines at. (_, at, refl);
    }
expiry_line h moment host line lport rport expireds.Giveup =
    record {
      line = _;
      said = refl;
      number = refl;
      moment_is = refl;
      event = refl;
      act = λ find at. ap (looked_up extras.Bare) at;
      takes = λ lines at. (_, at, refl);
    }
expiry_line h moment host line lport rport expireds.Pto =
    record {
      line = _;
      said = refl;
      number = refl;
      moment_is = refl;
      event = refl;
      act = λ find at. ap (looked_up extras.Bare) at;
      takes = λ lines at. (_, at, refl);
    }

-- what comes in names the line that it copies
abbrev pub IsWholeHostStep : HostStep tcp_shape → Type 0
IsWholeHostStep (Hears line wire) = ⊥
IsWholeHostStep d = Unit {0}

abbrev pub IsWhole : Step tcp_shape → Type 0
IsWhole (At host d) = IsWholeHostStep d
IsWhole step = Unit {0}

module _ (h : Header) (both : is_half h.version ≡ false) where
  came_in : (moment : ℕ) (host : Host) (line copied : ℕ) (wire : Wire) → IsLine h moment (At host (Gets line copied wire))
  came_in moment host line copied wire = record {
    line = _;
    said = refl;
    number = refl;
    moment_is = refl;
    event = refl;
    act = λ find at. ap (looked_up (extras.One copied)) at;
    takes = λ lines at. (_, at, ap (λ (b : Bool). if b then 0 else 1) (sym both));
  }

  host_step_is : (moment : ℕ) (host : Host) (d : HostStep tcp_shape) → IsWholeHostStep d → IsHidden h moment (At host d) ⊎ IsLine h moment (At host d)
  host_step_is moment host (Does x) w = inl (record { said = refl; number = refl; event = refl; act = λ find. refl; takes = λ lines. tt })
  host_step_is moment host (Expires line x) w = inr (expiry_line h moment host line x.lport x.rport x.expired)
  host_step_is moment host (Makes plan) w = inl (record { said = refl; number = refl; event = refl; act = λ find. refl; takes = λ lines. tt })
  host_step_is moment host (Sends line number wire) w =
      inr (record {
        line = _;
        said = refl;
        number = refl;
        moment_is = refl;
        event = refl;
        act = λ find at. ap (looked_up (extras.One number)) at;
        takes = λ lines at. (_, at, refl);
      })
  host_step_is moment host (Gets line copied wire) w = inr (came_in moment host line copied wire)
  host_step_is moment host (Hears line wire) w = absurd w
  host_step_is moment host (Takes line choice) w = inl (record { said = refl; number = refl; event = refl; act = λ find. refl; takes = λ lines. tt })
  host_step_is moment host (Drops line) w = inl (record { said = refl; number = refl; event = refl; act = λ find. refl; takes = λ lines. tt })
  host_step_is moment host (Answers line) w = inl (record { said = refl; number = refl; event = refl; act = λ find. refl; takes = λ lines. tt })

  step_is : (moment : ℕ) (step : Step tcp_shape) → IsWhole step → IsHidden h moment step ⊎ IsLine h moment step
  step_is moment (Begin line t call) w =
      inr (record {
        line = _;
        said = refl;
        number = refl;
        moment_is = refl;
        event = refl;
        act = λ find at. ap (looked_up extras.Bare) at;
        takes = λ lines at. (_, at, refl);
      })
  step_is moment (Finish line t answer) w =
      inr (record {
        line = _;
        said = refl;
        number = refl;
        moment_is = refl;
        event = refl;
        act = λ find at. ap (looked_up extras.Bare) at;
        takes = λ lines at. (_, at, refl);
      })
  step_is moment (Effect t answer) w = inl (record { said = refl; number = refl; event = refl; act = λ find. refl; takes = λ lines. tt })
  step_is moment (At host d) w = host_step_is moment host d w

  -- a line that is heard of a host that is not recorded is not permitted where both are
  host_step_whole : (host : Host) (moment : ℕ) (far : List (ℕ × Emission)) (x : HostState tcp_shape) (d : HostStep tcp_shape)
      → first_broken (host_step_rules (tcp h) host moment far x d) ≡ None → IsWholeHostStep d
  host_step_whole host moment far x (Hears line wire) may =
      none-some rules.NoEmission (sym may ∙ ap (λ (b : Bool). first_broken (just rules.NoEmission (not b))) both)
  host_step_whole host moment far x (Does y) may = tt
  host_step_whole host moment far x (Expires line y) may = tt
  host_step_whole host moment far x (Makes plan) may = tt
  host_step_whole host moment far x (Sends line number wire) may = tt
  host_step_whole host moment far x (Gets line copied wire) may = tt
  host_step_whole host moment far x (Takes line choice) may = tt
  host_step_whole host moment far x (Drops line) may = tt
  host_step_whole host moment far x (Answers line) may = tt

  step_whole : (moment : ℕ) (w : World tcp_shape) (step : Step tcp_shape) → Permitted (tcp h) moment w step → IsWhole step
  step_whole moment w (Begin line t call) may = tt
  step_whole moment w (Finish line t answer) may = tt
  step_whole moment w (Effect t answer) may = tt
  step_whole moment w (At host d) may = host_step_whole host moment (pick w.hosts (other host)).wire (pick w.hosts host) d may

-- ---- all steps

-- all name what they copy
abbrev pub AllWhole : List (Stamped tcp_shape) → Type 0
AllWhole [] = Unit {0}
AllWhole (x ∷ xs) = IsWhole x.step × AllWhole xs

pub run_whole : (h : Header) → is_half h.version ≡ false → (w : World tcp_shape) (xs : List (Stamped tcp_shape)) → Lawful (tcp h) w xs → AllWhole xs
run_whole h both w [] run = tt
run_whole h both w (x ∷ xs) run = (step_whole h both x.moment w x.step run.0, run_whole h both (after (tcp h) x.moment w x.step) xs run.1)

recorded_less : (n a b : ℕ) (lines : List Line) → a ≤ b → IsRecorded n b lines → IsRecorded n a lines
recorded_less n a b [] le r = tt
recorded_less n a b (line ∷ lines) le r = (r.0, (let up : b ≤ line.moment = r.1 in omega (arith, le)), r.2)

-- a line's step in front
in_front : (h : Header) (n m : ℕ) (step : Step tcp_shape) (xs : List (Stamped tcp_shape))
    → step_line (tcp h) step ≡ Some m
    → If (step_line (tcp h) step) (LinesRise (tcp h) n xs) (λ line. (line ≡ n) × LinesRise (tcp h) (suc n) xs)
    → (m ≡ n) × LinesRise (tcp h) (n + 1) xs
in_front h n m step xs is r =
    let s : (m ≡ n) × LinesRise (tcp h) (suc n) xs =
    subst (λ (o : Option ℕ). If o (LinesRise (tcp h) n xs) (λ line. (line ≡ n) × LinesRise (tcp h) (suc n) xs)) is
    r in
    let z : suc n ≡ n + 1 = omega arith in
    (s.0, subst (λ (k : ℕ). LinesRise (tcp h) k xs) z s.1)

not_in_front : (h : Header) (n : ℕ) (step : Step tcp_shape) (xs : List (Stamped tcp_shape))
    → step_line (tcp h) step ≡ None
    → If (step_line (tcp h) step) (LinesRise (tcp h) n xs) (λ line. (line ≡ n) × LinesRise (tcp h) (suc n) xs)
    → LinesRise (tcp h) n xs
not_in_front h n step xs is r = subst (λ (o : Option ℕ). If o (LinesRise (tcp h) n xs) (λ line. (line ≡ n) × LinesRise (tcp h) (suc n) xs)) is r

pub recorded_in : (h : Header) → is_half h.version ≡ false → (n b : ℕ) (xs : List (Stamped tcp_shape)) → AllWhole xs
    → LinesRise (tcp h) n xs → MomentsRise (tcp h) b xs → IsRecorded n b (lines_said xs)
recorded_in h both n b [] w rise moments = tt
recorded_in h both n b (x ∷ xs) w rise moments = go (step_is h both x.moment x.step w.0) (λ m r. recorded_in h both m x.moment xs w.1 r moments.1)
  where
    go : IsHidden h x.moment x.step ⊎ IsLine h x.moment x.step
        → ((m : ℕ) → LinesRise (tcp h) m xs → IsRecorded m x.moment (lines_said xs))
        → IsRecorded n b (lines_said (x ∷ xs))
    go (inl k) rest =
        subst (λ (o : Option Line). IsRecorded n b (on o (lines_said xs) (λ line. line ∷ lines_said xs))) (sym k.said)
        (recorded_less n b x.moment (lines_said xs) moments.0 (rest n (not_in_front h n x.step xs k.number rise)))
    go (inr k) rest =
        let f = in_front h n k.line.number x.step xs k.number rise in
        subst (λ (o : Option Line). IsRecorded n b (on o (lines_said xs) (λ line. line ∷ lines_said xs))) (sym k.said) (
          f.0,
          (let le : b ≤ x.moment = moments.0 in let same : k.line.moment ≡ x.moment = k.moment_is in
              omega (arith, le, same)),
          subst (λ (m : ℕ). IsRecorded (n + 1) m (lines_said xs)) (sym k.moment_is)
              (rest (n + 1) f.1),
        )

pub lines_are : (h : Header) → is_half h.version ≡ false → (xs : List (Stamped tcp_shape)) → AllWhole xs
    → map line_told (lines_said xs) ≡ placing.lines_of (tcp h) xs
lines_are h both [] w = refl
lines_are h both (x ∷ xs) w = go (step_is h both x.moment x.step w.0) (lines_are h both xs w.1)
  where
    go : IsHidden h x.moment x.step ⊎ IsLine h x.moment x.step
        → map line_told (lines_said xs) ≡ placing.lines_of (tcp h) xs
        → map line_told (lines_said (x ∷ xs)) ≡ placing.lines_of (tcp h) (x ∷ xs)
    go (inl k) rest =
        ap (λ (o : Option Line). map line_told (on o (lines_said xs) (λ line. line ∷ lines_said xs))) k.said ∙ rest
        ∙ ap (λ (o : Option (placing.Event tcp_shape)).
        on o (placing.lines_of (tcp h) xs)
        (λ e. record { moment = x.moment; event = e } ∷ placing.lines_of (tcp h) xs)) (sym k.event)
    go (inr k) rest =
        ap (λ (o : Option Line). map line_told (on o (lines_said xs) (λ line. line ∷ lines_said xs))) k.said
        ∙ ap (λ (m : ℕ). let p : placing.Line tcp_shape =
        record { moment = m; event = event_told k.line.thread k.line.event } in p ∷ map line_told (lines_said xs))
        k.moment_is
        ∙ ap (λ (ls : List (placing.Line tcp_shape)). record { moment = x.moment; event = event_told k.line.thread k.line.event } ∷ ls) rest
        ∙ ap (λ (o : Option (placing.Event tcp_shape)).
        on o (placing.lines_of (tcp h) xs)
        (λ e. record { moment = x.moment; event = e } ∷ placing.lines_of (tcp h) xs)) (sym k.event)

-- these lines are found among all
abbrev Finds : Header → List Line → ℕ → List Line → Type 0
Finds h all n lines = (m : ℕ) (line : Line) → lookup (nat_eq m) (enumerate_from n lines) ≡ Some line → line_at h all m ≡ Some line

above : (k n : ℕ) (lines : List Line) (line : Line) → lookup (nat_eq n) (enumerate_from k lines) ≡ Some line → k ≤ n
above k n [] line at = absurd (none-some line at)
above k n (x ∷ lines) line at = go (nat_eq n k) refl (λ a. above (k + 1) n lines line a)
  where
    go : (b : Bool) → nat_eq n k ≡ b → (lookup (nat_eq n) (enumerate_from (k + 1) lines) ≡ Some line → k + 1 ≤ n) → k ≤ n
    go true is rest = let same : n ≡ k = grind (arith, nat_tests, is) in omega arith
    go false is rest = let up : k + 1 ≤ n = rest (rw is at at) in omega arith

finds_first : (h : Header) (all : List Line) (n : ℕ) (line : Line) (lines : List Line) → Finds h all n (line ∷ lines) → line_at h all n ≡ Some line
finds_first h all n line lines finds = let self : nat_eq n n ≡ true = grind (arith, nat_tests) in finds n line (rw self refl)

finds_rest : (h : Header) (all : List Line) (n : ℕ) (line : Line) (lines : List Line) → Finds h all n (line ∷ lines) → Finds h all (n + 1) lines
finds_rest h all n line lines finds m l at =
    let up : n + 1 ≤ m = above (n + 1) m lines l at in
    let apart : nat_eq m n ≡ false = grind (arith, nat_tests) in
    finds m l (rw apart at)

pub told_from : (h : Header) → is_half h.version ≡ false → (all : List Line) (n : ℕ) (xs : List (Stamped tcp_shape))
    → AllWhole xs → LinesRise (tcp h) n xs → Finds h all n (lines_said xs)
    → (stamped h all (steps_said xs) ≡ xs) × AllTakeWell h all (steps_said xs)
told_from h both all n [] w rise finds = (refl, tt)
told_from h both all n (x ∷ xs) w rise finds = go (step_is h both x.moment x.step w.0) (λ m r f. told_from h both all m xs w.1 r f)
  where
    go : IsHidden h x.moment x.step ⊎ IsLine h x.moment x.step
        → ((m : ℕ) → LinesRise (tcp h) m xs → Finds h all m (lines_said xs)
        → (stamped h all (steps_said xs) ≡ xs) × AllTakeWell h all (steps_said xs))
        → (stamped h all (steps_said (x ∷ xs)) ≡ x ∷ xs) × AllTakeWell h all (steps_said (x ∷ xs))
    go (inl k) rest =
        let here : Finds h all n (lines_said xs) =
        subst (λ (o : Option Line). Finds h all n (on o (lines_said xs) (λ line. line ∷ lines_said xs))) k.said
        finds in
        let more = rest n (not_in_front h n x.step xs k.number rise) here in (
          ap (λ (o : Option (Step tcp_shape)).
              cons_option (option_map (λ step. record { moment = x.moment; step = step }) o)
              (stamped h all (steps_said xs))) (k.act (line_at h all))
              ∙ ap (λ (ys : List (Stamped tcp_shape)). x ∷ ys) more.0,
          (k.takes all, more.1),
        )
    go (inr k) rest =
        let f = in_front h n k.line.number x.step xs k.number rise in
        let here : Finds h all n (k.line ∷ lines_said xs) =
        subst (λ (o : Option Line). Finds h all n (on o (lines_said xs) (λ line. line ∷ lines_said xs))) k.said
        finds in
        let more = rest (n + 1) f.1 (finds_rest h all n k.line (lines_said xs) here) in
        let at : line_at h all k.line.number ≡ Some k.line =
        subst (λ (m : ℕ). line_at h all m ≡ Some k.line) (sym f.0)
        (finds_first h all n k.line (lines_said xs) here) in (
          ap (λ (o : Option (Step tcp_shape)).
              cons_option (option_map (λ step. record { moment = x.moment; step = step }) o)
              (stamped h all (steps_said xs))) (k.act (line_at h all) at)
              ∙ ap (λ (ys : List (Stamped tcp_shape)). x ∷ ys) more.0,
          (k.takes all at, more.1),
        )
