-- A witness that explains its trace, place by place: what is known before each step, and what the step does to it.
use Rattle.std.proofs.Common.{◌≡◌, ℕ, zero, suc, ◌<◌, ◌≤◌, ◌⊎◌, inl, inr, List, [], ◌∷◌, length, take, Option, Some, None, refl, ap, sym, subst, ◌∙◌, arith}
use Rattle.std.specs.Prelude.{Bool, false, if◌then◌else◌, slice_get, get_or, true}
use Rattle.std.specs.List.{AllByRecursion, cons_option}
use Rattle.std.specs.Option.{option_map_or}
use Rattle.std.proofs.Math.Nat.{eq-or-lt_of_le}
use Rattle.std.proofs.lemmas.Option.{none-some, same_Some, slice_get_cases}
use Rattle.case_forms.specs.Versions.{says_sender}
use Rattle.case_forms.specs.declared.trace.Header.{Header}
use Rattle.case_forms.specs.declared.trace.Line.{Line}
use Rattle.case_forms.specs.declared.trace.Trace.{Trace}
use Rattle.case_forms.specs.declared.steps.Step.{Step}
use Rattle.case_forms.specs.declared.steps.Witness.{Witness}
use Rattle.verdict.specs.Rules.{first_broken}
use Rattle.verdict.proofs.RuleLemmas.{none_all}
use Rattle.spec_network.specs.Hosts.{Stamped, World}
use Rattle.spec_network.specs.HostRules.{Permitted}
use Rattle.spec_network.specs.HostSteps.{after, after_all, Lawful}
use Rattle.spec_network.specs.Tables.{on}
use Rattle.spec_tcp.specs.Machine.{tcp, tcp_shape}
use Rattle.spec_cases.specs.Cases.{Known, Dutiful, first_known, known_after, known_after_all, shown, untrue_at, watch_rules, with_waits}
use Rattle.spec_duties.specs.Observations.{observe, view_in}
use Rattle.spec_duties.specs.Watching.{Duties, built_after, built_by, counts_now, drops_needed, duty_rules, duties_after, inbox_after, listening_after}
use Rattle.spec_duties.specs.Watching.{owed_table_after, sent_by, strict_table_after, unsent_after, untrue_rules}
use Rattle.spec_duties.specs.declared.observations.Observation.{Observation}
use Rattle.checker.specs.Seen.{act_of, stamped}
use Rattle.kept_duties.specs.Happens.{act_at, known_before, world_before}
use Rattle.kept_duties.proofs.Excused.{Sees, built_seen, judged_by, listening_seen, rules_seen, sees}

-- an induction from one place up to another
pub onward : (P : ℕ → Type 0) (from n : ℕ) → from ≤ n → P from → ((j : ℕ) → from ≤ j → j < n → P j → P (suc j)) → P n
onward P from zero le p more = subst P (let e : from ≡ zero = omega arith in e) p
onward P from (suc n) le p more =
    by (eq-or-lt_of_le le) (λ low. onward P from n low p (λ j a b. more j a (omega (arith, b))))
  where
    by : (from ≡ suc n) ⊎ (from < suc n) → (from ≤ n → P n) → P (suc n)
    by (inl same) before = subst P same p
    by (inr less) before = let low : from ≤ n = omega (arith, less) in more n low (omega arith) (before low)

-- a step that is permitted and that no duty refuses: what it makes of what is known. Duties see what timestamps excuse
pub record Goes (h : Header) (slack : ℕ) (k next : Known) (x : Stamped tcp_shape) : Type 0 where
  pub permitted : Permitted (tcp h) x.moment k.model x.step
  pub sees : Sees h (observe h x.moment k.model x.step) (shown h x.moment k x.step)
  pub dropped : drops_needed k.duties (shown h x.moment k x.step).dropping ≡ false
  pub dutiful : AllByRecursion (λ r. r.1 ≡ false)
      (duty_rules h slack x.moment k.duties (untrue_at h x.moment k x.step) (record (observe h x.moment k.model x.step) { dropping = None }))
  pub model : next.model ≡ after (tcp h) x.moment k.model x.step
  pub owed : next.duties.owed
      ≡ on (judged_by sees.judge (observe h x.moment k.model x.step).touched) k.duties.owed
      (owed_table_after (view_in (after (tcp h) x.moment k.model x.step) (judged_by sees.judge (observe h x.moment k.model x.step).touched)) x.moment
      (counts_now (built_by k.duties (observe h x.moment k.model x.step).built_change)) k.duties)
  pub built : next.duties.built
      ≡ built_after (view_in (after (tcp h) x.moment k.model x.step) (observe h x.moment k.model x.step).touched) x.moment
      (observe h x.moment k.model x.step).touched (observe h x.moment k.model x.step).built_change k.duties.built
  pub inbox : next.duties.inbox ≡ inbox_after x.moment (observe h x.moment k.model x.step).inbox_change k.duties.inbox
  pub listening : next.duties.listening
      ≡ listening_after (view_in (after (tcp h) x.moment k.model x.step) (observe h x.moment k.model x.step).touched) x.moment
      (observe h x.moment k.model x.step) k.duties.listening
  -- what the stricter duties of version 6 keep, by what duties see
  pub strict : says_sender h.version ≡ true → next.duties.strict
      ≡ on (judged_by sees.judge (observe h x.moment k.model x.step).touched) k.duties.strict
      (strict_table_after (view_in (after (tcp h) x.moment k.model x.step) (judged_by sees.judge (observe h x.moment k.model x.step).touched)) x.moment
      k.duties (sent_by k.duties (observe h x.moment k.model x.step).built_change) (observe h x.moment k.model x.step).sampling)
  pub unsent : says_sender h.version ≡ true → next.duties.unsent
      ≡ unsent_after (view_in (after (tcp h) x.moment k.model x.step) (judged_by sees.judge (observe h x.moment k.model x.step).touched)) x.moment
      k.duties (judged_by sees.judge (observe h x.moment k.model x.step).touched) (observe h x.moment k.model x.step).built_change

-- a step that does something in the model; another changes nothing
abbrev pub Steps : Header → (slack : ℕ) → (k next : Known) → Option (Stamped tcp_shape) → Type 0
Steps h slack k next None = next ≡ k
Steps h slack k next (Some x) = Goes h slack k next x

-- the acts of a run by their places, and what is known before each
pub record Run (h : Header) (slack n : ℕ) (acts : ℕ → Option (Stamped tcp_shape)) (known : ℕ → Known) : Type 0 where
  pub start : known 0 ≡ first_known h
  pub each : (j : ℕ) → j < n → Steps h slack (known j) (known (suc j)) (acts j)

-- what holds of the acts up to a place
pub run_goes : (h : Header) (slack n : ℕ) (acts : ℕ → Option (Stamped tcp_shape)) (known : ℕ → Known) → Run h slack n acts known
    → (j : ℕ) (x : Stamped tcp_shape) → j < n → acts j ≡ Some x → Goes h slack (known j) (known (suc j)) x
run_goes h slack n acts known r j x low is = subst (λ o. Steps h slack (known j) (known (suc j)) o) is (r.each j low)

-- an invariant of a run holds from one place up to another if each act keeps it
pub run_keeps : (h : Header) (slack n : ℕ) (acts : ℕ → Option (Stamped tcp_shape)) (known : ℕ → Known) → Run h slack n acts known
    → (P : ℕ → Known → Type 0) → ((j : ℕ) (k : Known) → P j k → P (suc j) k)
    → (from to : ℕ) → from ≤ to → to ≤ n → P from (known from)
    → ((j : ℕ) (x : Stamped tcp_shape) → from ≤ j → j < to → acts j ≡ Some x → Goes h slack (known j) (known (suc j)) x
    → P j (known j) → P (suc j) (known (suc j)))
    → P to (known to)
run_keeps h slack n acts known r P weaker from to le high p more =
    onward (λ j. P j (known j)) from to le p (λ j low less q. by j low less (acts j) refl (r.each j (omega (arith, less, high))) q)
  where
    by : (j : ℕ) → from ≤ j → j < to → (o : Option (Stamped tcp_shape)) → acts j ≡ o
        → Steps h slack (known j) (known (suc j)) o → P j (known j) → P (suc j) (known (suc j))
    by j low less None is same q = subst (P (suc j)) (sym same) (weaker j (known j) q)
    by j low less (Some x) is goes q = more j x low less is goes q

module _ (h : Header) (lines : List Line) where
  abbrev next_known : Known → Option (Stamped tcp_shape) → Known
  next_known k act = option_map_or (λ x. known_after h x.moment k x.step) act k

  cons_known : (k : Known) (act : Option (Stamped tcp_shape)) (rest : List (Stamped tcp_shape))
      → known_after_all h k (cons_option act rest) ≡ known_after_all h (next_known k act) rest
  cons_known k None rest = refl
  cons_known k (Some x) rest = refl

  abbrev pub known_from : Known → List Step → ℕ → Known
  known_from k steps place = known_after_all h k (stamped h lines (take place steps))

  known_next : (k : Known) (steps : List Step) (place : ℕ) (s : Step) → slice_get steps place ≡ Some s
      → known_from k steps (suc place) ≡ next_known (known_from k steps place) (act_of h lines s)
  known_next k [] place s at = absurd (none-some s at)
  known_next k (x ∷ steps) zero s at =
      cons_known k (act_of h lines x) [] ∙ ap (λ (y : Step). next_known k (act_of h lines y)) (same_Some x s at)
  known_next k (x ∷ steps) (suc place) s at =
      cons_known k (act_of h lines x) (stamped h lines (take (suc place) steps))
      ∙ known_next (next_known k (act_of h lines x)) steps place s at
      ∙ ap (λ (m : Known). next_known m (act_of h lines s)) (sym (cons_known k (act_of h lines x) (stamped h lines (take place steps))))

  abbrev Keeps : Known → List (Stamped tcp_shape) → Type 0
  Keeps k xs = Lawful (tcp h) k.model xs × Dutiful h k xs

  keeps_rest : (k : Known) (act : Option (Stamped tcp_shape)) (rest : List (Stamped tcp_shape)) → Keeps k (cons_option act rest)
      → Keeps (next_known k act) rest
  keeps_rest k None rest may = may
  keeps_rest k (Some x) rest may = (may.0.1, may.1.1)

  -- an act of a run breaks no rule
  abbrev Breaks_none : Known → Stamped tcp_shape → Type 0
  Breaks_none k x = Permitted (tcp h) x.moment k.model x.step × (first_broken (watch_rules h x.moment k x.step) ≡ None)

  keeps_first : (k : Known) (act : Option (Stamped tcp_shape)) (rest : List (Stamped tcp_shape)) → Keeps k (cons_option act rest)
      → (x : Stamped tcp_shape) → act ≡ Some x → Breaks_none k x
  keeps_first k None rest may x is = absurd (none-some x is)
  keeps_first k (Some y) rest may x is = subst (Breaks_none k) (same_Some y x is) (may.0.0, may.1.0.duties)

  keeps_at : (k : Known) (steps : List Step) → Keeps k (stamped h lines steps) → (place : ℕ) (s : Step) → slice_get steps place ≡ Some s
      → (x : Stamped tcp_shape) → act_of h lines s ≡ Some x → Breaks_none (known_from k steps place) x
  keeps_at k [] may place s at x is = absurd (none-some s at)
  keeps_at k (y ∷ steps) may zero s at x is =
      keeps_first k (act_of h lines y) (stamped h lines steps) may x (ap (act_of h lines) (same_Some y s at) ∙ is)
  keeps_at k (y ∷ steps) may (suc place) s at x is =
      subst (λ (m : Known). Breaks_none m x) (sym (cons_known k (act_of h lines y) (stamped h lines (take place steps))))
      (keeps_at (next_known k (act_of h lines y)) steps (keeps_rest k (act_of h lines y) (stamped h lines steps) may) place s at x is)

  goes_at : (slack : ℕ) → h.slack ≡ Some slack → (k next : Known) (x : Stamped tcp_shape) → Breaks_none k x
      → next ≡ known_after h x.moment k x.step → Goes h slack k next x
  goes_at slack given k next x may is = record {
    permitted = may.0;
    sees = seen;
    dropped = fine.0;
    dutiful = (
      refl,
      (
        rest.1.0,
        (
          rest.1.1.0,
          (
            rest.1.1.1.0,
            rules_seen seen.judge seen.alike h slack x.moment k.duties (counts_now (built_by k.duties s.built_change)) (untrue_at h x.moment k x.step)
                (sent_by k.duties s.built_change) s.sampling s.call_change s.touched rest.1.1.1.1,
          ),
        ),
      ),
    );
    model = ap (λ (m : Known). m.model) is;
    owed =
        ap (λ (d : Duties). d.owed) noted
        ∙ ap (λ (e : Observation). on e.touched k.duties.owed (owed_table_after (view_in w e.touched) x.moment
        (counts_now (built_by k.duties e.built_change)) k.duties)) seen.is;
    built =
        ap (λ (d : Duties). d.built) noted
        ∙ ap (λ (e : Observation). built_after (view_in w e.touched) x.moment e.touched e.built_change k.duties.built) seen.is
        ∙ built_seen seen.judge seen.alike w x.moment s.touched s.built_change k.duties.built;
    inbox =
        ap (λ (d : Duties). d.inbox) noted ∙ ap (λ (e : Observation). inbox_after x.moment e.inbox_change k.duties.inbox) seen.is;
    listening =
        ap (λ (d : Duties). d.listening) noted
        ∙ ap (λ (e : Observation). listening_after (view_in w e.touched) x.moment e k.duties.listening) seen.is
        ∙ listening_seen seen.judge seen.alike w x.moment s.touched s.queueing k.duties.listening;
    strict = λ six.
        ap (λ (d : Duties). d.strict) noted
        ∙ ap (λ (b : Bool). if b then on e.touched k.duties.strict (strict_table_after (view_in w e.touched) x.moment k.duties
        (sent_by k.duties e.built_change) e.sampling) else k.duties.strict) six
        ∙ ap (λ (e : Observation). on e.touched k.duties.strict (strict_table_after (view_in w e.touched) x.moment k.duties
        (sent_by k.duties e.built_change) e.sampling)) seen.is;
    unsent = λ six.
        ap (λ (d : Duties). d.unsent) noted
        ∙ ap (λ (b : Bool). if b then unsent_after (view_in w e.touched) x.moment k.duties e.touched e.built_change else k.duties.unsent) six
        ∙ ap (λ (e : Observation). unsent_after (view_in w e.touched) x.moment k.duties e.touched e.built_change) seen.is;
  }
    where
      w : World tcp_shape
      w = after (tcp h) x.moment k.model x.step

      s : Observation
      s = observe h x.moment k.model x.step

      e : Observation
      e = shown h x.moment k x.step

      seen : Sees h s e
      seen = sees h k.flights s

      All : Observation → Type 0
      All e = AllByRecursion (λ r. r.1 ≡ false) (duty_rules h slack x.moment k.duties (untrue_at h x.moment k x.step) e)

      fine : All e
      fine =
          none_all (duty_rules h slack x.moment k.duties (untrue_at h x.moment k x.step) e)
          (sym (ap (λ o. first_broken (on o (untrue_rules (untrue_at h x.moment k x.step))
          (λ slack. duty_rules h slack x.moment k.duties (untrue_at h x.moment k x.step) e))) given) ∙ may.1)

      rest : All (record s { touched = judged_by seen.judge s.touched; dropping = e.dropping; earns = e.earns })
      rest = subst All seen.is fine

      noted : next.duties
          ≡ with_waits (says_sender h.version) x.moment w e (duties_after (says_sender h.version) slack (view_in w e.touched) x.moment e k.duties)
      noted =
          ap (λ (m : Known). m.duties) is
          ∙ ap (λ o. on o k.duties (λ slack. with_waits (says_sender h.version) x.moment w e
          (duties_after (says_sender h.version) slack (view_in w e.touched) x.moment e k.duties))) given

  model_after : (k : Known) (xs : List (Stamped tcp_shape)) → (known_after_all h k xs).model ≡ after_all (tcp h) k.model xs
  model_after k [] = refl
  model_after k (x ∷ xs) = model_after (known_after h x.moment k x.step) xs

-- the model's part of what is known is its world
pub world_is : (t : Trace) (w : Witness) (place : ℕ) → (known_before t w place).model ≡ world_before t w place
world_is t w place = model_after t.header t.lines (first_known t.header) (stamped t.header t.lines (take place w.steps))

-- steps that are a run of the model, and that no duty refuses
pub run_of : (t : Trace) (w : Witness) (slack : ℕ) → t.header.slack ≡ Some slack
    → Lawful (tcp t.header) (first_known t.header).model (stamped t.header t.lines w.steps)
    → Dutiful t.header (first_known t.header) (stamped t.header t.lines w.steps) → Run t.header slack (length w.steps) (act_at t w) (known_before t w)
run_of t w slack given lawful dutiful = record { start = refl; each = λ j low. by j low (slice_get w.steps j) refl }
  where
    at : (j : ℕ) (s : Step) → slice_get w.steps j ≡ Some s → (o : Option (Stamped tcp_shape)) → act_of t.header t.lines s ≡ o
        → Steps t.header slack (known_before t w j) (known_before t w (suc j)) o
    at j s there None is =
        known_next t.header t.lines (first_known t.header) w.steps j s there ∙ ap (next_known t.header t.lines (known_before t w j)) is
    at j s there (Some x) is =
        goes_at t.header t.lines slack given (known_before t w j) (known_before t w (suc j)) x
        (keeps_at t.header t.lines (first_known t.header) w.steps (lawful, dutiful) j s there x is)
        (known_next t.header t.lines (first_known t.header) w.steps j s there ∙ ap (next_known t.header t.lines (known_before t w j)) is)

    by : (j : ℕ) → j < length w.steps → (o : Option Step) → slice_get w.steps j ≡ o
        → Steps t.header slack (known_before t w j) (known_before t w (suc j)) (option_map_or (act_of t.header t.lines) o None)
    by j low (Some s) there = at j s there (act_of t.header t.lines s) refl
    by j low None there = absurd (here (slice_get_cases w.steps j).1)
      where
        here : ((x : Step) × (j < length w.steps) × (slice_get w.steps j ≡ Some x) × (get_or w.steps j x ≡ x))
            ⊎ ((length w.steps ≤ j) × (slice_get w.steps j ≡ None)) → ⊥
        here (inl p) = none-some p.0 (sym there ∙ p.2)
        here (inr p) = omega (arith, low, p.0)
