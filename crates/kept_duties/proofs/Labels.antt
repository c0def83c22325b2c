-- What the model's act of a step says of the step's label and line, and the other way round.
use Rattle.std.proofs.Common.{◌≡◌, ℕ, ◌+◌, ◌⊎◌, inl, inr, Bool, true, false, List, [], ◌∷◌, Option, Some, None, refl, ap, sym, ◌∙◌, nat_eq}
use Rattle.std.proofs.Common.{arith}
use Rattle.std.specs.List.{enumerate_from}
use Rattle.std.specs.Map.{lookup}
use Rattle.std.proofs.lemmas.Bool.Decides.{nat_tests}
use Rattle.std.specs.Prelude.{if◌then◌else◌, slice_get}
use Rattle.std.specs.Option.{option_map, option_map_or}
use Rattle.std.proofs.lemmas.Option.{none-some, same_Some, slice_get-map, some_pair_parts}
use Rattle.case_forms.specs.Steps.{extras_count}
use Rattle.case_forms.specs.Versions.{is_half}
use Rattle.case_forms.specs.TakenLines.{event_taken, expired_by, taken_of, timer_of}
use Rattle.case_forms.specs.Traces.{IsRecorded, IsTrace, first_event_line, line_at}
use Rattle.case_forms.specs.declared.calls.Host.{Host}
use Rattle.case_forms.specs.declared.named_line.Extras.{Extras}
use Rattle.case_forms.specs.declared.named_line.Extras.TheVariants.{Bare, One, Two}
use Rattle.case_forms.specs.declared.named_line.NamedLine.{NamedLine}
use Rattle.case_forms.specs.declared.steps.Label.{Label}
use Rattle.case_forms.specs.declared.steps.Label.TheVariants as labels
use Rattle.case_forms.specs.declared.steps.Step.{Step}
use Rattle.case_forms.specs.declared.steps.Witness.{Witness}
use Rattle.case_forms.specs.declared.taken_line.Expired.{Expired}
use Rattle.case_forms.specs.declared.taken_line.Expired.TheVariants as expireds
use Rattle.case_forms.specs.declared.calls.Ports.{Ports}
use Rattle.case_forms.specs.declared.taken_line.TakenLine.{TakenLine}
use Rattle.case_forms.specs.declared.taken_line.TakenLine.TheVariants as taken
use Rattle.case_forms.specs.declared.timer.Timer.{Timer}
use Rattle.case_forms.specs.declared.timer.Timer.TheVariants.{Giveup, Msl2, Persist, Pto, Rto}
use Rattle.case_forms.specs.declared.trace.Event.{Event}
use Rattle.case_forms.specs.declared.trace.Event.TheVariants as events
use Rattle.case_forms.specs.declared.trace.Header.{Header}
use Rattle.case_forms.specs.declared.trace.Line.{Line}
use Rattle.case_forms.specs.declared.trace.Span.{Span}
use Rattle.case_forms.specs.declared.trace.Trace.{Trace}
use Rattle.case_forms.specs.declared.trace.Wire.{Wire}
use Rattle.case_forms.specs.declared.version.Version.{Version}
use Rattle.interval_order.specs.OrderRules.{extras_of}
use Rattle.interval_order.specs.Placed.{Placed, TakesAt}
use Rattle.spec_network.specs.Hosts.{Stamped}
use Rattle.spec_network.specs.Hosts as model
use Rattle.spec_tcp.specs.Machine.{Expiring, tcp_shape}
use Rattle.spec_tcp.specs.Steps.{line_step, step_of}
use Rattle.kept_duties.specs.Happens.{ExpiresAt, act_at}
use Rattle.kept_duties.specs.Places.{ArrivesAt, IsAnswered, IsDropped, IsProcessed, IsStep, LeavesAt, SendsAt, builder}
use Rattle.checker.specs.Seen.{act_of, move_of, moves}
use Rattle.kept_duties.proofs.Observations.{enters, leaves, builds, sends}

-- ---- lines by their numbers

number_is : (k b n : ℕ) (lines : List Line) (line : Line) → IsRecorded k b lines → lookup (nat_eq n) (enumerate_from k lines) ≡ Some line → line.number ≡ n
number_is k b n [] line r at = absurd (none-some line at)
number_is k b n (x ∷ lines) line r at = go (nat_eq n k) refl (λ a. number_is (k + 1) x.moment n lines line r.2 a)
  where
    go : (t : Bool) → nat_eq n k ≡ t → (lookup (nat_eq n) (enumerate_from (k + 1) lines) ≡ Some line → line.number ≡ n) → line.number ≡ n
    go true is rest =
        let e : x ≡ line = same_Some x line (rw is at at) in
        let same : n ≡ k = grind (arith, nat_tests, is) in
        ap (λ (l : Line). l.number) (sym e) ∙ (r.0 ∙ sym same)
    go false is rest = rest (rw is at at)

-- ---- from the line that is taken to the trace's event

from_came : (n thread : ℕ) (e : Event) (x : Extras) (line : ℕ) (host : Host) (copied : ℕ) (wire : Wire)
    → event_taken n thread e x ≡ Some (taken.Came line host copied wire) → (n ≡ line) × (e ≡ events.Came host wire)
from_came n thread (events.Came g w) (One c) line host copied wire is =
    let same : taken.Came n g c w ≡ taken.Came line host copied wire = same_Some _ _ is in (cc, cc)
from_came n thread (events.Came g w) Bare line host copied wire is = absurd cc
from_came n thread (events.Expired g lport rport timer) x line host copied wire is = go (expired_by timer x) is
  where
    go : (o : Option Expired) → option_map (λ e. taken.Expired n g (record { lport = lport; rport = rport }) e) o ≡ Some (taken.Came line host copied wire)
        → (n ≡ line) × (events.Expired g lport rport timer ≡ events.Came host wire)
    go None is = absurd cc
    go (Some e) is = absurd cc
from_came n thread e Bare line host copied wire is = absurd cc
from_came n thread e (One a) line host copied wire is = absurd cc
from_came n thread e (Two a b) line host copied wire is = absurd cc

from_heard : (n thread : ℕ) (e : Event) (x : Extras) (line : ℕ) (host : Host) (wire : Wire)
    → event_taken n thread e x ≡ Some (taken.Heard line host wire) → (n ≡ line) × (e ≡ events.Came host wire)
from_heard n thread (events.Came g w) Bare line host wire is =
    let same : taken.Heard n g w ≡ taken.Heard line host wire = same_Some _ _ is in (cc, cc)
from_heard n thread (events.Expired g lport rport timer) x line host wire is = go (expired_by timer x) is
  where
    go : (o : Option Expired) → option_map (λ e. taken.Expired n g (record { lport = lport; rport = rport }) e) o ≡ Some (taken.Heard line host wire)
        → (n ≡ line) × (events.Expired g lport rport timer ≡ events.Came host wire)
    go None is = absurd cc
    go (Some e) is = absurd cc
from_heard n thread e Bare line host wire is = absurd cc
from_heard n thread e (One a) line host wire is = absurd cc
from_heard n thread e (Two a b) line host wire is = absurd cc

-- ---- what a line's step does

abbrev stamp : ℕ → model.Step tcp_shape → Stamped tcp_shape
stamp moment step = record { moment = moment; step = step }

-- the act of a line, if there is one
abbrev act_taken : ℕ → Option TakenLine → Option (Stamped tcp_shape)
act_taken moment o = option_map (stamp moment) (option_map step_of (option_map (λ (line : TakenLine). labels.L line) o))

-- an act of a line is that of the line as it is taken
act_line : (moment : ℕ) (o : Option TakenLine) (x : Stamped tcp_shape) → act_taken moment o ≡ Some x
    → (line : TakenLine) × (o ≡ Some line) × (stamp moment (line_step line) ≡ x)
act_line moment None x is = absurd (none-some x is)
act_line moment (Some line) x is = (line, refl, same_Some (stamp moment (line_step line)) x is)

line_found_at : (o : Option Line) (x : Extras) (line : TakenLine) → option_map_or (taken_of x) o None ≡ Some line
    → (shown : Line) × (o ≡ Some shown) × (taken_of x shown ≡ Some line)
line_found_at None x line is = absurd (none-some line is)
line_found_at (Some shown) x line is = (shown, refl, is)

entering : (line : TakenLine) (host : Host) (k : ℕ) → enters (line_step line) ≡ Some (host, k)
    → ((copied : ℕ) × (wire : Wire) × (line ≡ taken.Came k host copied wire)) ⊎ ((wire : Wire) × (line ≡ taken.Heard k host wire))
entering (taken.Came n g c w) host k e = let same = some_pair_parts g host n k e in inl (c, w, λ i. taken.Came (same.1 i) (same.0 i) c w)
entering (taken.Heard n g w) host k e = let same = some_pair_parts g host n k e in inr (w, λ i. taken.Heard (same.1 i) (same.0 i) w)
entering line host k e = absurd (none-some (host, k) e)

-- ---- a step with an act, by its place

-- a label whose act does nothing of the kind
not_so : {A : Type 0} (f : model.Step tcp_shape → Option A) (a : A) (moment : ℕ) (step : model.Step tcp_shape) (x : Stamped tcp_shape)
    → f step ≡ None → Some (stamp moment step) ≡ Some x → f x.step ≡ Some a → ⊥
not_so f a moment step x none is e =
    let same : stamp moment step ≡ x = same_Some (stamp moment step) x is in
    none-some a (sym none ∙ ap (λ (y : Stamped tcp_shape). f y.step) same ∙ e)

module _ (t : Trace) (w : Witness) (place : ℕ) where
  -- an act by which a segment enters an inbox is an arrival
  pub arrives_at : IsTrace t → (s : Step) → slice_get w.steps place ≡ Some s → (x : Stamped tcp_shape) → act_of t.header t.lines s ≡ Some x
      → (host : Host) (k : ℕ) → enters x.step ≡ Some (host, k) → ArrivesAt t w place x.moment host k
  arrives_at trace s here x is host k comes = at s.moment s.label s.span here is
    where
      found : (moment : ℕ) (named : NamedLine) (span : Span) → slice_get w.steps place ≡ Some (record { moment = moment; label = labels.L named; span = span })
          → (line : TakenLine) → stamp moment (line_step line) ≡ x → (shown : Line) → line_at t.header t.lines named.number ≡ Some shown
          → taken_of named.extras shown ≡ Some line
          → ((copied : ℕ) × (wire : Wire) × (line ≡ taken.Came k host copied wire)) ⊎ ((wire : Wire) × (line ≡ taken.Heard k host wire))
          → ArrivesAt t w place x.moment host k
      found moment named span here line acts shown there takes which = by which
        where
          make : (wire : Wire) → shown.number ≡ k → shown.event ≡ events.Came host wire → ArrivesAt t w place x.moment host k
          make wire number event =
              let same : named.number ≡ k = sym (number_is (first_event_line t.header) 0 named.number t.lines shown trace there) ∙ number in
              let time : moment ≡ x.moment = ap (λ (y : Stamped tcp_shape). y.moment) acts in
              record {
                extras = named.extras;
                shown = shown;
                wire = wire;
                step = record {
                  span = span;
                  here = here ∙ (λ i. Some (record { moment = time i; label = labels.L (record { number = same i; extras = named.extras }); span = span }));
                };
                is = ap (line_at t.header t.lines) (sym same) ∙ there;
                arrives = event;
              }

          by : ((copied : ℕ) × (wire : Wire) × (line ≡ taken.Came k host copied wire)) ⊎ ((wire : Wire) × (line ≡ taken.Heard k host wire))
              → ArrivesAt t w place x.moment host k
          by (inl p) =
              let q = from_came shown.number shown.thread shown.event named.extras k host p.0 p.1
              (takes ∙ ap (λ (l : TakenLine). Some l) p.2) in make p.1 q.0 q.1
          by (inr p) =
              let q = from_heard shown.number shown.thread shown.event named.extras k host p.0 (takes ∙ ap (λ (l : TakenLine). Some l) p.1) in make p.0 q.0 q.1

      at : (moment : ℕ) (label : Label NamedLine) (span : Span) → slice_get w.steps place ≡ Some (record { moment = moment; label = label; span = span })
          → act_of t.header t.lines (record { moment = moment; label = label; span = span }) ≡ Some x → ArrivesAt t w place x.moment host k
      at moment (labels.L named) span here is =
          let a = act_line moment (option_map_or (taken_of named.extras) (line_at t.header t.lines named.number) None) x is in
          let l = line_found_at (line_at t.header t.lines named.number) named.extras a.0 a.1 in
          found moment named span here a.0 a.2 l.0 l.1 l.2 (entering a.0 host k (ap (λ (y : Stamped tcp_shape). enters y.step) a.2 ∙ comes))
      at moment (labels.D thread answer) span here is = absurd (not_so enters (host, k) moment (model.Effect thread answer) x refl is comes)
      at moment (labels.M g plan) span here is = absurd (not_so enters (host, k) moment (model.At g (model.Makes plan)) x refl is comes)
      at moment (labels.T g line choice) span here is = absurd (not_so enters (host, k) moment (model.At g (model.Takes line choice)) x refl is comes)
      at moment (labels.K g line) span here is = absurd (not_so enters (host, k) moment (model.At g (model.Drops line)) x refl is comes)
      at moment (labels.R g line) span here is = absurd (not_so enters (host, k) moment (model.At g (model.Answers line)) x refl is comes)
      at moment (labels.F g recovery) span here is = absurd (not_so enters (host, k) moment (model.At g (model.Does recovery)) x refl is comes)

  -- an act by which one leaves it is a `T`, `K` or `R` step
  pub leaves_at : (s : Step) → slice_get w.steps place ≡ Some s → (x : Stamped tcp_shape) → act_of t.header t.lines s ≡ Some x
      → (host : Host) (k : ℕ) → leaves x.step ≡ Some (host, k) → LeavesAt w place x.moment host k
  leaves_at s here x is host k takes = at s.moment s.label s.span here is
    where
      no_line : (line : TakenLine) → leaves (line_step line) ≡ None
      no_line (taken.CallBegin line thread call) = refl
      no_line (taken.CallEnd line thread answer) = refl
      no_line (taken.Sent line g made wire) = refl
      no_line (taken.Came line g copied wire) = refl
      no_line (taken.Heard line g wire) = refl
      no_line (taken.Expired line g ports e) = refl

      parts : (g : Host) (line moment : ℕ) (step : model.Step tcp_shape) → leaves step ≡ Some (g, line) → Some (stamp moment step) ≡ Some x
          → (g ≡ host) × (line ≡ k) × (moment ≡ x.moment)
      parts g line moment step of is =
          let same : stamp moment step ≡ x = same_Some (stamp moment step) x is in
          let p = some_pair_parts g host line k (sym of ∙ ap (λ (y : Stamped tcp_shape). leaves y.step) same ∙ takes) in
          (p.0, p.1, ap (λ (y : Stamped tcp_shape). y.moment) same)

      at : (moment : ℕ) (label : Label NamedLine) (span : Span) → slice_get w.steps place ≡ Some (record { moment = moment; label = label; span = span })
          → act_of t.header t.lines (record { moment = moment; label = label; span = span }) ≡ Some x → LeavesAt w place x.moment host k
      at moment (labels.L named) span here is =
          let a = act_line moment (option_map_or (taken_of named.extras) (line_at t.header t.lines named.number) None) x is in
          absurd (none-some (host, k) (sym (no_line a.0) ∙ ap (λ (y : Stamped tcp_shape). leaves y.step) a.2 ∙ takes))
      at moment (labels.D thread answer) span here is = absurd (not_so leaves (host, k) moment (model.Effect thread answer) x refl is takes)
      at moment (labels.M g plan) span here is = absurd (not_so leaves (host, k) moment (model.At g (model.Makes plan)) x refl is takes)
      at moment (labels.T g line choice) span here is =
          let p = parts g line moment (model.At g (model.Takes line choice)) refl is in
          IsProcessed choice (record {
            span = span;
            here = here ∙ (λ i. Some
                (record { moment = p.2 i; label = labels.T (p.0 i) (p.1 i) choice; span = span }));
          })
      at moment (labels.K g line) span here is =
          let p = parts g line moment (model.At g (model.Drops line)) refl is in
          IsDropped (record { span = span; here = here ∙ (λ i. Some (record { moment = p.2 i; label = labels.K (p.0 i) (p.1 i); span = span })) })
      at moment (labels.R g line) span here is =
          let p = parts g line moment (model.At g (model.Answers line)) refl is in
          IsAnswered (record { span = span; here = here ∙ (λ i. Some (record { moment = p.2 i; label = labels.R (p.0 i) (p.1 i); span = span })) })
      at moment (labels.F g recovery) span here is = absurd (not_so leaves (host, k) moment (model.At g (model.Does recovery)) x refl is takes)

-- whoever builds by an act builds by the label
no_line_builds : (line : TakenLine) → builds (line_step line) ≡ None
no_line_builds (taken.CallBegin line thread call) = refl
no_line_builds (taken.CallEnd line thread answer) = refl
no_line_builds (taken.Sent line g made wire) = refl
no_line_builds (taken.Came line g copied wire) = refl
no_line_builds (taken.Heard line g wire) = refl
no_line_builds (taken.Expired line g ports e) = refl

pub builder_is : (h : Header) (lines : List Line) (s : Step) (x : Stamped tcp_shape) → act_of h lines s ≡ Some x
    → (builder s.label ≡ builds x.step) × (s.moment ≡ x.moment)
builder_is h lines s x is = at s.moment s.label s.span is
  where
    plain : (moment : ℕ) (step : model.Step tcp_shape) (o : Option Host) → o ≡ builds step → Some (stamp moment step) ≡ Some x
        → (o ≡ builds x.step) × (moment ≡ x.moment)
    plain moment step o of is =
        let same : stamp moment step ≡ x = same_Some (stamp moment step) x is in
        (of ∙ ap (λ (y : Stamped tcp_shape). builds y.step) same, ap (λ (y : Stamped tcp_shape). y.moment) same)

    at : (moment : ℕ) (label : Label NamedLine) (span : Span) → act_of h lines (record { moment = moment; label = label; span = span }) ≡ Some x
        → (builder label ≡ builds x.step) × (moment ≡ x.moment)
    at moment (labels.L named) span is =
        let a = act_line moment (option_map_or (taken_of named.extras) (line_at h lines named.number) None) x is in
        plain moment (line_step a.0) None (sym (no_line_builds a.0)) (ap (λ (y : Stamped tcp_shape). Some y) a.2)
    at moment (labels.D thread answer) span is = plain moment (model.Effect thread answer) None refl is
    at moment (labels.M g plan) span is = plain moment (model.At g (model.Makes plan)) (Some g) refl is
    at moment (labels.T g line choice) span is = plain moment (model.At g (model.Takes line choice)) None refl is
    at moment (labels.K g line) span is = plain moment (model.At g (model.Drops line)) None refl is
    at moment (labels.R g line) span is = plain moment (model.At g (model.Answers line)) (Some g) refl is
    at moment (labels.F g recovery) span is = plain moment (model.At g (model.Does recovery)) None refl is

-- a step without an act takes a line
pub builder_none : (h : Header) (lines : List Line) (s : Step) → act_of h lines s ≡ None → builder s.label ≡ None
builder_none h lines s is = at s.moment s.label s.span is
  where
    at : (moment : ℕ) (label : Label NamedLine) (span : Span) → act_of h lines (record { moment = moment; label = label; span = span }) ≡ None
        → builder label ≡ None
    at moment (labels.L named) span is = refl
    at moment (labels.D thread answer) span is = refl
    at moment (labels.M g plan) span is = absurd (none-some (stamp moment (model.At g (model.Makes plan))) (sym is))
    at moment (labels.T g line choice) span is = refl
    at moment (labels.K g line) span is = refl
    at moment (labels.R g line) span is = absurd (none-some (stamp moment (model.At g (model.Answers line))) (sym is))
    at moment (labels.F g recovery) span is = refl

-- an `O` line that a step takes with a number is the act of sending the segment of that number
pub sending_act : (t : Trace) (w : Witness) (place moment : ℕ) (host : Host) (number : ℕ) → SendsAt t w place moment host number
    → (x : Stamped tcp_shape) × (act_at t w place ≡ Some x) × (x.moment ≡ moment) × (sends x.step ≡ Some (host, number))
sending_act t w place moment host number a = (
  stamp moment (model.At host (model.Sends a.shown.number number a.wire)),
  ap (λ (o : Option Step). option_map_or (act_of t.header t.lines) o None) a.step.here
      ∙ ap (λ (o : Option Line). act_taken moment (option_map_or (taken_of (One number)) o None)) a.is
      ∙ ap (λ (e : Event). act_taken moment (event_taken a.shown.number a.shown.thread e (One number))) a.sends,
  refl,
  refl,
)

-- the order of lines sees the line of an arrival taken
abbrev pub arrival_takes : (t : Trace) (w : Witness) (place moment : ℕ) (host : Host) (line : ℕ) → (a : ArrivesAt t w place moment host line)
    → TakesAt (moves w.steps) place line
arrival_takes t w place moment host line a = record {
  moment = moment;
  extras = extras_count a.extras;
  here = slice_get-map move_of w.steps place ∙ ap (option_map move_of) a.step.here;
}

-- an `I` line that a step takes is the act by which its segment enters the inbox
pub arrival_act : (t : Trace) (w : Witness) → IsTrace t → Placed t.header t.lines (moves w.steps)
    → (place moment : ℕ) (host : Host) (line : ℕ) → ArrivesAt t w place moment host line
    → (x : Stamped tcp_shape) × (act_at t w place ≡ Some x) × (x.moment ≡ moment) × (enters x.step ≡ Some (host, line))
arrival_act t w trace placed place moment host line a = by a.extras refl
  where
    number : a.shown.number ≡ line
    number = number_is (first_event_line t.header) 0 line t.lines a.shown trace a.is

    act : (x : Extras) → a.extras ≡ x
        → act_at t w place ≡ act_taken moment (event_taken a.shown.number a.shown.thread (events.Came host a.wire) x)
    act x is =
        ap (λ (o : Option Step). option_map_or (act_of t.header t.lines) o None) a.step.here
        ∙ ap (λ (o : Option Line). act_taken moment (option_map_or (taken_of a.extras) o None)) a.is
        ∙ ap (λ (e : Event). act_taken moment (event_taken a.shown.number a.shown.thread e a.extras)) a.arrives
        ∙ ap (λ (x : Extras). act_taken moment (event_taken a.shown.number a.shown.thread (events.Came host a.wire) x)) is

    few : (b : Bool) → ◌≡◌ {A = ℕ} 2 (if b then 0 else 1) → ⊥
    few true e = omega arith
    few false e = omega arith

    by : (x : Extras) → a.extras ≡ x
        → (x : Stamped tcp_shape) × (act_at t w place ≡ Some x) × (x.moment ≡ moment) × (enters x.step ≡ Some (host, line))
    by Bare is = (stamp moment (model.At host (model.Hears a.shown.number a.wire)), act Bare is, refl, ap (λ (n : ℕ). Some (host, n)) number)
    by (One c) is = (stamp moment (model.At host (model.Gets a.shown.number c a.wire)), act (One c) is, refl, ap (λ (n : ℕ). Some (host, n)) number)
    by (Two c d) is =
        let p = placed.timely line place (arrival_takes t w place moment host line a) in
        let shown : p.0 ≡ a.shown = same_Some p.0 a.shown (sym p.1 ∙ a.is) in
        absurd (few (is_half t.header.version) (sym (ap extras_count is) ∙ p.2.count
        ∙ ap (λ (l : Line). extras_of t.header.version l.event) shown ∙ ap (extras_of t.header.version) a.arrives))

-- ---- what happens is done by a step of the witness

-- the label of a hidden step, from what it does in the model
abbrev pub hidden_label : model.Step tcp_shape → Option (Label NamedLine)
hidden_label (model.Effect thread answer) = Some (labels.D thread answer)
hidden_label (model.At g (model.Makes plan)) = Some (labels.M g plan)
hidden_label (model.At g (model.Takes line choice)) = Some (labels.T g line choice)
hidden_label (model.At g (model.Drops line)) = Some (labels.K g line)
hidden_label (model.At g (model.Answers line)) = Some (labels.R g line)
hidden_label (model.At g (model.Does recovery)) = Some (labels.F g recovery)
hidden_label step = None

pub hidden_step : (t : Trace) (w : Witness) (place : ℕ) (x : Stamped tcp_shape) → act_at t w place ≡ Some x
    → (label : Label NamedLine) → hidden_label x.step ≡ Some label → IsStep w place x.moment label
hidden_step t w place x is label does = by (slice_get w.steps place) refl is
  where
    no_line : (line : TakenLine) → hidden_label (line_step line) ≡ None
    no_line (taken.CallBegin line thread call) = refl
    no_line (taken.CallEnd line thread answer) = refl
    no_line (taken.Sent line g made wire) = refl
    no_line (taken.Came line g copied wire) = refl
    no_line (taken.Heard line g wire) = refl
    no_line (taken.Expired line g ports e) = refl

    make : (moment : ℕ) (found : Label NamedLine) (span : Span) → slice_get w.steps place ≡ Some (record { moment = moment; label = found; span = span })
        → (step : model.Step tcp_shape) → hidden_label step ≡ Some found → Some (stamp moment step) ≡ Some x → IsStep w place x.moment label
    make moment found span here step of acts =
        let same : stamp moment step ≡ x = same_Some (stamp moment step) x acts in
        let one : found ≡ label = same_Some found label (sym of ∙ ap (λ (y : Stamped tcp_shape). hidden_label y.step) same ∙ does) in
        record { span = span; here = here ∙ (λ i. Some (record { moment = (same i).moment; label = one i; span = span })) }

    at : (moment : ℕ) (found : Label NamedLine) (span : Span) → slice_get w.steps place ≡ Some (record { moment = moment; label = found; span = span })
        → act_of t.header t.lines (record { moment = moment; label = found; span = span }) ≡ Some x → IsStep w place x.moment label
    at moment (labels.L named) span here acts =
        let a = act_line moment (option_map_or (taken_of named.extras) (line_at t.header t.lines named.number) None) x acts in
        absurd (none-some label (sym (no_line a.0) ∙ ap (λ (y : Stamped tcp_shape). hidden_label y.step) a.2 ∙ does))
    at moment (labels.D thread answer) span here acts = make moment (labels.D thread answer) span here (model.Effect thread answer) refl acts
    at moment (labels.M g plan) span here acts = make moment (labels.M g plan) span here (model.At g (model.Makes plan)) refl acts
    at moment (labels.T g line choice) span here acts = make moment (labels.T g line choice) span here (model.At g (model.Takes line choice)) refl acts
    at moment (labels.K g line) span here acts = make moment (labels.K g line) span here (model.At g (model.Drops line)) refl acts
    at moment (labels.R g line) span here acts = make moment (labels.R g line) span here (model.At g (model.Answers line)) refl acts
    at moment (labels.F g recovery) span here acts = make moment (labels.F g recovery) span here (model.At g (model.Does recovery)) refl acts

    by : (o : Option Step) → slice_get w.steps place ≡ o → option_map_or (act_of t.header t.lines) o None ≡ Some x → IsStep w place x.moment label
    by None here acts = absurd (none-some x acts)
    by (Some s) here acts = at s.moment s.label s.span here acts

-- a step whose act is that of a line takes that line
pub record TakesLine (t : Trace) (w : Witness) (place moment : ℕ) (step : model.Step tcp_shape) : Type 0 where
  pub named : NamedLine
  pub shown : Line
  pub line : TakenLine
  pub label : IsStep w place moment (labels.L named)
  pub there : line_at t.header t.lines named.number ≡ Some shown
  pub takes : taken_of named.extras shown ≡ Some line
  pub acts : line_step line ≡ step

pub line_of_act : (t : Trace) (w : Witness) (place : ℕ) (x : Stamped tcp_shape) → act_at t w place ≡ Some x → hidden_label x.step ≡ None
    → TakesLine t w place x.moment x.step
line_of_act t w place x is no' = by (slice_get w.steps place) refl is
  where
    clash : {A : Type 0} (moment : ℕ) (found : Label NamedLine) (step : model.Step tcp_shape) → hidden_label step ≡ Some found → Some (stamp moment step)
        ≡ Some x → A
    clash moment found step of acts =
        absurd (none-some found (sym no' ∙ sym (ap (λ (y : Stamped tcp_shape). hidden_label y.step) (same_Some (stamp moment step) x acts)) ∙ of))

    at : (moment : ℕ) (found : Label NamedLine) (span : Span) → slice_get w.steps place ≡ Some (record { moment = moment; label = found; span = span })
        → act_of t.header t.lines (record { moment = moment; label = found; span = span }) ≡ Some x → TakesLine t w place x.moment x.step
    at moment (labels.L named) span here acts =
        let a = act_line moment (option_map_or (taken_of named.extras) (line_at t.header t.lines named.number) None) x acts in
        let l = line_found_at (line_at t.header t.lines named.number) named.extras a.0 a.1 in
        record {
          named = named;
          shown = l.0;
          line = a.0;
          label = record { span = span; here = here ∙ (λ i. Some (record { moment = (a.2 i).moment; label = labels.L named; span = span })) };
          there = l.1;
          takes = l.2;
          acts = ap (λ (y : Stamped tcp_shape). y.step) a.2;
        }
    at moment (labels.D thread answer) span here acts = clash moment (labels.D thread answer) (model.Effect thread answer) refl acts
    at moment (labels.M g plan) span here acts = clash moment (labels.M g plan) (model.At g (model.Makes plan)) refl acts
    at moment (labels.T g line choice) span here acts = clash moment (labels.T g line choice) (model.At g (model.Takes line choice)) refl acts
    at moment (labels.K g line) span here acts = clash moment (labels.K g line) (model.At g (model.Drops line)) refl acts
    at moment (labels.R g line) span here acts = clash moment (labels.R g line) (model.At g (model.Answers line)) refl acts
    at moment (labels.F g recovery) span here acts = clash moment (labels.F g recovery) (model.At g (model.Does recovery)) refl acts

    by : (o : Option Step) → slice_get w.steps place ≡ o → option_map_or (act_of t.header t.lines) o None ≡ Some x → TakesLine t w place x.moment x.step
    by None here acts = absurd (none-some x acts)
    by (Some s) here acts = at s.moment s.label s.span here acts

from_sent : (n thread : ℕ) (e : Event) (x : Extras) (line : ℕ) (host : Host) (made : ℕ) (wire : Wire)
    → event_taken n thread e x ≡ Some (taken.Sent line host made wire) → (e ≡ events.Sent host wire) × (x ≡ One made)
from_sent n thread (events.Sent g v) (One c) line host made wire is =
    let same : taken.Sent n g c v ≡ taken.Sent line host made wire = same_Some _ _ is in (cc, cc)
from_sent n thread (events.Expired g lport rport timer) x line host made wire is = go (expired_by timer x) is
  where
    go : (o : Option Expired) → option_map (λ e. taken.Expired n g (record { lport = lport; rport = rport }) e) o ≡ Some (taken.Sent line host made wire)
        → (events.Expired g lport rport timer ≡ events.Sent host wire) × (x ≡ One made)
    go None is = absurd cc
    go (Some e) is = absurd cc
from_sent n thread e Bare line host made wire is = absurd cc
from_sent n thread e (One a) line host made wire is = absurd cc
from_sent n thread e (Two a b) line host made wire is = absurd cc

-- the line by which a segment is sent
pub sends_at : (t : Trace) (w : Witness) (place : ℕ) (x : Stamped tcp_shape) → act_at t w place ≡ Some x
    → (host : Host) (line number : ℕ) (wire : Wire) → x.step ≡ model.At host (model.Sends line number wire) → SendsAt t w place x.moment host number
sends_at t w place x is host line number wire does =
    let l = line_of_act t w place x is (ap hidden_label does) in
    by l l.line refl (l.acts ∙ does)
  where
    by : (l : TakesLine t w place x.moment x.step) → (taken' : TakenLine) → l.line ≡ taken' → line_step taken' ≡ model.At host (model.Sends line number wire)
        → SendsAt t w place x.moment host number
    by l (taken.Sent k g made v) same acts =
        let same_host : g ≡ host = cc in
        let same_number : made ≡ number = cc in
        let e = from_sent l.shown.number l.shown.thread l.shown.event l.named.extras k g made v (l.takes ∙ ap (λ (y : TakenLine). Some y) same) in
        record {
          line = l.named.number;
          shown = l.shown;
          wire = v;
          step = record {
            span = l.label.span;
            here =
                l.label.here ∙ (λ i. Some (record {
                  moment = x.moment;
                  label = labels.L (record { number = l.named.number; extras = (e.1 ∙ ap (λ (n : ℕ). One n) same_number) i });
                  span = l.label.span;
                }));
          };
          is = l.there;
          sends = e.0 ∙ ap (λ (g : Host). events.Sent g v) same_host;
        }
    by l (taken.CallBegin k thread call) same acts = absurd cc
    by l (taken.CallEnd k thread answer) same acts = absurd cc
    by l (taken.Came k g copied v) same acts = absurd cc
    by l (taken.Heard k g v) same acts = absurd cc
    by l (taken.Expired k g ports e) same acts = absurd cc

expired_timer : (timer : Timer) (x : Extras) (e : Expired) → expired_by timer x ≡ Some e → timer_of e ≡ timer
expired_timer Rto (Two c s) e is = ap timer_of (sym (same_Some (expireds.Rto (record { cwnd = c; ssthresh = s })) e is))
expired_timer Persist Bare e is = ap timer_of (sym (same_Some expireds.Persist e is))
expired_timer Msl2 Bare e is = ap timer_of (sym (same_Some expireds.Msl2 e is))
expired_timer Giveup Bare e is = ap timer_of (sym (same_Some expireds.Giveup e is))
expired_timer Pto Bare e is = ap timer_of (sym (same_Some expireds.Pto e is))
expired_timer timer Bare e is = absurd (none-some e is)
expired_timer Rto (One a) e is = absurd (none-some e is)
expired_timer Persist (One a) e is = absurd (none-some e is)
expired_timer Msl2 (One a) e is = absurd (none-some e is)
expired_timer Giveup (One a) e is = absurd (none-some e is)
expired_timer Pto (One a) e is = absurd (none-some e is)
expired_timer timer (Two a b) e is = absurd (none-some e is)

from_expired : (n thread : ℕ) (e : Event) (x : Extras) (line : ℕ) (host : Host) (ports : Ports) (exp : Expired)
    → event_taken n thread e x ≡ Some (taken.Expired line host ports exp) → e ≡ events.Expired host ports.lport ports.rport (timer_of exp)
from_expired n thread (events.Expired g lport rport timer) x line host ports exp is = go (expired_by timer x) refl is
  where
    go : (o : Option Expired) → expired_by timer x ≡ o
        → option_map (λ e. taken.Expired n g (record { lport = lport; rport = rport }) e) o ≡ Some (taken.Expired line host ports exp)
        → events.Expired g lport rport timer ≡ events.Expired host ports.lport ports.rport (timer_of exp)
    go None by' is = absurd cc
    go (Some e) by' is =
        let same : taken.Expired n g (record { lport = lport; rport = rport }) e ≡ taken.Expired line host ports exp = same_Some _ _ is in
        let here : g ≡ host = cc in
        let found : record { lport = lport; rport = rport } ≡ ports = cc in
        let what : e ≡ exp = cc in
        let time : timer ≡ timer_of exp = sym (expired_timer timer x e by') ∙ ap timer_of what in
        λ i. events.Expired (here i) (found i).lport (found i).rport (time i)
from_expired n thread e Bare line host ports exp is = absurd cc
from_expired n thread e (One a) line host ports exp is = absurd cc
from_expired n thread e (Two a b) line host ports exp is = absurd cc

-- the line by which a timer expires
pub expires_at : (t : Trace) (w : Witness) (place : ℕ) (x : Stamped tcp_shape) → act_at t w place ≡ Some x
    → (host : Host) (line : ℕ) (expiring : Expiring) (timer : Timer) → x.step ≡ model.At host (model.Expires line expiring)
    → timer_of expiring.expired ≡ timer → ExpiresAt t w place x.moment host timer
expires_at t w place x is host line expiring timer does of =
    let l = line_of_act t w place x is (ap hidden_label does) in
    by l l.line refl (l.acts ∙ does)
  where
    by : (l : TakesLine t w place x.moment x.step) → (taken' : TakenLine) → l.line ≡ taken' → line_step taken' ≡ model.At host (model.Expires line expiring)
        → ExpiresAt t w place x.moment host timer
    by l (taken.Expired k g ports exp) same acts =
        let same_host : g ≡ host = cc in
        let what : record { lport = ports.lport; rport = ports.rport; expired = exp } ≡ expiring = cc in
        let e = from_expired l.shown.number l.shown.thread l.shown.event l.named.extras k g ports exp (l.takes ∙ ap (λ (y : TakenLine). Some y) same) in
        let time : timer_of exp ≡ timer = ap (λ (y : Expiring). timer_of y.expired) what ∙ of in
        record {
          line = l.named.number;
          extras = l.named.extras;
          shown = l.shown;
          lport = ports.lport;
          rport = ports.rport;
          step = l.label;
          is = l.there;
          expires = e ∙ (λ i. events.Expired (same_host i) ports.lport ports.rport (time i));
        }
    by l (taken.CallBegin k thread call) same acts = absurd cc
    by l (taken.CallEnd k thread answer) same acts = absurd cc
    by l (taken.Came k g copied v) same acts = absurd cc
    by l (taken.Heard k g v) same acts = absurd cc
    by l (taken.Sent k g made v) same acts = absurd cc

-- a timer's line has as many extra numbers as its kind needs
expired_of : (version : Version) (host : Host) (lport rport : ℕ) (timer : Timer) (x : Extras)
    → extras_count x ≡ extras_of version (events.Expired host lport rport timer) → (e : Expired) × (expired_by timer x ≡ Some e)
expired_of version host lport rport Rto (Two c s) count = (expireds.Rto (record { cwnd = c; ssthresh = s }), refl)
expired_of version host lport rport Rto Bare count = absurd (omega (arith, count))
expired_of version host lport rport Rto (One a) count = absurd (omega (arith, count))
expired_of version host lport rport Persist Bare count = (expireds.Persist, refl)
expired_of version host lport rport Persist (One a) count = absurd (omega (arith, count))
expired_of version host lport rport Persist (Two a b) count = absurd (omega (arith, count))
expired_of version host lport rport Msl2 Bare count = (expireds.Msl2, refl)
expired_of version host lport rport Msl2 (One a) count = absurd (omega (arith, count))
expired_of version host lport rport Msl2 (Two a b) count = absurd (omega (arith, count))
expired_of version host lport rport Giveup Bare count = (expireds.Giveup, refl)
expired_of version host lport rport Pto Bare count = (expireds.Pto, refl)
expired_of version host lport rport Giveup (One a) count = absurd (omega (arith, count))
expired_of version host lport rport Pto (One a) count = absurd (omega (arith, count))
expired_of version host lport rport Giveup (Two a b) count = absurd (omega (arith, count))
expired_of version host lport rport Pto (Two a b) count = absurd (omega (arith, count))

-- a `T` line that a step takes is the act of that timer
pub expiry_act : (t : Trace) (w : Witness) → Placed t.header t.lines (moves w.steps) → (place moment : ℕ) (host : Host) (timer : Timer)
    → (a : ExpiresAt t w place moment host timer)
    → (e : Expired) × (act_at t w place ≡ Some (stamp moment (model.At host
    (model.Expires a.shown.number (record { lport = a.lport; rport = a.rport; expired = e })))))
    × (timer_of e ≡ timer)
expiry_act t w placed place moment host timer a =
    let p = placed.timely a.line place (record {
      moment = moment;
      extras = extras_count a.extras;
      here = slice_get-map move_of w.steps place ∙ ap (option_map move_of) a.step.here;
    }) in
    let shown : p.0 ≡ a.shown = same_Some p.0 a.shown (sym p.1 ∙ a.is) in
    let count : extras_count a.extras ≡ extras_of t.header.version (events.Expired host a.lport a.rport timer) =
    p.2.count ∙ ap (λ (l : Line). extras_of t.header.version l.event) shown ∙ ap (extras_of t.header.version) a.expires in
    let e = expired_of t.header.version host a.lport a.rport timer a.extras count in (
      e.0,
      ap (λ (o : Option Step). option_map_or (act_of t.header t.lines) o None) a.step.here
          ∙ ap (λ (o : Option Line). act_taken moment (option_map_or (taken_of a.extras) o None)) a.is
          ∙ ap (λ (e : Event). act_taken moment (event_taken a.shown.number a.shown.thread e a.extras)) a.expires
          ∙ ap (λ (o : Option Expired). act_taken moment (option_map
          (λ e. taken.Expired a.shown.number host (record { lport = a.lport; rport = a.rport }) e) o)) e.1,
      expired_timer timer a.extras e.0 e.1,
    )
