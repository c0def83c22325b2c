-- The turns of the loop that replays a witness while the lines of the trace are read.
use Rattle.std.proofs.Common.{inl, inr, ◌≡◌, ℕ, ◌+◌, ◌<◌, ◌≤◌, List, [], ◌∷◌, ◌++◌, length, refl, sym, ap, subst, ◌∙◌}
use Rattle.std.proofs.Common.{arith, Option, Some, None, Result, Ok, Err, IfSome, append_assoc, length-append}
use Rattle.std.proofs.Common.{append-nil}
use Rattle.std.specs.Option.{option_map}
use Rattle.std.specs.List.{enumerate_from}
use Rattle.case_forms.specs.declared.version.Version.{Version}
use Rattle.case_forms.specs.declared.trace.Header.{Header}
use Rattle.case_forms.specs.declared.trace.Line.{Line}
use Rattle.case_forms.specs.declared.trace.Span.{Span}
use Rattle.case_forms.specs.declared.steps.Step.{Step}
use Rattle.case_forms.specs.declared.named_line.NamedLine.{NamedLine}
use Rattle.case_forms.specs.declared.steps.Label.TheVariants.{L}
use Rattle.case_forms.specs.Steps.{extras_count}
use Rattle.case_forms.specs.Traces.{first_event_line}
use Rattle.verdict.specs.declared.rule.Rule.{Rule}
use Rattle.verdict.specs.declared.rule.Rule.TheVariants.{LineRange}
use Rattle.verdict.specs.declared.report.Verdict.TheVariants.{No}
use Rattle.line_fields.specs.declared.fault.TextFault.{TextFault}
use Rattle.line_fields.specs.Left.{Yields, in_front}
use Rattle.interval_order.specs.Orders.{Order, last_moment, order_after, unplaced}
use Rattle.interval_order.specs.Later.{TakesBelow, AreLater, with_lines, late_rule}
use Rattle.interval_order.proofs.LaterLemmas.{order_with}
use Rattle.spec_cases.specs.Cases.{Known, Watched as Progress, forget, first_known, known_after_all, late_at_end}
use Rattle.watched.proofs.ForgetLemmas.{late-forget}
use Rattle.checker.specs.Seen.{move_of, moves}
use Rattle.checker.specs.Kept.{kept_broken, kept_progress}
use Rattle.checker.specs.Verdicts.{broken, late_after, next_world, line_named, verdict_from, verdict_left, refused_or}
use Rattle.case_forms.specs.Traces.{IsRecorded}
use Rattle.line_fields.specs.Folding.{read_lines}
use Rattle.line_fields.proofs.Loop.{spelled_takes}
use Rattle.trace_reader.specs.EventLines.{Place, behind, line_of, IsEventLine}
use Rattle.case_lines.specs.TextLeft.{rows_left}
use Rattle.trace_reader.specs.declared.stream.TraceReader.{TraceReader}
use Rattle.trace_reader.specs.TraceLeft.{lines_left, place_of, version_of, kept_of, lines_after, AreAt, StandsAt}
use Rattle.trace_reader.proofs.EventLineLaw.{reads_line}
use Rattle.trace_reader.proofs.TraceLaw.{are_recorded}
use Rattle.checker.specs.declared.ahead.Ahead.{Ahead}
use Rattle.checker.specs.Ahead.{Passes, left_with, left_ahead, line_ahead, IsAhead}
use Rattle.checker.specs.Streaming.{NamesBelow, HasCome, whole, verdict_on, AllLater, IsWhole, SoFar, IsDone, IsRefused}
use Rattle.checker.proofs.AheadLemmas.{passed_on, rest_of_whole}
use Rattle.checker.proofs.LateLemmas.{broken_more, broken_late, broken_beyond, takes_more, takes_raised, stamped_more}
use Rattle.checker.proofs.CheckLemmas.{verdict_more, come_more, rule_is}

module _ (header : Header) (lines : Option (Result (List Line) TextFault)) (steps : Option (Result (List Step) TextFault)) where
  -- lines are offered
  come_lines : (offered more : List Line) (earlier : List Step) (o n : Order) (p : Progress)
      → TakesBelow (first_event_line header + length offered) (moves earlier) → HasCome header offered earlier o p
      → n ≡ with_lines o more → HasCome header (offered ++ more) earlier n p
  come_lines offered more earlier o n p below come is = record {
    order = is ∙ ap (λ (q : Order). with_lines q more) come.order ∙ sym (order_with header offered more (moves earlier) below);
    header_is = come.header_is;
    world = come.world ∙ sym (ap (λ acts. forget (known_after_all header (first_known header) acts)) (stamped_more header offered more earlier below));
  }

  pub lines_offered : (left next : Option (Result (List Line) TextFault))
      (ahead : Option (Result (List Step) TextFault)) (o n : Order) (p : Progress) (offered more : List Line)
      (earlier : List Step)
      → SoFar header lines left steps ahead o p offered earlier → Passes left next more → n ≡ with_lines o more
      → SoFar header lines next steps ahead n p (offered ++ more) earlier
  lines_offered left next ahead o n p offered more earlier s passed is =
      let len = length-append offered more in
      record {
        passed = passed_on lines left next offered more s.passed passed;
        done = s.done;
        come = come_lines offered more earlier o n p s.below s.come is;
        below =
            takes_raised (first_event_line header + length offered) (first_event_line header + length (offered ++ more))
            (moves earlier) (omega (arith, len)) s.below;
        told = s.told;
      }

  -- the rule that the next step breaks is that of the whole trace, where all that is left comes later
  rule_of_all : (left : Option (Result (List Line) TextFault)) (ahead : Option (Result (List Step) TextFault))
      (o : Order) (p : Progress) (offered : List Line) (earlier : List Step) (s : Step)
      → SoFar header lines left steps ahead o p offered earlier → AllLater s.moment left → NamesBelow (first_event_line header + length offered) s.label
      → (all : List Line) → IsWhole lines all → broken header all earlier (whole header all earlier) s ≡ kept_broken p.header o p.world s
  rule_of_all left ahead o p offered earlier s f later names all is =
      let rest = rest_of_whole lines left offered all f.passed is in
      let late : AreLater s.moment rest.0 = subst (AllLater s.moment) rest.1 later in
      ap (λ (a : List Line). broken header a earlier (whole header a earlier) s) rest.2
      ∙ ap (λ acts. broken header (offered ++ rest.0) earlier (known_after_all header (first_known header) acts) s)
      (stamped_more header offered rest.0 earlier f.below)
      ∙ broken_more header offered rest.0 earlier (whole header offered earlier) s f.below late names
      ∙ sym (rule_is header offered earlier o p s f.come)

  -- a step that breaks no rule is done
  pub step_done : (left : Option (Result (List Line) TextFault)) (ahead next : Option (Result (List Step) TextFault))
      (o n : Order) (p q : Progress) (offered : List Line) (earlier : List Step) (s : Step)
      → SoFar header lines left steps ahead o p offered earlier → AllLater s.moment left
      → NamesBelow (first_event_line header + length offered) s.label → Passes ahead next (s ∷ [])
      → kept_broken p.header o p.world s ≡ None → n ≡ order_after o (move_of s) → q ≡ kept_progress o p s
      → SoFar header lines left steps next n q offered (earlier ++ s ∷ [])
  step_done left ahead next o n p q offered earlier s f later names took none moved acted =
      let here : broken header offered earlier (whole header offered earlier) s ≡ None = sym (rule_is header offered earlier o p s f.come) ∙ none in
      record {
        passed = f.passed;
        done = passed_on steps ahead next earlier (s ∷ []) f.done took;
        come = come_more header offered earlier o n p q s f.come here moved acted;
        below = takes_more (first_event_line header + length offered) earlier s f.below names;
        told = λ all is rest.
            ap (verdict_on header all []) (append_assoc earlier (s ∷ []) rest)
            ∙ f.told all is (s ∷ rest)
            ∙ verdict_more header all earlier s rest (rule_of_all left ahead o p offered earlier s f later names all is ∙ none);
      }

  -- a step that breaks one ends the case, whatever follows
  refused_all : (all : List Line) (earlier : List Step) (s : Step) (rule : Rule) (rest : List Step)
      → broken header all earlier (whole header all earlier) s ≡ Some rule
      → verdict_on header all earlier (s ∷ rest) ≡ No (length earlier + 2) (line_named s.label) rule
  refused_all all earlier s rule rest some =
      ap (λ (r : Option Rule). refused_or r earlier s
      (verdict_from header all (earlier ++ s ∷ []) (next_world header all (whole header all earlier) s) rest)) some

  pub step_refused : (left : Option (Result (List Line) TextFault)) (ahead : Option (Result (List Step) TextFault))
      (o : Order) (p : Progress) (offered : List Line) (earlier : List Step) (s : Step) (rule : Rule)
      → SoFar header lines left steps ahead o p offered earlier → AllLater s.moment left
      → NamesBelow (first_event_line header + length offered) s.label → kept_broken p.header o p.world s ≡ Some rule
      → (all : List Line) → IsWhole lines all → (rest : List Step)
      → verdict_on header all [] (earlier ++ s ∷ rest) ≡ No (length earlier + 2) (line_named s.label) rule
  step_refused left ahead o p offered earlier s rule f later names some all is rest =
      f.told all is (s ∷ rest) ∙ refused_all all earlier s rule rest (rule_of_all left ahead o p offered earlier s f later names all is ∙ some)

  -- so does a step that takes a line which is not offered, since its moment is not reached
  pub late_refused : (left next : Option (Result (List Line) TextFault)) (ahead : Option (Result (List Step) TextFault))
      (o : Order) (p : Progress) (offered between : List Line) (line : Line) (earlier : List Step) (moment : ℕ)
      (named : NamedLine) (span : Span)
      → SoFar header lines left steps ahead o p offered earlier → Passes left next (between ++ line ∷ []) → moment < line.moment
      → named.number ≡ first_event_line header + length offered + length between
      → (all : List Line) → IsWhole lines all → (rest : List Step)
      → verdict_on header all [] (earlier ++ record { moment = moment; label = L named; span = span } ∷ rest)
      ≡ No (length earlier + 2) named.number (late_rule o between line (extras_count named.extras) moment)
  late_refused left next ahead o p offered between line earlier moment named span f took late at all is rest =
      let s : Step = record { moment = moment; label = L named; span = span } in
      let behind =
      rest_of_whole lines next (offered ++ (between ++ line ∷ [])) all
      (passed_on lines left next offered (between ++ line ∷ []) f.passed took) is in
      let parts : all ≡ offered ++ (between ++ line ∷ behind.0) =
      behind.2 ∙ append_assoc offered (between ++ line ∷ []) behind.0
      ∙ ap (λ (xs : List Line). offered ++ xs) (append_assoc between (line ∷ []) behind.0) in
      f.told all is (s ∷ rest)
      ∙ refused_all all earlier s (late_rule o between line (extras_count named.extras) moment) rest
      (ap (λ (a : List Line). broken header a earlier (whole header all earlier) s) parts
      ∙ broken_late header offered between behind.0 line earlier (whole header all earlier) moment named span f.below late at
      ∙ ap (λ (q : Order). Some (late_rule q between line (extras_count named.extras) moment)) (sym f.come.order))

  -- and one that takes a line past the last
  pub beyond_refused : (left next : Option (Result (List Line) TextFault))
      (ahead : Option (Result (List Step) TextFault)) (o : Order) (p : Progress) (offered between : List Line)
      (earlier : List Step) (moment : ℕ) (named : NamedLine) (span : Span)
      → SoFar header lines left steps ahead o p offered earlier → Passes left next between → next ≡ Some (Ok [])
      → first_event_line header + length offered + length between ≤ named.number
      → (all : List Line) → IsWhole lines all → (rest : List Step)
      → verdict_on header all [] (earlier ++ record { moment = moment; label = L named; span = span } ∷ rest) ≡ No (length earlier + 2) named.number LineRange
  beyond_refused left next ahead o p offered between earlier moment named span f took end le all is rest =
      let s : Step = record { moment = moment; label = L named; span = span } in
      let behind = rest_of_whole lines next (offered ++ between) all (passed_on lines left next offered between f.passed took) is in
      let h : Some (Ok behind.0) ≡ Some (Ok []) = sym behind.1 ∙ end in
      let nothing : behind.0 ≡ [] = cc in
      let parts : all ≡ offered ++ between = behind.2 ∙ ap (λ (xs : List Line). (offered ++ between) ++ xs) nothing ∙ append-nil (offered ++ between) in
      let len = ap length parts ∙ length-append offered between in
      f.told all is (s ∷ rest) ∙ refused_all all earlier s LineRange rest
      (broken_beyond header all earlier (whole header all earlier) moment named span (omega (arith, len, le)))

  -- the end of the witness: what is not placed, and behind it what was not offered
  pub all_done : (left : Option (Result (List Line) TextFault)) (ahead : Option (Result (List Step) TextFault))
      (o : Order) (p : Progress) (offered : List Line) (earlier : List Step) (rest : List Line)
      → SoFar header lines left steps ahead o p offered earlier → left ≡ Some (Ok rest)
      → (all : List Line) → IsWhole lines all
      → verdict_on header all [] earlier ≡ verdict_left (o.held ++ enumerate_from o.next rest) (late_at_end p.header o.last p.world) earlier
  all_done left ahead o p offered earlier rest f is all whole_is =
      let behind = rest_of_whole lines left offered all f.passed whole_is in
      let h : Some (Ok behind.0) ≡ Some (Ok rest) = sym behind.1 ∙ is in
      let same : behind.0 ≡ rest = cc in
      let parts : all ≡ offered ++ rest = behind.2 ∙ ap (λ (xs : List Line). offered ++ xs) same in
      let late : late_after header earlier (whole header offered earlier) ≡ late_at_end p.header o.last p.world =
      sym (late-forget header (last_moment (moves earlier)) (whole header offered earlier))
      ∙ ap (λ (k : Known). late_at_end header (last_moment (moves earlier)) k) (sym f.come.world)
      ∙ ap (λ (q : Order). late_at_end header q.last p.world) (sym f.come.order)
      ∙ ap (λ (h : Header). late_at_end h o.last p.world) (sym f.come.header_is) in
      ap (verdict_on header all []) (sym (append-nil earlier))
      ∙ f.told all whole_is []
      ∙ ap (λ (a : List Line). verdict_left (unplaced header a (moves earlier)) (late_after header earlier (whole header a earlier)) earlier) parts
      ∙ ap (λ acts. verdict_left (unplaced header (offered ++ rest) (moves earlier))
      (late_after header earlier (known_after_all header (first_known header) acts)) earlier) (stamped_more header offered rest earlier f.below)
      ∙ ap (λ (q : Order). verdict_left q.held (late_after header earlier (whole header offered earlier)) earlier)
      (order_with header offered rest (moves earlier) f.below)
      ∙ ap (λ (q : Order). verdict_left (q.held ++ enumerate_from q.next rest) (late_after header earlier (whole header offered earlier)) earlier)
      (sym f.come.order)
      ∙ ap (λ late. verdict_left (o.held ++ enumerate_from o.next rest) late earlier) late

-- ---- lines that are not reached

not_before : (number before : ℕ) (lines : List Line) → IsRecorded number before lines → (moment : ℕ) → moment < before → AreLater moment lines
not_before number before [] r moment lt = tt
not_before number before (line ∷ lines) r moment lt =
    let rises : before ≤ line.moment = r.1 in
    let late : moment < line.moment = omega (arith, rises, lt) in
    (late, not_before (number + 1) line.moment lines r.2 moment late)

later_with : (moment : ℕ) (ahead : Option Line) (left : Option (Result (List Line) TextFault)) → IfSome ahead (λ line. moment < line.moment)
    → ((line : Line) (rest : List Line) → ahead ≡ Some line → left ≡ Some (Ok rest) → AreLater moment rest) → AllLater moment (left_with ahead left)
later_with moment None left late rest = tt
later_with moment (Some line) None late rest = tt
later_with moment (Some line) (Some (Err e)) late rest = tt
later_with moment (Some line) (Some (Ok more)) late rest = (late, rest line more refl refl)

left_recorded : (v : Version) (place : Place) (rows : Option (List (List ℕ))) (rest : List Line)
    → option_map (read_lines (line_of v) behind place) rows ≡ Some (Ok rest) → IsRecorded place.1 place.0 rest
left_recorded v place None rest is = absurd cc
left_recorded v place (Some raws) rest is =
    let read : read_lines (line_of v) behind place raws ≡ Ok rest = cc in
    are_recorded v place rest raws (spelled_takes (line_of v) behind (IsEventLine v) (reads_line v) place raws rest read)

-- so do lines that were kept, and those of the text after them
one_more_recorded : (place : Place) (line : Line) (left : Option (Result (List Line) TextFault)) (rest : List Line) → StandsAt place line
    → ((more : List Line) → left ≡ Some (Ok more) → IsRecorded (place.1 + 1) line.moment more)
    → option_map (in_front line) left ≡ Some (Ok rest) → IsRecorded place.1 place.0 rest
one_more_recorded place line None rest at others is = absurd cc
one_more_recorded place line (Some (Err e)) rest at others is = absurd cc
one_more_recorded place line (Some (Ok more)) rest at others is =
    let whole : line ∷ more ≡ rest = cc in
    subst (λ (lines : List Line). IsRecorded place.1 place.0 lines) whole (at.number, at.rises, others more refl)

all_recorded : {A : Type 0} (known : A → Option (List ℕ)) (r : TraceReader A) (place : Place) (kept rest : List Line)
    → AreAt place kept → lines_after known r place kept ≡ Some (Ok rest) → IsRecorded place.1 place.0 rest
all_recorded known r place [] rest at is = left_recorded (version_of r) place (rows_left known r.text) rest is
all_recorded known r place (line ∷ kept) rest at is =
    one_more_recorded place line (lines_after known r (behind place line) kept) rest at.0
    (λ more same. all_recorded known r (behind place line) kept more at.1 same) is

-- where the line that was read ahead is not reached, none is that is left
pub left_later : {A : Type 0} (known : A → Option (List ℕ)) (s : Ahead A) (moment : ℕ) → IsAhead s
    → IfSome (line_ahead s) (λ line. moment < line.moment) → AllLater moment (left_ahead known s)
left_later known s moment h late = later_with moment (line_ahead s) (lines_left known s.reader) late (λ line rest at is.
    let place = subst (λ (l : Option Line). IfSome l (λ line. (place_of s.reader ≡ (line.moment, line.number + 1)) × (line.number ≤ 10000000))) at h.place in
    let not_reached = subst (λ (l : Option Line). IfSome l (λ line. moment < line.moment)) at late in
    let since : (place_of s.reader).0 ≡ line.moment = ap (λ (p : Place). p.0) place.0 in
    not_before (place_of s.reader).1 (place_of s.reader).0 rest
    (all_recorded known s.reader (place_of s.reader) (kept_of s.reader) rest (h.begun h.working).1 is)
    moment (omega (arith, since, not_reached)))

-- ---- a whole turn

took_one : (a b : Option (Result (List Step) TextFault)) (s : Step) → Yields a b (Some s) → Passes a b (s ∷ [])
took_one None b s y = tt
took_one (Some l) None s y = absurd y
took_one (Some l) (Some r) s y = y

module _ (header : Header) (lines : Option (Result (List Line) TextFault)) (steps : Option (Result (List Step) TextFault)) where
  module _ (left mid : Option (Result (List Line) TextFault)) (ahead next : Option (Result (List Step) TextFault))
      (o n : Order) (p : Progress) (offered more : List Line) (earlier : List Step) (s : Step)
      (f : SoFar header lines left steps ahead o p offered earlier) (passed : Passes left mid more)
      (is : n ≡ with_lines o more) (later : AllLater s.moment mid) where
    so_far : SoFar header lines mid steps ahead n p (offered ++ more) earlier
    so_far = lines_offered header lines steps left mid ahead o n p offered more earlier f passed is

    number_is : n.next ≡ first_event_line header + length (offered ++ more)
    number_is = ap (λ (q : Order). q.next) so_far.come.order

    -- lines are offered, and a step that breaks no rule is done
    pub turn_goes : (m : Order) (q : Progress) → Yields ahead next (Some s) → IsDone n m p q s
        → SoFar header lines mid steps next m q (offered ++ more) (earlier ++ s ∷ [])
    turn_goes m q took d =
        step_done header lines steps mid ahead next n m p q (offered ++ more) earlier s so_far later
        (subst (λ (k : ℕ). NamesBelow k s.label) number_is d.names)
        (took_one ahead next s took) d.none d.moved d.acted

    -- or one that breaks a rule ends the case, whatever follows
    pub turn_refuses : (last : Option (Result (List Line) TextFault)) (rule : Rule) → IsRefused n p s mid last rule
        → (all : List Line) → IsWhole lines all → (rest : List Step)
        → verdict_on header all [] (earlier ++ s ∷ rest) ≡ No (length earlier + 2) (line_named s.label) rule
    turn_refuses last rule (inl told) all whole_is rest =
        step_refused header lines steps mid ahead n p (offered ++ more) earlier s rule so_far later
        (subst (λ (k : ℕ). NamesBelow k s.label) number_is told.0) told.1 all whole_is rest
    turn_refuses last rule (inr (named, label, inl (between, line, took, number, late, said))) all whole_is rest =
        let at : named.number ≡ first_event_line header + length (offered ++ more) + length between = number ∙ ap (λ (j : ℕ). j + length between) number_is in
        let same : s ≡ record { moment = s.moment; label = L named; span = s.span } = λ i. record { moment = s.moment; label = label i; span = s.span } in
        ap (λ (t : Step). verdict_on header all [] (earlier ++ t ∷ rest)) same
        ∙ late_refused header lines steps mid last ahead n p (offered ++ more) between line earlier s.moment named s.span so_far took late at all whole_is rest
        ∙ (λ i. No (length earlier + 2) (line_named (sym label i)) (sym said i))
    turn_refuses last rule (inr (named, label, inr (between, took, end, low, said))) all whole_is rest =
        let same : s ≡ record { moment = s.moment; label = L named; span = s.span } = λ i. record { moment = s.moment; label = label i; span = s.span } in
        let low_here : first_event_line header + length (offered ++ more) + length between ≤ named.number =
        subst (λ (j : ℕ). j + length between ≤ named.number) number_is low in
        ap (λ (t : Step). verdict_on header all [] (earlier ++ t ∷ rest)) same
        ∙ beyond_refused header lines steps mid last ahead n p
        (offered ++ more) between earlier s.moment named s.span so_far took end low_here all whole_is rest
        ∙ (λ i. No (length earlier + 2) (line_named (sym label i)) (sym said i))

    -- the lines that were read on are passed, too
    pub turn_passes : (last : Option (Result (List Line) TextFault)) (rule : Rule) → IsRefused n p s mid last rule → (all : List Line) × Passes lines last all
    turn_passes last rule (inl told) = (
      offered ++ more,
      subst (λ (l : Option (Result (List Line) TextFault)). Passes lines l (offered ++ more))
          (sym told.2) so_far.passed,
    )
    turn_passes last rule (inr (named, label, inl (between, line, took, number, late, said))) = (
      (offered ++ more) ++ (between ++ line ∷ []),
      passed_on lines mid last (offered ++ more) (between ++ line ∷ []) so_far.passed took,
    )
    turn_passes last rule (inr (named, label, inr (between, took, end, low, said))) =
        ((offered ++ more) ++ between, passed_on lines mid last (offered ++ more) between so_far.passed took)
