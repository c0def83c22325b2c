-- A trace that is read one line ahead.
use Rattle.std.proofs.Common.{◌≡◌, ◌≤◌, ◌+◌, ℕ, List, [], ◌∷◌, ◌++◌, Option, None, Some, IfSome, Result, Ok, Err, refl, sym, ap, subst, ◌∙◌, arith}
use Rattle.std.proofs.Common.{append_assoc, length, length-append}
use Rattle.case_forms.specs.declared.trace.Line.{Line}
use Rattle.line_fields.specs.declared.fault.TextFault.{TextFault}
use Rattle.line_fields.specs.Reading.{◌>>=◌}
use Rattle.line_fields.specs.Left.{in_front, Yields}
use Rattle.checker.specs.declared.case.CaseFault.{CaseFault}
use Rattle.checker.specs.declared.case.CaseFault.TheVariants as faults
use Rattle.std.specs.List.{enumerate_from}
use Rattle.std.proofs.lemmas.List.Elements.{All-append, All-cons, All-nil}
use Rattle.std.specs.Prelude.{true, Bool, nat_le}
use Rattle.std.specs.Option.{option_map_or}
use Rattle.interval_order.specs.Orders.{Order, with_line}
use Rattle.interval_order.specs.Later.{with_lines}
use Rattle.interval_order.proofs.LaterLemmas.{enumerate_append}
use Rattle.std.proofs.Common.{inl, ◌||◌, ◌==◌, false, ◌<◌}
use Rattle.std.proofs.lemmas.List.Folds.{list_any-append}
use Rattle.verdict.specs.declared.rule.Rule.{Rule}
use Rattle.interval_order.specs.Later.{is_among, late_by}
use Rattle.checker.specs.Streaming.{Between, IsLate, IsWhole}
use Rattle.checker.specs.Ahead.{left_with, Passes, Skips, IsAll, TraceFails, WitnessFails, Follows, IsInStep}

-- ---- items that are passed

module _ {A : Type 0} where
  pub none_passed : (a : Option (Result (List A) TextFault)) → Passes a a []
  none_passed None = tt
  none_passed (Some (Ok items)) = refl
  none_passed (Some (Err e)) = refl

  pub one_passed : (a b c : Option (Result (List A) TextFault)) (items : List A) (item : A) → Passes a b items
      → Yields b c (Some item) → Passes a c (items ++ item ∷ [])
  one_passed None b c items item p y = tt
  one_passed (Some l) None c items item p y = absurd p
  one_passed (Some l) (Some r) None items item p y = absurd y
  one_passed (Some l) (Some r) (Some (Ok more)) items item p y =
      p ∙ ap (λ (s : Result (List A) TextFault). s >>= λ more. Ok (items ++ more)) y
      ∙ ap (λ (l : List A). Ok l) (sym (append_assoc items (item ∷ []) more))
  one_passed (Some l) (Some r) (Some (Err e)) items item p y = p ∙ ap (λ (s : Result (List A) TextFault). s >>= λ more. Ok (items ++ more)) y

  pub all_passed : (a b c : Option (Result (List A) TextFault)) (items : List A) → Passes a b items → Yields b c None → IsAll a (items ++ [])
  all_passed None b c items p y = tt
  all_passed (Some l) None c items p y = absurd p
  all_passed (Some l) (Some r) None items p y = absurd y
  all_passed (Some l) (Some r) (Some s) items p y = p ∙ ap (λ (s : Result (List A) TextFault). s >>= λ more. Ok (items ++ more)) y.0

  pub skips : (more : Bool) (a b : Option (Result (List A) TextFault)) → (more ≡ true → (item : A) × Yields a b (Some item))
      → (more ≡ false → Yields a b None) → Skips more a b
  skips true a b some none = some refl
  skips false a b some none = none refl

  -- what is left with an item that was read ahead
  pub all_ahead : (item : A) (left : Option (Result (List A) TextFault)) (items : List A) → IsAll left items
      → IsAll (left_with (Some item) left) (item ∷ items)
  all_ahead item None items is = tt
  all_ahead item (Some read) items is = ap (in_front item) is

  pub fails_ahead : (item : A) (left : Option (Result (List A) TextFault)) (e : CaseFault) → TraceFails e left
      → TraceFails e (left_with (Some item) left)
  fails_ahead item None (faults.Trace f) fails = tt
  fails_ahead item (Some read) (faults.Trace f) fails = ap (in_front item) fails
  fails_ahead item left (faults.Witness f) fails = absurd fails
  fails_ahead item left faults.Read fails = tt
  fails_ahead item left faults.OutOfMemory fails = tt

  pub skipped : (a b c : Option (Result (List A) TextFault)) (items : List A) → Passes a b items → Skips true b c → (more : List A) × Passes a c more
  skipped a b c items p s = (items ++ s.0 ∷ [], one_passed a b c items s.0 p s.1)

  pub passed_on : (a b c : Option (Result (List A) TextFault)) (xs ys : List A) → Passes a b xs → Passes b c ys → Passes a c (xs ++ ys)
  passed_on None b c xs ys p q = tt
  passed_on (Some l) None c xs ys p q = absurd p
  passed_on (Some l) (Some r) None xs ys p q = absurd q
  passed_on (Some l) (Some r) (Some (Ok more)) xs ys p q =
      p ∙ ap (λ (s : Result (List A) TextFault). s >>= λ more. Ok (xs ++ more)) q
      ∙ ap (λ (l : List A). Ok l) (sym (append_assoc xs ys more))
  passed_on (Some l) (Some r) (Some (Err e)) xs ys p q = p ∙ ap (λ (s : Result (List A) TextFault). s >>= λ more. Ok (xs ++ more)) q

  -- where the whole list is known, so is what is left of it
  pub rest_of_whole : (a b : Option (Result (List A) TextFault)) (items all : List A) → Passes a b items → IsWhole a all
      → (rest : List A) × (b ≡ Some (Ok rest)) × (all ≡ items ++ rest)
  rest_of_whole None b items all p is = absurd cc
  rest_of_whole (Some l) None items all p is = absurd p
  rest_of_whole (Some l) (Some (Ok rest)) items all p is =
      let h : Some (Ok all) ≡ Some (Ok (items ++ rest)) = sym is ∙ ap (λ (r : Result (List A) TextFault). Some r) p in
      (rest, refl, cc)
  rest_of_whole (Some l) (Some (Err e)) items all p is =
      let h : Some (Ok all) ≡ Some (Err e) = sym is ∙ ap (λ (r : Result (List A) TextFault). Some r) p in
      absurd cc

  -- and where what is left is known, so is the whole list
  pub whole_of_rest : (a b : Option (Result (List A) TextFault)) (items rest : List A) → Passes a b items → IsAll b rest → IsAll a (items ++ rest)
  whole_of_rest None b items rest p is = tt
  whole_of_rest (Some l) None items rest p is = absurd p
  whole_of_rest (Some l) (Some r) items rest p is = p ∙ ap (λ (s : Result (List A) TextFault). s >>= λ more. Ok (items ++ more)) is

  -- a fault of what is left is that of the whole
  pub err_before : (a b : Option (Result (List A) TextFault)) (items : List A) (f : TextFault) → Passes a b items
      → IfSome b (λ read. read ≡ Err f) → IfSome a (λ read. read ≡ Err f)
  err_before None b items f p fails = tt
  err_before (Some l) None items f p fails = absurd p
  err_before (Some l) (Some r) items f p fails = p ∙ ap (λ (s : Result (List A) TextFault). s >>= λ more. Ok (items ++ more)) fails

  -- and where what is left has none, the whole has none
  pub ok_before : (a b : Option (Result (List A) TextFault)) (items : List A) → Passes a b items
      → IfSome b (λ read. (all : List A) × (read ≡ Ok all)) → IfSome a (λ read. (all : List A) × (read ≡ Ok all))
  ok_before None b items p ok = tt
  ok_before (Some l) None items p ok = absurd p
  ok_before (Some l) (Some r) items p ok = (items ++ ok.0, whole_of_rest (Some l) (Some r) items ok.0 p ok.1)

  pub trace_fails_before : (a b : Option (Result (List A) TextFault)) (items : List A) (e : CaseFault) → Passes a b items → TraceFails e b → TraceFails e a
  trace_fails_before a b items (faults.Trace f) p fails = err_before a b items f p fails
  trace_fails_before a b items (faults.Witness f) p fails = absurd fails
  trace_fails_before a b items faults.Read p fails = tt
  trace_fails_before a b items faults.OutOfMemory p fails = tt

  pub witness_fails_before : (a b : Option (Result (List A) TextFault)) (items : List A) (e : CaseFault)
      → Passes a b items → WitnessFails e b → WitnessFails e a
  witness_fails_before a b items (faults.Trace f) p fails = absurd fails
  witness_fails_before a b items (faults.Witness f) p fails = err_before a b items f p fails
  witness_fails_before a b items faults.Read p fails = tt
  witness_fails_before a b items faults.OutOfMemory p fails = tt

-- ---- lines that are offered

pub lines_more : (o n m : Order) (items : List Line) (line : Line) → n ≡ with_lines o items → m ≡ with_line n line → m ≡ with_lines o (items ++ line ∷ [])
lines_more o n m items line so_far one =
    one ∙ ap (λ (q : Order). with_line q line) so_far
    ∙ (λ i. record { header = o.header; next = further i; held = entries i; last = o.last })
  where
    further : o.next + length items + 1 ≡ o.next + length (items ++ line ∷ [])
    further = omega (arith, length-append items (line ∷ []))

    entries : (o.held ++ enumerate_from o.next items) ++ (o.next + length items, line) ∷ [] ≡ o.held ++ enumerate_from o.next (items ++ line ∷ [])
    entries =
        append_assoc o.held (enumerate_from o.next items) ((o.next + length items, line) ∷ [])
        ∙ ap (λ (es : List (ℕ × Line)). o.held ++ es) (sym (enumerate_append o.next items (line ∷ [])))

pub step_more : (o m : Order) (line : Line) (ahead : Option Line) → IsInStep o (Some line) → m ≡ with_line o line
    → IfSome ahead (λ next. Follows line next) → IsInStep m ahead
step_more o m line None step one follows = tt
step_more o m line (Some next) step one follows =
    let later : line.moment ≤ next.moment = follows.1 in
    subst (λ (q : Order). IsInStep q (Some next)) (sym one) (
      follows.0 ∙ ap (λ (n : ℕ). n + 1) step.0,
      All-append (λ (e : ℕ × Line). e.1.moment ≤ next.moment) o.held ((o.next, line) ∷ [])
          (λ k d lt. let held = step.1 k d lt in omega (arith, held, later))
          (All-cons (λ (e : ℕ × Line). e.1.moment ≤ next.moment) (o.next, line) [] later (All-nil (λ (e : ℕ × Line). e.1.moment ≤ next.moment))),
    )

-- what is reached is there
pub line_reached : (ahead : Option Line) (moment : ℕ) → option_map_or (λ line. nat_le line.moment moment) ahead false ≡ true
    → (line : Line) × (ahead ≡ Some line)
line_reached None moment is = absurd cc
line_reached (Some line) moment is = (line, refl)

-- ---- a line that is named before it is reached

pub between_none : (o : Order) (a : Option (Result (List Line) TextFault)) (ahead : Option Line) (noted : ℕ → Bool)
    (number moment : ℕ) → IsInStep o ahead → IfSome ahead (λ line. moment < line.moment) → ((t : ℕ) → noted t ≡ false)
    → o.next ≤ number
    → Between o a a ahead noted number moment []
between_none o a None noted number moment step late none low = record { passed = none_passed a; next = tt; threads = none; low = omega (arith, low) }
between_none o a (Some line) noted number moment step late none low =
    record {
      passed = none_passed a;
      next = (let at = step.0 in omega (arith, at), late);
      threads = none;
      low = omega (arith, low);
    }

or_swap : (a b : Bool) → (a || b) ≡ (b || (a || false))
or_swap true true = refl
or_swap true false = refl
or_swap false true = refl
or_swap false false = refl

pub between_more : (o : Order) (a b c : Option (Result (List Line) TextFault)) (line : Line) (ahead : Option Line)
    (noted now : ℕ → Bool) (number moment : ℕ) (between : List Line)
    → Between o a b (Some line) noted number moment between → Yields b c (Some line)
    → IfSome ahead (λ next. Follows line next) → (line.number ≡ number → ⊥)
    → ((t : ℕ) → now t ≡ (line.thread == t || noted t))
    → Between o a c ahead now number moment (between ++ line ∷ [])
between_more o a b c line ahead noted now number moment between h y follows other grows =
    let at = h.next.0 in
    let late = h.next.1 in
    let low = h.low in
    let len = length-append between (line ∷ []) in
    record {
      passed = one_passed a b c between line h.passed y;
      next = by_ahead ahead follows;
      threads =
          λ t. grows t ∙ ap (λ (n : Bool). line.thread == t || n) (h.threads t)
          ∙ or_swap (line.thread == t) (is_among t between)
          ∙ sym (list_any-append (λ (l : Line). l.thread == t) between (line ∷ []));
      low = omega (arith, at, low, len, other);
    }
  where
    by_ahead : (ahead : Option Line) → IfSome ahead (λ next. Follows line next)
        → IfSome ahead (λ next. (next.number ≡ o.next + length (between ++ line ∷ [])) × (moment < next.moment))
    by_ahead None f = tt
    by_ahead (Some next) f =
        let at = h.next.0 in
        let late = h.next.1 in
        let number = f.0 in
        let rises = f.1 in
        let len = length-append between (line ∷ []) in
        (omega (arith, at, number, len), omega (arith, late, rises))

pub late_found : (o : Order) (a b c : Option (Result (List Line) TextFault)) (line : Line) (noted : ℕ → Bool)
    (number extras moment : ℕ) (between : List Line) (rule : Rule)
    → Between o a b (Some line) noted number moment between → Yields b c (Some line) → line.number ≡ number
    → rule ≡ late_by o (noted line.thread) line extras moment → IsLate o a c number extras moment rule
late_found o a b c line noted number extras moment between rule h y is said =
    inl (
      between,
      line,
      one_passed a b c between line h.passed y,
      sym is ∙ h.next.0,
      h.next.1,
      said ∙ ap (λ (n : Bool). late_by o n line extras moment) (h.threads line.thread),
    )
