-- The window to which the lines of a trace are offered, one after the other.
use Rattle.std.proofs.Common.{◌≡◌, ℕ, ◌+◌, ◌<◌, ◌≤◌, zero, suc, take, get_or, List, [], ◌∷◌, length, sym, ap, ◌∙◌, subst, arith}
use Rattle.std.specs.Prelude.{All}
use Rattle.std.specs.List.{AllByRecursion, enumerate_from}
use Rattle.std.proofs.lemmas.List.{take_more}
use Rattle.std.proofs.lemmas.Grind.{common_steps}
use Rattle.std.proofs.lemmas.List.Elements.{All-from_recursion}
use Rattle.case_forms.specs.declared.trace.Header.{Header}
use Rattle.case_forms.specs.declared.trace.Line.{Line}
use Rattle.case_forms.specs.Traces.{first_event_line, numbered, IsRecorded}
use Rattle.interval_order.specs.Orders.{Order, order_of, with_line}
use Rattle.interval_order.proofs.OrderLemmas.{order_first, line_more}

-- the line at a place has the number that its place says
pub recorded_number : (number before : ℕ) (lines : List Line) (place : ℕ) (d : Line) → IsRecorded number before lines
    → place < length lines → (get_or lines place d).number ≡ number + place
recorded_number number before [] place d recorded lt = absurd (omega arith)
recorded_number number before (line ∷ lines) zero d recorded lt = omega (arith, recorded.0)
recorded_number number before (line ∷ lines) (suc place) d recorded lt =
    let rest : (get_or lines place d).number ≡ number + 1 + place = recorded_number (number + 1) line.moment lines place d recorded.2 (omega arith) in
    omega arith

recorded_above : (number before : ℕ) (lines : List Line) (place : ℕ) (d : Line) → IsRecorded number before lines
    → place < length lines → before ≤ (get_or lines place d).moment
recorded_above number before [] place d recorded lt = absurd (omega arith)
recorded_above number before (line ∷ lines) zero d recorded lt = recorded.1
recorded_above number before (line ∷ lines) (suc place) d recorded lt =
    let rest : line.moment ≤ (get_or lines place d).moment = recorded_above (number + 1) line.moment lines place d recorded.2 (omega arith) in
    omega (arith, recorded.1)

-- the lines before a place are not later than the line there
recorded_front : (number before : ℕ) (lines : List Line) (place : ℕ) (d : Line) → IsRecorded number before lines
    → place < length lines → AllByRecursion (λ line. line.moment ≤ (get_or lines place d).moment) (take place lines)
recorded_front number before [] place d recorded lt = absurd (omega arith)
recorded_front number before (line ∷ lines) zero d recorded lt = tt
recorded_front number before (line ∷ lines) (suc place) d recorded lt = (
  recorded_above (number + 1) line.moment lines place d recorded.2 (omega arith),
  recorded_front (number + 1) line.moment lines place d recorded.2 (omega arith),
)

enumerated : (m n : ℕ) (lines : List Line) → AllByRecursion (λ line. line.moment ≤ m) lines
    → AllByRecursion (λ (e : ℕ × Line). e.1.moment ≤ m) (enumerate_from n lines)
enumerated m n [] all = tt
enumerated m n (line ∷ lines) all = (all.0, enumerated m (n + 1) lines all.1)

module _ (header : Header) (lines : List Line) (place : ℕ) (d : Line)
    (recorded : IsRecorded (first_event_line header) 0 lines) (lt : place < length lines) where
  -- no line that is held is later than the next one
  pub held_below : (window : Order) → window ≡ order_of header (take place lines) []
      → All (λ (e : ℕ × Line). e.1.moment ≤ (get_or lines place d).moment) window.held
  held_below window so_far =
      subst (λ (o : Order). All (λ (e : ℕ × Line). e.1.moment ≤ (get_or lines place d).moment) o.held) (sym (so_far ∙ order_first header (take place lines)))
      (All-from_recursion (λ (e : ℕ × Line). e.1.moment ≤ (get_or lines place d).moment) (numbered header (take place lines))
      (enumerated (get_or lines place d).moment (first_event_line header) (take place lines)
      (recorded_front (first_event_line header) 0 lines place d recorded lt)))

  -- the next line has the window's next number
  pub next_number : (window : Order) → window ≡ order_of header (take place lines) [] → (get_or lines place d).number ≡ window.next
  next_number window so_far =
      let long : length (take place lines) ≡ place = grind (arith, common_steps) in
      recorded_number (first_event_line header) 0 lines place d recorded lt
      ∙ ap (λ (n : ℕ). first_event_line header + n) (sym long) ∙ ap (λ (o : Order). o.next) (sym so_far)

  -- one more line was offered
  pub offered_more : (window next : Order) → window ≡ order_of header (take place lines) []
      → next ≡ with_line window (get_or lines place d) → next ≡ order_of header (take (place + 1) lines) []
  offered_more window next so_far one =
      rw (take_more lines place d lt)
      (one ∙ ap (λ (o : Order). with_line o (get_or lines place d)) so_far ∙ line_more header (take place lines) (get_or lines place d))
