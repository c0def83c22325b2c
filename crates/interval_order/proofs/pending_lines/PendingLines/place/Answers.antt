use Rattle.std.proofs.Common.{◌≡◌, nat_eq, ℕ, List, Option, Some, None, IsSome, false, ap, sym, subst, ◌∙◌}
use Rattle.std.specs.Map.{lookup}
use Rattle.std.specs.Option.{option_map}
use Rattle.case_forms.specs.declared.trace.Line.{Line}
use Rattle.interval_order.specs.declared.pending_lines.Waiting.{Waiting}
use Rattle.interval_order.specs.Orders.{Order, taking, held_line, order_after}
use Rattle.interval_order.specs.OrderRules.{thread_order}
use Rattle.interval_order.specs.Waits.{lines_of, latest_in}
use Rattle.interval_order.proofs.EarlierLemmas.{none_earlier}
use Rattle.interval_order.proofs.EntryLemmas.{line_is, lines_without}
use Rattle.interval_order.proofs.LaterLemmas.{gone_line}
use Rattle.interval_order.proofs.SoundLemmas.{sound_without}
use Rattle.interval_order.proofs.pending_lines.PendingLines.place.Goals as goal

is_none_or : (o : Option Line) → None ≡ o → IsSome o → ⊥
is_none_or None absent some = cc
is_none_or (Some line) absent some = cc

pub invariant_of-self : goal.invariant_of-self
invariant_of-self c =
    let none =
    subst (λ (o : Order). thread_order o (taking c.args.moment c.args.line c.args.extras).take ≡ false)
    (sym c.self.view_is) c.in_ok-admit.ensures.first in
    let at = sym c.in-Some.ensures.item in
    rw (c.take.ensures.next, c.take.ensures.entries)
    (sound_without c.self.inside.waiting.entries c.self.inside.waiting.next c.args.line
    (latest_in c.self.inside.latest.entries) c.in-Some.waiting c.self.invariant at
    (none_earlier c.self.inside.waiting.entries c.args.line c.in-Some.waiting at none))

pub unreachable-requires : goal.unreachable-requires
unreachable-requires c =
    let absent =
    ap (option_map (λ (w : Waiting). w.line)) c.in-None.ensures.item
    ∙ sym (line_is c.args.line c.self.inside.waiting.entries)
    ∙ ap (λ (o : Order). held_line o c.args.line) c.self.view_is
    in
    is_none_or _ absent c.in_ok-admit.ensures.held

pub returns-clause-line : goal.returns-clause-line
returns-clause-line c =
    sym (ap (option_map (λ (w : Waiting). w.line)) c.in-Some.ensures.item
    ∙ sym (line_is c.args.line c.self.inside.waiting.entries)
    ∙ ap (λ (o : Order). held_line o c.args.line) c.self.view_is)

pub returns-clause-ok : goal.returns-clause-ok
returns-clause-ok c =
    rw (c.take.ensures.next, c.take.ensures.entries, lines_without c.args.line c.self.inside.waiting.entries)
    (ap (λ (o : Order). order_after o (taking c.args.moment c.args.line c.args.extras)) c.self.view_is)

pub returns-clause-gone : goal.returns-clause-gone
returns-clause-gone c =
    rw c.take.ensures.entries
    (ap (λ (es : List (ℕ × Line)). lookup (nat_eq c.args.line) es)
    (lines_without c.args.line c.self.inside.waiting.entries)
    ∙ gone_line c.args.line (lines_of c.self.inside.waiting.entries))
