use Rattle.std.proofs.Common.{◌≡◌, ℕ, ◌≤◌, All, IfSome, List, Option, Some, cond, nat_eq, ap, sym, subst, ◌∙◌}
use Rattle.case_forms.specs.declared.trace.Line.{Line}
use Rattle.tables.specs.Queues.{Queue}
use Rattle.interval_order.specs.declared.pending_lines.Waiting.{Waiting}
use Rattle.interval_order.specs.Orders.{Order}
use Rattle.interval_order.specs.Waits.{latest_in, IsSound}
use Rattle.interval_order.proofs.SoundLemmas.{sound_with}
use Rattle.interval_order.proofs.pending_lines.PendingLines.offer_from.Goals as goal

pub invariant_of-self-in-Some-take : goal.invariant_of-self-in-Some-take
invariant_of-self-in-Some-take c =
    let line = c.in-Some-take.line in
    let here : c.args.item.now ≡ Some line = cc in
    let asked : line.number ≡ c.args.self.now.next =
    subst (λ (o : Option Line). IfSome o (λ line. line.number ≡ c.args.self.now.next)) here c.requires.number in
    let number : line.number ≡ c.self.inside.waiting.next = asked ∙ ap (λ (o : Order). o.next) (sym c.self.view_is) in
    let late : All (λ (e : ℕ × Line). e.1.moment ≤ line.moment) c.args.self.now.held =
    subst (λ (o : Option Line). IfSome o (λ line. All (λ (e : ℕ × Line). e.1.moment ≤ line.moment) c.args.self.now.held)) here c.requires.moment in
    let same : c.in-Some.line ≡ line = cc in
    subst (λ (q : Queue Waiting). IsSound q.next q.entries (latest_in c.remember_last_line.new.latest.entries)) (sym c.in_ok-push.ensures.ok)
    (sound_with c.self.inside.waiting.entries c.self.inside.waiting.next (latest_in c.self.inside.latest.entries)
    (latest_in c.remember_last_line.new.latest.entries)
    (record { line = line; previous = c.in_ok-previous-in-Some.previous })
    c.self.invariant
    (c.in_ok-previous-in-Some.ensures.previous ∙ ap (λ (l : Line). latest_in c.self.inside.latest.entries l.thread) same)
    (subst (λ (o : Order). All (λ (e : ℕ × Line). e.1.moment ≤ line.moment) o.held) (sym c.self.view_is) late)
    (λ t. c.remember_last_line.ensures t
    ∙ ap (λ (es : List (ℕ × ℕ)). cond (nat_eq line.thread t) (Some line.number) (latest_in es t)) c.latest_with_room.ensures.same
    ∙ ap (λ (n : ℕ). cond (nat_eq line.thread t) (Some n) (latest_in c.self.inside.latest.entries t)) number))
