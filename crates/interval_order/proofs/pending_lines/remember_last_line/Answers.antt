use Rattle.std.proofs.Common.{◌≡◌, ℕ, Bool, cond, Some, nat_eq, arith, ap, ◌∙◌}
use Rattle.std.specs.Map.{lookup}
use Rattle.std.proofs.lemmas.Bool.Decides.{nat_tests}
use Rattle.spec_network.proofs.Entries.{lookup_insert}
use Rattle.interval_order.proofs.pending_lines.remember_last_line.Goals as goal

swapped : (t n thread : ℕ) → n ≡ thread → nat_eq t n ≡ nat_eq thread t
swapped t n thread is = grind (arith, nat_tests, is)

pub returns : goal.returns
returns c = λ t.
    ap (lookup (nat_eq t)) c.in-Ok.ensures.ok
    ∙ lookup_insert t c.from.result c.args.number c.args.latest.now.entries
    ∙ ap (λ (b : Bool). cond b (Some c.args.number) (lookup (nat_eq t) c.args.latest.now.entries)) (swapped t c.from.result c.args.thread c.from.ensures)
