-- Steps that are told tell the shifts of their entries.
use Rattle.std.proofs.Common.{◌≡◌, ℕ, Bool, true, false, if◌then◌else◌, List, [], ◌∷◌, sym, subst}
use Rattle.case_forms.specs.declared.calls.Host.{Host}
use Rattle.case_forms.specs.declared.steps.Step as witness
use Rattle.case_forms.specs.declared.version.Version.{Version}
use Rattle.case_forms.specs.Witnesses.{TellsShift}
use Rattle.spec_network.specs.Hosts.{HostStep, Does, Expires, Makes, Sends, Gets, Hears, Takes, Drops, Answers, Step, Begin, Finish, Effect, At}
use Rattle.spec_tcp.specs.Machine.{tcp_shape}
use Rattle.spec_merge.specs.Books.{Item, Do, Bring, Key}
use Rattle.spec_merge.specs.Keys.{before}
use Rattle.spec_merge.specs.Merging.{Names}
use Rattle.spec_merge.specs.Recordings.{TcpEntry}
use Rattle.stack_core.specs.Told.{AllTold, IsToldHostStep, IsToldItem, IsToldStep}
use Rattle.witness.specs.Printable.{TellShifts}
use Rattle.recorder.specs.Numbers.{counted, names_in, no_counts}
use Rattle.recorder.specs.Order.{in_order, in_order_with}
use Rattle.recorder.specs.Saying.{all_renumbered, both_renumbered, host_step_renumbered, host_step_said, label_said, renumbered, steps_said, with_renumbered}

told_merged : (v : Version) (xs ys : List TcpEntry) → AllTold v xs → AllTold v ys → AllTold v (in_order xs ys)
told_merged v [] ys p q = q
told_merged v (x ∷ xs) ys p q = inner (in_order xs) (λ ys q. told_merged v xs ys p.1 q) ys q
  where
    inner : (rest : List TcpEntry → List TcpEntry) → ((ys : List TcpEntry) → AllTold v ys → AllTold v (rest ys))
        → (ys : List TcpEntry) → AllTold v ys → AllTold v (in_order_with x rest ys)
    inner rest is [] q = (p.0, is [] tt)
    inner rest is (y ∷ ys) q = go (before x.key y.key) (inner rest is ys q.1)
      where
        go : (b : Bool) → AllTold v (in_order_with x rest ys) → AllTold v (if b then x ∷ rest (y ∷ ys) else y ∷ in_order_with x rest ys)
        go true more = (p.0, is (y ∷ ys) q)
        go false more = (q.0, more)

host_step_shift : (v : Version) (names : Names) (h host : Host) (d : HostStep tcp_shape) → IsToldHostStep v d
    → TellsShift v (host_step_said host (host_step_renumbered names h d))
host_step_shift v names h host (Does x) told = tt
host_step_shift v names h host (Expires line x) told = tt
host_step_shift v names h host (Makes plan) told = told.2
host_step_shift v names h host (Sends line number wire) told = tt
host_step_shift v names h host (Gets line copied wire) told = tt
host_step_shift v names h host (Hears line wire) told = tt
host_step_shift v names h host (Takes line choice) told = tt
host_step_shift v names h host (Drops line) told = tt
host_step_shift v names h host (Answers line) told = tt

step_shift : (v : Version) (names : Names) (h : Host) (s : Step tcp_shape) → IsToldStep v s → TellsShift v (label_said (renumbered names h s))
step_shift v names h (Begin line t call) told = tt
step_shift v names h (Finish line t answer) told = tt
step_shift v names h (Effect t answer) told = tt
step_shift v names h (At host d) told = host_step_shift v names h host d told

said_shifts : (v : Version) (names : Names) (xs : List TcpEntry) → AllTold v xs → TellShifts v (steps_said (all_renumbered names xs))
said_shifts v names [] told = tt
said_shifts v names (x ∷ xs) told = by x.item told.0 (said_shifts v names xs told.1)
  where
    by : (item : Item tcp_shape) → IsToldItem v item → TellShifts v (steps_said (all_renumbered names xs))
        → TellShifts v (steps_said (with_renumbered names x.key item (all_renumbered names xs)))
    by (Do step) one more = (step_shift v names x.key.host step one, more)
    by (Bring f) one more = more

-- so do those of two hosts, merged
pub both_shifts : (v w : Version) (first : ℕ) (zeros ones : List TcpEntry) (steps : List witness.Step) → w ≡ v
    → steps ≡ steps_said (both_renumbered first zeros ones)
    → AllTold v zeros → AllTold v ones → TellShifts w steps
both_shifts v w first zeros ones steps version is p q =
    subst (λ (u : Version). TellShifts u steps) (sym version)
    (subst (λ (ss : List witness.Step). TellShifts v ss) (sym is)
    (said_shifts v (names_in (counted (no_counts first) (in_order zeros ones))) (in_order zeros ones) (told_merged v zeros ones p q)))
