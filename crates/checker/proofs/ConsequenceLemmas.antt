-- What holds of each run holds of the steps of a witness that explains its trace.
use Rattle.std.proofs.Common.{◌≡◌, ℕ, zero, suc, List, [], ◌∷◌, take, subst, Some}
use Rattle.std.specs.Prelude.{slice_get}
use Rattle.spec_network.specs.Hosts.{World, Stamped}
use Rattle.spec_network.specs.HostRules.{Permitted}
use Rattle.spec_network.specs.HostSteps.{after, after_all, Lawful}
use Rattle.spec_tcp.specs.Machine.{tcp, tcp_shape}
use Rattle.case_forms.specs.declared.trace.Header.{Header}

-- the steps before one of a run are a run, and it is permitted after them
pub run_at : (h : Header) (w : World tcp_shape) (xs : List (Stamped tcp_shape)) → Lawful (tcp h) w xs
    → (place : ℕ) (x : Stamped tcp_shape) → slice_get xs place ≡ Some x
    → Lawful (tcp h) w (take place xs) × Permitted (tcp h) x.moment (after_all (tcp h) w (take place xs)) x.step
run_at h w [] may place x here = absurd cc
run_at h w (first ∷ xs) may zero x here =
    let same : first ≡ x = cc in
    (tt, subst (λ (y : Stamped tcp_shape). Permitted (tcp h) y.moment w y.step) same may.0)
run_at h w (first ∷ xs) may (suc place) x here =
    let rest = run_at h (after (tcp h) first.moment w first.step) xs may.1 place x here in
    ((may.0, rest.0), rest.1)

-- the first steps of a run are a run
pub run_until : (h : Header) (w : World tcp_shape) (xs : List (Stamped tcp_shape)) → Lawful (tcp h) w xs → (place : ℕ) → Lawful (tcp h) w (take place xs)
run_until h w [] may zero = tt
run_until h w [] may (suc place) = tt
run_until h w (x ∷ xs) may zero = tt
run_until h w (x ∷ xs) may (suc place) = (may.0, run_until h (after (tcp h) x.moment w x.step) xs may.1 place)
