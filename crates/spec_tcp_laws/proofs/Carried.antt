-- What reads are told was carried by segments that were taken, in every case.
use Rattle.std.proofs.Common.{◌≡◌, ℕ, suc, ◌+◌, ◌<◌, ◌⊎◌, Bool, true, false, List, [], ◌∷◌, ◌++◌, length, Option, Some}
use Rattle.std.proofs.Common.{None, refl, ap, subst, ◌∙◌, inl, inr, arith}
use Rattle.std.specs.Prelude.{if◌then◌else◌, ◌==◌, slice_get}
use Rattle.std.specs.Option.{option_map_or}
use Rattle.std.proofs.lemmas.Option.{none-some}
use Rattle.case_forms.specs.declared.calls.Answer.{Answer}
use Rattle.case_forms.specs.declared.calls.Answer.TheVariants as answers
use Rattle.case_forms.specs.declared.calls.Call.{Call}
use Rattle.case_forms.specs.declared.calls.Call.TheVariants as calls
use Rattle.case_forms.specs.declared.calls.Host.{Host}
use Rattle.case_forms.specs.declared.trace.Header.{Header}
use Rattle.verdict.specs.Rules.{first_broken}
use Rattle.streams.specs.declared.cell.Cell.TheVariants.{Byte, Fin}
use Rattle.streams.specs.Cells.{Taken}
use Rattle.streams.specs.Received.{received}
use Rattle.spec_network.specs.Tables.{pick}
use Rattle.spec_network.specs.Hosts.{Turn, Idle, Called, Answered, World, Step, Begin, Finish, Effect, At, Stamped, turn_of}
use Rattle.spec_network.specs.HostRules.{aim_of, effect_rules, Permitted}
use Rattle.spec_network.specs.HostSteps.{after, after_all, start, Lawful}
use Rattle.spec_tcp.specs.declared.endpoint.EndpointId.{EndpointId}
use Rattle.spec_tcp.specs.declared.endpoint.Endpoint.{Endpoint}
use Rattle.spec_tcp.specs.Calls.{is_bad_socket, call_allows}
use Rattle.spec_tcp.specs.Calls.Accept.{open_allows}
use Rattle.spec_tcp.specs.Machine.{tcp, tcp_shape, aim}
use Rattle.spec_tcp_laws.specs.Runs.{world_at_end, owner, call_told, of_turn, of_effect, told_from, told_to}
use Rattle.spec_tcp_laws.specs.Consequences.{find}
use Rattle.spec_tcp_laws.specs.Carried.{Carries, CarriedFrom, Carried, CarriedTo, ReadsWereCarried}
use Rattle.spec_tcp_laws.proofs.Rules.{number_same}
use Rattle.spec_tcp_laws.proofs.Later.{Hosts, name}
use Rattle.spec_tcp_laws.proofs.Ordered.{received_at}
use Rattle.spec_tcp_laws.proofs.Grows.{Bare, Coming, AllGrown, Added, grew}
use Rattle.spec_tcp_laws.proofs.Calls.{socket_here}
use Rattle.spec_tcp_laws.proofs.Steps.{step_adds, effect_allowed}
use Rattle.spec_tcp_laws.proofs.Runs.{EndedAt, Steady, grown, nowhere, steady_step, steady_start, steady_run, stays_run}
use Rattle.spec_tcp_laws.proofs.Runs.{matches_run, reads_at, told_run, ended_run}

-- 1. what was taken was carried

-- whatever was taken behind the SYN has this
abbrev AllTaken : Coming → Hosts → Type 0
AllTaken has a = (me : EndpointId) (e : Endpoint) → find a me ≡ Some e → Taken (λ p c. 0 < p → has me p c) e.stream.receive.taken

taken_step : (has comes : Coming) (adds : EndpointId → Added) (a b : Hosts) → AllGrown comes adds a b → AllTaken has a
    → AllTaken (λ me p c. has me p c ⊎ comes me p c) b
taken_step has comes adds a b m old me f at p c x some = from ((m.all me.host).back me.number f at)
  where
    gained : (e : Endpoint) → find a me ≡ Some e → (slice_get e.stream.receive.taken p ≡ Some (Some c)) ⊎ comes me p c → has me p c ⊎ comes me p c
    gained e there (inl y) = inl (old me e there p c y some)
    gained e there (inr y) = inr y

    from : ((e : Endpoint) × (find a me ≡ Some e)) ⊎ Bare f → has me p c ⊎ comes me p c
    from (inl e) = gained e.0 e.1 ((grew comes adds a b me e.0 f m e.1 at).gains p c x some)
    from (inr new) = absurd (new.bare p c x some)

taken_run : (h : Header) (w : World tcp_shape) (steps : List (Stamped tcp_shape)) (has : Coming) → Steady w.hosts
    → Lawful (tcp h) w steps → AllTaken has w.hosts
    → AllTaken (λ me p c. has me p c ⊎ CarriedFrom h w steps me p c) (after_all (tcp h) w steps).hosts
taken_run h w [] has g may old me f at p c x some = inl (old me f at p c x some)
taken_run h w (y ∷ ys) has g may old me f at p c x some =
    let v = after (tcp h) y.moment w y.step in
    let one = taken_step has (Carries h w y.step) (step_adds h w y.step) w.hosts v.hosts (grown h y.moment w y.step g may.0) old in
    from (taken_run h v ys (λ me p c. has me p c ⊎ Carries h w y.step me p c) (steady_step h y.moment w y.step g may.0) may.1 one me f at p c x some)
  where
    from : (has me p c ⊎ Carries h w y.step me p c) ⊎ CarriedFrom h (after (tcp h) y.moment w y.step) ys me p c → has me p c ⊎ CarriedFrom h w (y ∷ ys) me p c
    from (inl (inl old)) = inl old
    from (inl (inr now)) = inr ([], y, ys, refl, now)
    from (inr later) = inr (y ∷ later.0, later.1, later.2, ap (λ (l : List (Stamped tcp_shape)). y ∷ l) later.3, later.4)

-- over a whole run
taken_carried : (h : Header) (steps : List (Stamped tcp_shape)) → Lawful (tcp h) (start (tcp h)) steps → AllTaken (Carried h steps) (world_at_end h steps).hosts
taken_carried h steps may me f at p c x some =
    from (taken_run h (start (tcp h)) steps (λ me p c. ⊥) (steady_start h) may
    (λ me e at. absurd (nowhere h me.host me.number e at)) me f at p c x some)
  where
    from : ⊥ ⊎ Carried h steps me p c → Carried h steps me p c
    from (inl none) = absurd none
    from (inr carried) = carried

-- 2. a socket number whose reads were told a byte names an endpoint

abbrev Owned : Hosts → ℕ → Type 0
Owned a socket = (me : EndpointId) × (owner (pick a me.host).body socket ≡ Some me.number)

owned_call : (h : Header) (s : ℕ) (a : Hosts) (socket : ℕ) (call : Call) (answer : Answer) (o : Option Host)
    → option_map_or (λ host. call_allows h.version (pick a host).body call answer) o (is_bad_socket answer) ≡ true
    → (call_told call answer socket ≡ []) ⊎ Owned a socket
owned_call h s a socket (calls.Recv n most) (answers.Bytes bytes) o may = by (n == socket) refl
  where
    refused : (queue : List ℕ) → open_allows h.version queue (calls.Recv n most) (answers.Bytes bytes) ≡ false
    refused [] = refl
    refused (c ∷ queue) = refl

    by : (c : Bool) → (n == socket) ≡ c → ((if c then bytes else []) ≡ []) ⊎ Owned a socket
    by true is = let x = reads_at h s a n most (answers.Bytes bytes) o refl refl (λ queue. refused queue) may in
        inr (name x.0 x.1, subst (λ k. owner (pick a x.0).body k ≡ Some x.1) (number_same n socket is) x.2)
    by false is = inl refl
owned_call h s a socket call answer o may = inl refl

owned_step : (h : Header) (s : ℕ) (w : World tcp_shape) (socket : ℕ) (step : Step tcp_shape)
    → Permitted (tcp h) s w step
    → (of_effect h w step [] (λ call answer. call_told call answer socket) ≡ []) ⊎ Owned w.hosts socket
owned_step h s w socket (Begin line t call) may = inl refl
owned_step h s w socket (Finish line t answer) may = inl refl
owned_step h s w socket (At host d) may = inl refl
owned_step h s w socket (Effect t answer) may = go (turn_of t w.threads) may
  where
    go : (u : Turn tcp_shape) → first_broken (effect_rules (tcp h) s w.hosts u answer) ≡ None
        → (of_turn u [] (λ call. call_told call answer socket) ≡ []) ⊎ Owned w.hosts socket
    go Idle may = inl refl
    go (Called call) may =
        owned_call h s w.hosts socket call answer (aim_of (tcp h) w.hosts (aim call))
        (effect_allowed h s w.hosts call answer (aim_of (tcp h) w.hosts (aim call)) may).1
    go (Answered x) may = inl refl

owned_run : (h : Header) (w : World tcp_shape) (steps : List (Stamped tcp_shape)) (socket : ℕ) → Steady w.hosts
    → Lawful (tcp h) w steps → (told_from h socket w steps ≡ []) ⊎ Owned (after_all (tcp h) w steps).hosts socket
owned_run h w [] socket g may = inl refl
owned_run h w (y ∷ ys) socket g may =
    go (owned_step h y.moment w socket y.step may.0)
    (owned_run h (after (tcp h) y.moment w y.step) ys socket (steady_step h y.moment w y.step g may.0) may.1)
  where
    rest : List ℕ
    rest = told_from h socket (after (tcp h) y.moment w y.step) ys

    go : (of_effect h w y.step [] (λ call answer. call_told call answer socket) ≡ []) ⊎ Owned w.hosts socket
        → (rest ≡ []) ⊎ Owned (after_all (tcp h) w (y ∷ ys)).hosts socket
        → (told_from h socket w (y ∷ ys) ≡ []) ⊎ Owned (after_all (tcp h) w (y ∷ ys)).hosts socket
    go (inr own) later = inr (own.0, stays_run h w (y ∷ ys) g may own.0.host socket own.0.number own.1)
    go (inl none) (inr own) = inr own
    go (inl none) (inl more) = inl (ap (λ (l : List ℕ). l ++ rest) none ∙ more)

-- 3. the law

-- all that reads on an endpoint's socket number were told, as its stream has it
told_own : (h : Header) (steps : List (Stamped tcp_shape)) → Lawful (tcp h) (start (tcp h)) steps
    → (socket : ℕ) (me : EndpointId) (e : Endpoint)
    → owner (pick (world_at_end h steps).hosts me.host).body socket ≡ Some me.number
    → find (world_at_end h steps).hosts me ≡ Some e
    → told_to h socket steps ≡ received e.stream.receive
told_own h steps may socket me e own at = told_run h (start (tcp h)) steps socket me (steady_start h) may own ∙ (matches_run h steps may me e at).0

pub were_carried : (h : Header) (steps : List (Stamped tcp_shape)) → Lawful (tcp h) (start (tcp h)) steps → ReadsWereCarried h steps
were_carried h steps may = record {
  bytes = λ socket i value e. byte socket i value e (owned_run h (start (tcp h)) steps socket (steady_start h) may);
  end = λ socket e. end socket (ended_run h (start (tcp h)) steps socket (steady_start h) may e);
}
  where
    a : Hosts
    a = (world_at_end h steps).hosts

    byte : (socket i value : ℕ) → slice_get (told_to h socket steps) i ≡ Some value
        → (told_to h socket steps ≡ []) ⊎ Owned a socket → CarriedTo h steps socket (1 + i) (Byte value)
    byte socket i value e (inl none) = absurd (none-some value (subst (λ (l : List ℕ). slice_get l i ≡ Some value) none e))
    byte socket i value e (inr own) =
        let me = own.0 in
        let x = ((steady_run h (start (tcp h)) steps (steady_start h) may).sound me.host).named socket me.number own.1 in
        let there = (steady_run h (start (tcp h)) steps (steady_start h) may).own me.host me.number x.0 x.1 in
        let told = subst (λ (l : List ℕ). slice_get l i ≡ Some value) (told_own h steps may socket me x.0 own.1 x.1) e in
        let at = received_at x.0.stream.receive there.order i value told in
        let place : suc i ≡ 1 + i = omega arith in (
          me,
          socket_here a me.host socket me.number own.1,
          subst (λ p. Carried h steps me p (Byte value)) place
              (taken_carried h steps may me x.0 x.1 (suc i) (Byte value) at (omega arith)),
        )

    end : (socket : ℕ) → EndedAt a socket → CarriedTo h steps socket (1 + length (told_to h socket steps)) Fin
    end socket x =
        let told = ap length (told_own h steps may socket x.0 x.2 x.1 x.3) in
        let place : suc (length (received x.2.stream.receive)) ≡ 1 + length (told_to h socket steps) = omega arith in (
          x.0,
          socket_here a x.0.host socket x.0.number x.1,
          subst (λ p. Carried h steps x.0 p Fin) place
              (taken_carried h steps may x.0 x.2 x.3 (suc (length (received x.2.stream.receive))) Fin x.4
              (omega arith)),
        )
