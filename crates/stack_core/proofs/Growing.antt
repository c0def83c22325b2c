-- A recording that grows by a step, or by a segment that is brought, stays one.
use Rattle.std.proofs.Common.{◌≡◌, ℕ, suc, List, [], ◌∷◌, ◌++◌, refl, ap, sym, ◌∙◌, subst}
use Rattle.case_forms.specs.Traces.{first_event_line}
use Rattle.case_forms.specs.declared.calls.Host.{Host}
use Rattle.case_forms.specs.declared.calls.Host.TheVariants.{Zero, One}
use Rattle.case_forms.specs.declared.trace.Header.{Header}
use Rattle.spec_network.specs.Hosts.{World, Step}
use Rattle.spec_network.specs.HostSteps as machine
use Rattle.spec_network.specs.Tables.{other}
use Rattle.spec_tcp.specs.Machine.{tcp, tcp_shape}
use Rattle.spec_tcp.specs.Forgetting.{forget}
use Rattle.spec_tcp_laws.proofs.ForgetWorlds.{after-forgets, makes_permitted}
use Rattle.endpoint_state.specs.Worlds.{Progress, after, brought}
use Rattle.spec_merge.specs.Books.{Key, Flying, Item, Do, Bring, bring}
use Rattle.spec_merge.specs.Recordings.{TcpEntry, IsKept, MayJoin, world_of}
use Rattle.spec_merge.proofs.Growing.{end_more}
use Rattle.stack_core.specs.Entries.{item_steps, steps_in}
use Rattle.stack_core.specs.Recordings.{IsRecording}

swap : (a b : Item tcp_shape) (n : ℕ) → item_steps a (item_steps b n) ≡ item_steps b (item_steps a n)
swap (Do s) (Do t) n = refl
swap (Do s) (Bring f) n = refl
swap (Bring f) (Do t) n = refl
swap (Bring f) (Bring g) n = refl

-- the count of steps, once an entry joined
pub steps_more : (xs : List TcpEntry) (x : TcpEntry) → steps_in (xs ++ x ∷ []) ≡ item_steps x.item (steps_in xs)
steps_more [] x = refl
steps_more (y ∷ xs) x = ap (item_steps y.item) (steps_more xs x) ∙ swap y.item x.item (steps_in xs)

abbrev pub Grows : Type 0
Grows = (h : Header) (me : Host) (first : ℕ) (old new : List TcpEntry) → IsKept h me first old → MayJoin h me first old new → IsKept h me first (old ++ new)

pub step_joins : Grows → (me : Host) (p q : Progress) (moment : ℕ) (step : Step tcp_shape) (key : Key) (es room new : List TcpEntry)
    → IsRecording me p es
    → MayJoin p.header me (first_event_line p.header) es (record { key = key; item = Do step } ∷ [])
    → key.moment ≡ moment → q ≡ after p moment step
    → room ≡ es → new ≡ room ++ record { key = key; item = Do step } ∷ [] → IsRecording me q new
step_joins grows me p q moment step key es room new is join at q_is room_is new_is =
    let x : TcpEntry = record { key = key; item = Do step } in
    let w : World tcp_shape = world_of p.header me es in
    let there : IsRecording me (after p key.moment step) (es ++ x ∷ []) = record {
      kept = grows p.header me (first_event_line p.header) es (x ∷ []) is.kept join;
      world = ap (λ (v : World tcp_shape). forget (machine.after (tcp p.header) key.moment v step)) is.world
          ∙ after-forgets p.header key.moment w step (makes_permitted p.header key.moment w step join.runs.0.0)
          ∙ ap forget (sym (end_more (tcp p.header) me (machine.start (tcp p.header)) es (x ∷ [])));
      steps = ap suc is.steps ∙ sym (steps_more es x);
    } in
    subst (λ (m : ℕ). q ≡ after p m step → IsRecording me q new) at
    (λ q_is. subst (λ (r : Progress). IsRecording me r new) (sym q_is)
    (subst (λ (es2 : List TcpEntry). IsRecording me (after p key.moment step) es2)
    (sym (new_is ∙ ap (λ (es2 : List TcpEntry). es2 ++ x ∷ []) room_is)) there)) q_is

-- what is brought is forgotten as ever
brings : (h : Header) (host : Host) (f : Flying tcp_shape) (w : World tcp_shape) → bring (tcp h) host f (forget w) ≡ forget (bring (tcp h) host f w)
brings h Zero f w = refl
brings h One f w = refl

pub bring_joins : Grows → (me : Host) (p q : Progress) (key : Key) (f : Flying tcp_shape) (es room new : List TcpEntry)
    → IsRecording me p es
    → MayJoin p.header me (first_event_line p.header) es (record { key = key; item = Bring f } ∷ [])
    → q ≡ brought p (other me) f.line f.emission
    → room ≡ es → new ≡ room ++ record { key = key; item = Bring f } ∷ [] → IsRecording me q new
bring_joins grows me p q key f es room new is join q_is room_is new_is =
    let x : TcpEntry = record { key = key; item = Bring f } in
    let w : World tcp_shape = world_of p.header me es in
    let there : IsRecording me (brought p (other me) f.line f.emission) (es ++ x ∷ []) = record {
      kept = grows p.header me (first_event_line p.header) es (x ∷ []) is.kept join;
      world = ap (bring (tcp p.header) (other me) f) is.world
          ∙ brings p.header (other me) f w
          ∙ ap forget (sym (end_more (tcp p.header) me (machine.start (tcp p.header)) es (x ∷ [])));
      steps = is.steps ∙ sym (steps_more es x);
    } in
    subst (λ (r : Progress). IsRecording me r new) (sym q_is)
    (subst (λ (es2 : List TcpEntry). IsRecording me (brought p (other me) f.line f.emission) es2)
    (sym (new_is ∙ ap (λ (es2 : List TcpEntry). es2 ++ x ∷ []) room_is)) there)
