-- What a step has to show of the endpoints of one host, and what follows for both hosts.
use Rattle.std.proofs.Common.{◌≡◌, ℕ, zero, suc, ◌<◌, ◌≤◌, ◌⊎◌, true, List, [], ◌∷◌, ◌++◌, length, map, Option, Some, refl, sym, subst, ◌∙◌, inl, inr, arith}
use Rattle.std.specs.Prelude.{slice_get}
use Rattle.std.proofs.lemmas.Option.{none-some, same_Some}
use Rattle.case_forms.specs.declared.calls.Host.{Host}
use Rattle.case_forms.specs.declared.calls.Host.TheVariants.{Zero, One}
use Rattle.streams.specs.declared.cell.Cell.{Cell}
use Rattle.streams.specs.Lists.{modify}
use Rattle.streams.specs.Received.{next}
use Rattle.streams.proofs.Places.{get_append, all_push, all_modify, same_at}
use Rattle.spec_network.specs.Tables.{Both, pick, other, with_host}
use Rattle.spec_network.specs.Hosts.{HostState}
use Rattle.spec_tcp.specs.declared.endpoint.EndpointId.{EndpointId}
use Rattle.spec_tcp.specs.declared.endpoint.Stream.{Stream}
use Rattle.spec_tcp.specs.declared.endpoint.Endpoint.{Endpoint}
use Rattle.case_forms.specs.States.{is_syn_sent}
use Rattle.spec_tcp.specs.Machine.{tcp_shape}
use Rattle.spec_tcp_laws.specs.Consequences.{find, HasStream}
use Rattle.spec_tcp_laws.proofs.Tables.{InTables}
use Rattle.spec_tcp_laws.proofs.Later.{Hosts, name, AllLater, Waits, GoodEmission, GoodStream, GoodEnd, GoodHost, Good, host_later}

-- what is below the oldest position not acknowledged was taken by the peer in this world
abbrev pub UnaIn : Hosts → EndpointId → Stream → Type 0
UnaIn a me s = 1 < s.snd_una → (q : EndpointId) × (s.peer ≡ Some q) × HasStream a q (λ t. (t.peer ≡ Some me) × (s.snd_una ≤ next t.receive))

-- an endpoint changes in a step from these hosts
pub record Changes (a : Hosts) (me : EndpointId) (e f : Endpoint) : Type 0 where
  pub snd_una : UnaIn a me f.stream
  pub good : (c : Hosts) → AllLater a c → GoodEnd c me e → GoodEnd c me f

-- an endpoint is created in a step from them
pub record Fresh (a : Hosts) (me : EndpointId) (f : Endpoint) : Type 0 where
  pub snd_una : UnaIn a me f.stream
  pub good : (c : Hosts) → AllLater a c → GoodEnd c me f

-- the endpoints of a host change
pub record Moves (a : Hosts) (host : Host) (es fs : List Endpoint) : Type 0 where
  pub onward : (i : ℕ) (e : Endpoint) → slice_get es i ≡ Some e → (f : Endpoint) × (slice_get fs i ≡ Some f) × Changes a (name host i) e f
  pub back : (i : ℕ) (f : Endpoint) → slice_get fs i ≡ Some f → ((e : Endpoint) × (slice_get es i ≡ Some e)) ⊎ Fresh a (name host i) f

pub una_in : (a : Hosts) (me : EndpointId) (s : Stream) → GoodStream a me s → UnaIn a me s
una_in a me s g = g.snd_una

-- an endpoint changes, but not in what it has of its peer, and doesn't go back to SYN-SENT
pub record KeepsPeer (e f : Endpoint) : Type 0 where
  pub peer : f.stream.peer ≡ e.stream.peer
  pub taken : f.stream.receive.taken ≡ e.stream.receive.taken
  pub snd_una : f.stream.snd_una ≡ e.stream.snd_una
  pub waits : is_syn_sent f.state ≡ true → is_syn_sent e.state ≡ true

pub keeps_same : (e : Endpoint) → KeepsPeer e e
keeps_same e = record { peer = refl; taken = refl; snd_una = refl; waits = λ h. h }

pub keeps_waits : (e f : Endpoint) → KeepsPeer e f → Waits e → Waits f
keeps_waits e f k was = λ w. let h = was (k.waits w) in (k.peer ∙ h.0, k.taken ∙ h.1)

keeps_una : (a : Hosts) (me : EndpointId) (e f : Endpoint) → KeepsPeer e f → UnaIn a me e.stream → UnaIn a me f.stream
keeps_una a me e f k was = λ more. let h = was (subst (λ n. 1 < n) k.snd_una more) in
    (h.0, k.peer ∙ h.1, (h.2.0, h.2.1, (h.2.2.0, subst (λ n. n ≤ next h.2.0.stream.receive) (sym k.snd_una) h.2.2.1)))

keeps_good : (c : Hosts) (me : EndpointId) (e f : Endpoint) → KeepsPeer e f → GoodStream c me e.stream → GoodStream c me f.stream
keeps_good c me e f k g = record {
  taken = λ p x at. let h = g.taken p x (subst (λ (l : List (Option Cell)). slice_get l p ≡ Some (Some x)) k.taken at) in (h.0, k.peer ∙ h.1, h.2);
  snd_una = keeps_una c me e f k g.snd_una;
  peer = λ q is. g.peer q (sym k.peer ∙ is);
}

pub changes_keeps : (a : Hosts) (me : EndpointId) (e f : Endpoint) → GoodEnd a me e → KeepsPeer e f → Changes a me e f
changes_keeps a me e f g k = record {
  snd_una = keeps_una a me e f k g.stream.snd_una;
  good = λ c later was. record { stream = keeps_good c me e f k was.stream; waits = keeps_waits e f k was.waits };
}

pub changes_not : (a : Hosts) (me : EndpointId) (e : Endpoint) → GoodEnd a me e → Changes a me e e
changes_not a me e g = changes_keeps a me e e g (keeps_same e)

-- the endpoints of a host, as it has them
abbrev pub GoodEnds : Hosts → Host → List Endpoint → Type 0
GoodEnds a host es = (i : ℕ) (e : Endpoint) → slice_get es i ≡ Some e → GoodEnd a (name host i) e

-- none changes
pub moves_not : (a : Hosts) (host : Host) (es : List Endpoint) → GoodEnds a host es → Moves a host es es
moves_not a host es g = record { onward = λ i e at. (e, at, changes_not a (name host i) e (g i e at)); back = λ i f at. inl (f, at) }

-- what each element becomes, where one is modified
pub modify_each : {X : Type 0} (R : ℕ → X → X → Type 0) (f : X → X) (xs : List X) (i : ℕ)
    → ((j : ℕ) (x : X) → slice_get xs j ≡ Some x → (j ≡ i → ⊥) → R j x x)
    → ((x : X) → slice_get xs i ≡ Some x → R i x (f x))
    → (j : ℕ) (x : X) → slice_get xs j ≡ Some x → (y : X) × (slice_get (modify xs i f) j ≡ Some y) × R j x y
modify_each R f [] i old new j x e = absurd (none-some x e)
modify_each R f (a ∷ xs) zero old new zero x e = (f a, refl, subst (λ z. R zero z (f a)) (same_Some a x e) (new a refl))
modify_each R f (a ∷ xs) zero old new (suc j) x e = (x, e, old (suc j) x e (λ p. omega arith))
modify_each R f (a ∷ xs) (suc i) old new zero x e = (x, e, old zero x e (λ p. omega arith))
modify_each R f (a ∷ xs) (suc i) old new (suc j) x e = modify_each (λ k. R (suc k)) f xs i (λ k y h n. old (suc k) y h (λ p. n (omega arith))) new j x e

-- one changes
pub moves_one : (a : Hosts) (host : Host) (es : List Endpoint) (i : ℕ) (f : Endpoint → Endpoint) → GoodEnds a host es
    → ((e : Endpoint) → slice_get es i ≡ Some e → Changes a (name host i) e (f e)) → Moves a host es (modify es i f)
moves_one a host es i f g new = record {
  onward = modify_each (λ j. Changes a (name host j)) f es i (λ j e at n. changes_not a (name host j) e (g j e at)) new;
  back = all_modify (λ j y. ((e : Endpoint) × (slice_get es j ≡ Some e)) ⊎ Fresh a (name host j) y) f es i (λ j e x. inl (e, x)) (λ e x. inl (e, x));
}

-- one changes, but not in what it has of its peer
pub moves_keeps : (a : Hosts) (host : Host) (es : List Endpoint) (i : ℕ) (f : Endpoint → Endpoint) → GoodEnds a host es
    → ((e : Endpoint) → KeepsPeer e (f e)) → Moves a host es (modify es i f)
moves_keeps a host es i f g keeps = moves_one a host es i f g (λ e at. changes_keeps a (name host i) e (f e) (g i e at) (keeps e))

pub map_onward : {X : Type 0} (R : ℕ → X → X → Type 0) (f : X → X) (xs : List X)
    → ((j : ℕ) (x : X) → slice_get xs j ≡ Some x → R j x (f x)) → (j : ℕ) (x : X) → slice_get xs j ≡ Some x
    → (y : X) × (slice_get (map f xs) j ≡ Some y) × R j x y
map_onward R f [] h j x e = absurd (none-some x e)
map_onward R f (a ∷ xs) h zero x e = (f a, refl, subst (λ z. R zero z (f a)) (same_Some a x e) (h zero a refl))
map_onward R f (a ∷ xs) h (suc j) x e = map_onward (λ k. R (suc k)) f xs (λ k. h (suc k)) j x e

pub map_back : {X : Type 0} (f : X → X) (xs : List X) (j : ℕ) (y : X) → slice_get (map f xs) j ≡ Some y → (x : X) × (slice_get xs j ≡ Some x) × (f x ≡ y)
map_back f [] j y e = absurd (none-some y e)
map_back f (a ∷ xs) zero y e = (a, refl, same_Some (f a) y e)
map_back f (a ∷ xs) (suc j) y e = map_back f xs j y e

-- all may change, but not in what they have of their peers
pub moves_map : (a : Hosts) (host : Host) (es : List Endpoint) (f : Endpoint → Endpoint) → GoodEnds a host es
    → ((e : Endpoint) → KeepsPeer e (f e)) → Moves a host es (map f es)
moves_map a host es f g keeps = record {
  onward = map_onward (λ j. Changes a (name host j)) f es (λ j e at. changes_keeps a (name host j) e (f e) (g j e at) (keeps e));
  back = λ j y e. let h = map_back f es j y e in inl (h.0, h.1);
}

-- an endpoint is created
pub moves_push : (a : Hosts) (host : Host) (es : List Endpoint) (e : Endpoint) → GoodEnds a host es
    → Fresh a (name host (length es)) e → Moves a host es (es ++ e ∷ [])
moves_push a host es e g new = record {
  onward = λ i x at. (x, get_append es (e ∷ []) i x at, changes_not a (name host i) x (g i x at));
  back = all_push (λ j y. ((x : Endpoint) × (slice_get es j ≡ Some x)) ⊎ Fresh a (name host j) y) es e (λ j x at. inl (x, at)) (inr new);
}

-- a step: all is good after it too, and what is acknowledged after it was taken before it
pub record Kept (a b : Hosts) : Type 0 where
  pub good : Good b
  pub before : (me : EndpointId) (f : Endpoint) → find b me ≡ Some f → UnaIn a me f.stream

-- nothing changes
pub kept_not : (a : Hosts) → Good a → Kept a a
kept_not a g = record { good = g; before = λ me f at. una_in a me f.stream ((g me.host).endpoints me.number f at).stream }

-- a property of both hosts, where one is replaced
pub with_cases : {X : Type 0} (a : Both X) (g : Host) (h : X) (P : Host → X → Type 0) → P g h
    → P (other g) (pick a (other g)) → (x : Host) → P x (pick (with_host a g h) x)
with_cases a Zero h P p q Zero = p
with_cases a Zero h P p q One = q
with_cases a One h P p q Zero = q
with_cases a One h P p q One = p

-- what a host's endpoints become, and what they were
moved : (a : Hosts) (host : Host) (es fs : List Endpoint) (i : ℕ) (e f : Endpoint) → Moves a host es fs
    → slice_get es i ≡ Some e → slice_get fs i ≡ Some f → Changes a (name host i) e f
moved a host es fs i e f m at now =
    let h = m.onward i e at in
    subst (λ (x : Endpoint). Changes a (name host i) e x) (same_at fs i h.0 f h.1 now) h.2

-- one host changes: what is to be shown is of that host alone
pub kept_host : (a : Hosts) (host : Host) (h : HostState tcp_shape) → Good a → AllLater a (with_host a host h)
    → Moves a host (pick a host).body.endpoints h.body.endpoints
    → ((c : Hosts) → AllLater a c → InTables (GoodEmission c) (pick a host) → InTables (GoodEmission c) h) → Kept a (with_host a host h)
kept_host a host h g later m tables = record {
  good = with_cases a host h (λ x k. GoodHost b x k) here (host_later a b later (other host) (pick a (other host)) (g (other host)));
  before = λ me. with_cases a host h (λ x k. (i : ℕ) (f : Endpoint) → slice_get k.body.endpoints i ≡ Some f → UnaIn a (name x i) f.stream)
      (λ i f at. snd_una i f at (m.back i f at))
      (λ i f at. una_in a (name (other host) i) f.stream ((g (other host)).endpoints i f at).stream) me.host
      me.number;
}
  where
    b : Hosts
    b = with_host a host h

    snd_una : (i : ℕ) (f : Endpoint) → slice_get h.body.endpoints i ≡ Some f
        → ((e : Endpoint) × (slice_get (pick a host).body.endpoints i ≡ Some e)) ⊎ Fresh a (name host i) f
        → UnaIn a (name host i) f.stream
    snd_una i f at (inl old) = (moved a host (pick a host).body.endpoints h.body.endpoints i old.0 f m old.1 at).snd_una
    snd_una i f at (inr new) = new.snd_una

    good_end : GoodHost b host (pick a host) → (i : ℕ) (f : Endpoint) → slice_get h.body.endpoints i ≡ Some f
        → ((e : Endpoint) × (slice_get (pick a host).body.endpoints i ≡ Some e)) ⊎ Fresh a (name host i) f
        → GoodEnd b (name host i) f
    good_end was i f at (inl old) = (moved a host (pick a host).body.endpoints h.body.endpoints i old.0 f m old.1 at).good b later (was.endpoints i old.0 old.1)
    good_end was i f at (inr new) = new.good b later

    here : GoodHost b host h
    here =
        let was = host_later a b later host (pick a host) (g host) in
        record { endpoints = λ i f at. good_end was i f at (m.back i f at); tables = tables b later was.tables }

-- a host is put back as it was
pub kept_same : (a : Hosts) (host : Host) → Good a → Kept a (with_host a host (pick a host))
kept_same a Zero g = kept_not a g
kept_same a One g = kept_not a g
