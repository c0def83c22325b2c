-- Numbers can be read near the positions of each endpoint that is kept; and what an endpoint does that takes a segment as it reads it.
use Rattle.std.proofs.Common.{◌≡◌, ℕ, zero, suc, ◌<◌, ◌^◌, Bool, true, false, List, [], ◌∷◌, ◌++◌, Option, None, Some, refl, ap, sym, subst, ◌∙◌}
use Rattle.std.specs.Prelude.{◌&&◌, if◌then◌else◌, slice_get, Result, Ok, Err, OnOk}
use Rattle.std.specs.List.{All}
use Rattle.std.specs.Option.{IfSome, option_map_or}
use Rattle.std.proofs.lemmas.List.Elements.{All-head, All-tail, All-weaker}
use Rattle.case_forms.specs.declared.calls.Host.{Host}
use Rattle.case_forms.specs.declared.calls.Host.TheVariants.{Zero, One}
use Rattle.case_forms.specs.States.{is_syn_received}
use Rattle.case_forms.specs.declared.steps.TakeChoice.{TakeChoice}
use Rattle.case_forms.specs.declared.trace.Header.{Header}
use Rattle.spec_network.specs.Tables.{pick}
use Rattle.spec_network.specs.Hosts.{World}
use Rattle.spec_tcp.specs.declared.endpoint.Endpoint.{Endpoint}
use Rattle.spec_tcp.specs.declared.endpoint.Emission.{Emission}
use Rattle.spec_tcp.specs.declared.endpoint.Listener.{Listener}
use Rattle.spec_tcp.specs.HostTcp.{HostTcp}
use Rattle.spec_tcp.specs.Heard.{as_read}
use Rattle.spec_tcp.specs.Arrives.OtherStates.Ack.{acknowledges_syn}
use Rattle.spec_tcp.specs.Arrives.{after_taking, endpoint_taken, joined}
use Rattle.spec_tcp.specs.Forgetting.{forget_body}
use Rattle.streams.specs.Lists.{modify}
use Rattle.spec_tcp.specs.Bounds.{HasRoom, IsKept}
use Rattle.spec_tcp.specs.Machine.{tcp_shape}
use Rattle.endpoint_state.specs.declared.host_tcp.arrives.Found.TheVariants as found
use Rattle.endpoint_state.specs.Changes.{changed}
use Rattle.endpoint_state.specs.Kept.{AreReadable, IsKeptWorld}
use Rattle.endpoint_state.specs.Takers.{joins_by, taker_found}

pub room_reads : (es : List Endpoint) → All HasRoom es → AreReadable es
room_reads es room = All-weaker HasRoom (λ e. e.stream.snd_una < 2 ^ 63) (λ e has. has.snd_una) es room

pub kept_reads : (steps : ℕ) (w : World tcp_shape) (host : Host) → IsKeptWorld steps w → AreReadable (pick w.hosts host).body.endpoints
kept_reads steps w Zero kept = All-weaker (IsKept steps) (λ e. e.stream.snd_una < 2 ^ 63) (λ e has. has.snd_una) w.hosts.zero.body.endpoints kept.zero.body.kept
kept_reads steps w One kept = All-weaker (IsKept steps) (λ e. e.stream.snd_una < 2 ^ 63) (λ e has. has.snd_una) w.hosts.one.body.endpoints kept.one.body.kept

-- the endpoint at a place
pub una_at : (es : List Endpoint) (i : ℕ) (e : Endpoint) → AreReadable es → Some e ≡ slice_get es i → e.stream.snd_una < 2 ^ 63
una_at [] i e all is = absurd cc
una_at (x ∷ es) zero e all is =
    subst (λ (o : Option Endpoint). IfSome o (λ y. y.stream.snd_una < 2 ^ 63)) (sym is)
    (All-head (λ (y : Endpoint). y.stream.snd_una < 2 ^ 63) x es all)
una_at (x ∷ es) (suc i) e all is = una_at es i e (All-tail (λ (y : Endpoint). y.stream.snd_una < 2 ^ 63) x es all) is

-- the endpoint at a place takes a segment as it reads it (`r`), and joins that listener's queue if it joins one
joined_is : (b : HostTcp) (place : ℕ) (e : Endpoint) (r : Emission)
    → option_map_or (λ l. modify b.listeners l
    (λ x. let y : Listener = record x { queue = x.queue ++ place ∷ [] } in y)) (joins_by e r) b.listeners
    ≡ joined b place e r
joined_is b place e r = by (is_syn_received e.state && acknowledges_syn e r)
  where
    by : (c : Bool)
        → option_map_or (λ l. modify b.listeners l
        (λ x. let y : Listener = record x { queue = x.queue ++ place ∷ [] } in y))
        (if c then e.listener else None) b.listeners
        ≡ (if c then option_map_or (λ l. modify b.listeners l (λ x. record x { queue = x.queue ++ place ∷ [] })) e.listener b.listeners else b.listeners)
    by true = refl
    by false = refl

pub took_at : (h : Header) (how : TakeChoice) (m r : Emission) (moment place : ℕ) (e : Endpoint) (b : HostTcp)
    (o : Option ℕ) → slice_get b.endpoints place ≡ Some e → r ≡ as_read h.version e m → joins_by e r ≡ o
    → (let c : HostTcp = record b {
      endpoints = changed b.endpoints place (λ x. endpoint_taken h x how r moment);
      listeners = option_map_or (λ l.
          modify b.listeners l (λ x. let y : Listener = record x { queue = x.queue ++ place ∷ [] } in y)) o
          b.listeners;
    } in c)
    ≡ forget_body (after_taking h b how m moment (taker_found b (Some (found.Endpoint place))))
took_at h how m r moment place e b o there read joins =
    let queues =
    ap (λ (p : Option ℕ). option_map_or
    (λ l. modify b.listeners l (λ x. let y : Listener = record x { queue = x.queue ++ place ∷ [] } in y)) p
    b.listeners) (sym joins) ∙ joined_is b place e r in
    rw (there, sym read, queues) refl

pub took_joined : {E : Type 0} (h : Header) (how : TakeChoice) (m r : Emission) (moment place l : ℕ) (e : Endpoint)
    (b new : HostTcp) (result : Result (Unit {0}) E)
    → slice_get b.endpoints place ≡ Some e → r ≡ as_read h.version e m → joins_by e r ≡ Some l
    → OnOk result (new ≡ record b {
      endpoints = changed b.endpoints place (λ x. endpoint_taken h x how r moment);
      listeners = modify b.listeners l (λ x. record x { queue = x.queue ++ place ∷ [] });
    })
    → OnOk result (new ≡ forget_body (after_taking h b how m moment (taker_found b (Some (found.Endpoint place)))))
took_joined h how m r moment place l e b new (Ok x) there read joins is = is ∙ took_at h how m r moment place e b (Some l) there read joins
took_joined h how m r moment place l e b new (Err x) there read joins is = tt

pub took_alone : {E : Type 0} (h : Header) (how : TakeChoice) (m r : Emission) (moment place : ℕ) (e : Endpoint)
    (b inside : HostTcp) (es : List Endpoint) (result : Result (Unit {0}) E)
    → inside ≡ b → slice_get b.endpoints place ≡ Some e → r ≡ as_read h.version e m → joins_by e r ≡ None
    → OnOk result (es ≡ changed inside.endpoints place (λ x. endpoint_taken h x how r moment))
    → OnOk result ((let c : HostTcp = record inside { endpoints = es } in c)
    ≡ forget_body (after_taking h b how m moment (taker_found b (Some (found.Endpoint place)))))
took_alone h how m r moment place e b inside es (Ok x) same there read joins is =
    ap (λ (xs : List Endpoint). let c : HostTcp = record inside { endpoints = xs } in c) is
    ∙ (ap (λ (d : HostTcp). let c : HostTcp = record d { endpoints = changed d.endpoints place (λ x. endpoint_taken h x how r moment) } in c) same
    ∙ took_at h how m r moment place e b None there read joins)
took_alone h how m r moment place e b inside es (Err x) same there read joins is = tt
