-- What a step of each kind leaves at its host is what the kernel's step leaves of both, with all discarded that may be.
use Rattle.std.proofs.Common.{◌≡◌, ℕ, Option, None, Some, refl, sym, ap, ◌∙◌, nat_eq}
use Rattle.std.specs.Map.{lookup}
use Rattle.indexmap.specs.IndexMap.{insert_entry}
use Rattle.case_forms.specs.declared.trace.Header.{Header}
use Rattle.case_forms.specs.declared.trace.Wire.{Wire}
use Rattle.case_forms.specs.declared.calls.Host.{Host}
use Rattle.case_forms.specs.declared.calls.Host.TheVariants.{Zero, One}
use Rattle.spec_network.specs.Tables.{Both, pick, other, with_host, on, waiting, settled, unsent}
use Rattle.spec_network.specs.Hosts.{HostState, Answers, Drops, Gets, Hears, Sends}
use Rattle.spec_network.specs.HostSteps.{inbox_after}
use Rattle.spec_tcp.specs.declared.endpoint.Emission.{Emission}
use Rattle.spec_tcp.specs.Reset.{reset_of}
use Rattle.spec_tcp.specs.Machine.{tcp_shape}
use Rattle.spec_tcp.specs.Forgetting.{forget_host}
use Rattle.endpoint_state.specs.Kept.{IsReady}
use Rattle.endpoint_state.specs.Kinds.{answered_one, dropped_one, heard_one, sent_one}
use Rattle.endpoint_state.specs.Sides.{AreReady, forget_hosts, hosts_after}
use Rattle.endpoint_state.proofs.Still.{still_body, still_host}

abbrev Host_ : Type 0
Host_ = HostState tcp_shape

pub ready_at : (hosts : Both Host_) (host : Host) → AreReady hosts → IsReady (pick hosts host)
ready_at hosts Zero are = are.zero
ready_at hosts One are = are.one

-- one lemma for every kind: the other host is still
pub lent : (hosts : Both Host_) (host : Host) (x y : Host_) → AreReady hosts → x ≡ forget_host y
    → with_host hosts host x ≡ forget_hosts (with_host hosts host y)
lent hosts Zero x y are is = rw (is, still_host hosts.one are.one) refl
lent hosts One x y are is = rw (is, still_host hosts.zero are.zero) refl

-- where only tables change
tables : (hosts : Both Host_) (host : Host) (x : Host_) → AreReady hosts → x.body ≡ (pick hosts host).body
    → with_host hosts host x ≡ forget_hosts (with_host hosts host x)
tables hosts host x are same =
    lent hosts host x x are (sym (ap (λ b. record x { body = b })
    (rw same (still_body (pick hosts host).body (ready_at hosts host are).room) ∙ sym same)))

pub sent_hosts : (hd : Header) (moment fresh line number : ℕ) (w : Wire) (hosts : Both Host_) (host : Host)
    → AreReady hosts → with_host hosts host (sent_one moment line number w (pick hosts host))
    ≡ hosts_after hd moment fresh hosts host (Sends line number w)
sent_hosts hd moment fresh line number w hosts host are = tables hosts host (sent_one moment line number w (pick hosts host)) are refl

-- a copy of what that line of the other host put on its wire joins the inbox
pub came_hosts : (hd : Header) (moment fresh line copied : ℕ) (w : Wire) (m : Emission) (hosts : Both Host_)
    (host : Host) (x : Host_) → AreReady hosts → lookup (nat_eq copied) (pick hosts (other host)).wire ≡ Some m
    → x ≡ record (pick hosts host) { inbox = insert_entry nat_eq (pick hosts host).inbox line (Some m) }
    → with_host hosts host x ≡ hosts_after hd moment fresh hosts host (Gets line copied w)
came_hosts hd moment fresh line copied w m hosts host x are found is =
    let k = pick hosts host in
    let y : Host_ = record k { inbox = inbox_after (pick hosts (other host)).wire line copied k.inbox } in
    let joined : x ≡ y = is ∙ rw found refl in
    ap (λ (z : Host_). with_host hosts host z) joined ∙ tables hosts host y are refl

pub heard_hosts : (hd : Header) (moment fresh line : ℕ) (w : Wire) (hosts : Both Host_) (host : Host) → AreReady hosts
    → with_host hosts host (heard_one moment line w (pick hosts host))
    ≡ hosts_after hd moment fresh hosts host (Hears line w)
heard_hosts hd moment fresh line w hosts host are = tables hosts host (heard_one moment line w (pick hosts host)) are refl

pub dropped_hosts : (hd : Header) (moment fresh line : ℕ) (hosts : Both Host_) (host : Host) → AreReady hosts
    → with_host hosts host (dropped_one line (pick hosts host)) ≡ hosts_after hd moment fresh hosts host (Drops line)
dropped_hosts hd moment fresh line hosts host are = tables hosts host (dropped_one line (pick hosts host)) are refl

pub answered_hosts : (hd : Header) (moment fresh line : ℕ) (hosts : Both Host_) (host : Host) → AreReady hosts
    → with_host hosts host (answered_one line fresh (pick hosts host))
    ≡ hosts_after hd moment fresh hosts host (Answers line)
answered_hosts hd moment fresh line hosts host are =
    tables hosts host (answered_one line fresh (pick hosts host)) are refl
    ∙ ap (λ (h : Host_). forget_hosts (with_host hosts host h)) (by (waiting line (pick hosts host).inbox))
  where
    k : Host_
    k = pick hosts host

    by : (o : Option Emission)
        → (let y : Host_ = record k {
          made = on o k.made (λ e. insert_entry nat_eq k.made fresh (unsent (reset_of e)));
          inbox = on o k.inbox (λ e. settled line k.inbox);
        } in y)
        ≡ record k {
          body = on o k.body (λ e. k.body);
          made = on o k.made (λ e. insert_entry nat_eq k.made fresh (unsent (reset_of e)));
          inbox = on o k.inbox (λ e. settled line k.inbox);
        }
    by None = refl
    by (Some e) = refl
