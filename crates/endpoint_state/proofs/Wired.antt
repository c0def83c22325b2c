-- What goes out or comes in has what it was compared with, and the case is the next one.
use Rattle.std.proofs.Common.{◌≡◌, ℕ, Bool, true, false, not, None, Some, refl, sym, ap, subst, ◌+◌, ◌∙◌, nat_eq}
use Rattle.std.proofs.lemmas.Bool.{and_parts}
use Rattle.std.specs.Map.{lookup}
use Rattle.indexmap.specs.IndexMap.{insert_entry}
use Rattle.case_forms.specs.declared.calls.Host.{Host}
use Rattle.case_forms.specs.declared.calls.Host.TheVariants.{Zero, One}
use Rattle.case_forms.specs.declared.trace.Header.{Header}
use Rattle.case_forms.specs.declared.trace.Wire.{Wire}
use Rattle.verdict.specs.Rules.{first_broken}
use Rattle.verdict.proofs.RuleLemmas.{none_all}
use Rattle.spec_network.specs.HostRules.{arrival_rules, sending_rules}
use Rattle.spec_network.specs.Hosts.{At, Gets, Sends}
use Rattle.spec_network.specs.Tables.{other, pick, with_host}
use Rattle.spec_tcp.specs.declared.endpoint.Emission.{Emission}
use Rattle.spec_tcp.specs.Same.{same_bytes}
use Rattle.spec_tcp.specs.Wire.{in_rules, matches_sent, out_rules}
use Rattle.spec_tcp_laws.proofs.Sameness.{sameness}
use Rattle.endpoint_state.specs.Kept.{IsKeptWorld}
use Rattle.endpoint_state.specs.Kinds.{sent_one}
use Rattle.endpoint_state.specs.Sides.{AreReady}
use Rattle.endpoint_state.specs.Worlds.{Progress, after}
use Rattle.endpoint_state.proofs.KeptHostSteps.{Host_}
use Rattle.endpoint_state.proofs.KindLemmas.{came_hosts, sent_hosts}
use Rattle.endpoint_state.proofs.Progresses.{Hosts_, Threads_, done_at, kept_next, shown}

-- the payload that was made
pub payload_sent : (h : Header) (wire : Wire) (m : Emission) → matches_sent h wire m ≡ true → wire.seg.payload ≡ m.payload
payload_sent h wire m same = (sameness.bytes wire.seg.payload m.payload).0 (and_parts _ _ (and_parts _ _ same).0).1

is_so : (b : Bool) → not b ≡ false → b ≡ true
is_so true e = refl
is_so false e = let bad : true ≡ false = e in cc

-- the bytes of the segment that it copies
pub bytes_came : (h : Header) (moment : ℕ) (wire : Wire) (m : Emission) → first_broken (in_rules h moment wire m) ≡ None → wire.bytes ≡ m.bytes
bytes_came h moment wire m kept =
    (sameness.bytes wire.bytes m.bytes).0 (is_so (same_bytes wire.bytes m.bytes) (none_all (in_rules h moment wire m) kept).0)

same_hosts : (hosts : Hosts_) (host : Host) (x : Host_) → x ≡ pick hosts host → with_host hosts host x ≡ hosts
same_hosts hosts Zero x same = rw same refl
same_hosts hosts One x same = rw same refl

-- where a host stays as it was, so does the invariant
pub unchanged_kept : (hosts : Hosts_) (threads : Threads_) (count steps : ℕ) (host : Host) (lent x : Host_) → lent ≡ pick hosts host → x ≡ lent
    → IsKeptWorld steps (record { hosts = hosts; threads = threads; count = count })
    → IsKeptWorld steps (record { hosts = with_host hosts host x; threads = threads; count = count })
unchanged_kept hosts threads count steps host lent x value same kept =
    subst (λ (a : Hosts_). IsKeptWorld steps (record { hosts = a; threads = threads; count = count })) (sym (same_hosts hosts host x (same ∙ value))) kept

module _ (h : Header) (hosts : Hosts_) (threads : Threads_) (count steps moment : ℕ) (host : Host) where
  -- the case after a segment went out
  pub sent_next : (p : Progress) (line number : ℕ) (w : Wire) (lent x : Host_) → AreReady hosts → shown h hosts threads count steps ≡ p → lent ≡ pick hosts host
      → x ≡ sent_one moment line number w lent → shown h (with_host hosts host x) threads count (steps + 1) ≡ after p moment (At host (Sends line number w))
  sent_next p line number w lent x are is value ok =
      done_at p h hosts (with_host hosts host x) threads count count steps moment host (Sends line number w) is
      (ap (λ (y : Host_). with_host hosts host y) (ok ∙ ap (λ (y : Host_). sent_one moment line number w y) value)
      ∙ sent_hosts h moment (count + 1) line number w hosts host are) refl

  -- and its invariant
  pub sent_kept : (line number : ℕ) (w : Wire) (lent x : Host_) → AreReady hosts → lent ≡ pick hosts host → x ≡ sent_one moment line number w lent
      → None ≡ first_broken (sending_rules (out_rules h) lent.made number w) → IsKeptWorld steps (record { hosts = hosts; threads = threads; count = count })
      → IsKeptWorld (steps + 1) (record { hosts = with_host hosts host x; threads = threads; count = count })
  sent_kept line number w lent x are value ok rule kept =
      kept_next (shown h hosts threads count steps) (shown h (with_host hosts host x) threads count (steps + 1)) moment (At host (Sends line number w))
      (sent_next (shown h hosts threads count steps) line number w lent x are refl value ok) tt
      (sym (rule ∙ ap (λ (y : Host_). first_broken (sending_rules (out_rules h) y.made number w)) value)) kept

  -- the case after a copy came in
  pub came_next : (p : Progress) (line copied : ℕ) (w : Wire) (m : Emission) (far lent x : Host_) → AreReady hosts
      → shown h hosts threads count steps ≡ p → far ≡ pick hosts (other host)
      → lookup (nat_eq copied) far.wire ≡ Some m → lent ≡ pick hosts host → x ≡ record lent { inbox = insert_entry nat_eq lent.inbox line (Some m) }
      → shown h (with_host hosts host x) threads count (steps + 1) ≡ after p moment (At host (Gets line copied w))
  came_next p line copied w m far lent x are is far_is found value ok =
      done_at p h hosts (with_host hosts host x) threads count count steps moment host (Gets line copied w) is
      (came_hosts h moment (count + 1) line copied w m hosts host x are (ap (λ (y : Host_). lookup (nat_eq copied) y.wire) (sym far_is) ∙ found)
      (ok ∙ ap (λ (y : Host_). let k : Host_ = record y { inbox = insert_entry nat_eq y.inbox line (Some m) } in k) value)) refl

  -- and its invariant
  pub came_kept : (line copied : ℕ) (w : Wire) (m : Emission) (far lent x : Host_) → AreReady hosts → far ≡ pick hosts (other host)
      → lookup (nat_eq copied) far.wire ≡ Some m → lent ≡ pick hosts host → x ≡ record lent { inbox = insert_entry nat_eq lent.inbox line (Some m) }
      → None ≡ first_broken (arrival_rules (in_rules h moment) far.wire copied w)
      → IsKeptWorld steps (record { hosts = hosts; threads = threads; count = count })
      → IsKeptWorld (steps + 1) (record { hosts = with_host hosts host x; threads = threads; count = count })
  came_kept line copied w m far lent x are far_is found value ok rule kept =
      kept_next (shown h hosts threads count steps) (shown h (with_host hosts host x) threads count (steps + 1)) moment (At host (Gets line copied w))
      (came_next (shown h hosts threads count steps) line copied w m far lent x are refl far_is found value ok) tt
      (sym (rule ∙ ap (λ (y : Host_). first_broken (arrival_rules (in_rules h moment) y.wire copied w)) far_is)) kept
