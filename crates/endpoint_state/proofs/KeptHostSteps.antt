-- What a host has after it made, took or answered a segment, from its body and its tables.
use Rattle.std.proofs.Common.{◌≡◌, ℕ, List, Option, Some, refl, subst, nat_eq}
use Rattle.std.specs.Prelude.{slice_get}
use Rattle.std.specs.Option.{option_map}
use Rattle.indexmap.specs.IndexMap.{insert_entry}
use Rattle.case_forms.specs.declared.trace.Header.{Header}
use Rattle.case_forms.specs.declared.calls.Host.{Host}
use Rattle.case_forms.specs.declared.steps.SegmentPlan.{SegmentPlan}
use Rattle.case_forms.specs.declared.steps.TakeChoice.{TakeChoice}
use Rattle.spec_network.specs.Tables.{Made, waiting, unsent}
use Rattle.spec_network.specs.Hosts.{HostState}
use Rattle.spec_network.specs.HostSteps.{inbox_settled}
use Rattle.spec_tcp.specs.declared.endpoint.Emission.{Emission}
use Rattle.spec_tcp.specs.HostTcp.{HostTcp, place_of, with_endpoint}
use Rattle.spec_tcp.specs.Makes.{after_making, emission_of}
use Rattle.spec_tcp.specs.Arrives.{taker, after_taking}
use Rattle.spec_tcp.specs.Reset.{reset_of}
use Rattle.spec_tcp.specs.Machine.{tcp_shape}
use Rattle.spec_tcp.specs.Forgetting.{forget_body, forget_host}
use Rattle.endpoint_state.specs.Kinds.{answered_one, made_one, taken_one}

abbrev pub Host_ : Type 0
Host_ = HostState tcp_shape

-- a host of these parts
abbrev pub parts : HostTcp → List (ℕ × Made Emission) → List (ℕ × Emission) → List (ℕ × Option Emission) → Host_
parts b made wire inbox = record { body = b; made = made; wire = wire; inbox = inbox }

pub took : (hd : Header) (moment line : ℕ) (how : TakeChoice) (m : Emission) (h : Host_) (b new : HostTcp)
    (made : List (ℕ × Made Emission)) (wire : List (ℕ × Emission)) (inbox : List (ℕ × Option Emission))
    → parts b made wire inbox ≡ h → waiting line h.inbox ≡ Some m → new ≡ forget_body (after_taking hd b how m moment (taker b m))
    → parts new made wire (inbox_settled line inbox) ≡ forget_host (taken_one hd moment line how h)
took hd moment line how m h b new made wire inbox is waits new_is =
    subst (λ (h : Host_). waiting line h.inbox ≡ Some m
    → parts new made wire (inbox_settled line inbox) ≡ forget_host (taken_one hd moment line how h)) is
    (λ waits. rw (waits, new_is) refl) waits

pub answered : (line fresh : ℕ) (m : Emission) (h : Host_) (b : HostTcp) (made : List (ℕ × Made Emission))
    (wire : List (ℕ × Emission)) (inbox : List (ℕ × Option Emission))
    → parts b made wire inbox ≡ h → waiting line h.inbox ≡ Some m
    → parts b (insert_entry nat_eq made fresh (unsent (reset_of m))) wire (inbox_settled line inbox) ≡ answered_one line fresh h
answered line fresh m h b made wire inbox is waits =
    subst (λ (h : Host_). waiting line h.inbox ≡ Some m
    → parts b (insert_entry nat_eq made fresh (unsent (reset_of m))) wire (inbox_settled line inbox)
    ≡ answered_one line fresh h) is
    (λ waits. rw waits refl) waits

-- the endpoint at that place makes a segment
pub made_is : (me : Host) (moment fresh place : ℕ) (plan : SegmentPlan) (m : Emission) (h : Host_) (b new : HostTcp)
    (made after : List (ℕ × Made Emission)) (wire : List (ℕ × Emission)) (inbox : List (ℕ × Option Emission))
    → parts b made wire inbox ≡ h → place_of b plan.lport plan.rport ≡ Some place
    → option_map (λ e. emission_of (record { host = me; number = place }) e plan moment) (slice_get b.endpoints place) ≡ Some m
    → new ≡ forget_body (with_endpoint b place (λ e. after_making e plan moment)) → after ≡ insert_entry nat_eq made fresh (unsent m)
    → parts new after wire inbox ≡ forget_host (made_one me moment fresh plan h)
made_is me moment fresh place plan m h b new made after wire inbox is at makes new_is after_is =
    subst (λ (h : Host_). parts new after wire inbox ≡ forget_host (made_one me moment fresh plan h)) is (rw (after_is, new_is, at, makes) refl)
