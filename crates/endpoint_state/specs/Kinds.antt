-- One host at each kind of step: its rules, and the host's tables after it, each from what the step reads.
use Rattle.std.specs.Prelude.{ℕ, nat_eq, Bool, true, not, List, [], Some}
use Rattle.indexmap.specs.IndexMap.{insert_entry}
use Rattle.case_forms.specs.Versions.{is_half}
use Rattle.case_forms.specs.declared.trace.Header.{Header}
use Rattle.case_forms.specs.declared.version.Version.{Version}
use Rattle.case_forms.specs.declared.trace.Wire.{Wire}
use Rattle.case_forms.specs.declared.calls.Host.{Host}
use Rattle.case_forms.specs.declared.calls.Ports.{Ports}
use Rattle.case_forms.specs.declared.taken_line.Expired.{Expired}
use Rattle.case_forms.specs.declared.steps.SegmentPlan.{SegmentPlan}
use Rattle.case_forms.specs.declared.steps.TakeChoice.{TakeChoice}
use Rattle.spec_network.specs.Tables.{on, unsent, waiting}
use Rattle.spec_network.specs.Hosts.{HostState, HostStep, Expires}
use Rattle.spec_network.specs.HostSteps.{inbox_settled, made_gone_out, wire_after}
use Rattle.spec_tcp.specs.HostTcp.{at_ports, HostTcp}
use Rattle.spec_tcp.specs.Machine.{act_makes, tcp_shape, rules_at}
use Rattle.spec_tcp.specs.Machine as acts
use Rattle.spec_tcp.specs.Heard.{heard}
use Rattle.spec_tcp.specs.Makes.{after_making}
use Rattle.spec_tcp.specs.Arrives.{after_taking, taker, taker_rules}
use Rattle.spec_tcp.specs.Reset.{reset_of, reset_rules}
use Rattle.spec_tcp.specs.Wire.{sent}
use Rattle.spec_tcp.specs.Timeouts.{after_expiry, expiry_rules}
use Rattle.spec_tcp.specs.Recovery.{after_recovery, recovery_rules}
use Rattle.spec_network.specs.HostRules.{just}
use Rattle.case_forms.specs.declared.timer.Recovery.{Recovery}
use Rattle.verdict.specs.declared.rule.Rule.{Rule}
use Rattle.verdict.specs.declared.rule.Rule.TheVariants as rules

-- a segment is made, under the fresh number
abbrev pub made_one : Host → (moment fresh : ℕ) → SegmentPlan → HostState tcp_shape → HostState tcp_shape
made_one me moment fresh plan h = record h {
  body = at_ports h.body plan.lport plan.rport (λ e. after_making e plan moment);
  made = on (act_makes me moment h.body (acts.Makes plan)) h.made (λ e. insert_entry nat_eq h.made fresh (unsent e));
}

-- the segment of that number is on the wire with that line
abbrev pub sent_one : (moment line number : ℕ) → Wire → HostState tcp_shape → HostState tcp_shape
sent_one moment line number wire h =
    record h { made = made_gone_out number h.made; wire = wire_after sent h.made line number wire moment h.wire }

-- a segment heard from the host that isn't recorded waits with that line; its rule: only one host is recorded
abbrev pub heard_one : (moment line : ℕ) → Wire → HostState tcp_shape → HostState tcp_shape
heard_one moment line wire h = record h { inbox = insert_entry nat_eq h.inbox line (Some (heard moment wire)) }

abbrev pub hearing_rules : Header → List (Rule × Bool)
hearing_rules hd = just rules.NoEmission (not (is_half hd.version))

-- what waits with that line is taken, dropped, or answered by a reset under the fresh number
abbrev pub taken_one : Header → (moment line : ℕ) → TakeChoice → HostState tcp_shape → HostState tcp_shape
taken_one hd moment line choice h = record h {
  body = on (waiting line h.inbox) h.body (λ e. after_taking hd h.body choice e moment (taker h.body e));
  inbox = inbox_settled line h.inbox;
}

abbrev pub dropped_one : (line : ℕ) → HostState tcp_shape → HostState tcp_shape
dropped_one line h = record h { inbox = inbox_settled line h.inbox }

abbrev pub answered_one : (line fresh : ℕ) → HostState tcp_shape → HostState tcp_shape
answered_one line fresh h = record h {
  made = on (waiting line h.inbox) h.made (λ e. insert_entry nat_eq h.made fresh (unsent (reset_of e)));
  inbox = inbox_settled line h.inbox;
}

-- a timer of the endpoint of these ports expires
abbrev pub expiry_of : Ports → Expired → HostStep tcp_shape
expiry_of ports e = Expires 0 (record { lport = ports.lport; rport = ports.rport; expired = e })

-- its rules, and the host's endpoints after it
abbrev pub expiring_rules : Header → (moment : ℕ) → Ports → Expired → HostTcp → List (Rule × Bool)
expiring_rules hd moment ports e b = rules_at b ports.lport ports.rport (λ x. expiry_rules hd moment x e)

abbrev pub expired_body : (moment : ℕ) → Ports → Expired → HostTcp → HostTcp
expired_body moment ports e b = at_ports b ports.lport ports.rport (λ x. after_expiry x e moment)

-- the same for fast recovery
abbrev pub recovering_rules : Version → (moment : ℕ) → Recovery → HostTcp → List (Rule × Bool)
recovering_rules v moment r b = rules_at b r.lport r.rport (λ x. recovery_rules v x r.change r.cwnd r.ssthresh moment)

abbrev pub recovered_body : (moment : ℕ) → Recovery → HostTcp → HostTcp
recovered_body moment r b = at_ports b r.lport r.rport (λ x. after_recovery x r.change r.cwnd r.ssthresh moment)

-- the rules of taking, dropping and answering what waits with that line
abbrev pub taking_rules : Header → Host → (moment line : ℕ) → TakeChoice → HostState tcp_shape → List (Rule × Bool)
taking_rules hd me moment line choice h =
    on (waiting line h.inbox) (just rules.Inbox true) (λ m. taker_rules hd me h.body choice m moment (taker h.body m))

abbrev pub dropping_rules : (line : ℕ) → HostState tcp_shape → List (Rule × Bool)
dropping_rules line h = on (waiting line h.inbox) (just rules.Inbox true) (λ m. [])

abbrev pub answering_rules : (line : ℕ) → HostState tcp_shape → List (Rule × Bool)
answering_rules line h = on (waiting line h.inbox) (just rules.Inbox true) (λ m. reset_rules h.body m)
