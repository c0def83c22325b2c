use Rattle.std.proofs.Common.{◌≡◌, ◌∙◌, List, ℕ, sym, subst}
use Rattle.std.specs.Prelude.{OnOk}
use Rattle.window_rules.specs.declared.control.Profile.{Profile}
use Rattle.spec_tcp.specs.Calls.{after_call}
use Rattle.spec_tcp.specs.Forgetting.{forget_body}
use Rattle.endpoint_state.specs.Waiting.{AreWaiting}
use Rattle.endpoint_state.proofs.PlaceLemmas.{on_ok}
use Rattle.endpoint_state.proofs.SocketLemmas.{allowed_wait, opened}
use Rattle.endpoint_state.proofs.host_tcp.HostTcp.do_call.Goals as goal

pub deliver-requires-clause-waiting : goal.deliver-requires-clause-waiting
deliver-requires-clause-waiting c =
    let call = c.in-Recv-Bytes.is-0 in
    let answer = c.in-Recv-Bytes.is-1 in
    let allowed = rw (call, answer) at c.requires.allowed in
    subst (λ (bytes : List ℕ). AreWaiting c.args.self.now c.in-Recv-Bytes.number bytes) (sym c.as_slice-in-Recv-Bytes.ensures)
    (allowed_wait c.args.header.now.version c.args.self.now c.in-Recv-Bytes.number c.in-Recv-Bytes.field-1-0 c.in-Recv-Bytes.bytes allowed)

pub returns-in-Connect-Given-clause-ok : goal.returns-in-Connect-Given-clause-ok
returns-in-Connect-Given-clause-ok c =
    subst (λ (p : Profile). OnOk c.connect.result (c.connect.new.self ≡ forget_body (after_call p c.args.self.now c.args.call.now c.args.answer.now)))
    c.profile_of-profile.ensures
    (rw (c.in-Connect-Given.is-0, c.in-Connect-Given.is-1)
    (on_ok c.connect.result _ _ (λ is.
    is ∙ opened c.profile_of-profile.result c.args.self.now c.in-Connect-Given.number c.in-Connect-Given.lport
    c.in-Connect-Given.rport c.requires.kept) c.connect.ensures.ok))
