use Rattle.std.proofs.Common.{refl}
use Rattle.std.proofs.lemmas.Result.{err_from_is_err_and}
use Rattle.trace_reader.specs.Headers.{initial_line, hosts_line, congestion_line, last_line, control_lines}
use Rattle.trace_reader.proofs.HeaderLaw.{with_judged, with_hosts, with_congestion, with_last, with_control}
use Rattle.trace_reader.proofs.HeaderReads.{value_then, value_not, value_last}
use Rattle.trace_reader.proofs.late_lines.judged_lines.Goals as goal

pub returns-in_err-initial-clause-value : goal.returns-in_err-initial-clause-value
returns-in_err-initial-clause-value g c =
    let v = c.args.version in
    let p = err_from_is_err_and c.from_residual.result c.from_residual.ensures.1 in
    rw (p.1, p.2) (value_not initial_line (with_judged v) _ _ c.in_err-initial.field-0.0 c.in_err-initial.ensures.value)

pub returns-in_err-hosts-clause-value : goal.returns-in_err-hosts-clause-value
returns-in_err-hosts-clause-value g c =
    let v = c.args.version in
    let p = err_from_is_err_and c.from_residual-in_err-hosts.result c.from_residual-in_err-hosts.ensures.1 in
    rw (p.1, p.2)
    (value_then initial_line (with_judged v) _ _ _ c.in_ok-initial.initial _ c.in_ok-initial.ensures.value
    (value_not hosts_line (with_hosts v c.in_ok-initial.initial) _ _ c.in_err-hosts.field-0.0 c.in_err-hosts.ensures.value))

pub returns-in_err-congestion-clause-value : goal.returns-in_err-congestion-clause-value
returns-in_err-congestion-clause-value g c =
    let v = c.args.version in
    let p = err_from_is_err_and c.from_residual-in_err-congestion.result c.from_residual-in_err-congestion.ensures.1 in
    rw (p.1, p.2)
    (value_then initial_line (with_judged v) _ _ _ c.in_ok-initial.initial _ c.in_ok-initial.ensures.value
    (value_then hosts_line (with_hosts v c.in_ok-initial.initial) _ _ _ c.in_ok-hosts.hosts _ c.in_ok-hosts.ensures.value
    (value_not (congestion_line v) (with_congestion v c.in_ok-initial.initial c.in_ok-hosts.hosts) _ _ c.in_err-congestion.field-0.0
    c.in_err-congestion.ensures.value)))

pub returns-in_err-slack-clause-value : goal.returns-in_err-slack-clause-value
returns-in_err-slack-clause-value g c =
    let v = c.args.version in
    let p = err_from_is_err_and c.from_residual-in_err-slack.result c.from_residual-in_err-slack.ensures.1 in
    rw (p.1, p.2)
    (value_then initial_line (with_judged v) _ _ _ c.in_ok-initial.initial _ c.in_ok-initial.ensures.value
    (value_then hosts_line (with_hosts v c.in_ok-initial.initial) _ _ _ c.in_ok-hosts.hosts _ c.in_ok-hosts.ensures.value
    (value_then (congestion_line v) (with_congestion v c.in_ok-initial.initial c.in_ok-hosts.hosts) _ _ _ c.in_ok-congestion.congestion _
    c.in_ok-congestion.ensures.value
    (value_not (last_line v) (with_last v c.in_ok-initial.initial c.in_ok-hosts.hosts c.in_ok-congestion.congestion) _ _ c.in_err-slack.field-0.0
    c.in_err-slack.ensures.value))))

pub returns-in_err-sender-clause-value : goal.returns-in_err-sender-clause-value
returns-in_err-sender-clause-value g c =
    let v = c.args.version in
    let p = err_from_is_err_and c.from_residual-in_err-sender.result c.from_residual-in_err-sender.ensures.1 in
    rw (p.1, p.2)
    (value_then initial_line (with_judged v) _ _ _ c.in_ok-initial.initial _ c.in_ok-initial.ensures.value
    (value_then hosts_line (with_hosts v c.in_ok-initial.initial) _ _ _ c.in_ok-hosts.hosts _ c.in_ok-hosts.ensures.value
    (value_then (congestion_line v) (with_congestion v c.in_ok-initial.initial c.in_ok-hosts.hosts) _ _ _ c.in_ok-congestion.congestion _
    c.in_ok-congestion.ensures.value
    (value_then (last_line v) (with_last v c.in_ok-initial.initial c.in_ok-hosts.hosts c.in_ok-congestion.congestion) _ _ _ c.in_ok-slack.slack _
    c.in_ok-slack.ensures.value
    (value_not (control_lines v) (with_control v c.in_ok-initial.initial c.in_ok-hosts.hosts c.in_ok-congestion.congestion c.in_ok-slack.slack) _ _
    c.in_err-sender.field-0.0 c.in_err-sender.ensures.value)))))

pub returns-clause-value : goal.returns-clause-value
returns-clause-value g c =
    let v = c.args.version in
    rw c.hosted.ensures
    (value_then initial_line (with_judged v) _ _ _ c.in_ok-initial.initial _ c.in_ok-initial.ensures.value
    (value_then hosts_line (with_hosts v c.in_ok-initial.initial) _ _ _ c.in_ok-hosts.hosts _ c.in_ok-hosts.ensures.value
    (value_then (congestion_line v) (with_congestion v c.in_ok-initial.initial c.in_ok-hosts.hosts) _ _ _ c.in_ok-congestion.congestion _
    c.in_ok-congestion.ensures.value
    (value_then (last_line v) (with_last v c.in_ok-initial.initial c.in_ok-hosts.hosts c.in_ok-congestion.congestion) _ _ _ c.in_ok-slack.slack _
    c.in_ok-slack.ensures.value
    (value_last (control_lines v) (with_control v c.in_ok-initial.initial c.in_ok-hosts.hosts c.in_ok-congestion.congestion c.in_ok-slack.slack) _ _
    (c.in_ok-sender.sender, c.in_ok-sender.growth) _ (λ rest. refl) c.in_ok-sender.ensures.value)))))
