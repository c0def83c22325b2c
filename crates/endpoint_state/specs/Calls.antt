-- A call's effect: its rules, and when it may have an answer, in the model's terms.
use Rattle.std.specs.Prelude.{ℕ, Bool, false, ◌||◌, List, Option}
use Rattle.std.specs.Option.{option_map_or}
use Rattle.case_forms.specs.declared.calls.Host.{Host}
use Rattle.case_forms.specs.declared.calls.Call.{Call}
use Rattle.case_forms.specs.declared.calls.Answer.{Answer}
use Rattle.case_forms.specs.declared.version.Version.{Version}
use Rattle.verdict.specs.declared.rule.Rule.{Rule}
use Rattle.spec_network.specs.Tables.{Both, pick}
use Rattle.spec_network.specs.Hosts.{HostState}
use Rattle.spec_network.specs.HostRules.{aim_of, call_rules}
use Rattle.spec_tcp.specs.HostTcp.{given}
use Rattle.spec_tcp.specs.Calls.{call_allows, is_bad_socket}
use Rattle.spec_tcp.specs.Machine.{tcp, tcp_shape, aim}
use Rattle.endpoint_state.specs.Worlds.{Progress}

-- the host that a call means, if there is one
abbrev pub meant : Progress → Call → Option Host
meant p call = aim_of (tcp p.header) p.world.hosts (aim call)

-- the rules of a call with this answer, least first
abbrev pub rules_of_call : Progress → ℕ → Call → Answer → List (Rule × Bool)
rules_of_call p moment call answer = call_rules (tcp p.header) moment p.world.hosts call answer (meant p call)

-- the answer gives a socket number that a host gave before
abbrev pub gives_again : Both (HostState tcp_shape) → Option ℕ → Bool
gives_again hosts number = option_map_or (λ n. given hosts.zero.body n || given hosts.one.body n) number false

-- the host that the call means allows the answer; if it means none, the answer says so
abbrev pub allowed_at : Version → Both (HostState tcp_shape) → Call → Answer → Option Host → Bool
allowed_at v hosts call answer host =
    option_map_or (λ h. call_allows v (pick hosts h).body call answer) host (is_bad_socket answer)
