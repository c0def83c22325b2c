-- The model of two TCP hosts: the acts of a host, and the whole model as a kernel of two hosts.
use Rattle.std.specs.Prelude.{ℕ, Bool, true, not, List, [], ◌∷◌, slice_get, Option, None, Some}
use Rattle.std.specs.Option.{option_map, option_map_or}
use Rattle.case_forms.specs.TakenLines.{timer_of}
use Rattle.case_forms.specs.Versions.{is_half}
use Rattle.case_forms.specs.declared.calls.Answer.{Answer}
use Rattle.case_forms.specs.declared.calls.Answer.TheVariants as answers
use Rattle.case_forms.specs.declared.calls.Call.{Call}
use Rattle.case_forms.specs.declared.calls.Call.TheVariants as calls
use Rattle.case_forms.specs.declared.calls.Host.{Host}
use Rattle.case_forms.specs.declared.steps.SegmentPlan.{SegmentPlan}
use Rattle.case_forms.specs.declared.steps.TakeChoice.{TakeChoice}
use Rattle.case_forms.specs.declared.taken_line.Expired.{Expired}
use Rattle.case_forms.specs.declared.timer.Expiry.{Expiry}
use Rattle.case_forms.specs.declared.timer.Recovery.{Recovery}
use Rattle.case_forms.specs.declared.trace.Header.{Header}
use Rattle.case_forms.specs.declared.trace.Wire.{Wire}
use Rattle.verdict.specs.declared.rule.Rule.{Rule}
use Rattle.verdict.specs.declared.rule.Rule.TheVariants as rules
use Rattle.spec_network.specs.Hosts.{Aim, Kernel, Shape, ThatHost, ThatSocket}
use Rattle.spec_tcp.specs.Endpoints.{Endpoint, Emission}
use Rattle.spec_tcp.specs.HostTcp.{HostTcp, empty, place_of, endpoint_of, at_ports, given}
use Rattle.spec_tcp.specs.Same.{same_answer}
use Rattle.spec_tcp.specs.Calls.{is_bad_socket, call_allows, after_call}
use Rattle.spec_tcp.specs.Makes.{making_rules, emission_of, after_making}
use Rattle.spec_tcp.specs.Arrives.{taker, taker_rules, after_taking}
use Rattle.spec_tcp.specs.Timeouts.{expiry_rules, after_expiry}
use Rattle.spec_tcp.specs.Recovery.{recovery_rules, after_recovery}
use Rattle.spec_tcp.specs.Reset.{reset_rules, reset_of}
use Rattle.spec_tcp.specs.Wire.{out_rules, sent, in_rules}
use Rattle.spec_tcp.specs.Heard.{heard}
use Rattle.spec_tcp.specs.Signals.{profile_of}

-- a timer of the endpoint at these ports expires, with the values chosen then
pub record Expiring : Type 0 where
  pub lport : ℕ
  pub rport : ℕ
  pub expired : Expired

-- the acts of a host
pub data Act : Type 0 where
  Calls : (call : Call) (answer : Answer) → Act
  Makes : (making : SegmentPlan) → Act
  Takes : (how : TakeChoice) (emission : Emission) → Act
  Resets : (emission : Emission) → Act
  Expires : (expiring : Expiring) → Act
  Recovers : (recovery : Recovery) → Act

-- the rules of the endpoint at these ports
abbrev pub rules_at : HostTcp → ℕ → ℕ → (Endpoint → List (Rule × Bool)) → List (Rule × Bool)
rules_at b lport rport f = option_map_or f (endpoint_of b lport rport) ((rules.NoEndpoint, true) ∷ [])

-- the rules of an act, lowest-numbered first
abbrev pub act_rules : Header → Host → ℕ → HostTcp → Act → List (Rule × Bool)
act_rules h me moment b (Calls call answer) = (rules.CallAnswer, not (call_allows h.version b call answer)) ∷ []
act_rules h me moment b (Makes m) = rules_at b m.lport m.rport (λ e. making_rules h.version e m)
act_rules h me moment b (Takes how m) = taker_rules h me b how m moment (taker b m)
act_rules h me moment b (Resets m) = reset_rules b m
act_rules h me moment b (Expires x) = rules_at b x.lport x.rport (λ e. expiry_rules h moment e x.expired)
act_rules h me moment b (Recovers x) =
    rules_at b x.lport x.rport (λ e. recovery_rules h.version e x.change x.cwnd x.ssthresh moment)

-- the host after it
abbrev pub act_after : Header → Host → ℕ → HostTcp → Act → HostTcp
act_after h me moment b (Calls call answer) = after_call (profile_of h) b call answer
act_after h me moment b (Makes m) = at_ports b m.lport m.rport (λ e. after_making e m moment)
act_after h me moment b (Takes how m) = after_taking h b how m moment (taker b m)
act_after h me moment b (Resets m) = b
act_after h me moment b (Expires x) = at_ports b x.lport x.rport (λ e. after_expiry e x.expired moment)
act_after h me moment b (Recovers x) =
    at_ports b x.lport x.rport (λ e. after_recovery e x.change x.cwnd x.ssthresh moment)

-- the segment that the endpoint at a place builds at this moment
abbrev pub made_at : Host → ℕ → HostTcp → SegmentPlan → ℕ → Option Emission
made_at me moment b m i =
    option_map (λ e. emission_of (record { host = me; number = i }) e m moment) (slice_get b.endpoints i)

-- the segment that it builds
abbrev pub act_makes : Host → ℕ → HostTcp → Act → Option Emission
act_makes me moment b (Makes m) = option_map_or (made_at me moment b m) (place_of b m.lport m.rport) None
act_makes me moment b (Resets m) = Some (reset_of m)
act_makes me moment b act = None

-- the target of a call
abbrev pub aim : Call → Aim
aim (calls.Listen host port backlog) = ThatHost host
aim (calls.Connect host lport rport) = ThatHost host
aim (calls.Await n) = ThatSocket n
aim (calls.Accept n) = ThatSocket n
aim (calls.Send n bytes) = ThatSocket n
aim (calls.Recv n most) = ThatSocket n
aim (calls.Shut n) = ThatSocket n
aim (calls.Close n) = ThatSocket n
aim (calls.Abort n) = ThatSocket n
aim (calls.Status n) = ThatSocket n

-- the socket number in an answer
abbrev pub gives : Call → Answer → Option ℕ
gives (calls.Listen host port backlog) (answers.Given n) = Some n
gives (calls.Connect host lport rport) (answers.Given n) = Some n
gives (calls.Accept h) (answers.Given n) = Some n
gives call answer = None

-- the types of the model
abbrev pub tcp_shape : Shape
tcp_shape = record {
  Body = HostTcp;
  Act = Act;
  Plain = Recovery;
  Expiring = Expiring;
  Making = SegmentPlan;
  How = TakeChoice;
  Expiry = Expiry;
  Emission = Emission;
  Wire = Wire;
  Call = Call;
  Answer = Answer;
}

-- the model
abbrev pub tcp : Header → Kernel
tcp h = record {
  shape = tcp_shape;
  empty = empty;
  act_rules = act_rules h;
  act_after = act_after h;
  act_makes = act_makes;
  does = λ x. Recovers x;
  expires = λ x. Expires x;
  making = λ m. Makes m;
  takes = λ how m. Takes how m;
  answers = λ m. Resets m;
  calls = λ call answer. Calls call answer;
  expiry = λ x. record { lport = x.lport; rport = x.rport; timer = timer_of x.expired };
  out_rules = out_rules h;
  sent = sent;
  in_rules = in_rules h;
  half = is_half h.version;
  heard = heard;
  aim = aim;
  stray = λ call answer. is_bad_socket answer;
  gives = gives;
  given = given;
  differs = λ a b. not (same_answer a b);
}
