-- Each step keeps the bounds on a world after so many steps, and these leave room for one step more.
use Rattle.std.specs.Prelude.{◌≡◌, ◌<◌, ◌^◌, ℕ, suc, List, None}
use Rattle.std.specs.List.{All}
use Rattle.case_forms.specs.declared.trace.Header.{Header}
use Rattle.case_forms.specs.declared.calls.Host.{Host}
use Rattle.case_forms.specs.declared.calls.Answer.{Answer}
use Rattle.case_forms.specs.declared.calls.Answer.TheVariants as answers
use Rattle.case_forms.specs.declared.trace.Wire.{Wire}
use Rattle.verdict.specs.Rules.{first_broken}
use Rattle.spec_tcp.specs.declared.endpoint.Endpoint.{Endpoint}
use Rattle.spec_tcp.specs.declared.endpoint.Emission.{Emission}
use Rattle.spec_tcp.specs.HostTcp.{HostTcp, empty}
use Rattle.spec_tcp.specs.Bounds.{HasRoom, IsKept, IsKeptBody, IsSmallEmission, most_steps}
use Rattle.spec_tcp.specs.Forgetting.{forget_body}
use Rattle.spec_tcp.specs.Heard.{heard}
use Rattle.spec_tcp.specs.Machine.{Act, Calls, Makes, Takes, Resets, Expires, Recovers, act_rules, act_after}
use Rattle.spec_tcp.specs.Reset.{reset_of}
use Rattle.spec_tcp.specs.Wire.{sent}

-- before the last step that a case may have, there is room for all that one more step may add
pub record HaveRoom : Type 0 where
  pub endpoint : (steps : ℕ) (e : Endpoint) → steps < most_steps → IsKept steps e → HasRoom e
  pub endpoints : (steps : ℕ) (es : List Endpoint) → steps < most_steps → All (IsKept steps) es → All HasRoom es

-- a number that an answer gives is small
abbrev pub IsSmallAnswer : Answer → Type 0
IsSmallAnswer (answers.Given n) = n < 2 ^ 32
IsSmallAnswer answer = Unit {0}

-- the numbers of an act that counts and positions take over are small
abbrev pub IsSmallAct : Act → Type 0
IsSmallAct (Calls call answer) = IsSmallAnswer answer
IsSmallAct (Makes making) = Unit {0}
IsSmallAct (Takes how m) = IsSmallEmission m
IsSmallAct (Resets m) = Unit {0}
IsSmallAct (Expires expiring) = Unit {0}
IsSmallAct (Recovers recovery) = Unit {0}

-- a host begins with nothing; a permitted act is one step more, and what may be discarded is discarded then
pub record ActsKeep : Type 0 where
  pub starts : IsKeptBody 0 empty
  pub acts : (h : Header) (me : Host) (moment steps : ℕ) (b : HostTcp) (act : Act) → IsSmallAct act
      → first_broken (act_rules h me moment b act) ≡ None → IsKeptBody steps b
      → IsKeptBody (suc steps) (forget_body (act_after h me moment b act))

-- what holds after so many steps holds after one more in which nothing happens
pub record KeptLonger : Type 0 where
  pub endpoint : (steps : ℕ) (e : Endpoint) → IsKept steps e → IsKept (suc steps) e
  pub body : (steps : ℕ) (b : HostTcp) → IsKeptBody steps b → IsKeptBody (suc steps) b

-- resets that answer segments are small, and so are segments heard from a host that isn't recorded; sent segments are
-- as small as they were made
pub record EmissionsAreSmall : Type 0 where
  pub resets : (m : Emission) → IsSmallEmission (reset_of m)
  pub goes : (moment : ℕ) (wire : Wire) (m : Emission) → IsSmallEmission m → IsSmallEmission (sent moment wire m)
  pub comes : (moment : ℕ) (wire : Wire) → IsSmallEmission (heard moment wire)
