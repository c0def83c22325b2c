-- A call that waits in what is kept waits in the whole world.
use Rattle.std.proofs.Common.{◌≡◌, ◌≤◌, ℕ, Option, None, Some, ap, sym, ◌∙◌, subst, inl, inr}
use Rattle.std.specs.Prelude.{◌-◌, ◌⊎◌, List, max, true, Err, IfNone, IfOk, Ok, Result}
use Rattle.std.specs.Option.{option_map, option_map_or}
use Rattle.std.proofs.lemmas.Option.{none-some, slice_get-map}
use Rattle.case_forms.specs.declared.version.Version.{Version}
use Rattle.case_forms.specs.declared.calls.Call.{Call}
use Rattle.case_forms.specs.declared.calls.Call.TheVariants as calls
use Rattle.case_forms.specs.declared.calls.Answer.{Answer}
use Rattle.case_forms.specs.declared.calls.Answer.TheVariants as answers
use Rattle.spec_tcp.specs.Calls.{socket_allows}
use Rattle.spec_tcp.specs.HostTcp.{HostTcp, socket_target}
use Rattle.spec_tcp.specs.declared.endpoint.Endpoint.{Endpoint}
use Rattle.spec_tcp.specs.declared.endpoint.SocketTarget.{SocketTarget}
use Rattle.spec_tcp.specs.declared.endpoint.SocketTarget.TheVariants.{ListenerAt, EndpointAt}
use Rattle.spec_tcp.specs.Forgetting.{forget_body, forget_endpoint}
use Rattle.spec_tcp_laws.proofs.ForgetCalls.{call_allows-forget}
use Rattle.spec_tcp_laws.proofs.ForgetReads.{end_of-forget}
use Rattle.stack_core.specs.Answers.{SendWaits, Waits, WaitsAt, endpoint_named, target_endpoint}
use Rattle.stack_core.specs.CallEvents.{KeptNoAnswer, NoAnswer}
use Rattle.stack_core.specs.Cores.{Core, own_body}

named_forget : (b : HostTcp) (n : ℕ) (e : Endpoint) → endpoint_named b n ≡ Some e → endpoint_named (forget_body b) n ≡ Some (forget_endpoint e)
named_forget b n e = by (socket_target b n)
  where
    at : (t : SocketTarget) → target_endpoint b t ≡ Some e → target_endpoint (forget_body b) t ≡ Some (forget_endpoint e)
    at (ListenerAt l) is = absurd (none-some e is)
    at (EndpointAt i) is = slice_get-map forget_endpoint b.endpoints i ∙ ap (option_map forget_endpoint) is

    by : (o : Option SocketTarget) → option_map_or (target_endpoint b) o None ≡ Some e
        → option_map_or (target_endpoint (forget_body b)) o None ≡ Some (forget_endpoint e)
    by None is = absurd (none-some e is)
    by (Some t) is = at t is

send_waits : (ring : ℕ) (e : Endpoint) → SendWaits ring (forget_endpoint e) → SendWaits ring e
send_waits ring e (inl early) = inl early
send_waits ring e (inr full) = inr (subst (λ (n : ℕ). ring ≤ n - max e.stream.snd_una 1) (end_of-forget e) full)

waits_whole : (v : Version) (ring : ℕ) (b : HostTcp) (call : Call) → Waits v ring (forget_body b) call → Waits v ring b call
waits_whole v ring b (calls.Send n bytes) waits = (
  sym (call_allows-forget v b (calls.Send n bytes) answers.Again) ∙ waits.0,
  λ e is. send_waits ring e (waits.1 (forget_endpoint e) (named_forget b n e is)),
)
waits_whole v ring b (calls.Listen host port backlog) waits = (sym (call_allows-forget v b (calls.Listen host port backlog) answers.Again) ∙ waits.0, tt)
waits_whole v ring b (calls.Connect host lport rport) waits = (sym (call_allows-forget v b (calls.Connect host lport rport) answers.Again) ∙ waits.0, tt)
waits_whole v ring b (calls.Await n) waits = (sym (call_allows-forget v b (calls.Await n) answers.Again) ∙ waits.0, tt)
waits_whole v ring b (calls.Accept n) waits = (sym (call_allows-forget v b (calls.Accept n) answers.Again) ∙ waits.0, tt)
waits_whole v ring b (calls.Recv n most) waits = (sym (call_allows-forget v b (calls.Recv n most) answers.Again) ∙ waits.0, tt)
waits_whole v ring b (calls.Shut n) waits = (sym (call_allows-forget v b (calls.Shut n) answers.Again) ∙ waits.0, tt)
waits_whole v ring b (calls.Close n) waits = (sym (call_allows-forget v b (calls.Close n) answers.Again) ∙ waits.0, tt)
waits_whole v ring b (calls.Abort n) waits = (sym (call_allows-forget v b (calls.Abort n) answers.Again) ∙ waits.0, tt)
waits_whole v ring b (calls.Status n) waits = (sym (call_allows-forget v b (calls.Status n) answers.Again) ∙ waits.0, tt)

pub no_answer : (c : Core) (thread : ℕ) → KeptNoAnswer c thread → NoAnswer c thread
no_answer c thread none call is = waits_whole c.recorded.header.version c.ring (own_body c) call (none call is)

-- a call on this socket number
abbrev pub Names : Call → ℕ → Type 0
Names call n =
    (call ≡ calls.Await n) ⊎ ((call ≡ calls.Accept n) ⊎ (((x : List ℕ) × (call ≡ calls.Send n x))
    ⊎ (((x : ℕ) × (call ≡ calls.Recv n x)) ⊎ ((call ≡ calls.Shut n) ⊎ ((call ≡ calls.Close n)
    ⊎ ((call ≡ calls.Abort n) ⊎ (call ≡ calls.Status n)))))))

abbrev MayWait : Version → ℕ → HostTcp → ℕ → Call → Type 0
MayWait v ring b n call = (socket_allows v b n call answers.Again ≡ true) × WaitsAt ring b n call

-- one that may be answered `again` waits
one_waits : (v : Version) (ring : ℕ) (b : HostTcp) (n : ℕ) (call : Call) → Names call n → MayWait v ring b n call → Waits v ring b call
one_waits v ring b n call names = by names
  where
    at : (x : Call) → call ≡ x → (MayWait v ring b n x → Waits v ring b x) → MayWait v ring b n call → Waits v ring b call
    at x is waits = subst (λ (y : Call). MayWait v ring b n y → Waits v ring b y) (sym is) waits

    by : Names call n → MayWait v ring b n call → Waits v ring b call
    by (inl is) = at (calls.Await n) is (λ w. (w.0, tt))
    by (inr (inl is)) = at (calls.Accept n) is (λ w. (w.0, tt))
    by (inr (inr (inl (x, is)))) = at (calls.Send n x) is (λ w. w)
    by (inr (inr (inr (inl (x, is))))) = at (calls.Recv n x) is (λ w. (w.0, tt))
    by (inr (inr (inr (inr (inl is))))) = at (calls.Shut n) is (λ w. (w.0, tt))
    by (inr (inr (inr (inr (inr (inl is)))))) = at (calls.Close n) is (λ w. (w.0, tt))
    by (inr (inr (inr (inr (inr (inr (inl is))))))) = at (calls.Abort n) is (λ w. (w.0, tt))
    by (inr (inr (inr (inr (inr (inr (inr is))))))) = at (calls.Status n) is (λ w. (w.0, tt))

pub named_waits : {E : Type 0} (result : Result (Option Answer) E) (v : Version) (ring : ℕ) (b : HostTcp) (n : ℕ) (call : Call) → Names call n
    → IfOk result (λ o. IfNone o ((socket_allows v b n call answers.Again ≡ true) × WaitsAt ring b n call))
    → IfOk result (λ o. IfNone o (Waits v ring b call))
named_waits (Err error) v ring b n call names waits = tt
named_waits (Ok (Some answer)) v ring b n call names waits = tt
named_waits (Ok None) v ring b n call names waits = one_waits v ring b n call names waits
