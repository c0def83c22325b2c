-- Two things are the same, as the model tests it, if and only if they are equal.
use Rattle.std.specs.Prelude.{◌≡◌, ◌↔◌, ℕ, Bool, true, List}
use Rattle.seqno.specs.declared.word.Word.{Word}
use Rattle.case_forms.specs.declared.calls.Answer.{Answer}
use Rattle.case_forms.specs.declared.calls.State.{State}
use Rattle.spec_tcp.specs.declared.endpoint.EndpointId.{EndpointId}
use Rattle.spec_tcp.specs.Same.{same_answer, same_bool, same_bytes, same_endpoint, same_state, same_word}

-- a test of two values is true if and only if they are equal
abbrev pub TellsEquality : (T : Type 0) → (T → T → Bool) → Type 0
TellsEquality T same = (a b : T) → (same a b ≡ true) ↔ (a ≡ b)

pub record SamenessIsEquality : Type 0 where
  pub answers : TellsEquality Answer same_answer
  pub bytes : TellsEquality (List ℕ) same_bytes
  pub states : TellsEquality State same_state
  pub words : TellsEquality Word same_word
  pub names : TellsEquality EndpointId same_endpoint
  pub flags : TellsEquality Bool same_bool
