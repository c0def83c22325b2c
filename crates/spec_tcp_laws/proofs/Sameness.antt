-- What the machine takes for the same is equal.
use Rattle.std.proofs.Common.{◌≡◌, ℕ, Bool, true, false, List, [], ◌∷◌, get_or, refl, ap, ap₂, subst, sym, ◌∙◌, arith}
use Rattle.std.specs.Prelude.{◌==◌, ◌&&◌}
use Rattle.std.proofs.lemmas.Bool.Decides.{nat_tests}
use Rattle.seqno.specs.declared.word.Word.{Word}
use Rattle.case_forms.specs.declared.calls.Answer.{Answer}
use Rattle.case_forms.specs.declared.calls.Answer.TheVariants as answers
use Rattle.case_forms.specs.declared.calls.Host.{Host}
use Rattle.case_forms.specs.declared.calls.Host.TheVariants.{Zero, One}
use Rattle.case_forms.specs.declared.calls.State.{State}
use Rattle.case_forms.specs.declared.calls.State.TheVariants as states
use Rattle.spec_network.specs.Tables.{host_is}
use Rattle.spec_tcp.specs.declared.endpoint.EndpointId.{EndpointId}
use Rattle.spec_tcp.specs.Same.{same_answer, same_bool, same_bytes, same_endpoint, same_state, same_word, state_place}
use Rattle.spec_tcp_laws.specs.Sameness.{SamenessIsEquality}

-- a test that answers true of each value and itself tells every equality
of_equal : (A : Type 0) (same : A → A → Bool) → ((a : A) → same a a ≡ true) → (a b : A) → a ≡ b → same a b ≡ true
of_equal A same itself a b is = subst (λ (x : A). same a x ≡ true) is (itself a)

number_equal : (m n : ℕ) → (m == n) ≡ true → m ≡ n
number_equal m n same = grind (arith, nat_tests, same)

number_same : (n : ℕ) → (n == n) ≡ true
number_same n = grind (arith, nat_tests)

both : (a b : Bool) → (a && b) ≡ true → (a ≡ true) × (b ≡ true)
both true true is = (refl, refl)
both true false is = (refl, is)
both false b is = let bad : false ≡ true = is in cc

bytes_equal : (xs ys : List ℕ) → same_bytes xs ys ≡ true → xs ≡ ys
bytes_equal [] [] same = refl
bytes_equal [] (y ∷ ys) same = let bad : false ≡ true = same in cc
bytes_equal (x ∷ xs) [] same = let bad : false ≡ true = same in cc
bytes_equal (x ∷ xs) (y ∷ ys) same =
    let parts = both (x == y) (same_bytes xs ys) same in
    ap₂ (λ (z : ℕ) (zs : List ℕ). z ∷ zs) (number_equal x y parts.0) (bytes_equal xs ys parts.1)

bytes_same : (xs : List ℕ) → same_bytes xs xs ≡ true
bytes_same [] = refl
bytes_same (x ∷ xs) = rw (number_same x, bytes_same xs) refl

-- the state of a place
abbrev placed : ℕ → State
placed n = get_or
    (states.Closed ∷ states.Listen ∷ states.SynSent ∷ states.SynReceived ∷ states.Established ∷ states.FinWait1 ∷ states.FinWait2
    ∷ states.CloseWait ∷ states.Closing ∷ states.LastAck ∷ []) n states.TimeWait

state_placed : (s : State) → placed (state_place s) ≡ s
state_placed states.Closed = refl
state_placed states.Listen = refl
state_placed states.SynSent = refl
state_placed states.SynReceived = refl
state_placed states.Established = refl
state_placed states.FinWait1 = refl
state_placed states.FinWait2 = refl
state_placed states.CloseWait = refl
state_placed states.Closing = refl
state_placed states.LastAck = refl
state_placed states.TimeWait = refl

state_equal : (s t : State) → same_state s t ≡ true → s ≡ t
state_equal s t same = sym (state_placed s) ∙ ap placed (number_equal (state_place s) (state_place t) same) ∙ state_placed t

answer_equal : (a b : Answer) → same_answer a b ≡ true → a ≡ b
answer_equal answers.Done answers.Done same = refl
answer_equal (answers.Given m) (answers.Given n) same = ap answers.Given (number_equal m n same)
answer_equal (answers.Bytes xs) (answers.Bytes ys) same = ap answers.Bytes (bytes_equal xs ys same)
answer_equal answers.Again answers.Again same = refl
answer_equal answers.Eof answers.Eof same = refl
answer_equal answers.Closed answers.Closed same = refl
answer_equal answers.NotConn answers.NotConn same = refl
answer_equal answers.Refused answers.Refused same = refl
answer_equal answers.Reset answers.Reset same = refl
answer_equal answers.Timeout answers.Timeout same = refl
answer_equal answers.InUse answers.InUse same = refl
answer_equal answers.BadSocket answers.BadSocket same = refl
answer_equal (answers.State s) (answers.State t) same = ap answers.State (state_equal s t same)
answer_equal _ _ same = let bad : false ≡ true = same in cc

answer_same : (a : Answer) → same_answer a a ≡ true
answer_same answers.Done = refl
answer_same (answers.Given m) = number_same m
answer_same (answers.Bytes xs) = bytes_same xs
answer_same answers.Again = refl
answer_same answers.Eof = refl
answer_same answers.Closed = refl
answer_same answers.NotConn = refl
answer_same answers.Refused = refl
answer_same answers.Reset = refl
answer_same answers.Timeout = refl
answer_same answers.InUse = refl
answer_same answers.BadSocket = refl
answer_same (answers.State s) = number_same (state_place s)

word_equal : (a b : Word) → same_word a b ≡ true → a ≡ b
word_equal a b same = ap (λ (n : ℕ). record { 0 = n }) (number_equal a.0 b.0 same)

host_equal : (a b : Host) → host_is a b ≡ true → a ≡ b
host_equal Zero Zero same = refl
host_equal One One same = refl
host_equal Zero One same = let bad : false ≡ true = same in cc
host_equal One Zero same = let bad : false ≡ true = same in cc

host_same : (a : Host) → host_is a a ≡ true
host_same Zero = refl
host_same One = refl

name_equal : (a b : EndpointId) → same_endpoint a b ≡ true → a ≡ b
name_equal a b same =
    let parts = both (host_is a.host b.host) (a.number == b.number) same in
    ap₂ (λ (host : Host) (number : ℕ). record { host = host; number = number }) (host_equal a.host b.host parts.0) (number_equal a.number b.number parts.1)

name_same : (a : EndpointId) → same_endpoint a a ≡ true
name_same a = rw (host_same a.host, number_same a.number) refl

flag_equal : (a b : Bool) → same_bool a b ≡ true → a ≡ b
flag_equal true true same = refl
flag_equal false false same = refl
flag_equal true false same = let bad : false ≡ true = same in cc
flag_equal false true same = let bad : false ≡ true = same in cc

flag_same : (a : Bool) → same_bool a a ≡ true
flag_same true = refl
flag_same false = refl

pub sameness : SamenessIsEquality
sameness = record {
  answers = λ a b. (answer_equal a b, of_equal Answer same_answer answer_same a b);
  bytes = λ a b. (bytes_equal a b, of_equal (List ℕ) same_bytes bytes_same a b);
  states = λ a b. (state_equal a b, of_equal State same_state (λ s. number_same (state_place s)) a b);
  words = λ a b. (word_equal a b, of_equal Word same_word (λ w. number_same w.0) a b);
  names = λ a b. (name_equal a b, of_equal EndpointId same_endpoint name_same a b);
  flags = λ a b. (flag_equal a b, of_equal Bool same_bool flag_same a b);
}
