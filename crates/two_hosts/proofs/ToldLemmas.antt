-- What the lines add up to is a sum over the answers of the thread.
use Rattle.std.proofs.Common.{◌≡◌, ◌∙◌, ◌==◌, ◌&&◌, ℕ, ◌+◌, ◌*◌, Bool, true, false, if◌then◌else◌, cond, List, [], ◌∷◌, length, map, None, refl, ap, sym, arith}
use Rattle.std.specs.List.{concat, cons_option, count_by, sum_by}
use Rattle.std.proofs.lemmas.Bool.{and_from, and_parts, eq-eqb, eqb-true}
use Rattle.std.proofs.lemmas.List.{length-append}
use Rattle.std.proofs.lemmas.List.Sums.{sum_by-cons}
use Rattle.case_forms.specs.declared.calls.Answer.{Answer}
use Rattle.case_forms.specs.declared.calls.Answer.TheVariants as answers
use Rattle.case_forms.specs.declared.trace.Event.{Event}
use Rattle.case_forms.specs.declared.trace.Event.TheVariants as events
use Rattle.case_forms.specs.declared.trace.Line.{Line}
use Rattle.two_hosts.specs.declared.ends.Measure.{Measure}
use Rattle.two_hosts.specs.declared.ends.Measure.TheVariants.{Bytes, Dones, Eofs}
use Rattle.two_hosts.specs.Ends.{amount, event_amount, has_ended, told}
use Rattle.two_hosts.specs.Rounds.{HaveEnded, answers_of, bytes_in, event_answer, is_done, is_eof, received}

none_added : (n : ℕ) → 0 + n ≡ n
none_added n = omega arith

-- an event of the thread or of another
more_told : (m : Measure) (b : Bool) (e : Event) (rest : List Answer) → (if b then event_amount m e else 0) + sum_by (amount m) rest
    ≡ sum_by (amount m) (cons_option (if b then event_answer e else None) rest)
more_told m false e rest = none_added (sum_by (amount m) rest)
more_told m true (events.CallBegin call) rest = none_added (sum_by (amount m) rest)
more_told m true (events.CallEnd answer) rest = sym (sum_by-cons (amount m) answer rest)
more_told m true (events.Sent host wire) rest = none_added (sum_by (amount m) rest)
more_told m true (events.Came host wire) rest = none_added (sum_by (amount m) rest)
more_told m true (events.Expired host local remote timer) rest = none_added (sum_by (amount m) rest)

told_is : (m : Measure) (thread : ℕ) (lines : List Line) → told m thread lines ≡ sum_by (amount m) (answers_of thread lines)
told_is m thread [] = refl
told_is m thread (line ∷ lines) = ap (λ n. (if line.thread == thread then event_amount m line.event else 0) + n) (told_is m thread lines)
    ∙ more_told m (line.thread == thread) line.event (answers_of thread lines)

-- an answer by itself
bytes_amount : (a : Answer) → amount Bytes a ≡ length (bytes_in a)
bytes_amount answers.Done = refl
bytes_amount (answers.Given n) = refl
bytes_amount (answers.Bytes bytes) = refl
bytes_amount answers.Again = refl
bytes_amount answers.Eof = refl
bytes_amount answers.Closed = refl
bytes_amount answers.NotConn = refl
bytes_amount answers.Refused = refl
bytes_amount answers.Reset = refl
bytes_amount answers.Timeout = refl
bytes_amount answers.InUse = refl
bytes_amount answers.BadSocket = refl
bytes_amount (answers.State state) = refl

done_amount : (a : Answer) → amount Dones a ≡ cond (is_done a) 1 0
done_amount answers.Done = refl
done_amount (answers.Given n) = refl
done_amount (answers.Bytes bytes) = refl
done_amount answers.Again = refl
done_amount answers.Eof = refl
done_amount answers.Closed = refl
done_amount answers.NotConn = refl
done_amount answers.Refused = refl
done_amount answers.Reset = refl
done_amount answers.Timeout = refl
done_amount answers.InUse = refl
done_amount answers.BadSocket = refl
done_amount (answers.State state) = refl

eof_amount : (a : Answer) → amount Eofs a ≡ cond (is_eof a) 1 0
eof_amount answers.Done = refl
eof_amount (answers.Given n) = refl
eof_amount (answers.Bytes bytes) = refl
eof_amount answers.Again = refl
eof_amount answers.Eof = refl
eof_amount answers.Closed = refl
eof_amount answers.NotConn = refl
eof_amount answers.Refused = refl
eof_amount answers.Reset = refl
eof_amount answers.Timeout = refl
eof_amount answers.InUse = refl
eof_amount answers.BadSocket = refl
eof_amount (answers.State state) = refl

-- sums of equal numbers
sums_same : (f g : Answer → ℕ) → ((a : Answer) → f a ≡ g a) → (xs : List Answer) → sum_by f xs ≡ sum_by g xs
sums_same f g same [] = refl
sums_same f g same (a ∷ xs) = sum_by-cons f a xs ∙ ap (λ n. n + sum_by f xs) (same a) ∙ ap (λ n. g a + n) (sums_same f g same xs)
    ∙ sym (sum_by-cons g a xs)

joined : (xs : List Answer) → sum_by (λ a. length (bytes_in a)) xs ≡ length (concat (map bytes_in xs))
joined [] = refl
joined (a ∷ xs) = sum_by-cons (λ a. length (bytes_in a)) a xs ∙ ap (λ n. length (bytes_in a) + n) (joined xs)
    ∙ sym (length-append (bytes_in a) (concat (map bytes_in xs)))

pub told_bytes : (thread : ℕ) (lines : List Line) → told Bytes thread lines ≡ length (received thread lines)
told_bytes thread lines = told_is Bytes thread lines ∙ sums_same (amount Bytes) (λ a. length (bytes_in a)) bytes_amount (answers_of thread lines)
    ∙ joined (answers_of thread lines)

pub told_dones : (thread : ℕ) (lines : List Line) → told Dones thread lines ≡ count_by is_done (answers_of thread lines)
told_dones thread lines = told_is Dones thread lines ∙ sums_same (amount Dones) (λ a. cond (is_done a) 1 0) done_amount (answers_of thread lines)

pub told_eofs : (thread : ℕ) (lines : List Line) → told Eofs thread lines ≡ count_by is_eof (answers_of thread lines)
told_eofs thread lines = told_is Eofs thread lines ∙ sums_same (amount Eofs) (λ a. cond (is_eof a) 1 0) eof_amount (answers_of thread lines)

pub ended_as_told : (rounds : ℕ) (lines : List Line) → has_ended rounds lines ≡ true → HaveEnded rounds lines
ended_as_told rounds lines h =
    let first = and_parts (told Bytes 3 lines == 64 * rounds && told Eofs 3 lines == 1 && told Dones 3 lines == 1) (told Dones 2 lines == 3) h in
    let second = and_parts (told Bytes 3 lines == 64 * rounds && told Eofs 3 lines == 1) (told Dones 3 lines == 1) first.0 in
    let third = and_parts (told Bytes 3 lines == 64 * rounds) (told Eofs 3 lines == 1) second.0 in
    record {
      received = sym (told_bytes 3 lines) ∙ eqb-true (told Bytes 3 lines) (64 * rounds) third.0;
      told_end = sym (told_eofs 3 lines) ∙ eqb-true (told Eofs 3 lines) 1 third.1;
      server_closed = sym (told_dones 3 lines) ∙ eqb-true (told Dones 3 lines) 1 second.1;
      client_closed = sym (told_dones 2 lines) ∙ eqb-true (told Dones 2 lines) 3 first.1;
    }

pub told_as_ended : (rounds : ℕ) (lines : List Line) → HaveEnded rounds lines → has_ended rounds lines ≡ true
told_as_ended rounds lines ended = and_from _ _
    (and_from _ _
    (and_from _ _ (eq-eqb (told Bytes 3 lines) (64 * rounds) (told_bytes 3 lines ∙ ended.received))
    (eq-eqb (told Eofs 3 lines) 1 (told_eofs 3 lines ∙ ended.told_end)))
    (eq-eqb (told Dones 3 lines) 1 (told_dones 3 lines ∙ ended.server_closed)))
    (eq-eqb (told Dones 2 lines) 3 (told_dones 2 lines ∙ ended.client_closed))
