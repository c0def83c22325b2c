-- The spelling of an answer, both ways. A number may follow `ok`, so an answer is the last of its line.
use Rattle.std.proofs.Common.{◌≡◌, ◌≤◌, ℕ, List, [], ◌∷◌, ◌++◌, Result, Ok, refl, sym, ap, subst, ◌∙◌, arith, inl, inr, ◌⊎◌}
use Rattle.std.specs.Prelude.{codes}
use Rattle.std.specs.Fmt.{decimal}
use Rattle.std.specs.List.{AllByRecursion}
use Rattle.hex.specs.Hex.{decode_of}
use Rattle.case_forms.specs.declared.calls.State.{State}
use Rattle.case_forms.specs.declared.calls.Answer.{Answer}
use Rattle.case_forms.specs.declared.calls.Answer.TheVariants as answers
use Rattle.line_fields.specs.declared.fault.TextFault.{TextFault}
use Rattle.line_fields.specs.declared.answers.AnswerWord.{AnswerWord}
use Rattle.line_fields.specs.declared.answers.AnswerWord.TheVariants as words
use Rattle.line_fields.specs.Word.{Rest}
use Rattle.line_fields.specs.Reading.{number_field, or_end}
use Rattle.line_fields.specs.Choice.{kind_field}
use Rattle.line_fields.specs.HexFields.{hex_field}
use Rattle.line_fields.specs.Reader.{texts, Any, Nothing, IsReader, IsLastReader}
use Rattle.line_fields.specs.Spelling.{IsClean, AreWritten}
use Rattle.line_fields.specs.States.{state_name, all_states}
use Rattle.line_fields.specs.Answers.{answer_name, all_answer_words, answer_word, answer_tail, answer_pieces, IsAnswer, IsSpelledAnswer}
use Rattle.line_fields.specs.AnswerFields.{given_field, data_field, state_field, answer_behind, answer_field}
use Rattle.line_fields.proofs.Readers.{IsNumberField, reads_then, reads_done, reads_as, reads_or_end, reads_number}
use Rattle.line_fields.proofs.HexLaw.{IsHexField, reads_hex}
use Rattle.line_fields.proofs.Choices.{AreNamed, IsBehind, reads_kind, reads_choice, is_known}
use Rattle.line_fields.proofs.Written.{IsCleanPiece, plains_are, hex_is}
use Rattle.line_fields.proofs.Names.{states_named, state_clean}
use Rattle.line_fields.proofs.Joined.{IsClean-decimal}
use Rattle.line_fields.proofs.Clean.{clean_by}

words_named : AreNamed answer_name all_answer_words
words_named words.Done = refl
words_named words.Data = refl
words_named words.Again = refl
words_named words.Eof = refl
words_named words.Closed = refl
words_named words.NotConn = refl
words_named words.Refused = refl
words_named words.Reset = refl
words_named words.Timeout = refl
words_named words.InUse = refl
words_named words.BadSocket = refl
words_named words.State = refl

abbrev IsGiven : Answer → List (List ℕ) → Type 0
IsGiven a ws = (n : ℕ) × (a ≡ answers.Given n) × (n ≤ 4294967295) × (ws ≡ decimal n ∷ [])

reads_given : IsLastReader given_field IsGiven
reads_given =
    reads_as Nothing given_field _ IsGiven
    (reads_then Nothing (number_field 0 4294967295) (IsNumberField 0 4294967295) (λ n r. Ok (answers.Given n, r))
    (λ n a ws. (a ≡ answers.Given n) × (ws ≡ [])) (reads_number 0 4294967295 (omega arith))
    (λ n. reads_done Nothing (answers.Given n)))
    (λ a ws d. (d.0, d.4.0, d.3.1, d.5 ∙ ap (λ (us : List (List ℕ)). us ++ d.2) d.3.2 ∙ ap (λ (vs : List (List ℕ)). decimal d.0 ∷ vs) d.4.1))
    (λ a ws s. (s.0, decimal s.0 ∷ [], [], (omega arith, s.2, refl), (s.1, refl), s.3))

abbrev IsData : Answer → List (List ℕ) → Type 0
IsData a ws = (bytes : List ℕ) × (t : List ℕ) × (a ≡ answers.Bytes bytes) × IsAnswer (answers.Bytes bytes) × (decode_of t ≡ Ok bytes) × (ws ≡ t ∷ [])

reads_data : IsReader data_field IsData
reads_data =
    reads_as Any data_field _ IsData
    (reads_then Any (hex_field 65535) (IsHexField 65535) (λ b r. Ok (answers.Bytes b, r))
    (λ b a ws. (a ≡ answers.Bytes b) × (ws ≡ [])) (reads_hex 65535) (λ b. reads_done Any (answers.Bytes b)))
    (λ a ws d. (
      d.0,
      d.3.0,
      d.4.0,
      (d.3.1.0.1, d.3.1.1),
      d.3.1.0.0,
      d.5 ∙ ap (λ (us : List (List ℕ)). us ++ d.2) d.3.2 ∙ ap (λ (vs : List (List ℕ)). d.3.0 ∷ vs) d.4.1,
    ))
    (λ a ws s. (s.0, s.1 ∷ [], [], (s.1, ((s.4, s.3.0), s.3.1), refl), (s.2, refl), s.5))

abbrev IsStateAnswer : Answer → List (List ℕ) → Type 0
IsStateAnswer a ws = (s : State) × (a ≡ answers.State s) × (ws ≡ state_name s ∷ [])

reads_state : IsReader state_field IsStateAnswer
reads_state =
    reads_as Any state_field _ IsStateAnswer
    (reads_then Any (kind_field state_name all_states) (λ s ws. ws ≡ state_name s ∷ []) (λ s r. Ok (answers.State s, r))
    (λ s a ws. (a ≡ answers.State s) × (ws ≡ [])) (reads_kind state_name all_states states_named)
    (λ s. reads_done Any (answers.State s)))
    (λ a ws d. (d.0, d.4.0, d.5 ∙ ap (λ (us : List (List ℕ)). us ++ d.2) d.3 ∙ ap (λ (vs : List (List ℕ)). state_name d.0 ∷ vs) d.4.1))
    (λ a ws s. (s.0, state_name s.0 ∷ [], [], refl, (s.1, refl), s.2))

reads_ok : IsLastReader (λ r. or_end answers.Done given_field r.words r) (λ a ws. ((a ≡ answers.Done) × (ws ≡ [])) ⊎ IsGiven a ws)
reads_ok = reads_or_end answers.Done given_field IsGiven reads_given (λ a ws s none. let e : decimal s.0 ∷ [] ≡ [] = sym s.3 ∙ none in cc)

-- what was read behind the first word
abbrev Behind : AnswerWord → Rest → Answer × Rest → Type 0
Behind k r x = IsBehind answer_word answer_tail IsAnswer k r x.0 x.1

-- an answer whose fields all stand as they are
known : (k : AnswerWord) (r : Rest) (x : Answer × Rest) (a : Answer) (us ts : List (List ℕ)) → x.0 ≡ a → IsAnswer a
    → answer_word a ≡ k → AreWritten (answer_tail a) ts → us ≡ ts → texts r ≡ us ++ texts x.1 → Behind k r x
known k r x a us ts same fits first written are e =
    is_known answer_word answer_tail IsAnswer k r x.1 x.0 a us same fits first
    (subst (λ (vs : List (List ℕ)). AreWritten (answer_tail a) vs) (sym are) written) e

abbrev read_as : Answer → Rest → Result (Answer × Rest) TextFault
read_as a r = Ok (a, r)

-- an answer that is a word alone
alone : (a : Answer) (r : Rest) (x : Answer × Rest) → IsAnswer a → AreWritten (answer_tail a) [] → read_as a r ≡ Ok x → Behind (answer_word a) r x
alone a r x fits none e = let p = (reads_done Any a).takes r x e in known (answer_word a) r x a p.0 [] p.1.0 fits refl none p.1.1 p.2

behind_takes : (k : AnswerWord) (r : Rest) (x : Answer × Rest) → answer_behind k r ≡ Ok x → Behind k r x
behind_takes words.Done r x e =
    let p = reads_ok.takes r x e in
    elim p.1 [
      | inl none ↦ known words.Done r x answers.Done p.0 [] none.0 tt refl tt none.1 p.2
      | inr given ↦ known words.Done r x (answers.Given given.0) p.0 (decimal given.0 ∷ []) given.1 given.2 refl (refl, tt) given.3 p.2
    ]
behind_takes words.Data r x e = let p = reads_data.takes r x e in let s = p.1 in
    known words.Data r x (answers.Bytes s.0) p.0 (s.1 ∷ []) s.2 s.3 refl (s.4, tt) s.5 p.2
behind_takes words.State r x e = let p = reads_state.takes r x e in let s = p.1 in
    known words.State r x (answers.State s.0) p.0 (state_name s.0 ∷ []) s.1 tt refl (refl, tt) s.2 p.2
behind_takes words.Again r x e = alone answers.Again r x tt tt e
behind_takes words.Eof r x e = alone answers.Eof r x tt tt e
behind_takes words.Closed r x e = alone answers.Closed r x tt tt e
behind_takes words.NotConn r x e = alone answers.NotConn r x tt tt e
behind_takes words.Refused r x e = alone answers.Refused r x tt tt e
behind_takes words.Reset r x e = alone answers.Reset r x tt tt e
behind_takes words.Timeout r x e = alone answers.Timeout r x tt tt e
behind_takes words.InUse r x e = alone answers.InUse r x tt tt e
behind_takes words.BadSocket r x e = alone answers.BadSocket r x tt tt e

abbrev Gets : Answer → Rest → List (List ℕ) → Type 0
Gets a r more = (rest : Rest) × (answer_behind (answer_word a) r ≡ Ok (a, rest)) × (texts rest ≡ more)

-- no field behind the word
bare : (r : Rest) (us more : List (List ℕ)) → AreWritten [] us → texts r ≡ us ++ more → texts r ≡ more
bare r us more none e = e ∙ ap (λ (vs : List (List ℕ)). vs ++ more) (plains_are [] us none)

behind_again : (a : Answer) (r : Rest) (us more : List (List ℕ)) → Nothing more → IsAnswer a
    → AreWritten (answer_tail a) us → texts r ≡ us ++ more → Gets a r more
behind_again answers.Done r us more last fits w e = reads_ok.again r answers.Done us more last (inl (refl, plains_are [] us w)) e
behind_again (answers.Given n) r us more last fits w e =
    reads_ok.again r (answers.Given n) us more last (inr (n, refl, fits, plains_are (decimal n ∷ []) us w)) e
behind_again (answers.Bytes b) r us more last fits w e = let h = hex_is [] b us w in
    reads_data.again r (answers.Bytes b) us more tt (b, h.0, refl, fits, h.1, h.2) e
behind_again (answers.State s) r us more last fits w e = reads_state.again r (answers.State s) us more tt (s, refl, plains_are (state_name s ∷ []) us w) e
behind_again answers.Again r us more last fits w e = (r, refl, bare r us more w e)
behind_again answers.Eof r us more last fits w e = (r, refl, bare r us more w e)
behind_again answers.Closed r us more last fits w e = (r, refl, bare r us more w e)
behind_again answers.NotConn r us more last fits w e = (r, refl, bare r us more w e)
behind_again answers.Refused r us more last fits w e = (r, refl, bare r us more w e)
behind_again answers.Reset r us more last fits w e = (r, refl, bare r us more w e)
behind_again answers.Timeout r us more last fits w e = (r, refl, bare r us more w e)
behind_again answers.InUse r us more last fits w e = (r, refl, bare r us more w e)
behind_again answers.BadSocket r us more last fits w e = (r, refl, bare r us more w e)

-- what is read is spelled so, and what is spelled so is read
pub reads_answer : IsLastReader answer_field IsSpelledAnswer
unfolding answer_field
reads_answer = reads_choice Nothing answer_name all_answer_words words_named answer_behind answer_word answer_tail IsAnswer behind_takes behind_again

-- ---- the fields of an answer are clean

word_clean : (w : AnswerWord) → IsClean (answer_name w)
word_clean words.Done = clean_by (codes "ok") refl
word_clean words.Data = clean_by (codes "data") refl
word_clean words.Again = clean_by (codes "again") refl
word_clean words.Eof = clean_by (codes "eof") refl
word_clean words.Closed = clean_by (codes "closed") refl
word_clean words.NotConn = clean_by (codes "notconn") refl
word_clean words.Refused = clean_by (codes "refused") refl
word_clean words.Reset = clean_by (codes "reset") refl
word_clean words.Timeout = clean_by (codes "timeout") refl
word_clean words.InUse = clean_by (codes "inuse") refl
word_clean words.BadSocket = clean_by (codes "badsocket") refl
word_clean words.State = clean_by (codes "state") refl

tail_clean : (a : Answer) → IsAnswer a → AllByRecursion IsCleanPiece (answer_tail a)
tail_clean (answers.Given n) fits = (IsClean-decimal n (omega arith), tt)
tail_clean (answers.Bytes b) fits = (tt, tt)
tail_clean (answers.State s) fits = (state_clean s, tt)
tail_clean answers.Done fits = tt
tail_clean answers.Again fits = tt
tail_clean answers.Eof fits = tt
tail_clean answers.Closed fits = tt
tail_clean answers.NotConn fits = tt
tail_clean answers.Refused fits = tt
tail_clean answers.Reset fits = tt
tail_clean answers.Timeout fits = tt
tail_clean answers.InUse fits = tt
tail_clean answers.BadSocket fits = tt

pub answer_clean : (a : Answer) → IsAnswer a → AllByRecursion IsCleanPiece (answer_pieces a)
answer_clean a fits = (word_clean (answer_word a), tail_clean a fits)
