-- The spelling of a call, both ways.
use Rattle.std.proofs.Common.{◌≡◌, ◌≤◌, ℕ, List, [], ◌∷◌, ◌++◌, Ok, refl, sym, ap, subst, ◌∙◌, arith}
use Rattle.std.specs.Prelude.{codes}
use Rattle.std.specs.Fmt.{decimal}
use Rattle.std.specs.List.{AllByRecursion}
use Rattle.case_forms.specs.declared.calls.Host.{Host}
use Rattle.case_forms.specs.declared.calls.Call.{Call}
use Rattle.case_forms.specs.declared.calls.Call.TheVariants as calls
use Rattle.case_forms.specs.declared.version.Version.{Version}
use Rattle.line_fields.specs.Word.{Rest}
use Rattle.line_fields.specs.Reading.{◌>>=◌, number_field}
use Rattle.line_fields.specs.Hosts.{host_number, host_field}
use Rattle.line_fields.specs.HexFields.{hex_field}
use Rattle.line_fields.specs.Reader.{texts, Any, IsReader}
use Rattle.line_fields.specs.Spelling.{hex, IsWritten, IsClean, AreWritten}
use Rattle.line_fields.proofs.Readers.{IsNumberField, reads_then, reads_done, reads_as, reads_number}
use Rattle.line_fields.proofs.HexLaw.{IsHexField, reads_hex}
use Rattle.line_fields.proofs.Choices.{AreNamed, IsBehind, reads_choice, is_known}
use Rattle.line_fields.proofs.Written.{IsCleanPiece, plains_are, hex_is}
use Rattle.line_fields.proofs.HostLaw.{IsHostField, reads_host, host_clean}
use Rattle.line_fields.proofs.Joined.{IsClean-decimal}
use Rattle.line_fields.proofs.Clean.{clean_by}
use Rattle.trace_reader.specs.declared.calls.CallWord.{CallWord}
use Rattle.trace_reader.specs.declared.calls.CallWord.TheVariants as words
use Rattle.trace_reader.specs.Calls.{call_name, all_call_words, call_word, call_tail, call_pieces, IsCall, IsSpelledCall}
use Rattle.trace_reader.specs.CallFields.{listen_fields, open_fields, send_fields, recv_fields, socket_field, call_behind, call_field}

words_named : AreNamed call_name all_call_words
words_named words.Listen = refl
words_named words.Open = refl
words_named words.Await = refl
words_named words.Accept = refl
words_named words.Send = refl
words_named words.Recv = refl
words_named words.Shut = refl
words_named words.Close = refl
words_named words.Abort = refl
words_named words.Status = refl

-- ---- each form, in a text of some version

module _ (v : Version) where
  abbrev IsListen : Call → List (List ℕ) → Type 0
  IsListen c ws =
      (h : Host) × (p : ℕ) × (b : ℕ) × (c ≡ calls.Listen h p b) × IsCall v (calls.Listen h p b)
      × (ws ≡ decimal (host_number h) ∷ decimal p ∷ decimal b ∷ [])

  reads_listen : IsReader (listen_fields v) IsListen
  unfolding listen_fields
  reads_listen =
      reads_as Any (listen_fields v) _ IsListen
      (reads_then Any (host_field v) (IsHostField v)
      (λ h r. number_field 1 65535 r >>= λ p. number_field 0 65535 p.1 >>= λ b.
      Ok (calls.Listen h p.0 b.0, b.1)) _ (reads_host v)
      (λ h. reads_then Any (number_field 1 65535) (IsNumberField 1 65535)
      (λ p r. number_field 0 65535 r >>= λ b. Ok (calls.Listen h p b.0, b.1)) _
      (reads_number 1 65535 (omega arith))
      (λ p. reads_then Any (number_field 0 65535) (IsNumberField 0 65535) (λ b r. Ok (calls.Listen h p b, r))
      (λ b c ws. (c ≡ calls.Listen h p b) × (ws ≡ [])) (reads_number 0 65535 (omega arith))
      (λ b. reads_done Any (calls.Listen h p b)))))
      (λ c ws d. let e = d.4 in let f = e.4 in
      (d.0, e.0, f.0, f.4.0, (d.3.0, e.3.0, e.3.1, f.3.1), rw (d.5, d.3.1, e.5, e.3.2, f.5, f.3.2, f.4.1) refl))
      (λ c ws s. (
        s.0,
        decimal (host_number s.0) ∷ [],
        decimal s.1 ∷ decimal s.2 ∷ [],
        (s.4.0, refl),
        (s.1, decimal s.1 ∷ [], decimal s.2 ∷ [], (s.4.1, s.4.2, refl), (s.2, decimal s.2 ∷ [], [], (omega arith, s.4.3, refl), (s.3, refl), refl), refl),
        s.5,
      ))

  abbrev IsOpen : Call → List (List ℕ) → Type 0
  IsOpen c ws =
      (h : Host) × (p : ℕ) × (q : ℕ) × (c ≡ calls.Connect h p q) × IsCall v (calls.Connect h p q)
      × (ws ≡ decimal (host_number h) ∷ decimal p ∷ decimal q ∷ [])

  reads_open : IsReader (open_fields v) IsOpen
  unfolding open_fields
  reads_open =
      reads_as Any (open_fields v) _ IsOpen
      (reads_then Any (host_field v) (IsHostField v)
      (λ h r. number_field 1 65535 r >>= λ p. number_field 1 65535 p.1 >>= λ q.
      Ok (calls.Connect h p.0 q.0, q.1)) _ (reads_host v)
      (λ h. reads_then Any (number_field 1 65535) (IsNumberField 1 65535)
      (λ p r. number_field 1 65535 r >>= λ q. Ok (calls.Connect h p q.0, q.1)) _
      (reads_number 1 65535 (omega arith))
      (λ p. reads_then Any (number_field 1 65535) (IsNumberField 1 65535) (λ q r. Ok (calls.Connect h p q, r))
      (λ q c ws. (c ≡ calls.Connect h p q) × (ws ≡ [])) (reads_number 1 65535 (omega arith))
      (λ q. reads_done Any (calls.Connect h p q)))))
      (λ c ws d. let e = d.4 in let f = e.4 in
      (d.0, e.0, f.0, f.4.0, (d.3.0, e.3.0, e.3.1, f.3.0, f.3.1), rw (d.5, d.3.1, e.5, e.3.2, f.5, f.3.2, f.4.1) refl))
      (λ c ws s. (
        s.0,
        decimal (host_number s.0) ∷ [],
        decimal s.1 ∷ decimal s.2 ∷ [],
        (s.4.0, refl),
        (s.1, decimal s.1 ∷ [], decimal s.2 ∷ [], (s.4.1, s.4.2, refl), (s.2, decimal s.2 ∷ [], [], (s.4.3, s.4.4, refl), (s.3, refl), refl), refl),
        s.5,
      ))

  abbrev IsSend : Call → List (List ℕ) → Type 0
  IsSend c ws =
      (socket : ℕ) × (bytes : List ℕ) × (t : List ℕ) × (c ≡ calls.Send socket bytes)
      × IsCall v (calls.Send socket bytes) × IsWritten (hex bytes) t × (ws ≡ decimal socket ∷ t ∷ [])

  reads_send : IsReader send_fields IsSend
  unfolding send_fields
  reads_send =
      reads_as Any send_fields _ IsSend
      (reads_then Any (number_field 0 4294967295) (IsNumberField 0 4294967295)
      (λ s r. hex_field 65535 r >>= λ b. Ok (calls.Send s b.0, b.1)) _ (reads_number 0 4294967295 (omega arith))
      (λ s. reads_then Any (hex_field 65535) (IsHexField 65535) (λ b r. Ok (calls.Send s b, r))
      (λ b c ws. (c ≡ calls.Send s b) × (ws ≡ [])) (reads_hex 65535) (λ b. reads_done Any (calls.Send s b))))
      (λ c ws d. let e = d.4 in
      (d.0, e.0, e.3.0, e.4.0, (d.3.1, e.3.1.0.1, e.3.1.1), e.3.1.0.0, rw (d.5, d.3.2, e.5, e.3.2, e.4.1) refl))
      (λ c ws s. (
        s.0,
        decimal s.0 ∷ [],
        s.2 ∷ [],
        (omega arith, s.4.0, refl),
        (s.1, s.2 ∷ [], [], (s.2, ((s.5, s.4.1), s.4.2), refl), (s.3, refl), refl),
        s.6,
      ))

  abbrev IsRecv : Call → List (List ℕ) → Type 0
  IsRecv c ws = (socket : ℕ) × (max : ℕ) × (c ≡ calls.Recv socket max) × IsCall v (calls.Recv socket max) × (ws ≡ decimal socket ∷ decimal max ∷ [])

  reads_recv : IsReader recv_fields IsRecv
  unfolding recv_fields
  reads_recv =
      reads_as Any recv_fields _ IsRecv
      (reads_then Any (number_field 0 4294967295) (IsNumberField 0 4294967295)
      (λ s r. number_field 1 65535 r >>= λ m. Ok (calls.Recv s m.0, m.1)) _
      (reads_number 0 4294967295 (omega arith))
      (λ s. reads_then Any (number_field 1 65535) (IsNumberField 1 65535) (λ m r. Ok (calls.Recv s m, r))
      (λ m c ws. (c ≡ calls.Recv s m) × (ws ≡ [])) (reads_number 1 65535 (omega arith))
      (λ m. reads_done Any (calls.Recv s m))))
      (λ c ws d. let e = d.4 in
      (d.0, e.0, e.4.0, (d.3.1, e.3.0, e.3.1), rw (d.5, d.3.2, e.5, e.3.2, e.4.1) refl))
      (λ c ws s. (
        s.0,
        decimal s.0 ∷ [],
        decimal s.1 ∷ [],
        (omega arith, s.3.0, refl),
        (s.1, decimal s.1 ∷ [], [], (s.3.1, s.3.2, refl), (s.2, refl), refl),
        s.4,
      ))

  abbrev IsOnSocket : (ℕ → Call) → Call → List (List ℕ) → Type 0
  IsOnSocket call c ws = (socket : ℕ) × (c ≡ call socket) × (socket ≤ 4294967295) × (ws ≡ decimal socket ∷ [])

  reads_socket : (call : ℕ → Call) → IsReader (socket_field call) (IsOnSocket call)
  reads_socket call =
      reads_as Any (socket_field call) _ (IsOnSocket call)
      (reads_then Any (number_field 0 4294967295) (IsNumberField 0 4294967295) (λ s r. Ok (call s, r))
      (λ s c ws. (c ≡ call s) × (ws ≡ [])) (reads_number 0 4294967295 (omega arith))
      (λ s. reads_done Any (call s)))
      (λ c ws d. (d.0, d.4.0, d.3.1, d.5 ∙ ap (λ (us : List (List ℕ)). us ++ d.2) d.3.2 ∙ ap (λ (vs : List (List ℕ)). decimal d.0 ∷ vs) d.4.1))
      (λ c ws s. (s.0, decimal s.0 ∷ [], [], (omega arith, s.2, refl), (s.1, refl), s.3))

  -- ---- all forms

  -- what was read behind the first word
  abbrev Behind : CallWord → Rest → Call × Rest → Type 0
  Behind k r x = IsBehind call_word call_tail (IsCall v) k r x.0 x.1

  known : (k : CallWord) (r : Rest) (x : Call × Rest) (c : Call) (us ts : List (List ℕ)) → x.0 ≡ c → IsCall v c
      → call_word c ≡ k → AreWritten (call_tail c) ts → us ≡ ts → texts r ≡ us ++ texts x.1 → Behind k r x
  known k r x c us ts same fits first written are e =
      is_known call_word call_tail (IsCall v) k r x.1 x.0 c us same fits first
      (subst (λ (vs : List (List ℕ)). AreWritten (call_tail c) vs) (sym are) written) e

  behind_takes : (k : CallWord) (r : Rest) (x : Call × Rest) → call_behind v k r ≡ Ok x → Behind k r x
  behind_takes words.Listen r x e =
      let p = reads_listen.takes r x e in let s = p.1 in
      known words.Listen r x (calls.Listen s.0 s.1 s.2) p.0
      (decimal (host_number s.0) ∷ decimal s.1 ∷ decimal s.2 ∷ []) s.3 s.4 refl (refl, (refl, (refl, tt))) s.5 p.2
  behind_takes words.Open r x e =
      let p = reads_open.takes r x e in let s = p.1 in
      known words.Open r x (calls.Connect s.0 s.1 s.2) p.0
      (decimal (host_number s.0) ∷ decimal s.1 ∷ decimal s.2 ∷ []) s.3 s.4 refl (refl, (refl, (refl, tt))) s.5 p.2
  behind_takes words.Send r x e =
      let p = reads_send.takes r x e in let s = p.1 in
      known words.Send r x (calls.Send s.0 s.1) p.0 (decimal s.0 ∷ s.2 ∷ []) s.3 s.4 refl (refl, (s.5, tt)) s.6 p.2
  behind_takes words.Recv r x e =
      let p = reads_recv.takes r x e in let s = p.1 in
      known words.Recv r x (calls.Recv s.0 s.1) p.0 (decimal s.0 ∷ decimal s.1 ∷ []) s.2 s.3 refl (refl, (refl, tt)) s.4 p.2
  behind_takes words.Await r x e =
      let p = (reads_socket calls.Await).takes r x e in let s = p.1 in
      known words.Await r x (calls.Await s.0) p.0 (decimal s.0 ∷ []) s.1 s.2 refl (refl, tt) s.3 p.2
  behind_takes words.Accept r x e =
      let p = (reads_socket calls.Accept).takes r x e in let s = p.1 in
      known words.Accept r x (calls.Accept s.0) p.0 (decimal s.0 ∷ []) s.1 s.2 refl (refl, tt) s.3 p.2
  behind_takes words.Shut r x e =
      let p = (reads_socket calls.Shut).takes r x e in let s = p.1 in
      known words.Shut r x (calls.Shut s.0) p.0 (decimal s.0 ∷ []) s.1 s.2 refl (refl, tt) s.3 p.2
  behind_takes words.Close r x e =
      let p = (reads_socket calls.Close).takes r x e in let s = p.1 in
      known words.Close r x (calls.Close s.0) p.0 (decimal s.0 ∷ []) s.1 s.2 refl (refl, tt) s.3 p.2
  behind_takes words.Abort r x e =
      let p = (reads_socket calls.Abort).takes r x e in let s = p.1 in
      known words.Abort r x (calls.Abort s.0) p.0 (decimal s.0 ∷ []) s.1 s.2 refl (refl, tt) s.3 p.2
  behind_takes words.Status r x e =
      let p = (reads_socket calls.Status).takes r x e in let s = p.1 in
      known words.Status r x (calls.Status s.0) p.0 (decimal s.0 ∷ []) s.1 s.2 refl (refl, tt) s.3 p.2

  abbrev Gets : Call → Rest → List (List ℕ) → Type 0
  Gets c r more = (rest : Rest) × (call_behind v (call_word c) r ≡ Ok (c, rest)) × (texts rest ≡ more)

  behind_again : (c : Call) (r : Rest) (us more : List (List ℕ)) → Any more → IsCall v c → AreWritten (call_tail c) us → texts r ≡ us ++ more → Gets c r more
  behind_again (calls.Listen h p b) r us more any fits w e =
      reads_listen.again r (calls.Listen h p b) us more tt
      (h, p, b, refl, fits, plains_are (decimal (host_number h) ∷ decimal p ∷ decimal b ∷ []) us w) e
  behind_again (calls.Connect h p q) r us more any fits w e =
      reads_open.again r (calls.Connect h p q) us more tt
      (h, p, q, refl, fits, plains_are (decimal (host_number h) ∷ decimal p ∷ decimal q ∷ []) us w) e
  behind_again (calls.Send s b) r us more any fits w e = let h = hex_is (decimal s ∷ []) b us w in
      reads_send.again r (calls.Send s b) us more tt (s, b, h.0, refl, fits, h.1, h.2) e
  behind_again (calls.Recv s m) r us more any fits w e =
      reads_recv.again r (calls.Recv s m) us more tt (s, m, refl, fits, plains_are (decimal s ∷ decimal m ∷ []) us w) e
  behind_again (calls.Await s) r us more any fits w e =
      (reads_socket calls.Await).again r (calls.Await s) us more tt (s, refl, fits, plains_are (decimal s ∷ []) us w) e
  behind_again (calls.Accept s) r us more any fits w e =
      (reads_socket calls.Accept).again r (calls.Accept s) us more tt
      (s, refl, fits, plains_are (decimal s ∷ []) us w) e
  behind_again (calls.Shut s) r us more any fits w e =
      (reads_socket calls.Shut).again r (calls.Shut s) us more tt (s, refl, fits, plains_are (decimal s ∷ []) us w) e
  behind_again (calls.Close s) r us more any fits w e =
      (reads_socket calls.Close).again r (calls.Close s) us more tt (s, refl, fits, plains_are (decimal s ∷ []) us w) e
  behind_again (calls.Abort s) r us more any fits w e =
      (reads_socket calls.Abort).again r (calls.Abort s) us more tt (s, refl, fits, plains_are (decimal s ∷ []) us w) e
  behind_again (calls.Status s) r us more any fits w e =
      (reads_socket calls.Status).again r (calls.Status s) us more tt
      (s, refl, fits, plains_are (decimal s ∷ []) us w) e

  -- what is read as a call is spelled so, and what is spelled so is read
  pub reads_call : IsReader (call_field v) (IsSpelledCall v)
  unfolding call_field
  reads_call = reads_choice Any call_name all_call_words words_named (call_behind v) call_word call_tail (IsCall v) behind_takes behind_again

-- ---- the fields of a call are clean

word_clean : (w : CallWord) → IsClean (call_name w)
word_clean words.Listen = clean_by (codes "listen") refl
word_clean words.Open = clean_by (codes "open") refl
word_clean words.Await = clean_by (codes "await") refl
word_clean words.Accept = clean_by (codes "accept") refl
word_clean words.Send = clean_by (codes "send") refl
word_clean words.Recv = clean_by (codes "recv") refl
word_clean words.Shut = clean_by (codes "shut") refl
word_clean words.Close = clean_by (codes "close") refl
word_clean words.Abort = clean_by (codes "abort") refl
word_clean words.Status = clean_by (codes "status") refl

tail_clean : (v : Version) (c : Call) → IsCall v c → AllByRecursion IsCleanPiece (call_tail c)
tail_clean v (calls.Listen h p b) fits = (host_clean h, (IsClean-decimal p (omega (arith, fits.2)), (IsClean-decimal b (omega (arith, fits.3)), tt)))
tail_clean v (calls.Connect h p q) fits = (host_clean h, (IsClean-decimal p (omega (arith, fits.2)), (IsClean-decimal q (omega (arith, fits.4)), tt)))
tail_clean v (calls.Send s b) fits = (IsClean-decimal s (omega (arith, fits.0)), (tt, tt))
tail_clean v (calls.Recv s m) fits = (IsClean-decimal s (omega (arith, fits.0)), (IsClean-decimal m (omega (arith, fits.2)), tt))
tail_clean v (calls.Await s) fits = (IsClean-decimal s (omega arith), tt)
tail_clean v (calls.Accept s) fits = (IsClean-decimal s (omega arith), tt)
tail_clean v (calls.Shut s) fits = (IsClean-decimal s (omega arith), tt)
tail_clean v (calls.Close s) fits = (IsClean-decimal s (omega arith), tt)
tail_clean v (calls.Abort s) fits = (IsClean-decimal s (omega arith), tt)
tail_clean v (calls.Status s) fits = (IsClean-decimal s (omega arith), tt)

pub call_clean : (v : Version) (c : Call) → IsCall v c → AllByRecursion IsCleanPiece (call_pieces c)
call_clean v c fits = (word_clean (call_word c), tail_clean v c fits)
