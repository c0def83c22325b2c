-- An event line is read exactly where its bytes spell it.
use Rattle.std.proofs.Common.{◌≡◌, ◌≤◌, ℕ, List, [], ◌∷◌, ◌++◌, Bool, true, false, cond, ltb, Result, Ok, Err, refl, sym, ap, subst, ◌∙◌, arith}
use Rattle.std.specs.Fmt.{decimal}
use Rattle.std.specs.List.{AllByRecursion}
use Rattle.std.proofs.lemmas.Bool.{ltb-false, le-ltb}
use Rattle.std.proofs.lemmas.List.{append-nil}
use Rattle.case_forms.specs.declared.trace.Event.{Event}
use Rattle.case_forms.specs.declared.trace.Line.{Line}
use Rattle.case_forms.specs.declared.version.Version.{Version}
use Rattle.line_fields.specs.declared.fault.TextFault.{TextFault}
use Rattle.line_fields.specs.declared.fault.FaultKind.TheVariants.{MomentFalls}
use Rattle.line_fields.specs.Word.{Rest, rest_of}
use Rattle.line_fields.specs.Reading.{◌>>=◌, fault_at, number_value, number_field, no_more}
use Rattle.line_fields.specs.Lines.{IsRaw, line_rest}
use Rattle.line_fields.specs.Reader.{texts, IsReader}
use Rattle.line_fields.specs.Spelling.{IsClean, AreWritten, number, joined}
use Rattle.line_fields.proofs.Readers.{IsNumber, IsValue, is_number_value, reads_field, reads_number, bind_ok, ok_is, no_more_takes, no_more_again}
use Rattle.line_fields.proofs.Joined.{IsClean-decimal}
use Rattle.line_fields.proofs.LineRests.{fields_taken, fields_read, is_raw}
use Rattle.line_fields.proofs.Loop.{IsLineReader}
use Rattle.line_fields.proofs.Written.{IsCleanPiece, first_plain, written_clean}
use Rattle.trace_reader.specs.Events.{event_pieces, IsEvent}
use Rattle.trace_reader.specs.EventFields.{event_field}
use Rattle.trace_reader.specs.EventLines.{Place, line_pieces, IsEventLine, moment_value, moment_field, event_fields, line_of}
use Rattle.trace_reader.proofs.EventLaw.{reads_event, event_clean}

guard_ok : {A : Type 0} (b : Bool) (d : TextFault) (x y : A) → cond b (Err d) (Ok x) ≡ Ok y → (b ≡ false) × (x ≡ y)
guard_ok true d x y e = absurd cc
guard_ok false d x y e = (refl, cc)

abbrev IsMoment : ℕ → ℕ → List ℕ → Type 0
IsMoment before m text = IsNumber 0 1000000000000000000 m text × (before ≤ m)

is_moment_value : (before : ℕ) → IsValue (moment_value before) (IsMoment before)
is_moment_value before = record {
  takes = λ w m e.
      let b = bind_ok (number_value 0 1000000000000000000 w) (λ n. cond (ltb n before) (Err (fault_at MomentFalls w)) (Ok n)) m e in
      let g = guard_ok (ltb b.0 before) (fault_at MomentFalls w) b.0 m b.2 in
      let n = (is_number_value 0 1000000000000000000 (omega arith)).takes w b.0 b.1 in
      subst (λ (k : ℕ). IsMoment before k w.text) g.1 (n, ltb-false _ _ g.0);
  again = λ w m v.
      let read = (is_number_value 0 1000000000000000000 (omega arith)).again w m v.0 in
      let test = le-ltb m before v.1 in
      rw (read, test) refl;
}

reads_moment : (before : ℕ) → IsReader (moment_field before) (λ m ws. (t : List ℕ) × IsMoment before m t × (ws ≡ t ∷ []))
reads_moment before = reads_field (moment_value before) (IsMoment before) (is_moment_value before)

module _ (version : Version) where
  -- the steps after the moment
  abbrev Values : Type 0
  Values = ℕ × ℕ × Event

  abbrev last : ℕ × Rest → ℕ × Rest → Event × Rest → Result Values TextFault
  last m t e = no_more e.1 >>= λ u. Ok (m.0, t.0, e.0)

  abbrev behind_thread : ℕ × Rest → ℕ × Rest → Result Values TextFault
  behind_thread m t = event_field version t.1 >>= last m t

  abbrev behind_moment : ℕ × Rest → Result Values TextFault
  behind_moment m = number_field 0 4294967295 m.1 >>= behind_thread m

  record AreValues (before : ℕ) (f : Values) (ws : List (List ℕ)) : Type 0 where
    behind : List (List ℕ)
    words : ws ≡ decimal f.0 ∷ decimal f.1 ∷ behind
    written : AreWritten (event_pieces f.2) behind
    rises : before ≤ f.0
    moment : f.0 ≤ 1000000000000000000
    thread : f.1 ≤ 4294967295
    event : IsEvent version f.2

  values_take : (before : ℕ) (r : Rest) (f : Values) → event_fields version before r ≡ Ok f → AreValues before f (texts r)
  values_take before r f e =
      let a = bind_ok (moment_field before r) behind_moment f e in
      let b = bind_ok (number_field 0 4294967295 a.0.1) (behind_thread a.0) f a.2 in
      let c = bind_ok (event_field version b.0.1) (last a.0 b.0) f b.2 in
      let d = bind_ok (no_more c.0.1) (λ u. Ok (a.0.0, b.0.0, c.0.0)) f c.2 in
      let m = (reads_moment before).takes r a.0 a.1 in
      let t = (reads_number 0 4294967295 (omega arith)).takes a.0.1 b.0 b.1 in
      let v = (reads_event version).takes b.0.1 c.0 c.1 in
      let none = no_more_takes c.0.1 d.0 d.1 in
      let made : Values = (a.0.0, b.0.0, c.0.0) in
      let spelled : texts r ≡ decimal a.0.0 ∷ decimal b.0.0 ∷ v.0 =
      m.2 ∙ ap (λ (us : List (List ℕ)). us ++ texts a.0.1) (m.1.2 ∙ ap (λ (x : List ℕ). x ∷ []) m.1.1.0.0)
      ∙ ap (λ (us : List (List ℕ)). decimal a.0.0 ∷ us) (t.2 ∙ ap (λ (us : List (List ℕ)). us ++ texts b.0.1) t.1.2)
      ∙ ap (λ (us : List (List ℕ)). decimal a.0.0 ∷ decimal b.0.0 ∷ us) (v.2 ∙ ap (λ (us : List (List ℕ)). v.0 ++ us) none ∙ append-nil v.0) in
      subst (λ (g : Values). AreValues before g (texts r)) (ok_is made f d.2)
      (record {
        behind = v.0;
        words = spelled;
        written = v.1.1;
        rises = m.1.1.1;
        moment = m.1.1.0.2;
        thread = t.1.1;
        event = v.1.0;
      })

  values_again : (before : ℕ) (r : Rest) (f : Values) → AreValues before f (texts r) → event_fields version before r ≡ Ok f
  values_again before r f s =
      let m =
      (reads_moment before).again r f.0 (decimal f.0 ∷ []) (decimal f.1 ∷ s.behind) tt
      (decimal f.0, ((refl, omega arith, s.moment), s.rises), refl) s.words in
      let t = (reads_number 0 4294967295 (omega arith)).again m.0 f.1 (decimal f.1 ∷ []) s.behind tt (omega arith, s.thread, refl) m.2 in
      let v = (reads_event version).again t.0 f.2 s.behind [] refl (s.event, s.written) (t.2 ∙ sym (append-nil s.behind)) in
      let none = no_more_again v.0 v.2 in
      rw (m.1, t.1, v.1, none) refl

  -- ---- a whole line

  abbrev made : Place → Rest → Values → Line
  made place r f = record { number = place.1; moment = f.0; thread = f.1; event = f.2; span = record { line = place.1; start = 0; stop = r.stop } }

  abbrev done_with : Place → Rest → Values → Result Line TextFault
  done_with place r f = Ok (made place r f)

  abbrev done : Line → Result Line TextFault
  done l = Ok l

  line_takes : (place : Place) (raw : List ℕ) (l : Line) → line_of version place raw ≡ Ok l → IsEventLine version place l raw
  unfolding line_of
  line_takes place raw l e =
      let a = bind_ok (line_rest place.1 raw) (λ r. event_fields version place.0 r >>= done_with place r) l e in
      let b = bind_ok (event_fields version place.0 a.0) (done_with place a.0) l a.2 in
      let r = fields_taken place.1 raw a.0 a.1 in
      let f = values_take place.0 a.0 b.0 b.1 in
      subst (λ (m : Line). IsEventLine version place m raw) (ok_is (made place a.0 b.0) l b.2) (record {
        texts = texts a.0;
        written = subst (λ (ws : List (List ℕ)). AreWritten (line_pieces (made place a.0 b.0)) ws) (sym f.words) (refl, (refl, f.written));
        text = r.line;
        rises = f.rises;
        moment = f.moment;
        thread = f.thread;
        event = f.event;
        number = refl;
        span = ap (λ (s : ℕ). record { line = place.1; start = 0; stop = s }) r.stop;
      })

  -- the first two fields, and those of the event
  record AreCut (l : Line) (ws : List (List ℕ)) : Type 0 where
    behind : List (List ℕ)
    words : ws ≡ decimal l.moment ∷ decimal l.thread ∷ behind
    written : AreWritten (event_pieces l.event) behind

  are_cut : (l : Line) (ws : List (List ℕ)) → AreWritten (line_pieces l) ws → AreCut l ws
  are_cut l ws h =
      let m = first_plain (decimal l.moment) (number l.thread ∷ event_pieces l.event) ws h in
      let t = first_plain (decimal l.thread) (event_pieces l.event) m.0 m.2 in
      record { behind = t.0; words = m.1 ∙ ap (λ (us : List (List ℕ)). decimal l.moment ∷ us) t.1; written = t.2 }

  pub line_clean : (l : Line) → l.moment ≤ 1000000000000000000 → l.thread ≤ 4294967295 → IsEvent version l.event → AllByRecursion IsCleanPiece (line_pieces l)
  line_clean l moment thread event = (IsClean-decimal l.moment (omega arith), (IsClean-decimal l.thread (omega arith), event_clean version l.event event))

  texts_clean : (place : Place) (l : Line) (raw : List ℕ) (t : IsEventLine version place l raw) → AllByRecursion IsClean t.texts
  texts_clean place l raw t = written_clean (line_pieces l) t.texts (line_clean l t.moment t.thread t.event) t.written

  line_again : (place : Place) (raw : List ℕ) (l : Line) → IsEventLine version place l raw → line_of version place raw ≡ Ok l
  unfolding line_of
  line_again place raw l t =
      let cut = are_cut l t.texts t.written in
      let rest = fields_read place.1 raw t.texts (decimal l.moment) (decimal l.thread ∷ cut.behind) cut.words (texts_clean place l raw t) t.text in
      let fields =
      values_again place.0 (rest_of place.1 (joined t.texts)) (l.moment, l.thread, l.event)
      (record {
        behind = cut.behind;
        words = rest.1 ∙ cut.words;
        written = cut.written;
        rises = t.rises;
        moment = t.moment;
        thread = t.thread;
        event = t.event;
      }) in
      let same : made place (rest_of place.1 (joined t.texts)) (l.moment, l.thread, l.event) ≡ l = rw (← t.span, ← t.number) refl in
      let read = rest.0 in
      rw (read, fields) (ap done same)

  pub reads_line : IsLineReader (line_of version) (IsEventLine version)
  reads_line = record { takes = line_takes; again = line_again }

  pub line_is_raw : (place : Place) (l : Line) (raw : List ℕ) → IsEventLine version place l raw → IsRaw raw
  line_is_raw place l raw t = is_raw place.1 t.texts raw (texts_clean place l raw t) t.text
