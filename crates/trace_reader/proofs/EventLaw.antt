-- The spelling of an event, both ways.
use Rattle.std.proofs.Common.{◌≡◌, ℕ, List, [], ◌∷◌, ◌++◌, Result, Ok, refl, sym, ap, subst, arith}
use Rattle.std.specs.Prelude.{codes}
use Rattle.std.specs.Fmt.{decimal}
use Rattle.std.specs.List.{AllByRecursion}
use Rattle.case_forms.specs.declared.calls.Host.{Host}
use Rattle.case_forms.specs.declared.calls.Call.{Call}
use Rattle.case_forms.specs.declared.calls.Answer.{Answer}
use Rattle.case_forms.specs.declared.timer.Timer.{Timer}
use Rattle.case_forms.specs.declared.trace.Wire.{Wire}
use Rattle.case_forms.specs.declared.trace.Event.{Event}
use Rattle.case_forms.specs.declared.trace.Event.TheVariants as events
use Rattle.case_forms.specs.declared.version.Version.{Version}
use Rattle.line_fields.specs.declared.fault.TextFault.{TextFault}
use Rattle.line_fields.specs.Word.{Rest}
use Rattle.line_fields.specs.Reading.{◌>>=◌, number_field}
use Rattle.line_fields.specs.Hosts.{host_number, IsHost, host_field}
use Rattle.line_fields.specs.Choice.{kind_field}
use Rattle.line_fields.specs.Timers.{timer_name, timers_of, IsTimer}
use Rattle.line_fields.specs.Reader.{texts, Any, Nothing, IsReader, IsLastReader}
use Rattle.line_fields.specs.Spelling.{IsClean, AreWritten}
use Rattle.line_fields.specs.AnswerFields.{answer_field}
use Rattle.line_fields.proofs.Readers.{IsNumberField, bind_ok, ok_is, reads_then, reads_done, reads_as, reads_number}
use Rattle.line_fields.proofs.Choices.{AreNamed, IsBehind, reads_kind_among, reads_choice, is_known}
use Rattle.line_fields.proofs.Written.{IsCleanPiece, plains_are, hex_is}
use Rattle.line_fields.proofs.Names.{timers_named, timer_clean}
use Rattle.line_fields.proofs.HostLaw.{IsHostField, reads_host, host_clean}
use Rattle.line_fields.proofs.Joined.{IsClean-decimal}
use Rattle.line_fields.proofs.AnswerLaw.{reads_answer, answer_clean}
use Rattle.line_fields.proofs.Clean.{clean_by}
use Rattle.trace_reader.specs.declared.events.Letter.{Letter}
use Rattle.trace_reader.specs.declared.events.Letter.TheVariants as letters
use Rattle.trace_reader.specs.CallFields.{call_field}
use Rattle.trace_reader.specs.Wires.{wire_field}
use Rattle.trace_reader.specs.Events.{letter_name, all_letters, event_letter, event_tail, event_pieces, IsEvent, IsSpelledEvent}
use Rattle.trace_reader.specs.EventFields.{host_wire, expired_fields, event_behind, event_field}
use Rattle.trace_reader.proofs.CallLaw.{reads_call, call_clean}
use Rattle.trace_reader.proofs.WireLaw.{IsWire, IsWireField, reads_wire}

letters_named : AreNamed letter_name all_letters
letters_named letters.B = refl
letters_named letters.E = refl
letters_named letters.O = refl
letters_named letters.I = refl
letters_named letters.T = refl

module _ (version : Version) where
  -- ---- a host and a segment

  abbrev Seen : Type 0
  Seen = Host × Wire

  abbrev IsSeen : Seen → List (List ℕ) → Type 0
  IsSeen seen ws = (t : List ℕ) × IsHost version seen.0 × IsWire seen.1 t × (ws ≡ decimal (host_number seen.0) ∷ t ∷ [])

  abbrev IsSeenAs : Seen → Host → Wire → List (List ℕ) → Type 0
  IsSeenAs seen h w ws = (seen ≡ (h, w)) × (ws ≡ [])

  reads_seen : IsReader (host_wire version) IsSeen
  unfolding host_wire
  reads_seen =
      reads_as Any (host_wire version) _ IsSeen
      (reads_then Any (host_field version) (IsHostField version) (λ h r. wire_field r >>= λ w. Ok ((h, w.0), w.1)) _ (reads_host version)
      (λ h. reads_then Any wire_field IsWireField (λ w r. Ok ((h, w), r)) (λ w seen ws. IsSeenAs seen h w ws) reads_wire (λ w. reads_done Any (h, w))))
      (λ seen ws d. let e = d.4 in
      subst (λ (x : Seen). IsSeen x ws) (sym e.4.0) (e.3.0, d.3.0, e.3.1, rw (d.5, d.3.1, e.5, e.3.2, e.4.1) refl))
      (λ seen ws s. (
        seen.0,
        decimal (host_number seen.0) ∷ [],
        s.0 ∷ [],
        (s.1, refl),
        (seen.1, s.0 ∷ [], [], (s.0, s.2, refl), (refl, refl), refl),
        s.3,
      ))

  -- ---- an expired timer

  abbrev IsExpired : Event → List (List ℕ) → Type 0
  IsExpired v ws =
      (h : Host) × (p : ℕ) × (q : ℕ) × (timer : Timer) × (v ≡ events.Expired h p q timer)
      × IsEvent version (events.Expired h p q timer)
      × (ws ≡ decimal (host_number h) ∷ decimal p ∷ decimal q ∷ timer_name timer ∷ [])

  abbrev IsTimerField : Timer → List (List ℕ) → Type 0
  IsTimerField timer ws = IsTimer version timer × (ws ≡ timer_name timer ∷ [])

  abbrev expires : Host → ℕ → ℕ → Rest → Result (Event × Rest) TextFault
  expires h p q r = kind_field timer_name (timers_of version) r >>= λ timer. Ok (events.Expired h p q timer.0, timer.1)

  reads_expired : IsReader (expired_fields version) IsExpired
  unfolding expired_fields
  reads_expired =
      reads_as Any (expired_fields version) _ IsExpired
      (reads_then Any (host_field version) (IsHostField version)
      (λ h r. number_field 1 65535 r >>= λ p. number_field 1 65535 p.1 >>= λ q. expires h p.0 q.0 q.1) _
      (reads_host version)
      (λ h. reads_then Any (number_field 1 65535) (IsNumberField 1 65535)
      (λ p r. number_field 1 65535 r >>= λ q. expires h p q.0 q.1) _ (reads_number 1 65535 (omega arith))
      (λ p. reads_then Any (number_field 1 65535) (IsNumberField 1 65535) (λ q r. expires h p q r) _ (reads_number 1 65535 (omega arith))
      (λ q. reads_then Any (kind_field timer_name (timers_of version)) IsTimerField (λ timer r. Ok (events.Expired h p q timer, r))
      (λ timer v ws. (v ≡ events.Expired h p q timer) × (ws ≡ []))
      (reads_kind_among timer_name (timers_of version) (IsTimer version) (timers_named version)) (λ timer. reads_done Any (events.Expired h p q timer))))))
      (λ v ws d. let e = d.4 in let f = e.4 in let g = f.4 in
      (d.0, e.0, f.0, g.0, g.4.0, (d.3.0, e.3.0, e.3.1, f.3.0, f.3.1, g.3.0), rw (d.5, d.3.1, e.5, e.3.2, f.5, f.3.2, g.5, g.3.1, g.4.1) refl))
      (λ v ws s. (
        s.0,
        decimal (host_number s.0) ∷ [],
        decimal s.1 ∷ decimal s.2 ∷ timer_name s.3 ∷ [],
        (s.5.0, refl),
        (
          s.1,
          decimal s.1 ∷ [],
          decimal s.2 ∷ timer_name s.3 ∷ [],
          (s.5.1, s.5.2, refl),
          (s.2, decimal s.2 ∷ [], timer_name s.3 ∷ [], (s.5.3, s.5.4, refl), (s.3, timer_name s.3 ∷ [], [], (s.5.5, refl), (s.4, refl), refl), refl),
          refl,
        ),
        s.6,
      ))

  -- ---- all forms

  abbrev begun : Call × Rest → Result (Event × Rest) TextFault
  begun x = Ok (events.CallBegin x.0, x.1)

  abbrev ended : Answer × Rest → Result (Event × Rest) TextFault
  ended x = Ok (events.CallEnd x.0, x.1)

  abbrev sent : Seen × Rest → Result (Event × Rest) TextFault
  sent x = Ok (events.Sent x.0.0 x.0.1, x.1)

  abbrev came : Seen × Rest → Result (Event × Rest) TextFault
  came x = Ok (events.Came x.0.0 x.0.1, x.1)

  -- what was read behind the letter
  abbrev Behind : Letter → Rest → Event × Rest → Type 0
  Behind k r x = IsBehind event_letter event_tail (IsEvent version) k r x.0 x.1

  known : (k : Letter) (r : Rest) (x : Event × Rest) (v : Event) (us ts : List (List ℕ)) → x.0 ≡ v → IsEvent version v
      → event_letter v ≡ k → AreWritten (event_tail v) ts → us ≡ ts → texts r ≡ us ++ texts x.1 → Behind k r x
  known k r x v us ts same fits first written are e =
      is_known event_letter event_tail (IsEvent version) k r x.1 x.0 v us same fits first
      (subst (λ (vs : List (List ℕ)). AreWritten (event_tail v) vs) (sym are) written) e

  behind_takes : (k : Letter) (r : Rest) (x : Event × Rest) → event_behind version k r ≡ Ok x → Behind k r x
  behind_takes letters.B r x e =
      let b = bind_ok (call_field version r) begun x e in
      let p = (reads_call version).takes r b.0 b.1 in
      subst (Behind letters.B r) (ok_is (events.CallBegin b.0.0, b.0.1) x b.2) (p.0, p.1.0, refl, p.1.1, p.2)
  behind_takes letters.E r x e =
      let b = bind_ok (answer_field r) ended x e in
      let p = reads_answer.takes r b.0 b.1 in
      subst (Behind letters.E r) (ok_is (events.CallEnd b.0.0, b.0.1) x b.2) (p.0, p.1.0, refl, p.1.1, p.2)
  behind_takes letters.O r x e =
      let b = bind_ok (host_wire version r) sent x e in
      let p = reads_seen.takes r b.0 b.1 in
      let s = p.1 in
      subst (Behind letters.O r) (ok_is (events.Sent b.0.0.0 b.0.0.1, b.0.1) x b.2)
      (known letters.O r (events.Sent b.0.0.0 b.0.0.1, b.0.1) (events.Sent b.0.0.0 b.0.0.1) p.0
      (decimal (host_number b.0.0.0) ∷ s.0 ∷ []) refl (s.1, s.2.1) refl (refl, (s.2.0, tt)) s.3 p.2)
  behind_takes letters.I r x e =
      let b = bind_ok (host_wire version r) came x e in
      let p = reads_seen.takes r b.0 b.1 in
      let s = p.1 in
      subst (Behind letters.I r) (ok_is (events.Came b.0.0.0 b.0.0.1, b.0.1) x b.2)
      (known letters.I r (events.Came b.0.0.0 b.0.0.1, b.0.1) (events.Came b.0.0.0 b.0.0.1) p.0
      (decimal (host_number b.0.0.0) ∷ s.0 ∷ []) refl (s.1, s.2.1) refl (refl, (s.2.0, tt)) s.3 p.2)
  behind_takes letters.T r x e =
      let p = reads_expired.takes r x e in
      let s = p.1 in
      known letters.T r x (events.Expired s.0 s.1 s.2 s.3) p.0
      (decimal (host_number s.0) ∷ decimal s.1 ∷ decimal s.2 ∷ timer_name s.3 ∷ []) s.4 s.5 refl
      (refl, (refl, (refl, (refl, tt)))) s.6 p.2

  abbrev Gets : Event → Rest → List (List ℕ) → Type 0
  Gets e r more = (rest : Rest) × (event_behind version (event_letter e) r ≡ Ok (e, rest)) × (texts rest ≡ more)

  behind_again : (v : Event) (r : Rest) (us more : List (List ℕ)) → Nothing more → IsEvent version v
      → AreWritten (event_tail v) us → texts r ≡ us ++ more → Gets v r more
  behind_again (events.CallBegin c) r us more last fits w e =
      let q = (reads_call version).again r c us more tt (fits, w) e in
      (q.0, ap (λ (x : Result (Call × Rest) TextFault). x >>= begun) q.1, q.2)
  behind_again (events.CallEnd a) r us more last fits w e =
      let q = reads_answer.again r a us more last (fits, w) e in
      (q.0, ap (λ (x : Result (Answer × Rest) TextFault). x >>= ended) q.1, q.2)
  behind_again (events.Sent h wire) r us more last fits w e =
      let t = hex_is (decimal (host_number h) ∷ []) wire.bytes us w in
      let q = reads_seen.again r (h, wire) us more tt (t.0, fits.0, (t.1, fits.1), t.2) e in
      (q.0, ap (λ (x : Result (Seen × Rest) TextFault). x >>= sent) q.1, q.2)
  behind_again (events.Came h wire) r us more last fits w e =
      let t = hex_is (decimal (host_number h) ∷ []) wire.bytes us w in
      let q = reads_seen.again r (h, wire) us more tt (t.0, fits.0, (t.1, fits.1), t.2) e in
      (q.0, ap (λ (x : Result (Seen × Rest) TextFault). x >>= came) q.1, q.2)
  behind_again (events.Expired h p q timer) r us more last fits w e =
      reads_expired.again r (events.Expired h p q timer) us more tt (
        h,
        p,
        q,
        timer,
        refl,
        fits,
        plains_are
            (decimal (host_number h) ∷ decimal p ∷ decimal q ∷ timer_name timer ∷ []) us w,
      ) e

  -- what is read as an event is spelled so, and what is spelled so is read
  pub reads_event : IsLastReader (event_field version) (IsSpelledEvent version)
  unfolding event_field
  reads_event =
      reads_choice Nothing letter_name all_letters letters_named (event_behind version) event_letter event_tail
      (IsEvent version) behind_takes behind_again

-- ---- the fields of an event are clean

letter_clean : (l : Letter) → IsClean (letter_name l)
letter_clean letters.B = clean_by (codes "B") refl
letter_clean letters.E = clean_by (codes "E") refl
letter_clean letters.O = clean_by (codes "O") refl
letter_clean letters.I = clean_by (codes "I") refl
letter_clean letters.T = clean_by (codes "T") refl

tail_clean : (version : Version) (v : Event) → IsEvent version v → AllByRecursion IsCleanPiece (event_tail v)
tail_clean version (events.CallBegin c) fits = call_clean version c fits
tail_clean version (events.CallEnd a) fits = answer_clean a fits
tail_clean version (events.Sent h wire) fits = (host_clean h, (tt, tt))
tail_clean version (events.Came h wire) fits = (host_clean h, (tt, tt))
tail_clean version (events.Expired h p q timer) fits = (
  host_clean h,
  (
    IsClean-decimal p (omega (arith, fits.2)),
    (IsClean-decimal q (omega (arith, fits.4)), (timer_clean timer, tt)),
  ),
)

pub event_clean : (version : Version) (v : Event) → IsEvent version v → AllByRecursion IsCleanPiece (event_pieces v)
event_clean version v fits = (letter_clean (event_letter v), tail_clean version v fits)
