-- Readers of a value that is made of parts, which are read one after the other.
use Rattle.std.proofs.Common.{◌≡◌, ℕ, List, [], ◌∷◌, ◌++◌, Result, Ok, refl, sym, ap, subst, ◌∙◌, append_assoc}
use Rattle.line_fields.specs.declared.fault.TextFault.{TextFault}
use Rattle.line_fields.specs.Word.{Rest}
use Rattle.line_fields.specs.Reading.{◌>>=◌}
use Rattle.line_fields.specs.Reader.{texts, IsReaderBefore, IsReader}
use Rattle.line_fields.specs.Spelling.{Piece, AreWritten}
use Rattle.line_fields.proofs.Readers.{bind_ok, ok_is}

-- ---- fields one after the other

written_both : (ps qs : List Piece) (us vs : List (List ℕ)) → AreWritten ps us → AreWritten qs vs → AreWritten (ps ++ qs) (us ++ vs)
written_both [] qs [] vs g h = h
written_both [] qs (u ∷ us) vs g h = absurd g
written_both (p ∷ ps) qs [] vs g h = absurd g
written_both (p ∷ ps) qs (u ∷ us) vs g h = (g.0, written_both ps qs us vs g.1 h)

-- texts that spell fields and others behind them
record AreBoth (ps qs : List Piece) (ws : List (List ℕ)) : Type 0 where
  us : List (List ℕ)
  vs : List (List ℕ)
  front : AreWritten ps us
  behind : AreWritten qs vs
  parts : ws ≡ us ++ vs

written_parts : (ps qs : List Piece) (ws : List (List ℕ)) → AreWritten (ps ++ qs) ws → AreBoth ps qs ws
written_parts [] qs ws h = record { us = []; vs = ws; front = tt; behind = h; parts = refl }
written_parts (p ∷ ps) qs [] h = absurd h
written_parts (p ∷ ps) qs (w ∷ ws) h =
    let b = written_parts ps qs ws h.1 in
    record { us = w ∷ b.us; vs = b.vs; front = (h.0, b.front); behind = b.behind; parts = ap (λ (ts : List (List ℕ)). w ∷ ts) b.parts }

-- ---- what is read of parts

-- these texts spell a value, which is within its limits
abbrev pub IsBy : {A : Type 0} → (A → Type 0) → (A → List Piece) → A → List (List ℕ) → Type 0
IsBy Fits pieces a ws = Fits a × AreWritten (pieces a) ws

-- the value is made of one that these texts spell
abbrev pub IsMade : {Y B : Type 0} → (Y → B) → (Y → Type 0) → (Y → List Piece) → B → List (List ℕ) → Type 0
IsMade {Y = Y} make Fits pieces b ws = (y : Y) × (b ≡ make y) × Fits y × AreWritten (pieces y) ws

-- the last part
pub reads_made : {Y B : Type 0} (F : List (List ℕ) → Type 0) (read : Rest → Result (Y × Rest) TextFault) (make : Y → B)
    (Fits : Y → Type 0) (pieces : Y → List Piece) → IsReaderBefore F read (IsBy Fits pieces)
    → IsReaderBefore F (λ r. read r >>= λ y. Ok (make y.0, y.1)) (IsMade make Fits pieces)
reads_made {Y = Y} {B = B} F read make Fits pieces law = record {
  takes = λ r x e.
      let b = bind_ok (read r) (λ y. Ok (make y.0, y.1)) x e in
      let p = law.takes r b.0 b.1 in
      subst (λ (z : B × Rest). (ws : List (List ℕ)) × IsMade make Fits pieces z.0 ws × (texts r ≡ ws ++ texts z.1))
      (ok_is (make b.0.0, b.0.1) x b.2) (p.0, (b.0.0, refl, p.1.0, p.1.1), p.2);
  again = λ r b ws more follows s e.
      let q = law.again r s.0 ws more follows (s.2, s.3) e in
      (q.0, ap (λ (z : Result (Y × Rest) TextFault). z >>= λ y. Ok (make y.0, y.1)) q.1 ∙ ap (λ (x : B). Ok (x, q.0)) (sym s.1), q.2);
}

-- a part, and the others behind it
pub reads_part : {A X B : Type 0} (F : List (List ℕ) → Type 0) (read : Rest → Result (A × Rest) TextFault)
    (FitsA : A → Type 0) (front : A → List Piece) (next : A → Rest → Result (B × Rest) TextFault)
    (make : A × X → B) (FitsX : X → Type 0) (behind : X → List Piece) → IsReader read (IsBy FitsA front)
    → ((a : A) → IsReaderBefore F (next a) (IsMade (λ x. make (a, x)) FitsX behind))
    → IsReaderBefore F (λ r. read r >>= λ a. next a.0 a.1) (IsMade make (λ y. FitsA y.0 × FitsX y.1) (λ y. front y.0 ++ behind y.1))
reads_part F read FitsA front next make FitsX behind first second = record {
  takes = λ r x e.
      let b = bind_ok (read r) (λ a. next a.0 a.1) x e in
      let p = first.takes r b.0 b.1 in
      let q = (second b.0.0).takes b.0.1 x b.2 in
      let s = q.1 in (
        p.0 ++ q.0,
        ((b.0.0, s.0), s.1, (p.1.0, s.2), written_both (front b.0.0) (behind s.0) p.0 q.0 p.1.1 s.3),
        p.2 ∙ ap (λ (ws : List (List ℕ)). p.0 ++ ws) q.2 ∙ sym (append_assoc p.0 q.0 (texts x.1)),
      );
  again = λ r b ws more follows s e.
      let w = written_parts (front s.0.0) (behind s.0.1) ws s.3 in
      let p = first.again r s.0.0 w.us (w.vs ++ more) tt (s.2.0, w.front) (e ∙ ap (λ (us : List (List ℕ)). us ++ more) w.parts ∙ append_assoc w.us w.vs more) in
      let q = (second s.0.0).again p.0 b w.vs more follows (s.0.1, s.1, s.2.1, w.behind) p.2 in
      (q.0, rw (p.1, q.1) refl, q.2);
}
