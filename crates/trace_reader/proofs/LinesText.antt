-- The text of event lines, as a loop writes it.
use Rattle.std.proofs.Common.{◌≡◌, ◌<◌, ℕ, ◌+◌, List, [], ◌∷◌, ◌++◌, length, take, get_or, sym, ap, ◌∙◌, append_assoc, add-one}
use Rattle.std.proofs.Math.Seq.{take-suc}
use Rattle.std.proofs.lemmas.List.{append-nil}
use Rattle.std.specs.Fmt.{decimal}
use Rattle.case_forms.specs.declared.trace.Line.{Line}
use Rattle.line_fields.specs.Spelling.{piece_texts, printed_line, printed_behind}
use Rattle.line_fields.proofs.Clean.{joined_spaced}
use Rattle.trace_reader.specs.Events.{event_pieces}
use Rattle.trace_reader.specs.EventLines.{line_pieces}
use Rattle.trace_reader.specs.Printed.{lines_text}

push_text : (ls : List Line) (l : Line) → lines_text (ls ++ l ∷ []) ≡ lines_text ls ++ printed_line (line_pieces l)
push_text [] l = append-nil (printed_line (line_pieces l))
push_text (m ∷ ls) l =
    ap (λ (x : List ℕ). printed_line (line_pieces m) ++ x) (push_text ls l)
    ∙ sym (append_assoc (printed_line (line_pieces m)) (lines_text ls) (printed_line (line_pieces l)))

-- one more line behind what was written
pub writes_more : (front : List ℕ) (ls : List Line) (i : ℕ) (d l : Line) (old new : List ℕ) → i < length ls
    → l ≡ get_or ls i d → old ≡ front ++ lines_text (take i ls) → new ≡ old ++ printed_line (line_pieces l)
    → new ≡ front ++ lines_text (take (i + 1) ls)
writes_more front ls i d l old new lt same before wrote =
    let step : take (i + 1) ls ≡ take i ls ++ l ∷ [] = rw (add-one, same) (take-suc ls i d lt) in
    let more : lines_text (take (i + 1) ls) ≡ lines_text (take i ls) ++ printed_line (line_pieces l) = ap lines_text step ∙ push_text (take i ls) l in
    wrote ∙ ap (λ (x : List ℕ). x ++ printed_line (line_pieces l)) before
    ∙ append_assoc front (lines_text (take i ls)) (printed_line (line_pieces l))
    ∙ ap (λ (x : List ℕ). front ++ x) (sym more)

wrote_all : (old a b c out new m t v : List ℕ) → a ≡ old ++ m → b ≡ a ++ 32 ∷ [] → c ≡ b ++ t → out ≡ c ++ v
    → new ≡ out ++ 10 ∷ [] → new ≡ old ++ ((m ++ (32 ∷ (t ++ v))) ++ 10 ∷ [])
wrote_all old a b c out new m t v moment space thread event end = rw (end, event, thread, space, moment) (simp append_assoc)

-- a line is its moment, its thread and its event, and LF
pub line_printed : (l : Line) (old a b c out new : List ℕ) → a ≡ old ++ decimal l.moment → b ≡ a ++ 32 ∷ []
    → c ≡ b ++ decimal l.thread → out ≡ c ++ printed_behind (event_pieces l.event) → new ≡ out ++ 10 ∷ []
    → new ≡ old ++ printed_line (line_pieces l)
line_printed l old a b c out new moment space thread event end =
    let cut = joined_spaced (decimal l.moment) (decimal l.thread ∷ piece_texts (event_pieces l.event)) in
    let one : printed_line (line_pieces l)
    ≡ (decimal l.moment ++ (32 ∷ (decimal l.thread ++ printed_behind (event_pieces l.event)))) ++ 10 ∷ [] =
    ap (λ (x : List ℕ). x ++ 10 ∷ []) cut in
    wrote_all old a b c out new (decimal l.moment) (decimal l.thread)
    (printed_behind (event_pieces l.event)) moment space thread event end
    ∙ ap (λ (x : List ℕ). old ++ x) (sym one)
