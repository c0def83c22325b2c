use Rattle.std.proofs.Common.{rules, ◌≡◌, ◌≤◌, ◌∙◌, ◌++◌, ap, refl, subst, sym, true, false, eq-eqb, take, drop, length, nat_lt, ℕ}
use Rattle.std.specs.Io.{appended_bytes}
use Rattle.std.specs.Io.BufRead.{FillKeeps}
use Rattle.std.specs.Io.KnownBytes.{Consumes}
use Rattle.std.proofs.BufReadLemmas.{Consumes_shown}
use Rattle.std.proofs.Math.Seq.{take-append_seam}
use Rattle.std.proofs.lemmas.List.{drop_at}
use Rattle.counted.specs.declared.at_hand.Taken.{Taken}
use Rattle.counted.specs.declared.at_hand.Taken.TheVariants.{ToWord, Lines}
use Rattle.counted.proofs.AtHand.{at_word, lines_taken, part_within, word_taken}
use Rattle.counted.proofs.at_hand.append_wanted.Goals.{in-Some, in-None-2, then-cut-eq0, else-cut-eq0}
use Rattle.counted.proofs.at_hand.append_wanted.Goals as goal

pub returns : goal.returns
returns g c =
    let bytes = c.in-Ok.available.now in
    let cut = c.cut_at_word-cut.result in
    let old = c.args.buf.now.items in
    let grown : c.extend_from_slice.new.self.items ≡ old ++ take cut.lines bytes = search rules in
    let lines : appended_bytes old c.extend_from_slice.new.self.items ≡ take cut.lines bytes =
    ap (drop (length old)) grown ∙ drop_at old (take cut.lines bytes) (length old) refl in
    let rested = c.fill_buf.follows.lender-at-none in
    let filled = subst (FillKeeps _ (g.B.Read.remaining rested) (g.B.BufRead.consumable_len rested)) c.in-Ok.is c.fill_buf.follows.holds-at-none in
    let was = g.B.Read.remaining c.args.inner.now in
    let left = g.B.Read.remaining c.consume.new.self in
    let took : c.match-cut.end.0 ≤ length bytes → Consumes was left (take c.match-cut.end.0 bytes) =
    λ within. (Consumes_shown _ _ _ _ bytes c.match-cut.end.0 within c.in-Ok.ensures.front c.in-Ok.ensures.end filled.0 filled.1 c.consume.ensures.bytes).0 in
    let took_to : (end : ℕ) → c.match-cut.end.0 ≡ end → end ≤ length bytes → Consumes was left (take end bytes) =
    λ end is. subst (λ (n : ℕ). n ≤ length bytes → Consumes was left (take n bytes)) is took in
    record {
      appends = ap (take (length old)) grown ∙ take-append_seam old (take cut.lines bytes);
      takes =
          elim c.match-cut.branch [
            | in-Some w ↦
                let at = at_word _ cut.word w.in-Some.end w.in-Some.is c.cut_at_word-cut.ensures.word in
                let end : c.match-cut.end.0 ≡ w.in-Some.end = ap (λ (p : ℕ × Taken). p.0) w.end-is in
                let taken : c.match-cut.end.1 ≡ ToWord (nat_lt w.in-Some.end (length bytes)) = ap (λ (p : ℕ × Taken). p.1) w.end-is in
                rw taken
                (word_taken (nat_lt w.in-Some.end (length bytes)) c.args.word.now bytes _ c.min.result cut.lines w.in-Some.end _ _ at.0 at.1
                c.cut_at_word-cut.ensures.lines at.2 lines
                (took_to w.in-Some.end end (part_within bytes c.min.result w.in-Some.end at.1)))
            | in-None-2 w ↦
                let end : c.match-cut.end.0 ≡ cut.lines = ap (λ (p : ℕ × Taken). p.0) w.end-is in
                let taken : c.match-cut.end.1 ≡ Lines = ap (λ (p : ℕ × Taken). p.1) w.end-is in
                let within = c.cut_at_word-cut.ensures.within in
                rw taken
                (lines_taken c.args.word.now bytes _ c.min.result cut.lines _ _ within c.cut_at_word-cut.ensures.lines lines
                (took_to cut.lines end (part_within bytes c.min.result cut.lines within)))
          ];
      whole = elim c.match-cut.branch [
        | in-Some w ↦ λ wants is.
            let taken : c.match-cut.end.1 ≡ ToWord (nat_lt w.in-Some.end (length bytes)) = ap (λ (p : ℕ × Taken). p.1) w.end-is in
            let both : ToWord (nat_lt w.in-Some.end (length bytes)) ≡ Lines = sym taken ∙ is in absurd cc
        | in-None-2 w ↦ λ wants is. elim w.if-cut-eq0.branch [
          | then-cut-eq0 x ↦ let both : true ≡ false = sym (x.value-is ∙ eq-eqb _ 0 x.if-cut-eq0.true) ∙ w.if-eq.false in absurd cc
          | else-cut-eq0 x ↦ let same = x.eq.ensures in
              let same = rw wants at same in
              let both : true ≡ false = sym same ∙ sym x.value-is ∙ w.if-eq.false in absurd cc
        ]
      ];
    }
