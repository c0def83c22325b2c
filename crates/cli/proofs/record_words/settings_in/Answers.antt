use Rattle.std.proofs.Common.{◌≡◌, ◌∙◌, ◌<◌, ℕ, Bor, List, [], ap, drop, length, length-drop, subst, sym, arith}
use Rattle.std.proofs.lemmas.List.{drop_all, length-map}
use Rattle.clap.specs.Words.{Text}
use Rattle.cli.specs.Options.{IsNumberIn}
use Rattle.cli.specs.RecordReading.{with_setting}
use Rattle.cli.specs.RecordWords.{least, most}
use Rattle.cli.specs.declared.record_words.Settings.{Settings}
use Rattle.cli.proofs.OptionWords.{from, texts, texts_from, the_end}
use Rattle.cli.proofs.RecordOptions.{AreSoFar, all_told, matched, none_first, none_spelled, so_far_more, unmatched}
use Rattle.cli.proofs.record_words.settings_in.Goals as goal

-- the rest of the words, as the code takes it
so_far_from : (settings : Settings) (words : List (Bor Text)) (at : ℕ) → AreSoFar settings (texts words) (drop at (texts words))
    → AreSoFar settings (texts words) (texts (from at words))
so_far_from settings words at so = subst (λ (ws : List Text). AreSoFar settings (texts words) ws) (sym (texts_from at words)) so

some_left : (words : List (Bor Text)) (at : ℕ) → at < length words → texts (from at words) ≡ [] → ⊥
some_left words at more none =
    let left = ap length (sym (texts_from at words) ∙ none) in
    let size = length-drop at (texts words) in
    let all = length-map words (λ (word : Bor Text). word.now) in
    absurd (omega (left, size, all, more, arith))

pub returns-in_default : goal.returns-in_default
returns-in_default c options =
    none_first c.loop-at.settings _ _ options (so_far_from _ _ _ c.loop-at.invariant.so_far)
    (some_left c.args.words.now c.loop-at.at c.loop-at-test.true) c.in_default.ensures

pub returns-in_default-2 : goal.returns-in_default-2
returns-in_default-2 c options =
    let number = rw (c.least.ensures, c.most.ensures) at c.in_ok-number.ensures in
    let none = unmatched ((n : ℕ) → ¬ IsNumberIn (least c.in-Some.setting) (most c.in-Some.setting) c.in-Some.value.now n)
    (IsNumberIn (least c.in-Some.setting) (most c.in-Some.setting) c.in-Some.value.now) c.in_ok-number.field-0 number c.in_default-2.not-Some in
    none_spelled c.loop-at.settings _ _ _ c.in-Some.setting _ options (so_far_from _ _ _ c.loop-at.invariant.so_far) c.in-Some.ensures none

pub loop-at-preserved : goal.loop-at-preserved
loop-at-preserved c =
    let number = rw (c.least.ensures, c.most.ensures) at c.in_ok-number.ensures in
    let is = matched ((n : ℕ) → ¬ IsNumberIn (least c.in-Some.setting) (most c.in-Some.setting) c.in-Some.value.now n)
    (IsNumberIn (least c.in-Some.setting) (most c.in-Some.setting) c.in-Some.value.now) c.in_ok-number.field-0 c.in-Some-2.number number c.in-Some-2.is in
    record {
      within = omega arith;
      so_far =
          rw c.with-settings.ensures
          (subst (λ (ws : List Text). AreSoFar (with_setting c.in-Some.setting c.in-Some-2.number c.loop-at.settings) (texts c.args.words.now) ws)
          (the_end _ _ c.loop-at.at c.args.words.now c.in-Some.rest.now c.in-Some.ensures)
          (so_far_more c.loop-at.settings _ _ _ c.in-Some.setting _ _ (so_far_from _ _ _ c.loop-at.invariant.so_far) c.in-Some.ensures is));
    }

pub returns : goal.returns
returns c =
    let size = length-map c.args.words.now (λ (word : Bor Text). word.now) in
    let past = c.loop-at-test.false in
    all_told c.loop-at.settings _ _ c.loop-at.invariant.so_far (drop_all c.loop-at.at (texts c.args.words.now) (omega arith))
