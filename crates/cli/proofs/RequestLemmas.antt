-- Words have only one request.
use Rattle.std.proofs.Common.{◌≡◌, ◌⊎◌, ℕ, true, false, List, [], Bor, Option, codes, get_or, drop, refl, sym, subst, ap, ◌∙◌, inl, inr}
use Rattle.clap.specs.Words.{Text}
use Rattle.two_hosts.specs.declared.plan.Plan.{Plan}
use Rattle.cli.specs.CommandLine.{AsksCheck, AsksNothing, AsksSegment}
use Rattle.cli.specs.Endings.{EndsFor}
use Rattle.cli.specs.FileWords.{AreBoth, AsksFiles, BeginsWith}
use Rattle.cli.specs.HexText.{segment_in}
use Rattle.cli.specs.ManyWords.{AsksMany}
use Rattle.cli.specs.Output.{Ends}
use Rattle.cli.specs.RecordWords.{AsksRecord}
use Rattle.cli.specs.Requests.{answers_many, is_command, reads_input, records, IsRequested}
use Rattle.cli.specs.SegmentText.{segment_line, segment_status}
use Rattle.cli.specs.declared.request.Request.{Request}
use Rattle.cli.specs.declared.request.Request.TheVariants.{Help, Files, Command, Unknown}
use Rattle.cli.specs.declared.request.Command.TheVariants.{Check, Many, Record, Segment}
use Rattle.cli.proofs.HelpWords.{asks, check_words, many_words, record_words, segment_words}
use Rattle.cli.proofs.RecordOptions.{one_plan}

-- the first word
abbrev first : List Text → Text
first words = get_or words 0 []

many_first : (words : List Text) (n : ℕ) → AsksMany words n → first words ≡ codes "many"
many_first words n (text, inl form, s) = ap first form
many_first words n (text, inr form, s) = ap first form

record_first : (words : List Text) (plan : Plan) → AsksRecord words plan → first words ≡ codes "record"
record_first words plan asks = ap first asks.words_are

files_first : (words : List Text) (trace witness : Text) → AsksFiles words trace witness → first words ≡ codes "check"
files_first words trace witness asks = ap first asks.0.1

-- `check` alone has no options
alone : (words : List Text) (trace witness : Text) → AsksFiles words trace witness → AsksCheck words → ⊥
alone words trace witness ((options, e, both), plain_trace, plain_witness) check = by_case both
  where
    none : options ≡ []
    none = ap (λ (ws : List Text). drop 1 ws) (sym e ∙ check)

    some : (option value : Text) (behind : List Text) → BeginsWith option value behind options → ⊥
    some option value behind (inl (is, plain)) = let bad = sym none ∙ is in cc
    some option value behind (inr is) = let bad = sym none ∙ is in cc

    by_case : AreBoth (codes "--trace") trace (codes "--witness") witness options ⊎ AreBoth (codes "--witness") witness (codes "--trace") trace options → ⊥
    by_case (inl (behind, begins, rest)) = some _ _ _ begins
    by_case (inr (behind, begins, rest)) = some _ _ _ begins

-- words that ask for help are no command
not_both : {A : Type 0} (words : List Text) → asks words ≡ true → asks words ≡ false → A
not_both words is_help no_help = let bad : true ≡ false = sym is_help ∙ no_help in cc

pub check_only : (q : Request) (words : List Text) → IsRequested q words → AsksCheck words → q ≡ Command Check
check_only (Help topic) words is asked = not_both words is (check_words words asked)
check_only (Files trace witness) words is asked = absurd (alone words trace.now witness.now is asked)
check_only (Command Check) words is asked = refl
check_only (Command (Many n)) words is asked = let bad : codes "many" ≡ codes "check" = sym (many_first words n is) ∙ ap first asked in cc
check_only (Command (Record plan)) words is asked = let bad : codes "record" ≡ codes "check" = sym (record_first words plan is) ∙ ap first asked in cc
check_only (Command (Segment text)) words is asked = let bad : codes "segment" ≡ codes "check" = ap first (sym is.0 ∙ asked) in cc
check_only Unknown words is asked = absurd (is.check asked)

-- it is the segment of this text
pub record IsSegment (q : Request) (text : Text) : Type 0 where
  pub value : Bor Text
  pub is : q ≡ Command (Segment value)
  pub same : value.now ≡ text

pub segment_only : (q : Request) (words : List Text) (text : Text) → IsRequested q words → AsksSegment words text → IsSegment q text
segment_only (Help topic) words text is asked = not_both words is (segment_words words text asked)
segment_only (Files trace witness) words text is asked =
    let bad : codes "check" ≡ codes "segment" = sym (files_first words _ _ is) ∙ ap first asked.0 in cc
segment_only (Command Check) words text is asked = let bad : codes "check" ≡ codes "segment" = ap first (sym is ∙ asked.0) in cc
segment_only (Command (Many n)) words text is asked = let bad : codes "many" ≡ codes "segment" = sym (many_first words n is) ∙ ap first asked.0 in cc
segment_only (Command (Record plan)) words text is asked =
    let bad : codes "record" ≡ codes "segment" = sym (record_first words plan is) ∙ ap first asked.0 in cc
segment_only (Command (Segment value)) words text is asked =
    record { value = value; is = refl; same = ap (λ (ws : List Text). get_or ws 1 []) (sym is.0 ∙ asked.0) }
segment_only Unknown words text is asked = absurd (is.segment text asked)

pub many_only : (q : Request) (words : List Text) (n : ℕ) → IsRequested q words → AsksMany words n → (m : ℕ) × (q ≡ Command (Many m))
many_only (Help topic) words n is asked = not_both words is (many_words words n asked)
many_only (Files trace witness) words n is asked =
    let bad : codes "check" ≡ codes "many" = sym (files_first words _ _ is) ∙ many_first words n asked in cc
many_only (Command Check) words n is asked = let bad : codes "check" ≡ codes "many" = ap first (sym is) ∙ many_first words n asked in cc
many_only (Command (Many m)) words n is asked = (m, refl)
many_only (Command (Record plan)) words n is asked =
    let bad : codes "record" ≡ codes "many" = sym (record_first words plan is) ∙ many_first words n asked in cc
many_only (Command (Segment text)) words n is asked = let bad : codes "segment" ≡ codes "many" = ap first (sym is.0) ∙ many_first words n asked in cc
many_only Unknown words n is asked = absurd (is.many n asked)

pub record_only : (q : Request) (words : List Text) (plan : Plan) → IsRequested q words → AsksRecord words plan → q ≡ Command (Record plan)
record_only (Help topic) words plan is asked = not_both words is (record_words words plan asked)
record_only (Files trace witness) words plan is asked =
    let bad : codes "check" ≡ codes "record" = sym (files_first words _ _ is) ∙ record_first words plan asked in cc
record_only (Command Check) words plan is asked = let bad : codes "check" ≡ codes "record" = ap first (sym is) ∙ record_first words plan asked in cc
record_only (Command (Many n)) words plan is asked =
    let bad : codes "many" ≡ codes "record" = sym (many_first words n is) ∙ record_first words plan asked in cc
record_only (Command (Record other)) words plan is asked = ap (λ (p : Plan). Command (Record p)) (one_plan words other plan is asked)
record_only (Command (Segment text)) words plan is asked =
    let bad : codes "segment" ≡ codes "record" = ap first (sym is.0) ∙ record_first words plan asked in cc
record_only Unknown words plan is asked = absurd (is.recording plan asked)

-- ---- how a run ends

pub ends_for : (q other : Request) (input : Option (List ℕ)) (status : ℕ) (old new : Option (List ℕ)) → q ≡ other → EndsFor q input status old new
    → EndsFor other input status old new
ends_for q other input status old new is ends = subst (λ (r : Request). EndsFor r input status old new) is ends

pub segment_ends : (q : Request) (words : List Text) (text : Text) (input : Option (List ℕ)) (status : ℕ) (old new : Option (List ℕ)) → IsRequested q words
    → AsksSegment words text → EndsFor q input status old new
    → Ends (segment_status (segment_in text)) (segment_line (segment_in text)) status old new
segment_ends q words text input status old new is asked ends =
    let segment = segment_only q words text is asked in
    subst (λ (t : Text). Ends (segment_status (segment_in t)) (segment_line (segment_in t)) status old new) segment.same
    (subst (λ (r : Request). EndsFor r input status old new) segment.is ends)

-- ---- what isn't requested

-- words that request nothing of these are no command
pub none_only : (q : Request) (words : List Text) → IsRequested q words → AsksNothing words → ((n : ℕ) → ¬ AsksMany words n)
    → ((plan : Plan) → ¬ AsksRecord words plan) → is_command q ≡ false
none_only (Help topic) words is nothing no_many no_record = refl
none_only (Files trace witness) words is nothing no_many no_record = refl
none_only (Command Check) words is nothing no_many no_record = absurd (nothing.check is)
none_only (Command (Many n)) words is nothing no_many no_record = absurd (no_many n is)
none_only (Command (Record plan)) words is nothing no_many no_record = absurd (no_record plan is)
none_only (Command (Segment text)) words is nothing no_many no_record = absurd (nothing.segment text.now is)
none_only Unknown words is nothing no_many no_record = refl

pub reads_none : (q : Request) (words : List Text) → IsRequested q words → ¬ AsksCheck words → ((n : ℕ) → ¬ AsksMany words n) → reads_input q ≡ false
reads_none (Help topic) words is no_check no_many = refl
reads_none (Files trace witness) words is no_check no_many = refl
reads_none (Command Check) words is no_check no_many = absurd (no_check is)
reads_none (Command (Many n)) words is no_check no_many = absurd (no_many n is)
reads_none (Command (Record plan)) words is no_check no_many = refl
reads_none (Command (Segment text)) words is no_check no_many = refl
reads_none Unknown words is no_check no_many = refl

pub records_none : (q : Request) (words : List Text) → IsRequested q words → ((plan : Plan) → ¬ AsksRecord words plan) → records q ≡ false
records_none (Help topic) words is no_record = refl
records_none (Files trace witness) words is no_record = refl
records_none (Command Check) words is no_record = refl
records_none (Command (Many n)) words is no_record = refl
records_none (Command (Record plan)) words is no_record = absurd (no_record plan is)
records_none (Command (Segment text)) words is no_record = refl
records_none Unknown words is no_record = refl

pub many_none : (q : Request) (words : List Text) → IsRequested q words → ((n : ℕ) → ¬ AsksMany words n) → answers_many q ≡ false
many_none (Help topic) words is no_many = refl
many_none (Files trace witness) words is no_many = refl
many_none (Command Check) words is no_many = refl
many_none (Command (Many n)) words is no_many = absurd (no_many n is)
many_none (Command (Record plan)) words is no_many = refl
many_none (Command (Segment text)) words is no_many = refl
many_none Unknown words is no_many = refl
