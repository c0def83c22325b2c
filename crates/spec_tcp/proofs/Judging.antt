-- Runs that are computed: which of the rules on congestion control are asked, by the word of the header.
use Rattle.std.proofs.Common.{◌≡◌, refl, false, List, [], ◌∷◌, ◌++◌, take, None, Some}
use Rattle.case_forms.specs.declared.calls.Host.TheVariants.{Zero, One}
use Rattle.case_forms.specs.declared.calls.Call.TheVariants as calls
use Rattle.case_forms.specs.declared.calls.Answer.TheVariants as answers
use Rattle.case_forms.specs.declared.steps.Step as witness
use Rattle.case_forms.specs.declared.trace.Header.{Header}
use Rattle.case_forms.specs.declared.trace.Line as lines
use Rattle.case_forms.specs.declared.version.Initial.TheVariants as initials
use Rattle.case_forms.specs.declared.version.Judged.{Judged}
use Rattle.case_forms.specs.declared.version.Judged.TheVariants.{Full, Recovery, NoControl}
use Rattle.verdict.specs.declared.rule.Rule.TheVariants as rules
use Rattle.window_rules.specs.declared.control.Profile.TheVariants as profiles
use Rattle.window_rules.specs.declared.growth.SlowStart.TheVariants.{Recommended, Permitted}
use Rattle.spec_tcp.specs.Signals.{profile_of}
use Rattle.spec_tcp.specs.Steps.{first_broken_step}
use Rattle.spec_tcp.proofs.Telling.{header, ack, begins, consumes, effects, ends, makes, opening_lines, opening_steps, recovers, sevens, takes, undoes}
use Rattle.spec_tcp.proofs.Limits as limits

-- a header with this word, where lines have the numbers of version 1, as in the runs that are cited
abbrev judging : Judged → Header
judging j = record (header 120000000 0) { congestion = j }

-- the profiles
pub all_is_judged : profile_of (record (judging Full) { initial = initials.Rfc6928 }) ≡ profiles.Rfc6928 Recommended
all_is_judged = refl

pub recovery_is_judged : profile_of (judging Recovery) ≡ profiles.Unbounded
recovery_is_judged = refl

pub nothing_is_judged : profile_of (judging NoControl) ≡ profiles.NoControl
nothing_is_judged = refl

-- a fifth segment in a congestion window of four
pub the_window_ends : first_broken_step (judging Full) limits.congestion_window_holds_lines limits.congestion_window_holds_steps
    ≡ Some (30, rules.Congestion)
the_window_ends = refl

pub the_window_ends_nothing : first_broken_step (judging Recovery) limits.congestion_window_holds_lines limits.congestion_window_holds_steps ≡ None
the_window_ends_nothing = refl

-- a window that grows by more than a segment
pub growth_is_bounded : first_broken_step (judging Full) limits.slow_start_adds_a_segment_lines limits.slow_start_adds_a_segment_steps ≡ Some (34, rules.Growth)
growth_is_bounded = refl

pub growth_is_not_bounded : first_broken_step (judging Recovery) limits.slow_start_adds_a_segment_lines limits.slow_start_adds_a_segment_steps ≡ None
growth_is_not_bounded = refl

-- fast recovery after two duplicates
pub two_are_too_few : first_broken_step (judging Recovery) limits.duplicates_begin_anew_lines limits.duplicates_begin_anew_steps ≡ Some (46, rules.Recovery)
two_are_too_few = refl

pub two_are_enough : first_broken_step (judging NoControl) limits.duplicates_begin_anew_lines limits.duplicates_begin_anew_steps ≡ None
two_are_enough = refl

-- what stays where nothing of congestion control is judged: the offered window
pub the_offered_window_ends : first_broken_step (judging NoControl) limits.offered_window_holds_lines limits.offered_window_holds_steps
    ≡ Some (29, rules.Offered)
the_offered_window_ends = refl

-- no window at a listener
pub no_window_at_a_listener : first_broken_step (judging NoControl) (opening_lines None) (take 9 (opening_steps 0) ++ (consumes 15 One 12 1 false false ∷ []))
    ≡ Some (11, rules.Growth)
no_window_at_a_listener = refl

-- no fast recovery while nothing is outstanding
pub something_is_outstanding : first_broken_step (judging NoControl) (opening_lines None) (opening_steps 0 ++ (recovers 20 Zero 4000 80 0 0 ∷ []))
    ≡ Some (20, rules.Recovery)
something_is_outstanding = refl

-- and an F step before data go again
abbrev again_lines : List lines.Line
again_lines = opening_lines None ++ (begins 17 20 2 (calls.Send 6 (sevens 0 50)) ∷ ends 18 21 2 (answers.Given 50) ∷ [])

abbrev sent_once_steps : List witness.Step
sent_once_steps = opening_steps 0 ++ (takes 20 17 ∷ effects 20 2 (answers.Given 50) ∷ takes 21 18 ∷ makes 21 Zero 4000 80 1 50 ack 65535 None ∷ [])

abbrev again : witness.Step
again = makes 22 Zero 4000 80 1 50 ack 65535 None

pub not_without_recovery : first_broken_step (judging NoControl) again_lines (sent_once_steps ++ (again ∷ [])) ≡ Some (24, rules.OldData)
not_without_recovery = refl

pub again_in_recovery : first_broken_step (judging NoControl) again_lines (sent_once_steps ++ (recovers 22 Zero 4000 80 0 0 ∷ again ∷ [])) ≡ None
again_in_recovery = refl

-- a recovery is undone that was never found spurious
pub nothing_is_undone : first_broken_step (judging NoControl) again_lines (sent_once_steps ++ (recovers 22 Zero 4000 80 0 0 ∷ undoes 22 Zero 4000 80 0 0 ∷ []))
    ≡ Some (25, rules.Recovery)
nothing_is_undone = refl
