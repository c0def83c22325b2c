-- Runs that are computed: what their steps say by themselves, and why nothing is claimed of an acknowledged SYN, nor of a host that is not recorded.
use Rattle.std.proofs.Common.{◌≡◌, true, List, [], ◌∷◌, take, Option, None, Some, refl, sym}
use Rattle.std.specs.Option.{option_map_or}
use Rattle.std.proofs.lemmas.Option.{none-some}
use Rattle.case_forms.specs.declared.calls.Host.TheVariants.{Zero, One}
use Rattle.case_forms.specs.declared.trace.Header.{Header}
use Rattle.case_forms.specs.declared.trace.Line as lines
use Rattle.case_forms.specs.declared.steps.Step as witness
use Rattle.case_forms.specs.Traces.{line_at}
use Rattle.verdict.specs.declared.rule.Rule.{Rule}
use Rattle.verdict.specs.Rules.{first_broken}
use Rattle.spec_network.specs.Hosts.{World, Stamped}
use Rattle.spec_network.specs.HostRules.{step_rules}
use Rattle.spec_network.specs.HostSteps.{after, start, Lawful}
use Rattle.spec_tcp.specs.Steps.{label_step}
use Rattle.spec_tcp.specs.Machine.{tcp, tcp_shape}
use Rattle.spec_tcp.specs.Heard.{far_name}
use Rattle.spec_tcp.proofs.Telling.{header}
use Rattle.spec_tcp.proofs.Handshakes.{segment_for_an_older_endpoint_lines, segment_for_an_older_endpoint_steps}
use Rattle.spec_tcp.proofs.Streams.{one_way_ends_lines, one_way_ends_steps}
use Rattle.spec_tcp.proofs.Versions.{half, hears_lines, hears_steps}
use Rattle.spec_tcp_laws.specs.Runs.{world_at_end, is_socket_of, told_to, was_told_end, accepted_by, was_ended}
use Rattle.spec_tcp_laws.specs.Consequences.{find}
use Rattle.spec_tcp_laws.proofs.Later.{name}

-- the steps that a witness asks for
abbrev pub steps_of : Header → List lines.Line → List witness.Step → List (Stamped tcp_shape)
steps_of h all [] = []
steps_of h all (s ∷ steps) =
    option_map_or (λ step. record { moment = s.moment; step = step } ∷ steps_of h all steps)
    (label_step (line_at h all) s.label) (steps_of h all steps)

-- the first rule that steps break, one by one
abbrev broken : Header → World tcp_shape → List (Stamped tcp_shape) → Option Rule
broken h w [] = None
broken h w (x ∷ xs) = option_map_or (λ rule. Some rule) (first_broken (step_rules (tcp h) x.moment w x.step)) (broken h (after (tcp h) x.moment w x.step) xs)

-- where there is none, they are a run
lawful : (h : Header) (w : World tcp_shape) (xs : List (Stamped tcp_shape)) → broken h w xs ≡ None → Lawful (tcp h) w xs
lawful h w [] e = tt
lawful h w (x ∷ xs) e = go (first_broken (step_rules (tcp h) x.moment w x.step)) refl e (lawful h (after (tcp h) x.moment w x.step) xs)
  where
    go : (o : Option Rule) → first_broken (step_rules (tcp h) x.moment w x.step) ≡ o
        → option_map_or (λ rule. Some rule) o (broken h (after (tcp h) x.moment w x.step) xs) ≡ None
        → (broken h (after (tcp h) x.moment w x.step) xs ≡ None → Lawful (tcp h) (after (tcp h) x.moment w x.step) xs) → Lawful (tcp h) w (x ∷ xs)
    go None is e rest = (is, rest e)
    go (Some rule) is e rest = absurd (none-some rule (sym e))

-- both ends send, and each is told the other's end
abbrev both_ways : List (Stamped tcp_shape)
both_ways = steps_of (header 120000000 0) one_way_ends_lines one_way_ends_steps

both_ways_are_a_run : Lawful (tcp (header 120000000 0)) (start (tcp (header 120000000 0))) both_ways
both_ways_are_a_run = lawful (header 120000000 0) (start (tcp (header 120000000 0))) both_ways refl

-- socket number 7 is the child's, 6 is that of the endpoint that was opened
child_has_seven : is_socket_of (world_at_end (header 120000000 0) both_ways).hosts 7 (name One 0) ≡ true
child_has_seven = refl

-- two reads were told five bytes, which one send accepted, and then the end
seven_was_told : told_to (header 120000000 0) 7 both_ways ≡ 0 ∷ 7 ∷ 14 ∷ 21 ∷ 28 ∷ []
seven_was_told = refl

six_accepted : accepted_by (header 120000000 0) (name Zero 0) both_ways ≡ 0 ∷ 7 ∷ 14 ∷ 21 ∷ 28 ∷ []
six_accepted = refl

seven_was_told_the_end : was_told_end (header 120000000 0) 7 both_ways ≡ true
seven_was_told_the_end = refl

six_was_ended : was_ended (header 120000000 0) (name Zero 0) both_ways ≡ true
six_was_ended = refl

-- and back
six_was_told : told_to (header 120000000 0) 6 both_ways ≡ 108 ∷ 97 ∷ 116 ∷ 101 ∷ []
six_was_told = refl

six_was_told_the_end : was_told_end (header 120000000 0) 6 both_ways ≡ true
six_was_told_the_end = refl

-- a number that nobody gave was told nothing
eight_was_told : told_to (header 120000000 0) 8 both_ways ≡ []
eight_was_told = refl

-- why nothing is said of the SYN: a new endpoint takes the answer to the SYN of an older one, made with the same number. It is up, its SYN is acknowledged, and
-- nobody took that SYN
abbrev answered_by_mistake : List (Stamped tcp_shape)
answered_by_mistake = steps_of (header 120000000 0) segment_for_an_older_endpoint_lines (take 24 segment_for_an_older_endpoint_steps)

answered_by_mistake_is_a_run : Lawful (tcp (header 120000000 0)) (start (tcp (header 120000000 0))) answered_by_mistake
answered_by_mistake_is_a_run = lawful (header 120000000 0) (start (tcp (header 120000000 0))) answered_by_mistake refl

its_syn_is_acknowledged : option_map_or (λ e. e.stream.snd_una) (find (world_at_end (header 120000000 0) answered_by_mistake).hosts (name Zero 1)) 0 ≡ 1
its_syn_is_acknowledged = refl

its_peer_is_the_child : option_map_or (λ e. e.stream.peer)
    (find (world_at_end (header 120000000 0) answered_by_mistake).hosts (name Zero 1)) None ≡ Some (name One 0)
its_peer_is_the_child = refl

the_childs_peer_is_the_older : option_map_or (λ e. e.stream.peer)
    (find (world_at_end (header 120000000 0) answered_by_mistake).hosts (name One 0)) None ≡ Some (name Zero 0)
the_childs_peer_is_the_older = refl

-- where host 0 alone is recorded: its read was told two bytes that were heard
abbrev one_side : List (Stamped tcp_shape)
one_side = steps_of half hears_lines (hears_steps true (104 ∷ 105 ∷ []))

one_side_is_a_run : Lawful (tcp half) (start (tcp half)) one_side
one_side_is_a_run = lawful half (start (tcp half)) one_side refl

six_was_told_what_was_heard : told_to half 6 one_side ≡ 104 ∷ 105 ∷ []
six_was_told_what_was_heard = refl

-- why nothing is said of the peer there: no endpoint has its name
its_peer_has_a_name : option_map_or (λ e. e.stream.peer) (find (world_at_end half one_side).hosts (name Zero 0)) None ≡ Some far_name
its_peer_has_a_name = refl

nobody_has_it : find (world_at_end half one_side).hosts far_name ≡ None
nobody_has_it = refl
