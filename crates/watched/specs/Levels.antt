-- What a step shows, and which rules it breaks, at another level of congestion control.
use Rattle.std.specs.Prelude.{◌≡◌, ◌≤◌, ℕ, Bool, true, false, ◌&&◌, if◌then◌else◌, List, [], ◌∷◌, Option, None, Some}
use Rattle.std.specs.Option.{option_map}
use Rattle.case_forms.specs.Versions.{says_sender}
use Rattle.case_forms.specs.declared.trace.Header.{Header}
use Rattle.case_forms.specs.declared.version.Judged.{Judged}
use Rattle.case_forms.specs.declared.version.Version.{Version}
use Rattle.verdict.specs.declared.rule.Rule.{Rule}
use Rattle.verdict.specs.declared.rule.Rule.TheVariants as rules
use Rattle.spec_network.specs.Hosts.{Step, World}
use Rattle.spec_tcp.specs.Machine.{tcp_shape}
use Rattle.spec_tcp_laws.specs.Judging.{IsJudged, extent, header_by, world_judged}
use Rattle.spec_tcp_laws.specs.Levels.{other_rules}
use Rattle.spec_cases.specs.Cases.{Known, case_rules}
use Rattle.spec_duties.specs.Observations.{observe}
use Rattle.spec_duties.specs.declared.observations.Observation.{Observation}
use Rattle.spec_duties.specs.declared.observations.TouchedEndpoint.{TouchedEndpoint}
use Rattle.spec_duties.specs.declared.views.View.{View}

-- the same with another congestion edge
abbrev pub view_with : ℕ → View → View
view_with edge v = record v { congestion_edge = edge }

abbrev pub touched_with : ℕ → TouchedEndpoint → TouchedEndpoint
touched_with edge t = record t { before = view_with edge t.before }

abbrev pub observed_with : ℕ → Observation → Observation
observed_with edge s = record s { touched = option_map (touched_with edge) s.touched }

-- the edge of the endpoint that a step touches, if it touches one, is at most this
abbrev pub EndsBelow : ℕ → Option TouchedEndpoint → Type 0
EndsBelow edge None = Unit {0}
EndsBelow edge (Some t) = t.before.congestion_edge ≤ edge

-- one observation is another but for that edge, which isn't lower
abbrev pub ShowsHigher : Observation → Observation → Type 0
ShowsHigher s t = (edge : ℕ) × (t ≡ observed_with edge s) × EndsBelow edge s.touched

-- what is known of a case, at another level
abbrev pub known_judged : Judged → Header → Known → Known
known_judged j h k = record k { model = world_judged j h k.model }

abbrev pub is_old_data : Rule → Bool
is_old_data rules.OldData = true
is_old_data rule = false

-- from version 6 on, the level also decides whether outstanding data may go again: all rules but that
abbrev pub remaining : Version → List (Rule × Bool) → List (Rule × Bool)
remaining v [] = []
remaining v (rule ∷ rules) =
    if says_sender v && is_old_data rule.0 then remaining v rules else rule ∷ remaining v rules

-- if less is judged, a step of a case breaks the same of all rules that aren't the level's own
abbrev pub CaseJudgedAlike : Judged → Header → Type 0
CaseJudgedAlike j h = (moment : ℕ) (k : Known) (step : Step tcp_shape)
    → extent j ≤ extent h.congestion → IsJudged h k.model
    → remaining h.version (other_rules (case_rules (header_by j h) moment (known_judged j h k) step))
    ≡ remaining h.version (other_rules (case_rules h moment k step))

-- if less is judged, a step shows the same, except that the congestion edge may be higher
abbrev pub LessJudgedShowsTheSame : Judged → Header → Type 0
LessJudgedShowsTheSame j h = (moment : ℕ) (w : World tcp_shape) (step : Step tcp_shape)
    → extent j ≤ extent h.congestion → IsJudged h w
    → ShowsHigher (observe h moment w step) (observe (header_by j h) moment (world_judged j h w) step)
