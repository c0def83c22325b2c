-- The slack is read only where duties are compared: neither the model nor what a step shows depends on it.
use Rattle.std.specs.Prelude.{◌≡◌, ℕ, Option}
use Rattle.case_forms.specs.declared.trace.Header.{Header}
use Rattle.spec_network.specs.HostRules.{step_rules}
use Rattle.spec_network.specs.HostSteps.{after}
use Rattle.spec_network.specs.Hosts.{Step, World}
use Rattle.spec_tcp.specs.Machine.{tcp, tcp_shape}
use Rattle.spec_duties.specs.Observations.{observe}
use Rattle.spec_cases.specs.Slack.{with_slack}

-- with another slack, a step breaks the same of the model's rules, leads to the same world, and shows the same
pub record SlackIsNotRead (slack : Option ℕ) (h : Header) : Type 0 where
  pub rules : (moment : ℕ) (w : World tcp_shape) (step : Step tcp_shape)
      → step_rules (tcp (with_slack slack h)) moment w step ≡ step_rules (tcp h) moment w step
  pub next : (moment : ℕ) (w : World tcp_shape) (step : Step tcp_shape)
      → after (tcp (with_slack slack h)) moment w step ≡ after (tcp h) moment w step
  pub shows : (moment : ℕ) (w : World tcp_shape) (step : Step tcp_shape)
      → observe (with_slack slack h) moment w step ≡ observe h moment w step
