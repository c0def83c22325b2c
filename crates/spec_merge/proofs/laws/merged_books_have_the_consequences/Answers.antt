use Rattle.std.proofs.Common.{[], ◌∷◌, ◌++◌}
use Rattle.spec_network.specs.Hosts.{At, Makes, Stamped}
use Rattle.spec_tcp.specs.Machine.{tcp_shape}
use Rattle.spec_tcp_laws.specs.Runs.{world_at_end}
use Rattle.spec_merge.proofs.FirstSteps.{last_fits, run_begins}
use Rattle.spec_merge.proofs.laws.merged_books_have_the_consequences.Goals as goal

pub returns : goal.returns
returns c = record {
  received =
      λ h whole first zeros ones steps begin.
      c.received_is_a_prefix.ensures h whole steps
      (run_begins h first zeros ones steps begin (c.merged_books_are_a_run.ensures h first zeros ones begin.0));
  ended =
      λ h whole first zeros ones steps begin.
      c.end_is_whole.ensures h whole steps
      (run_begins h first zeros ones steps begin (c.merged_books_are_a_run.ensures h first zeros ones begin.0));
  acknowledged = λ h whole first zeros ones steps x begin.
      let fits = last_fits h steps x (run_begins h first zeros ones (steps ++ x ∷ []) begin (c.merged_books_are_a_run.ensures h first zeros ones begin.0)) in
      c.acknowledged_was_taken.ensures h whole steps x fits.0 fits.1;
  edges = λ h first zeros ones steps moment host m begin.
      let x : Stamped tcp_shape = record { moment = moment; step = At host (Makes m) } in
      let fits = last_fits h steps x (run_begins h first zeros ones (steps ++ x ∷ []) begin (c.merged_books_are_a_run.ensures h first zeros ones begin.0)) in
      c.new_data_fits.ensures h moment (world_at_end h steps) host m fits.1;
  windows = λ h first zeros ones steps x begin.
      let fits = last_fits h steps x (run_begins h first zeros ones (steps ++ x ∷ []) begin (c.merged_books_are_a_run.ensures h first zeros ones begin.0)) in
      c.windows_follow.ensures h x.moment (world_at_end h steps) x.step fits.1;
  profiles = λ h first zeros ones steps begin.
      c.profiles_are_named.ensures h steps (run_begins h first zeros ones steps begin (c.merged_books_are_a_run.ensures h first zeros ones begin.0));
}
