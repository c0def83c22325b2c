-- What the definitions say of a few steps.
use Rattle.std.specs.Prelude.{◌≡◌, ℕ, true, false, List, [], ◌∷◌, None}
use Rattle.std.proofs.Common.{refl}
use Rattle.case_forms.specs.declared.version.Growth.TheVariants.{OneSegment}
use Rattle.case_forms.specs.declared.version.Sender.TheVariants.{Reno}
use Rattle.case_forms.specs.declared.calls.Call.TheVariants as calls
use Rattle.case_forms.specs.declared.calls.Answer.TheVariants as answers
use Rattle.case_forms.specs.declared.trace.Event.TheVariants as events
use Rattle.case_forms.specs.declared.trace.Trace.{Trace}
use Rattle.case_forms.specs.declared.named_line.Extras.TheVariants as extras
use Rattle.case_forms.specs.declared.version.Version.TheVariants.{One}
use Rattle.case_forms.specs.declared.version.Initial.TheVariants.{Rfc5681}
use Rattle.case_forms.specs.declared.version.Judged.TheVariants.{Full}
use Rattle.case_forms.specs.declared.steps.Label.TheVariants as labels
use Rattle.case_forms.specs.declared.steps.Step.{Step}
use Rattle.checker.specs.Again.{nowhere}
use Rattle.checker.specs.Headline.{told, accepted, told_end, ended}

-- thread 1 receives on 5, thread 2 sends on 6, then 1 receives again and 2 shuts
abbrev facts_trace : Trace
facts_trace = record {
  header = record {
    version = One;
    skew = 0;
    msl = 120000000;
    grain = 1000;
    minrto = 1000000;
    extra = 0;
    initial = Rfc5681;
    congestion = Full;
    slack = None;
    sender = Reno;
    growth = OneSegment;
  };
  lines =
      record { number = 7; moment = 10; thread = 1; event = events.CallBegin (calls.Recv 5 9); span = nowhere }
      ∷ record { number = 8; moment = 10; thread = 2; event = events.CallBegin (calls.Send 6 (1 ∷ 2 ∷ 3 ∷ [])); span = nowhere }
      ∷ record { number = 9; moment = 20; thread = 2; event = events.CallEnd (answers.Given 2); span = nowhere }
      ∷ record { number = 10; moment = 20; thread = 1; event = events.CallEnd (answers.Bytes (1 ∷ 2 ∷ [])); span = nowhere }
      ∷ record { number = 11; moment = 30; thread = 1; event = events.CallBegin (calls.Recv 5 9); span = nowhere }
      ∷ record { number = 12; moment = 30; thread = 2; event = events.CallBegin (calls.Shut 6); span = nowhere }
      ∷ [];
}

abbrev takes_at : ℕ → ℕ → Step
takes_at moment line = record { moment = moment; label = labels.L (record { number = line; extras = extras.Bare }); span = nowhere }

abbrev facts_steps : List Step
facts_steps =
    takes_at 10 7
    ∷ takes_at 10 8
    ∷ record { moment = 15; label = labels.D 2 (answers.Given 2); span = nowhere }
    ∷ record { moment = 16; label = labels.D 1 (answers.Bytes (1 ∷ 2 ∷ [])); span = nowhere }
    ∷ takes_at 20 9
    ∷ takes_at 20 10
    ∷ takes_at 30 11
    ∷ takes_at 30 12
    ∷ record { moment = 31; label = labels.D 2 answers.Done; span = nowhere }
    ∷ record { moment = 32; label = labels.D 1 answers.Eof; span = nowhere }
    ∷ []

told_here : told facts_trace facts_steps 5 ≡ 1 ∷ 2 ∷ []
told_here = refl

accepted_here : accepted facts_trace facts_steps 6 ≡ 1 ∷ 2 ∷ []
accepted_here = refl

end_here : told_end facts_trace facts_steps 5 ≡ true
end_here = refl

ended_here : ended facts_trace facts_steps 6 ≡ true
ended_here = refl

not_ended_there : ended facts_trace facts_steps 5 ≡ false
not_ended_there = refl
