-- On an endpoint without selective acknowledgments, a position that was built isn't built again without a reason.
use Rattle.std.proofs.Common.{◌≡◌, ℕ, suc, ◌+◌, ◌-◌, min, Bool, true, false, List, refl, ap, sym}
use Rattle.std.proofs.Common.{◌∙◌, arith}
use Rattle.std.specs.Prelude.{◌&&◌, ◌||◌, if◌then◌else◌, nat_eq, not}
use Rattle.std.specs.FinSet.{from_list}
use Rattle.case_forms.specs.Versions.{says_sender}
use Rattle.case_forms.specs.declared.steps.SegmentPlan.{SegmentPlan}
use Rattle.case_forms.specs.declared.trace.Header.{Header}
use Rattle.streams.specs.Ranges.{meets, covers}
use Rattle.streams.proofs.RangeLemmas.{counted_all}
use Rattle.spec_network.specs.Hosts.{Stamped}
use Rattle.spec_network.specs.HostSteps.{Lawful, start}
use Rattle.spec_tcp.specs.Machine.{tcp, tcp_shape}
use Rattle.spec_tcp.specs.Makes.Payload.{making_length}
use Rattle.spec_duties.specs.Resent.{judges_repeats}
use Rattle.spec_duties.specs.declared.views.View.{View}
use Rattle.spec_flights.specs.Flights.{Flight, are_free, free_below, is_free, is_probe, is_rescue}
use Rattle.spec_flights.specs.Flights.{may_go_again, sends_nothing_new}
use Rattle.spec_flights.specs.Late.{has_below, resent_below}
use Rattle.spec_flights.specs.Marks.{old_part}
use Rattle.spec_flights.specs.Probing.{is_due}
use Rattle.spec_flights.specs.Recovering.{is_recovering, is_repairing}
use Rattle.spec_flights.specs.Sides.{are_selective}
use Rattle.spec_cases.specs.Cases.{Dutiful, first_known}
use Rattle.kept_flights.specs.Reasons.{NoReason, RepeatsHaveReasons}
use Rattle.kept_flights.proofs.Done.{IsDone, NoMark, done, free_low, may_then, sent_then}
use Rattle.kept_flights.proofs.Plain.{none_due, plain}
use Rattle.kept_flights.proofs.Runs.{flight_before}

-- ---- where nothing is reported, what goes again is marked or given up

plain_free : (clock : ℕ) (v : View) (m : SegmentPlan) (f : Flight) → are_selective f.sides ≡ false → is_due f.probing.probe ≡ false
    → may_go_again clock v m f ≡ true → are_free (suc f.board.given_up) f (old_part v m) ≡ true
plain_free clock v m f unselective due is =
    by (are_free (free_below clock v f) f (old_part v m)) refl (is_probe v m f) no_probe (is_rescue clock v f (old_part v m)) no_rescue is
  where
    no_probe : is_probe v m f ≡ false
    no_probe = λ i. due i && nat_eq (m.pos + making_length m) v.snd_max
        && not (meets (from_list f.board.told) (old_part v m).from (old_part v m).upto)

    no_rescue : is_rescue clock v f (old_part v m) ≡ false
    no_rescue = λ i. unselective i && is_repairing v f.recovery && not f.rescued && sends_nothing_new v
        && not (meets (from_list f.board.told) (old_part v m).from (old_part v m).upto)
        && covers (from_list f.board.told) (old_part v m).upto v.snd_max && not (has_below (resent_below true clock f.board) v f.board)

    by : (free : Bool) → are_free (free_below clock v f) f (old_part v m) ≡ free → (probe : Bool) → probe ≡ false → (rescue : Bool) → rescue ≡ false
        → (free || probe || rescue) ≡ true → are_free (suc f.board.given_up) f (old_part v m) ≡ true
    by true free probe no_p rescue no_r is =
        sym (ap (λ (b : Bool). are_free (if b && is_recovering v f.recovery then resent_below true clock f.board else suc f.board.given_up) f (old_part v m))
        unselective)
        ∙ free
    by false free true no_p rescue no_r is = absurd cc
    by false free false no_p true no_r is = absurd cc
    by false free false no_p false no_r is = absurd cc

pub repeats : (h : Header) (xs : List (Stamped tcp_shape)) → says_sender h.version ≡ true → judges_repeats h.congestion ≡ true
    → Lawful (tcp h) (start (tcp h)) xs → Dutiful h (first_known h) xs → RepeatsHaveReasons h xs
repeats h xs six judged lawful may first last p me m n less selective b held c held_again none =
    let f : Flight = flight_before h xs last me in
    let is_done : IsDone p f = done h xs me six lawful first last p m less b held (no_mark none) in
    let sent = sent_then h xs me six lawful first last p m n b held less c held_again in
    let free : are_free (suc f.board.given_up) f (old_part c.before n) ≡ true =
    plain_free (c.step.0 + h.grain) c.before n f (plain h xs me six last selective) (none_due h xs me six may last selective)
    (may_then h xs me six lawful may judged last p n c held_again sent) in
    let held_low = held_again.0 in
    let held_high = held_again.1 in
    let low =
    free_low (suc f.board.given_up) f p is_done.unmarked
    (counted_all (is_free (suc f.board.given_up) f) n.pos (min (n.pos + making_length n) c.before.snd_max - n.pos) free p held_again.0
    (omega (arith, held_low, held_high, sent))) in
    let less_than = low.low in
    let above = is_done.above low.made low.known in
    omega (arith, less_than, above)
  where
    no_mark : NoReason h xs first last me p → NoMark h xs me first last p
    no_mark r = record {
      no_timeout = r.no_timeout;
      no_persist_timeout = r.no_persist_timeout;
      no_opening = r.no_opening;
      no_recovery = r.no_recovery;
      no_part = λ place low high selective part. r.no_part place low high part;
      no_lone_syn = r.no_lone_syn;
      no_second_syn = r.no_second_syn;
    }
