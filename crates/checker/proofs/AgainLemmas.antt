-- A trace that is read again, and two witnesses of one trace.
use Rattle.std.proofs.Common.{◌≡◌, ℕ, zero, suc, List, [], ◌∷◌, sym, ap, ◌∙◌, refl, arith}
use Rattle.case_forms.specs.declared.trace.Trace.{Trace}
use Rattle.std.specs.List.{All, AllByRecursion}
use Rattle.case_forms.specs.declared.steps.Witness.{Witness}
use Rattle.case_forms.specs.declared.version.Version.TheVariants.{One}
use Rattle.case_forms.specs.Witnesses.{IsWithinLimits, TellsShift}
use Rattle.line_fields.proofs.Readers.{ok_is}
use Rattle.trace_reader.specs.TraceText.{IsTraceText}
use Rattle.trace_reader.specs.Printed.{trace_text}
use Rattle.trace_reader.proofs.TraceLaw.{trace_again, printed_again}
use Rattle.checker.specs.Verdicts.{verdict}
use Rattle.checker.specs.Again.{HaveTwo, two_listen, effects_in_order, gives_five, gives_six}

-- one text stands for one trace
one_trace : (t u : Trace) (text : List ℕ) → IsTraceText t text → IsTraceText u text → u ≡ t
one_trace t u text a b = ok_is u t (sym (trace_again text u b) ∙ trace_again text t a)

pub same_verdict : (t u : Trace) (w : Witness) (text : List ℕ) → IsTraceText t text → IsTraceText u (trace_text t) → verdict u w ≡ verdict t w
same_verdict t u w text a b = ap (λ (v : Trace). verdict v w) (one_trace t u (trace_text t) (printed_again t text a) b)

all_from : {X : Type 0} (P : X → Type 0) (xs : List X) → AllByRecursion P xs → All P xs
all_from P [] h i d lt = absurd (omega arith)
all_from P (x ∷ xs) h zero d lt = h.0
all_from P (x ∷ xs) h (suc i) d lt = all_from P xs h.1 i d (omega arith)

pub both_orders : HaveTwo two_listen (effects_in_order gives_five gives_six) (effects_in_order gives_six gives_five)
both_orders = record {
  trace = (refl, omega arith, (refl, omega arith, (refl, omega arith, (refl, omega arith, tt))));
  one = record {
    few = omega arith;
    within = all_from (λ s. IsWithinLimits s.label) (effects_in_order gives_five gives_six).steps
        (tt, (tt, (tt, (tt, (tt, (tt, tt))))));
    shifts = all_from (λ s. TellsShift One s.label) (effects_in_order gives_five gives_six).steps
        (tt, (tt, (tt, (tt, (tt, (tt, tt))))));
  };
  two = record {
    few = omega arith;
    within = all_from (λ s. IsWithinLimits s.label) (effects_in_order gives_six gives_five).steps
        (tt, (tt, (tt, (tt, (tt, (tt, tt))))));
    shifts = all_from (λ s. TellsShift One s.label) (effects_in_order gives_six gives_five).steps
        (tt, (tt, (tt, (tt, (tt, (tt, tt))))));
  };
  versions = (refl, refl);
  differ = λ e. absurd cc;
  yes_one = tt;
  yes_two = tt;
}
