-- Which duties of an endpoint are late: in versions 1 to 5 by the plain ones, in version 6 by the stricter ones.
use Rattle.std.proofs.Common.{◌≡◌, ℕ, Bool, true, false, [], ◌∷◌, ◌++◌, Option, refl, ap}
use Rattle.std.specs.Prelude.{◌||◌, if◌then◌else◌}
use Rattle.std.specs.List.{AllByRecursion}
use Rattle.case_forms.specs.States.{is_closed}
use Rattle.case_forms.specs.Versions.{says_sender}
use Rattle.case_forms.specs.declared.calls.Host.{Host}
use Rattle.case_forms.specs.declared.trace.Header.{Header}
use Rattle.verdict.specs.declared.rule.Rule.{Rule}
use Rattle.spec_duties.specs.Acknowledge.{acknowledge_due}
use Rattle.spec_duties.specs.Deadlines.{is_late}
use Rattle.spec_duties.specs.Owed.{late_rules, lates_of}
use Rattle.spec_duties.specs.Strict.{coarse_expiry_due, coarse_probing_due, strict_lates, with_brought}
use Rattle.spec_duties.specs.Watching.{Duties, judged_lates, listener_closed, owed_by, strict_by}
use Rattle.spec_duties.specs.declared.owed.Lates.{Lates}
use Rattle.spec_duties.specs.declared.views.View.{View}

-- a duty is judged alike by both
abbrev pub IsSame : (sel : Lates → Bool) → Header → (slack : ℕ) → Type 0
IsSame sel h slack =
    (moment : ℕ) (d : Duties) (brought : Option ℕ) (host : Host) (place : ℕ) (v : View)
    → sel (judged_lates h slack moment d brought host place v) ≡ sel (lates_of slack moment v (listener_closed d host v) (owed_by d host place))

-- each is, if only the plain ones are judged
pub plain_same : (sel : Lates → Bool) (h : Header) (slack : ℕ) → says_sender h.version ≡ false → IsSame sel h slack
plain_same sel h slack plain moment d brought host place v =
    ap (λ (b : Bool). sel (if b then with_brought (is_late slack moment (acknowledge_due brought))
    (strict_lates h.grain slack moment v (listener_closed d host v) (owed_by d host place) (strict_by d host place))
    else lates_of slack moment v (listener_closed d host v) (owed_by d host place))) plain

-- and so is one that is the same in both
module _ (sel : Lates → Bool)
    (stays : (l : Lates) (acknowledge expire retransmit probe : Bool) → sel (record l {
      acknowledge = acknowledge;
      expire = expire;
      retransmit = retransmit;
      probe = probe;
    }) ≡ sel l) where
  pub kept_same : (h : Header) (slack : ℕ) → IsSame sel h slack
  kept_same h slack moment d brought host place v = by (says_sender h.version)
    where
      l : Lates
      l = lates_of slack moment v (listener_closed d host v) (owed_by d host place)

      late : Bool
      late = is_late slack moment (acknowledge_due brought)

      changed : Lates
      changed = record l {
        acknowledge = is_late slack moment (acknowledge_due (strict_by d host place).acknowledge);
        expire = is_late slack moment (coarse_expiry_due h.grain v (strict_by d host place).restarted);
        retransmit =
            is_late slack moment (strict_by d host place).retransmit || is_late slack moment (strict_by d host place).probe;
        probe = is_late slack moment (coarse_probing_due h.grain v (owed_by d host place).probing);
      }

      open' : (c : Bool) → sel (with_brought late (if c then l else changed)) ≡ sel l
      open' true = stays l (late || l.acknowledge) l.expire l.retransmit l.probe
      open' false = stays l (late || changed.acknowledge) changed.expire changed.retransmit changed.probe

      by : (b : Bool) → sel (if b then with_brought late (if is_closed v.state then l else changed) else l) ≡ sel l
      by true = open' (is_closed v.state)
      by false = refl

-- what isn't late with an acknowledgment that is brought isn't without it
pub unbrought : (late : Bool) (l : Lates) → AllByRecursion (λ r. r.1 ≡ false) (late_rules (with_brought late l))
    → AllByRecursion (λ r. r.1 ≡ false) (late_rules l)
unbrought true l rules = absurd (let e : true ≡ false = rules.0 in cc e)
unbrought false l rules = rules

-- what is late, without a rule after it
pub without_last : (l : Lates) (r : Rule × Bool) → AllByRecursion (λ r. r.1 ≡ false) (late_rules l ++ r ∷ [])
    → AllByRecursion (λ r. r.1 ≡ false) (late_rules l)
without_last l r all = (all.0, (all.1.0, (all.1.1.0, (all.1.1.1.0, (all.1.1.1.1.0, (all.1.1.1.1.1.0, tt))))))

-- a reset is, and the beginning of work
pub reset_same : (h : Header) (slack : ℕ) → IsSame (λ l. l.reset) h slack
reset_same h slack = kept_same (λ l. l.reset) (λ l acknowledge expire retransmit probe. refl) h slack

pub start_same : (h : Header) (slack : ℕ) → IsSame (λ l. l.start) h slack
start_same h slack = kept_same (λ l. l.start) (λ l acknowledge expire retransmit probe. refl) h slack
