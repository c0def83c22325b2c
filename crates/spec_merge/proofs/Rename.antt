-- One host under new numbers: what it may do and what it does stay the same.
use Rattle.std.proofs.Common.{◌≡◌, ℕ, Bool, true, List, [], ◌++◌, Option, Some, None, refl, ap, sym, subst, ◌∙◌}
use Rattle.std.specs.Prelude.{nat_eq}
use Rattle.std.specs.Map.{lookup}
use Rattle.indexmap.specs.IndexMap.{insert_entry}
use Rattle.std.proofs.lemmas.Option.{none-some}
use Rattle.case_forms.specs.declared.calls.Host.{Host}
use Rattle.verdict.specs.declared.rule.Rule.{Rule}
use Rattle.verdict.specs.declared.rule.Rule.TheVariants as rules
use Rattle.verdict.specs.Rules.{first_broken}
use Rattle.spec_network.specs.Tables.{Made, gone_out, on, other, settled, unsent, waiting}
use Rattle.spec_network.specs.Hosts.{Answers, HostStep, Does, Drops, Expires, Gets, Hears, HostState, Kernel, Makes, Sends, Takes}
use Rattle.spec_network.specs.HostRules.{host_step_rules, just}
use Rattle.spec_network.specs.HostSteps.{act_made, host_step_after, makes}
use Rattle.spec_merge.specs.Merging.{Names, restep_at}
use Rattle.spec_merge.proofs.Counting.{Apart}
use Rattle.spec_merge.proofs.Retag.{insert_retag, lookup_retag, retag, waiting_retag}

-- a host under new numbers: its tables alone change
abbrev pub rehost : (k : Kernel) → Names → Host → HostState k.shape → HostState k.shape
rehost k names h x = record { body = x.body; made = retag (names.made h) x.made; wire = retag (names.line h) x.wire; inbox = retag (names.line h) x.inbox }

-- the thing is there, and the rules on it pass
pub on_passes : {A : Type 0} (o : Option A) (r : Rule) (f : A → List (Rule × Bool))
    → first_broken (on o (just r true) f) ≡ None → (x : A) × (o ≡ Some x) × (first_broken (f x) ≡ None)
on_passes None r f e = absurd (none-some r (sym e))
on_passes (Some x) r f e = (x, refl, e)

-- what comes from the other host is what came in the run of this host alone
abbrev pub SameFar : (k : Kernel) → Names → Host → List (ℕ × k.shape.Emission) → List (ℕ × k.shape.Emission) → Type 0
SameFar k names h far gar = (tag : ℕ) (e : k.shape.Emission) → lookup (nat_eq tag) far ≡ Some e → lookup (nat_eq (names.line (other h) tag)) gar ≡ Some e

-- new numbers that are apart
pub record Apt (names : Names) : Type 0 where
  pub line : (h : Host) → Apart (names.line h)
  pub made : (h : Host) → Apart (names.made h)

-- what it may do stays the same
pub host_step_may : (k : Kernel) (names : Names) (h : Host) → Apt names → (s : ℕ) (far gar : List (ℕ × k.shape.Emission))
    → SameFar k names h far gar → (x : HostState k.shape) (d : HostStep k.shape)
    → first_broken (host_step_rules k h s far x d) ≡ None
    → first_broken (host_step_rules k h s gar (rehost k names h x) (restep_at k names h d)) ≡ None
host_step_may k names h apt s far gar same x (Does v) p = p
host_step_may k names h apt s far gar same x (Expires line v) p = p
host_step_may k names h apt s far gar same x (Makes v) p = p
host_step_may k names h apt s far gar same x (Sends line number wire) p =
    subst (λ (o : Option (Made k.shape.Emission)).
    first_broken (on o (just rules.NotMade true) (λ m. k.out_rules wire m.emission ++ just rules.NotMade m.sent))
    ≡ None) (sym (lookup_retag (names.made h) (apt.made h) number x.made)) p
host_step_may k names h apt s far gar same x (Gets line copied wire) p =
    let got = on_passes (lookup (nat_eq copied) far) rules.NoEmission (λ e. k.in_rules s wire e) p in
    subst (λ (o : Option k.shape.Emission).
    first_broken (on o (just rules.NoEmission true) (λ e. k.in_rules s wire e)) ≡ None)
    (sym (same copied got.0 got.1)) got.2
host_step_may k names h apt s far gar same x (Hears line wire) p = p
host_step_may k names h apt s far gar same x (Takes line how) p =
    subst (λ (o : Option k.shape.Emission).
    first_broken (on o (just rules.Inbox true) (λ e. k.act_rules h s x.body (k.takes how e))) ≡ None)
    (sym (waiting_retag (names.line h) (apt.line h) line x.inbox)) p
host_step_may k names h apt s far gar same x (Drops line) p =
    subst (λ (o : Option k.shape.Emission). first_broken (on o (just rules.Inbox true) (λ e. [])) ≡ None)
    (sym (waiting_retag (names.line h) (apt.line h) line x.inbox)) p
host_step_may k names h apt s far gar same x (Answers line) p =
    subst (λ (o : Option k.shape.Emission).
    first_broken (on o (just rules.Inbox true) (λ e. k.act_rules h s x.body (k.answers e))) ≡ None)
    (sym (waiting_retag (names.line h) (apt.line h) line x.inbox)) p

-- a write to its inbox commutes with them
boxed : (k : Kernel) (names : Names) (h : Host) → Apt names
    → (line : ℕ) (o : Option k.shape.Emission) (x : HostState k.shape)
    → (let y : HostState k.shape =
    record (rehost k names h x) {
      inbox =
          insert_entry nat_eq (retag (names.line h) x.inbox) (names.line h line) o;
    } in y)
    ≡ rehost k names h (record x { inbox = insert_entry nat_eq x.inbox line o })
boxed k names h apt line o x =
    ap (λ (t : List (ℕ × Option k.shape.Emission)). record (rehost k names h x) { inbox = t })
    (insert_retag (names.line h) (apt.line h) line o x.inbox)

made_retag : {E : Type 0} (f : ℕ → ℕ) → Apart f → (fresh gresh : ℕ) → f fresh ≡ gresh
    → (o : Option E) (ts : List (ℕ × Made E))
    → on o (retag f ts) (λ e. insert_entry nat_eq (retag f ts) gresh (unsent e))
    ≡ retag f (on o ts (λ e. insert_entry nat_eq ts fresh (unsent e)))
made_retag f apart fresh gresh is None ts = refl
made_retag {E} f apart fresh gresh is (Some e) ts =
    ap (λ (n : ℕ). insert_entry nat_eq (retag f ts) n (unsent e)) (sym is) ∙ insert_retag f apart fresh (unsent e) ts

-- and so does what it does
pub host_step_does : (k : Kernel) (names : Names) (h : Host) → Apt names → (s : ℕ) (far gar : List (ℕ × k.shape.Emission))
    → SameFar k names h far gar → (fresh gresh : ℕ) (x : HostState k.shape) (d : HostStep k.shape)
    → (makes k d ≡ true → names.made h fresh ≡ gresh) → first_broken (host_step_rules k h s far x d) ≡ None
    → host_step_after k h s gresh gar (rehost k names h x) (restep_at k names h d)
    ≡ rehost k names h (host_step_after k h s fresh far x d)
host_step_does k names h apt s far gar same fresh gresh x (Does v) is p = refl
host_step_does k names h apt s far gar same fresh gresh x (Expires line v) is p = refl
host_step_does k names h apt s far gar same fresh gresh x (Makes v) is p =
    ap (λ (m : List (ℕ × Made k.shape.Emission)).
    record {
      body = k.act_after h s x.body (k.making v);
      made = m;
      wire = retag (names.line h) x.wire;
      inbox = retag (names.line h) x.inbox;
    })
    (made_retag (names.made h) (apt.made h) fresh gresh (is refl) (k.act_makes h s x.body (k.making v)) x.made)
host_step_does k names h apt s far gar same fresh gresh x (Sends line number wire) is p =
    ap sends (lookup_retag (names.made h) (apt.made h) number x.made) ∙ go (lookup (nat_eq number) x.made)
  where
    sends : Option (Made k.shape.Emission) → HostState k.shape
    sends o = record (rehost k names h x) {
      made = on o (retag (names.made h) x.made) (λ m. insert_entry nat_eq (retag (names.made h) x.made) (names.made h number) (gone_out m));
      wire = on o (retag (names.line h) x.wire) (λ m. insert_entry nat_eq (retag (names.line h) x.wire) (names.line h line) (k.sent s wire m.emission));
    }

    go : (o : Option (Made k.shape.Emission))
        → sends o ≡ rehost k names h (record x {
          made = on o x.made (λ m. insert_entry nat_eq x.made number (gone_out m));
          wire = on o x.wire (λ m. insert_entry nat_eq x.wire line (k.sent s wire m.emission));
        })
    go None = refl
    go (Some m) =
        ap (λ (t : List (ℕ × Made k.shape.Emission)). record (sends (Some m)) { made = t })
        (insert_retag (names.made h) (apt.made h) number (gone_out m) x.made)
        ∙ ap (λ (t : List (ℕ × k.shape.Emission)).
        record (rehost k names h x) {
          made = retag (names.made h) (insert_entry nat_eq x.made number (gone_out m));
          wire = t;
        }) (insert_retag (names.line h) (apt.line h) line (k.sent s wire m.emission) x.wire)
host_step_does k names h apt s far gar same fresh gresh x (Gets line copied wire) is p =
    let got = on_passes (lookup (nat_eq copied) far) rules.NoEmission (λ e. k.in_rules s wire e) p in
    let here =
    ap (λ (o : Option k.shape.Emission).
    record (rehost k names h x) {
      inbox =
          on o (retag (names.line h) x.inbox)
          (λ e. insert_entry nat_eq (retag (names.line h) x.inbox) (names.line h line) (Some e));
    })
    (same copied got.0 got.1) in
    let there =
    ap (λ (o : Option k.shape.Emission).
    rehost k names h (record x { inbox = on o x.inbox (λ e. insert_entry nat_eq x.inbox line (Some e)) }))
    got.1 in
    here ∙ (boxed k names h apt line (Some got.0) x ∙ sym there)
host_step_does k names h apt s far gar same fresh gresh x (Hears line wire) is p = boxed k names h apt line (Some (k.heard s wire)) x
host_step_does k names h apt s far gar same fresh gresh x (Takes line how) is p =
    ap takes (waiting_retag (names.line h) (apt.line h) line x.inbox) ∙ go (waiting line x.inbox)
  where
    takes : Option k.shape.Emission → HostState k.shape
    takes o =
        record (rehost k names h x) {
          body = on o x.body (λ e. k.act_after h s x.body (k.takes how e));
          inbox = on o (retag (names.line h) x.inbox)
              (λ e. settled (names.line h line) (retag (names.line h) x.inbox));
        }

    go : (o : Option k.shape.Emission)
        → takes o ≡ rehost k names h (record x {
          body = on o x.body (λ e. k.act_after h s x.body (k.takes how e));
          inbox = on o x.inbox (λ e. settled line x.inbox);
        })
    go None = refl
    go (Some e) = boxed k names h apt line None (record x { body = k.act_after h s x.body (k.takes how e) })
host_step_does k names h apt s far gar same fresh gresh x (Drops line) is p =
    ap (λ (o : Option k.shape.Emission).
    record (rehost k names h x) {
      inbox =
          on o (retag (names.line h) x.inbox) (λ e. settled (names.line h line) (retag (names.line h) x.inbox));
    })
    (waiting_retag (names.line h) (apt.line h) line x.inbox) ∙ go (waiting line x.inbox)
  where
    go : (o : Option k.shape.Emission)
        → (let y : HostState k.shape =
        record (rehost k names h x) {
          inbox =
              on o (retag (names.line h) x.inbox) (λ e. settled (names.line h line) (retag (names.line h) x.inbox));
        } in
        y) ≡ rehost k names h (record x { inbox = on o x.inbox (λ e. settled line x.inbox) })
    go None = refl
    go (Some e) = boxed k names h apt line None x
host_step_does k names h apt s far gar same fresh gresh x (Answers line) is p =
    ap answers (waiting_retag (names.line h) (apt.line h) line x.inbox) ∙ go (waiting line x.inbox)
  where
    answers : Option k.shape.Emission → HostState k.shape
    answers o = record (rehost k names h x) {
      body = on o x.body (λ e. k.act_after h s x.body (k.answers e));
      made = on o (retag (names.made h) x.made) (λ e. act_made k h s gresh (rehost k names h x) (k.answers e));
      inbox = on o (retag (names.line h) x.inbox) (λ e. settled (names.line h line) (retag (names.line h) x.inbox));
    }

    go : (o : Option k.shape.Emission)
        → answers o ≡ rehost k names h
        (record x {
          body = on o x.body (λ e. k.act_after h s x.body (k.answers e));
          made = on o x.made (λ e. act_made k h s fresh x (k.answers e));
          inbox = on o x.inbox (λ e. settled line x.inbox);
        })
    go None = refl
    go (Some e) =
        ap (λ (m : List (ℕ × Made k.shape.Emission)). record (answers (Some e)) { made = m })
        (made_retag (names.made h) (apt.made h) fresh gresh (is refl)
        (k.act_makes h s x.body (k.answers e)) x.made)
        ∙ boxed k names h apt line None (record x { body = k.act_after h s x.body (k.answers e); made = act_made k h s fresh x (k.answers e) })
