-- One host of the merged world is the host of its own run, under new numbers.
use Rattle.std.proofs.Common.{◌≡◌, ℕ, suc, ◌<◌, Bool, true, false, cond, List, Option, Some, None, refl, ap, sym, subst, ◌∙◌, inl, inr, ◌⊎◌, arith}
use Rattle.std.specs.Prelude.{nat_eq}
use Rattle.std.specs.Map.{lookup}
use Rattle.indexmap.specs.IndexMap.{insert_entry}
use Rattle.std.proofs.lemmas.Bool.Decides.{nat_tests}
use Rattle.case_forms.specs.declared.calls.Host.{Host}
use Rattle.case_forms.specs.declared.calls.Host.TheVariants.{One, Zero}
use Rattle.spec_network.specs.Tables.{Both, Made, host_is, lane, on, other, pick, with_host}
use Rattle.spec_network.specs.Hosts.{Answers, HostStep, Does, Drops, Expires, Gets, Hears, HostState, Kernel, Makes, Sends, Takes}
use Rattle.spec_network.specs.HostSteps.{host_step_after}
use Rattle.spec_merge.specs.Books.{Flying, host_step_line}
use Rattle.spec_merge.specs.Merging.{Names}
use Rattle.spec_network.proofs.Entries.{lookup_insert}
use Rattle.spec_merge.proofs.Rename.{rehost}

pub pick_same : {X : Type 0} (b : Both X) (h : Host) (x : X) → pick (with_host b h x) h ≡ x
pick_same b Zero x = refl
pick_same b One x = refl

pub pick_other : {X : Type 0} (b : Both X) (h : Host) (x : X) → pick (with_host b h x) (other h) ≡ pick b (other h)
pick_other b Zero x = refl
pick_other b One x = refl

pub pick_far : {X : Type 0} (b : Both X) (h : Host) (x : X) → pick (with_host b (other h) x) h ≡ pick b h
pick_far b Zero x = refl
pick_far b One x = refl

pub host_self : (h : Host) → host_is h h ≡ true
host_self Zero = refl
host_self One = refl

pub host_other : (h : Host) → host_is h (other h) ≡ false
host_other Zero = refl
host_other One = refl

pub hosts_apart : (h : Host) → h ≡ other h → ⊥
hosts_apart h e = go (host_is h (other h)) (host_other h) (ap (λ (s : Host). host_is h s) e ∙ refl)
  where
    go : (b : Bool) → b ≡ false → host_is h h ≡ b → ⊥
    go true p q = cc
    go false p q = let t = host_self h in cc

-- host h of the merged world (gw) is that of its own run (lw) under new numbers; what was brought to it stands on the other's wire in the other's run (fw), and
-- nothing else of the other is in its own run
pub record HostHalf (k : Kernel) (names : Names) (h o : Host) (lw fw gw : Both (HostState k.shape)) (ln : ℕ) : Type 0 where
  pub host : pick gw h ≡ rehost k names h (pick lw h)
  pub heard : (tag : ℕ) (e : k.shape.Emission) → lookup (nat_eq tag) (pick lw o).wire ≡ Some e → lookup (nat_eq tag) (pick fw o).wire ≡ Some e
  pub below : (tag : ℕ) (e : k.shape.Emission) → lookup (nat_eq tag) (pick lw h).wire ≡ Some e → tag < ln
  pub lanes : (n : ℕ) → k.given (pick lw h).body n ≡ true → lane n ≡ h
  pub bare : (pick lw o).body ≡ k.empty

-- the host itself changes, in its own run and in the merged world alike
pub hosts_mine : (k : Kernel) (names : Names) (h : Host) (lw fw gw : Both (HostState k.shape)) (ln mn : ℕ) → HostHalf k names h (other h) lw fw gw ln
    → (x y : HostState k.shape) → y ≡ rehost k names h x
    → ((tag : ℕ) (e : k.shape.Emission) → lookup (nat_eq tag) x.wire ≡ Some e → tag < mn)
    → ((n : ℕ) → k.given x.body n ≡ true → lane n ≡ h)
    → HostHalf k names h (other h) (with_host lw h x) fw (with_host gw h y) mn
hosts_mine k names h lw fw gw ln mn was x y is below lanes = record {
  host = pick_same gw h y ∙ (is ∙ ap (λ (z : HostState k.shape). rehost k names h z) (sym (pick_same lw h x)));
  heard =
      subst (λ (z : HostState k.shape). (tag : ℕ) (e : k.shape.Emission) → lookup (nat_eq tag) z.wire ≡ Some e
      → lookup (nat_eq tag) (pick fw (other h)).wire ≡ Some e) (sym (pick_other lw h x)) was.heard;
  below = subst (λ (z : HostState k.shape). (tag : ℕ) (e : k.shape.Emission) → lookup (nat_eq tag) z.wire ≡ Some e → tag < mn) (sym (pick_same lw h x)) below;
  lanes = subst (λ (z : HostState k.shape). (n : ℕ) → k.given z.body n ≡ true → lane n ≡ h) (sym (pick_same lw h x)) lanes;
  bare = ap (λ (z : HostState k.shape). z.body) (pick_other lw h x) ∙ was.bare;
}

-- the other host changes, and what stands on its wire stays
pub hosts_theirs : (k : Kernel) (names : Names) (h : Host) (lw fw gw : Both (HostState k.shape)) (fn : ℕ) → HostHalf k names (other h) h fw lw gw fn
    → (x y : HostState k.shape) → ((tag : ℕ) (e : k.shape.Emission) → lookup (nat_eq tag) (pick lw h).wire ≡ Some e → lookup (nat_eq tag) x.wire ≡ Some e)
    → HostHalf k names (other h) h fw (with_host lw h x) (with_host gw h y) fn
hosts_theirs k names h lw fw gw fn was x y grows = record {
  host = pick_other gw h y ∙ was.host;
  heard = λ tag e at. ap (λ (z : HostState k.shape). lookup (nat_eq tag) z.wire) (pick_same lw h x) ∙ grows tag e (was.heard tag e at);
  below = was.below;
  lanes = was.lanes;
  bare = was.bare;
}

-- a segment is brought that stands on the other's wire in the other's run
pub hosts_bring : (k : Kernel) (names : Names) (h : Host) (lw fw gw : Both (HostState k.shape)) (ln : ℕ) → HostHalf k names h (other h) lw fw gw ln
    → (f : Flying k.shape) → lookup (nat_eq f.line) (pick fw (other h)).wire ≡ Some f.emission
    → HostHalf k names h (other h)
    (with_host lw (other h) (record (pick lw (other h)) {
      wire = insert_entry nat_eq (pick lw (other h)).wire f.line f.emission;
    })) fw gw ln
hosts_bring k names h lw fw gw ln was f named = record {
  host = was.host ∙ ap (λ (z : HostState k.shape). rehost k names h z) (sym (pick_far lw h _));
  heard =
      subst (λ (z : HostState k.shape). (tag : ℕ) (e : k.shape.Emission) → lookup (nat_eq tag) z.wire ≡ Some e
      → lookup (nat_eq tag) (pick fw (other h)).wire ≡ Some e) (sym (pick_same lw (other h) _)) heard;
  below =
      subst (λ (z : HostState k.shape). (tag : ℕ) (e : k.shape.Emission) → lookup (nat_eq tag) z.wire ≡ Some e
      → tag < ln) (sym (pick_far lw h _)) was.below;
  lanes = subst (λ (z : HostState k.shape). (n : ℕ) → k.given z.body n ≡ true → lane n ≡ h) (sym (pick_far lw h _)) was.lanes;
  bare = ap (λ (z : HostState k.shape). z.body) (pick_same lw (other h) _) ∙ was.bare;
}
  where
    heard : (tag : ℕ) (e : k.shape.Emission)
        → lookup (nat_eq tag) (insert_entry nat_eq (pick lw (other h)).wire f.line f.emission) ≡ Some e
        → lookup (nat_eq tag) (pick fw (other h)).wire ≡ Some e
    heard tag e at = go (nat_eq tag f.line) refl (sym (lookup_insert tag f.line f.emission (pick lw (other h)).wire) ∙ at)
      where
        go : (b : Bool) → nat_eq tag f.line ≡ b
            → cond b (Some f.emission) (lookup (nat_eq tag) (pick lw (other h)).wire) ≡ Some e
            → lookup (nat_eq tag) (pick fw (other h)).wire ≡ Some e
        go true is at = let n : f.line ≡ tag = grind (arith, nat_tests) in subst (λ (m : ℕ). lookup (nat_eq m) (pick fw (other h)).wire ≡ Some e) n (named ∙ at)
        go false is at = was.heard tag e at

-- what is brought to the other host leaves this half as it is
pub hosts_brought : (k : Kernel) (names : Names) (h : Host) (lw fw gw : Both (HostState k.shape)) (fn : ℕ) → HostHalf k names (other h) h fw lw gw fn
    → (x : HostState k.shape) → HostHalf k names (other h) h fw (with_host lw (other h) x) gw fn
hosts_brought k names h lw fw gw fn was x = record {
  host = was.host;
  heard = λ tag e at. ap (λ (z : HostState k.shape). lookup (nat_eq tag) z.wire) (pick_far lw h x) ∙ was.heard tag e at;
  below = was.below;
  lanes = was.lanes;
  bare = was.bare;
}

-- what a host's step puts on the wire
pub host_step_wire : (k : Kernel) (h : Host) (s fresh : ℕ) (far : List (ℕ × k.shape.Emission)) (x : HostState k.shape) (d : HostStep k.shape)
    → ((host_step_after k h s fresh far x d).wire ≡ x.wire)
    ⊎ ((line : ℕ) × (e : k.shape.Emission) × (host_step_line k d ≡ Some line)
    × ((host_step_after k h s fresh far x d).wire ≡ insert_entry nat_eq x.wire line e))
host_step_wire k h s fresh far x (Does v) = inl refl
host_step_wire k h s fresh far x (Expires line v) = inl refl
host_step_wire k h s fresh far x (Makes v) = inl refl
host_step_wire k h s fresh far x (Sends line number wire) = go (lookup (nat_eq number) x.made)
  where
    go : (o : Option (Made k.shape.Emission))
        → (on o x.wire (λ m. insert_entry nat_eq x.wire line (k.sent s wire m.emission)) ≡ x.wire)
        ⊎ ((l : ℕ) × (e : k.shape.Emission) × (Some line ≡ Some l)
        × (on o x.wire (λ m. insert_entry nat_eq x.wire line (k.sent s wire m.emission))
        ≡ insert_entry nat_eq x.wire l e))
    go None = inl refl
    go (Some m) = inr (line, k.sent s wire m.emission, refl, refl)
host_step_wire k h s fresh far x (Gets line copied wire) = inl refl
host_step_wire k h s fresh far x (Hears line wire) = inl refl
host_step_wire k h s fresh far x (Takes line how) = inl refl
host_step_wire k h s fresh far x (Drops line) = inl refl
host_step_wire k h s fresh far x (Answers line) = inl refl

-- what stands on the wire stays, and what joins has the next line
pub wire_grows : (k : Kernel) (x y : HostState k.shape) (ln : ℕ) (l : Option ℕ) → ((line : ℕ) → l ≡ Some line → line ≡ ln)
    → (y.wire ≡ x.wire) ⊎ ((line : ℕ) × (e : k.shape.Emission) × (l ≡ Some line) × (y.wire ≡ insert_entry nat_eq x.wire line e))
    → ((tag : ℕ) (e : k.shape.Emission) → lookup (nat_eq tag) x.wire ≡ Some e → tag < ln)
    → ((tag : ℕ) (e : k.shape.Emission) → lookup (nat_eq tag) x.wire ≡ Some e → lookup (nat_eq tag) y.wire ≡ Some e)
    × ((tag : ℕ) (e : k.shape.Emission) → lookup (nat_eq tag) y.wire ≡ Some e → tag < on l ln (λ line. suc ln))
wire_grows k x y ln l numbered (inl same) below = (
  (λ tag e at. ap (λ (ts : List (ℕ × k.shape.Emission)). lookup (nat_eq tag) ts) same ∙ at),
  (λ tag e at. let b = below tag e (sym (ap (λ (ts : List (ℕ × k.shape.Emission)). lookup (nat_eq tag) ts) same) ∙ at) in more l tag b),
)
  where
    more : (l : Option ℕ) (tag : ℕ) → tag < ln → tag < on l ln (λ line. suc ln)
    more None tag b = b
    more (Some line) tag b = omega arith
wire_grows k x y ln l numbered (inr new) below =
    let at_ln = numbered new.0 new.2 in (
      (λ tag e at. there tag ∙ old tag e at (below tag e at) at_ln (nat_eq tag new.0) refl),
      (λ tag e at. subst (λ (o : Option ℕ). tag < on o ln (λ line. suc ln)) (sym new.2) (low tag e at_ln (nat_eq tag new.0) refl (sym (there tag) ∙ at))),
    )
  where
    there : (tag : ℕ) → lookup (nat_eq tag) y.wire ≡ cond (nat_eq tag new.0) (Some new.1) (lookup (nat_eq tag) x.wire)
    there tag = ap (λ (ts : List (ℕ × k.shape.Emission)). lookup (nat_eq tag) ts) new.3 ∙ lookup_insert tag new.0 new.1 x.wire

    old : (tag : ℕ) (e : k.shape.Emission) → lookup (nat_eq tag) x.wire ≡ Some e → tag < ln → new.0 ≡ ln → (b : Bool)
        → nat_eq tag new.0 ≡ b → cond b (Some new.1) (lookup (nat_eq tag) x.wire) ≡ Some e
    old tag e at b is true t = absurd (grind (arith, nat_tests))
    old tag e at b is false t = at

    low : (tag : ℕ) (e : k.shape.Emission) → new.0 ≡ ln → (b : Bool) → nat_eq tag new.0 ≡ b
        → cond b (Some new.1) (lookup (nat_eq tag) x.wire) ≡ Some e → tag < suc ln
    low tag e is true t at = grind (arith, nat_tests)
    low tag e is false t at = let b = below tag e at in omega arith
