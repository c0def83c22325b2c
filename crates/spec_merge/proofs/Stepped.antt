-- A step of one host's run is a step of the merged run.
use Rattle.std.proofs.Common.{◌≡◌, ℕ, suc, Bool, true, false, List, ◌∷◌, ◌++◌, Option, Some, None, refl, ap, sym, subst, ◌∙◌, inl, inr, ◌⊎◌, arith}
use Rattle.std.specs.Prelude.{if◌then◌else◌, nat_eq, not}
use Rattle.std.specs.Map.{lookup}
use Rattle.indexmap.specs.IndexMap.{insert_entry}
use Rattle.std.proofs.lemmas.Bool.Decides.{nat_tests}
use Rattle.std.proofs.lemmas.Option.{none-some}
use Rattle.case_forms.specs.declared.calls.Host.{Host}
use Rattle.case_forms.specs.declared.calls.Host.TheVariants.{One, Zero}
use Rattle.verdict.specs.declared.rule.Rule.{Rule}
use Rattle.verdict.specs.declared.rule.Rule.TheVariants as rules
use Rattle.verdict.specs.Rules.{first_broken}
use Rattle.spec_network.specs.Tables.{Both, lane, on, other, pick}
use Rattle.spec_network.specs.Hosts.{Aim, Answered, Answers, At, Begin, Called, HostStep, Does, Drops, Effect, Expires}
use Rattle.spec_network.specs.Hosts.{Finish, Gets, Hears, HostState, Idle, Kernel, Makes, Sends, Step, Takes, ThatHost}
use Rattle.spec_network.specs.Hosts.{ThatSocket, Turn, World, turn_of}
use Rattle.spec_network.specs.HostRules.{Permitted, aim_of, begin_rules, call_rules, host_step_rules, effect_rules, end_rules, fresh_rules, just}
use Rattle.spec_network.specs.HostSteps.{after, call_after, host_step_after, effect_after, makes}
use Rattle.spec_merge.specs.Books.{Aims, InLane, OwnStep, host_step_line, step_line}
use Rattle.spec_merge.specs.Merging.{Names, restep_at, restep, step_makes}
use Rattle.spec_network.proofs.Turns.{effect_passes}
use Rattle.spec_merge.proofs.Counting.{Counts, counts_mine, counts_other}
use Rattle.spec_network.proofs.Entries.{turn_insert}
use Rattle.spec_merge.proofs.Retag.{lookup_retag}
use Rattle.spec_merge.proofs.Rename.{rehost, Apt, SameFar, host_step_may, host_step_does}
use Rattle.spec_merge.proofs.Halves.{pick_same, host_self, host_other, hosts_apart, HostHalf, hosts_mine, hosts_theirs, host_step_wire, wire_grows}

-- 1. threads

-- the turns of the threads of this host's lane are the same in both worlds, and their open calls mean this host
pub record ThreadHalf (k : Kernel) (h : Host) (lt gt : List (ℕ × Turn k.shape)) : Type 0 where
  pub same : (t : ℕ) → lane t ≡ h → turn_of t gt ≡ turn_of t lt
  pub aims : (t : ℕ) (call : k.shape.Call) → lane t ≡ h → turn_of t lt ≡ Called call → Aims h (k.aim call)

pub threads_mine : (k : Kernel) (h : Host) (lt gt : List (ℕ × Turn k.shape)) → ThreadHalf k h lt gt
    → (n : ℕ) (u : Turn k.shape) → ((call : k.shape.Call) → u ≡ Called call → Aims h (k.aim call))
    → ThreadHalf k h (insert_entry nat_eq lt n u) (insert_entry nat_eq gt n u)
threads_mine k h lt gt was n u aim = record {
  same = λ t is. turn_insert k t n u gt ∙ (ap (λ (v : Turn k.shape). if nat_eq t n then u else v) (was.same t is) ∙ sym (turn_insert k t n u lt));
  aims = λ t call is at. go t call is (nat_eq t n) (sym (turn_insert k t n u lt) ∙ at);
}
  where
    go : (t : ℕ) (call : k.shape.Call) → lane t ≡ h → (b : Bool) → (if b then u else turn_of t lt) ≡ Called call → Aims h (k.aim call)
    go t call is true at = aim call at
    go t call is false at = was.aims t call is at

lanes_differ : (h : Host) (t u : ℕ) → lane t ≡ h → lane u ≡ other h → nat_eq u t ≡ false
lanes_differ h t u p q = go (nat_eq u t) refl
  where
    go : (b : Bool) → nat_eq u t ≡ b → b ≡ false
    go false e = refl
    go true e = let n : t ≡ u = grind (arith, nat_tests) in absurd (hosts_apart h (sym p ∙ (ap lane n ∙ q)))

pub threads_theirs : (k : Kernel) (h : Host) (ft gt : List (ℕ × Turn k.shape)) → ThreadHalf k (other h) ft gt
    → (n : ℕ) (u : Turn k.shape) → lane n ≡ h → ThreadHalf k (other h) ft (insert_entry nat_eq gt n u)
threads_theirs k h ft gt was n u is = record {
  same = λ t at. turn_insert k t n u gt ∙ (ap (λ (b : Bool). if b then u else turn_of t gt) (lanes_differ h n t is at) ∙ was.same t at);
  aims = was.aims;
}

-- 2. numbers

pub lines_mine : (f : ℕ → ℕ) (a b : ℕ) (h : Host) (l : Option ℕ) (ms : List (Option Host))
    → Counts f a b h (on l ms (λ line. Some h ∷ ms)) → ((line : ℕ) → l ≡ Some line → line ≡ a)
    → ((line : ℕ) → l ≡ Some line → f line ≡ b) × Counts f (on l a (λ line. suc a)) (on l b (λ line. suc b)) h ms
lines_mine f a b h None ms c is = ((λ line e. absurd (none-some line e)), c)
lines_mine f a b h (Some line) ms c is = let d = counts_mine f a b h (Some h) ms (host_self h) c in ((λ l e. ap f (is l e) ∙ d.0), d.1)

pub lines_theirs : (f : ℕ → ℕ) (a b : ℕ) (h : Host) (l : Option ℕ) (ms : List (Option Host))
    → Counts f a b (other h) (on l ms (λ line. Some h ∷ ms)) → Counts f a (on l b (λ line. suc b)) (other h) ms
lines_theirs f a b h None ms c = c
lines_theirs f a b h (Some line) ms c = counts_other f a b (other h) (Some h) ms (host_other h) c

pub made_mine : (f : ℕ → ℕ) (a b : ℕ) (h : Host) (m : Bool) (ms : List (Option Host))
    → Counts f (suc a) (suc b) h (if m then Some h ∷ ms else ms)
    → (m ≡ true → f (suc a) ≡ suc b) × Counts f (suc (if m then suc a else a)) (suc (if m then suc b else b)) h ms
made_mine f a b h false ms c = ((λ e. absurd (cc)), c)
made_mine f a b h true ms c = let d = counts_mine f (suc a) (suc b) h (Some h) ms (host_self h) c in ((λ e. d.0), d.1)

pub made_theirs : (f : ℕ → ℕ) (a b : ℕ) (h : Host) (m : Bool) (ms : List (Option Host))
    → Counts f a (suc b) (other h) (if m then Some h ∷ ms else ms)
    → Counts f a (suc (if m then suc b else b)) (other h) ms
made_theirs f a b h false ms c = c
made_theirs f a b h true ms c = counts_other f a (suc b) (other h) (Some h) ms (host_other h) c

-- 3. one host's half of the merged world

-- one host's run beside the merged one: its host, its threads, and its next numbers
pub record Half (k : Kernel) (names : Names) (h o : Host) (lw fw gw : World k.shape) (ln n : ℕ) (lt mt : List (Option Host)) : Type 0 where
  pub hosts : HostHalf k names h o lw.hosts fw.hosts gw.hosts ln
  pub threads : ThreadHalf k h lw.threads gw.threads
  pub lines : Counts (names.line h) ln n h lt
  pub made : Counts (names.made h) (suc lw.count) (suc gw.count) h mt

-- a step of its own run is, under new numbers, a step of the merged run, and both halves stay
pub record Stepped (k : Kernel) (names : Names) (h : Host) (s : ℕ) (lw fw gw : World k.shape) (ln fn n : ℕ)
    (lt mt : List (Option Host)) (step : Step k.shape) : Type 0 where
  pub may : Permitted k s gw (restep k names h step)
  pub line : (l : ℕ) → step_line k step ≡ Some l → names.line h l ≡ n
  pub mine : Half k names h (other h) (after k s lw step) fw (after k s gw (restep k names h step))
      (on (step_line k step) ln (λ l. suc ln)) (on (step_line k step) n (λ l. suc n)) lt mt
  pub theirs : Half k names (other h) h fw (after k s lw step) (after k s gw (restep k names h step)) fn (on (step_line k step) n (λ l. suc n)) lt mt

restep_at_makes : (k : Kernel) (names : Names) (h : Host) (d : HostStep k.shape) → makes k (restep_at k names h d) ≡ makes k d
restep_at_makes k names h (Does v) = refl
restep_at_makes k names h (Expires line v) = refl
restep_at_makes k names h (Makes v) = refl
restep_at_makes k names h (Sends line number wire) = refl
restep_at_makes k names h (Gets line copied wire) = refl
restep_at_makes k names h (Hears line wire) = refl
restep_at_makes k names h (Takes line how) = refl
restep_at_makes k names h (Drops line) = refl
restep_at_makes k names h (Answers line) = refl

-- what comes in here came in there
far_same : (k : Kernel) (names : Names) (h : Host) → Apt names → (lw fw gw : Both (HostState k.shape)) (ln fn : ℕ)
    → HostHalf k names h (other h) lw fw gw ln → HostHalf k names (other h) h fw lw gw fn
    → SameFar k names h (pick lw (other h)).wire (pick gw (other h)).wire
far_same k names h apt lw fw gw ln fn m t tag e at =
    ap (λ (x : HostState k.shape). lookup (nat_eq (names.line (other h) tag)) x.wire) t.host
    ∙ (lookup_retag (names.line (other h)) (apt.line (other h)) tag (pick fw (other h)).wire ∙ m.heard tag e at)

-- what the host does
pub stepped_at : (k : Kernel) (names : Names) (h : Host) → Apt names
    → (s : ℕ) (lw fw gw : World k.shape) (ln fn n : ℕ) (lt mt : List (Option Host)) (d : HostStep k.shape)
    → Half k names h (other h) lw fw gw ln n (on (host_step_line k d) lt (λ l. Some h ∷ lt)) (if makes k d then Some h ∷ mt else mt)
    → Half k names (other h) h fw lw gw fn n (on (host_step_line k d) lt (λ l. Some h ∷ lt)) (if makes k d then Some h ∷ mt else mt)
    → Permitted k s lw (At h d) → InLane k h (after k s lw (At h d)) → ((line : ℕ) → host_step_line k d ≡ Some line → line ≡ ln)
    → Stepped k names h s lw fw gw ln fn n lt mt (At h d)
stepped_at k names h apt s lw fw gw ln fn n lt mt d m t p lanes numbered =
    let x = pick lw.hosts h in
    let far = (pick lw.hosts (other h)).wire in
    let gar = (pick gw.hosts (other h)).wire in
    let same = far_same k names h apt lw.hosts fw.hosts gw.hosts ln fn m.hosts t.hosts in
    let y = host_step_after k h s (suc lw.count) far x d in
    let z = host_step_after k h s (suc gw.count) gar (pick gw.hosts h) (restep_at k names h d) in
    let counted = made_mine (names.made h) lw.count gw.count h (makes k d) mt m.made in
    let lined = lines_mine (names.line h) ln n h (host_step_line k d) lt m.lines numbered in
    let grows = wire_grows k x y ln (host_step_line k d) numbered (host_step_wire k h s (suc lw.count) far x d) m.hosts.below in
    let does : z ≡ rehost k names h y =
    ap (λ (v : HostState k.shape). host_step_after k h s (suc gw.count) gar v (restep_at k names h d)) m.hosts.host
    ∙ host_step_does k names h apt s far gar same (suc lw.count) (suc gw.count) x d counted.0 p in
    let lanes_y : (i : ℕ) → k.given y.body i ≡ true → lane i ≡ h =
    subst (λ (v : HostState k.shape). (i : ℕ) → k.given v.body i ≡ true → lane i ≡ h)
    (pick_same lw.hosts h y) lanes in
    record {
      may = subst (λ (v : HostState k.shape). first_broken (host_step_rules k h s gar v (restep_at k names h d)) ≡ None)
          (sym m.hosts.host) (host_step_may k names h apt s far gar same x d p);
      line = lined.0;
      mine = record {
        hosts = hosts_mine k names h lw.hosts fw.hosts gw.hosts ln (on (host_step_line k d) ln (λ l. suc ln)) m.hosts y z does grows.1 lanes_y;
        threads = m.threads;
        lines = lined.1;
        made = subst (λ (b : Bool). Counts (names.made h) (suc (if makes k d then suc lw.count else lw.count))
            (suc (if b then suc gw.count else gw.count)) h mt) (sym (restep_at_makes k names h d)) counted.1;
      };
      theirs = record {
        hosts = hosts_theirs k names h lw.hosts fw.hosts gw.hosts fn t.hosts y z grows.0;
        threads = t.threads;
        lines = lines_theirs (names.line (other h)) fn n h (host_step_line k d) lt t.lines;
        made = subst (λ (b : Bool). Counts (names.made (other h)) (suc fw.count)
            (suc (if b then suc gw.count else gw.count)) (other h) mt) (sym (restep_at_makes k names h d))
            (made_theirs (names.made (other h)) (suc fw.count) gw.count h (makes k d) mt t.made);
      };
    }

-- 4. calls

not_true : (b : Bool) → (b ≡ true → ⊥) → b ≡ false
not_true true h = absurd (h refl)
not_true false h = refl

own_or_none : (k : Kernel) (h : Host) (hosts : Both (HostState k.shape)) (a : Aim) → Aims h a
    → ((n : ℕ) → lane n ≡ h → k.given (pick hosts (other h)).body n ≡ false)
    → (aim_of k hosts a ≡ None) ⊎ (aim_of k hosts a ≡ Some h)
own_or_none k h hosts (ThatHost host) own far = inr (ap (λ (s : Host). Some s) own)
own_or_none k Zero hosts (ThatSocket n) own far = go (k.given hosts.zero.body n) (k.given hosts.one.body n) (far n own)
  where
    go : (a b : Bool) → b ≡ false
        → ((if a then Some Zero else if b then Some One else None) ≡ None)
        ⊎ ((if a then Some Zero else if b then Some One else None) ≡ Some Zero)
    go true b e = inr refl
    go false true e = absurd (cc)
    go false false e = inl refl
own_or_none k One hosts (ThatSocket n) own far = go (k.given hosts.zero.body n) (k.given hosts.one.body n) (far n own)
  where
    go : (a b : Bool) → a ≡ false
        → ((if a then Some Zero else if b then Some One else None) ≡ None)
        ⊎ ((if a then Some Zero else if b then Some One else None) ≡ Some One)
    go true b e = absurd (cc)
    go false true e = inr refl
    go false false e = inl refl

-- of the numbers of this host, the merged world and its own have given the same
abbrev pub SameGiven : (k : Kernel) → Host → Both (HostState k.shape) → Both (HostState k.shape) → Type 0
SameGiven k h lw gw = (n : ℕ) → lane n ≡ h → (k.given gw.zero.body n ≡ k.given lw.zero.body n) × (k.given gw.one.body n ≡ k.given lw.one.body n)

aim_same : (k : Kernel) (h : Host) (lw gw : Both (HostState k.shape)) → SameGiven k h lw gw → (a : Aim) → Aims h a → aim_of k gw a ≡ aim_of k lw a
aim_same k h lw gw same (ThatHost host) own = refl
aim_same k h lw gw same (ThatSocket n) own = let e = same n own in
    ap (λ (b : Bool). if b then Some Zero else if k.given gw.one.body n then Some One else None) e.0
    ∙ ap (λ (b : Bool). if k.given lw.zero.body n then Some Zero else if b then Some One else None) e.1

fresh_same : (k : Kernel) (h : Host) (lw gw : Both (HostState k.shape)) → SameGiven k h lw gw → (g : Option ℕ)
    → ((n : ℕ) → g ≡ Some n → lane n ≡ h) → fresh_rules k gw g ≡ fresh_rules k lw g
fresh_same k h lw gw same None own = refl
fresh_same k h lw gw same (Some n) own = let e = same n (own n refl) in
    ap (λ (b : Bool). (rules.Socket, b) ∷ just rules.Socket (k.given gw.one.body n)) e.0
    ∙ ap (λ (b : Bool). (rules.Socket, (k.given lw.zero.body n)) ∷ just rules.Socket b) e.1

far_free : (k : Kernel) → ((n : ℕ) → k.given k.empty n ≡ false)
    → (names : Names) (h : Host) (lw fw gw : Both (HostState k.shape)) (ln : ℕ)
    → HostHalf k names h (other h) lw fw gw ln → (n : ℕ) → k.given (pick lw (other h)).body n ≡ false
far_free k none names h lw fw gw ln m n = ap (λ (b : k.shape.Body). k.given b n) m.bare ∙ none n

given_same : (k : Kernel) → ((n : ℕ) → k.given k.empty n ≡ false)
    → (names : Names) (h : Host) (lw fw gw : Both (HostState k.shape)) (ln fn : ℕ)
    → HostHalf k names h (other h) lw fw gw ln → HostHalf k names (other h) h fw lw gw fn → SameGiven k h lw gw
given_same k none names h lw fw gw ln fn m t n is = spread h refl
  where
    here : k.given (pick gw h).body n ≡ k.given (pick lw h).body n
    here = ap (λ (x : HostState k.shape). k.given x.body n) m.host

    apart : k.given (pick fw (other h)).body n ≡ true → ⊥
    apart e = hosts_apart h (sym is ∙ t.lanes n e)

    there : k.given (pick gw (other h)).body n ≡ k.given (pick lw (other h)).body n
    there =
        ap (λ (x : HostState k.shape). k.given x.body n) t.host
        ∙ (not_true (k.given (pick fw (other h)).body n) apart ∙ sym (far_free k none names h lw fw gw ln m n))

    spread : (g : Host) → h ≡ g → (k.given gw.zero.body n ≡ k.given lw.zero.body n) × (k.given gw.one.body n ≡ k.given lw.one.body n)
    spread Zero e = (
      subst (λ (x : Host). k.given (pick gw x).body n ≡ k.given (pick lw x).body n) e here,
      subst (λ (x : Host). k.given (pick gw (other x)).body n ≡ k.given (pick lw (other x)).body n) e there,
    )
    spread One e = (
      subst (λ (x : Host). k.given (pick gw (other x)).body n ≡ k.given (pick lw (other x)).body n) e there,
      subst (λ (x : Host). k.given (pick gw x).body n ≡ k.given (pick lw x).body n) e here,
    )

called : (k : Kernel) (names : Names) (h : Host) (s : ℕ) (lw fw gw : Both (HostState k.shape)) (ln fn : ℕ)
    (act : k.shape.Act) (o : Option Host) → (o ≡ None) ⊎ (o ≡ Some h)
    → HostHalf k names h (other h) lw fw gw ln → HostHalf k names (other h) h fw lw gw fn
    → ((n : ℕ) → k.given (pick (call_after k s lw act o) h).body n ≡ true → lane n ≡ h)
    → HostHalf k names h (other h) (call_after k s lw act o) fw (call_after k s gw act o) ln
    × HostHalf k names (other h) h fw (call_after k s lw act o) (call_after k s gw act o) fn
called k names h s lw fw gw ln fn act o (inl e) m t =
    subst (λ (o : Option Host). ((n : ℕ) → k.given (pick (call_after k s lw act o) h).body n ≡ true → lane n ≡ h)
    → HostHalf k names h (other h) (call_after k s lw act o) fw (call_after k s gw act o) ln
    × HostHalf k names (other h) h fw (call_after k s lw act o) (call_after k s gw act o) fn) (sym e) (λ lanes. (m, t))
called k names h s lw fw gw ln fn act o (inr e) m t =
    subst (λ (o : Option Host). ((n : ℕ) → k.given (pick (call_after k s lw act o) h).body n ≡ true → lane n ≡ h)
    → HostHalf k names h (other h) (call_after k s lw act o) fw (call_after k s gw act o) ln
    × HostHalf k names (other h) h fw (call_after k s lw act o) (call_after k s gw act o) fn) (sym e)
    (λ lanes.
    let x = record (pick lw h) { body = k.act_after h s (pick lw h).body act } in
    let y = record (pick gw h) { body = k.act_after h s (pick gw h).body act } in (
      hosts_mine k names h lw fw gw ln ln m x y
          (ap (λ (v : HostState k.shape). record v { body = k.act_after h s v.body act }) m.host)
          (λ tag e at. m.below tag e at)
          (subst (λ (v : HostState k.shape). (i : ℕ) → k.given v.body i ≡ true → lane i ≡ h) (pick_same lw h x) lanes),
      hosts_theirs k names h lw fw gw fn t x y (λ tag e at. at),
    ))

call_may : (k : Kernel) (h : Host) (s : ℕ) (lw gw : Both (HostState k.shape)) (call : k.shape.Call)
    (answer : k.shape.Answer) (o : Option Host) → (o ≡ None) ⊎ (o ≡ Some h) → (pick gw h).body ≡ (pick lw h).body
    → fresh_rules k gw (k.gives call answer) ≡ fresh_rules k lw (k.gives call answer)
    → first_broken (call_rules k s lw call answer o) ≡ None → first_broken (call_rules k s gw call answer o) ≡ None
call_may k h s lw gw call answer o (inl e) body fresh =
    subst (λ (o : Option Host). first_broken (call_rules k s lw call answer o) ≡ None
    → first_broken (call_rules k s gw call answer o) ≡ None) (sym e)
    (λ p. ap (λ (f : List (Rule × Bool)). first_broken (f ++ (just rules.CallAnswer (not (k.stray call answer))))) fresh ∙ p)
call_may k h s lw gw call answer o (inr e) body fresh =
    subst (λ (o : Option Host). first_broken (call_rules k s lw call answer o) ≡ None
    → first_broken (call_rules k s gw call answer o) ≡ None) (sym e)
    (λ p. ap (λ (b : k.shape.Body). first_broken ((fresh_rules k gw (k.gives call answer)) ++ (k.act_rules h s b (k.calls call answer)))) body
    ∙ (ap (λ (f : List (Rule × Bool)). first_broken (f ++ (k.act_rules h s (pick lw h).body (k.calls call answer)))) fresh ∙ p))

-- the world after an effect, where the host that the call means is known
abbrev effected : (k : Kernel) → ℕ → World k.shape → ℕ → k.shape.Answer → k.shape.Call → Option Host → World k.shape
effected k s w t answer call o =
    record {
      hosts = call_after k s w.hosts (k.calls call answer) o;
      threads = insert_entry nat_eq w.threads t (Answered answer);
      count = w.count;
    }

same_called : (k : Kernel) (a b : k.shape.Call) → (let u : Turn k.shape = Called a in u) ≡ Called b → a ≡ b
same_called k a b e = ap (λ (u : Turn k.shape). call_or a u) e
  where
    call_or : k.shape.Call → Turn k.shape → k.shape.Call
    call_or c Idle = c
    call_or c (Called d) = d
    call_or c (Answered given) = c

-- an idle thread is in no call
pub idle_uncalled : (k : Kernel) (call : k.shape.Call) → (let u : Turn k.shape = Idle in u) ≡ Called call → ⊥
idle_uncalled k call e = cc

-- one that was answered is in no open one
uncalled : (k : Kernel) (answer : k.shape.Answer) (call : k.shape.Call) → (let u : Turn k.shape = Answered answer in u) ≡ Called call → ⊥
uncalled k answer call e = cc

-- a call's effect
pub stepped_effect : (k : Kernel) → ((n : ℕ) → k.given k.empty n ≡ false)
    → (names : Names) (h : Host) (s : ℕ) (lw fw gw : World k.shape) (ln fn n : ℕ) (lt mt : List (Option Host)) (t : ℕ)
    (answer : k.shape.Answer)
    → Half k names h (other h) lw fw gw ln n lt mt → Half k names (other h) h fw lw gw fn n lt mt
    → Permitted k s lw (Effect t answer) → OwnStep k h lw (Effect t answer) → InLane k h (after k s lw (Effect t answer))
    → Stepped k names h s lw fw gw ln fn n lt mt (Effect t answer)
stepped_effect k none names h s lw fw gw ln fn n lt mt t answer m f p own lanes =
    let opened = effect_passes k s lw.hosts (turn_of t lw.threads) answer p in
    let call = opened.0 in
    let gopen : turn_of t gw.threads ≡ Called call = m.threads.same t own.0 ∙ opened.1 in
    let aimed = m.threads.aims t call own.0 opened.1 in
    let given = given_same k none names h lw.hosts fw.hosts gw.hosts ln fn m.hosts f.hosts in
    let o = aim_of k lw.hosts (k.aim call) in
    let aim : aim_of k gw.hosts (k.aim call) ≡ o = aim_same k h lw.hosts gw.hosts given (k.aim call) aimed in
    let mine_o : (o ≡ None) ⊎ (o ≡ Some h) =
    own_or_none k h lw.hosts (k.aim call) aimed
    (λ i is. far_free k none names h lw.hosts fw.hosts gw.hosts ln m.hosts i) in
    let fresh = fresh_same k h lw.hosts gw.hosts given (k.gives call answer) (λ i is. own.1 call opened.1 i is) in
    let body : (pick gw.hosts h).body ≡ (pick lw.hosts h).body = ap (λ (x : HostState k.shape). x.body) m.hosts.host in
    let lworld : after k s lw (Effect t answer) ≡ effected k s lw t answer call o = ap (λ (u : Turn k.shape). effect_after k s lw t answer u) opened.1 in
    let gworld : after k s gw (Effect t answer) ≡ effected k s gw t answer call o =
    ap (λ (u : Turn k.shape). effect_after k s gw t answer u) gopen
    ∙ ap (λ (o : Option Host). effected k s gw t answer call o) aim in
    let llanes : (i : ℕ) → k.given (pick (call_after k s lw.hosts (k.calls call answer) o) h).body i ≡ true
    → lane i ≡ h = subst (λ (v : World k.shape). InLane k h v) lworld lanes in
    let both = called k names h s lw.hosts fw.hosts gw.hosts ln fn (k.calls call answer) o mine_o m.hosts f.hosts llanes in
    let m' : Half k names h (other h) (effected k s lw t answer call o) fw
    (effected k s gw t answer call o) ln n lt mt =
    record {
      hosts = both.0;
      threads =
          threads_mine k h lw.threads gw.threads m.threads t (Answered answer)
          (λ c is. absurd (uncalled k answer c is));
      lines = m.lines;
      made = m.made;
    } in
    let f' : Half k names (other h) h fw (effected k s lw t answer call o)
    (effected k s gw t answer call o) fn n lt mt =
    record {
      hosts = both.1;
      threads = threads_theirs k h fw.threads gw.threads f.threads t (Answered answer) own.0;
      lines = f.lines;
      made = f.made;
    } in
    record {
      may = ap (λ (u : Turn k.shape). first_broken (effect_rules k s gw.hosts u answer)) gopen
          ∙ (ap (λ (o : Option Host). first_broken (call_rules k s gw.hosts call answer o)) aim
          ∙ call_may k h s lw.hosts gw.hosts call answer o mine_o body fresh opened.2);
      line = λ l is. absurd (none-some l is);
      mine = subst (λ (v : World k.shape). Half k names h (other h) v fw (after k s gw (Effect t answer)) ln n lt mt)
          (sym lworld) (subst (λ (v : World k.shape).
          Half k names h (other h) (effected k s lw t answer call o) fw v ln n lt mt) (sym gworld) m');
      theirs =
          subst (λ (v : World k.shape). Half k names (other h) h fw v (after k s gw (Effect t answer)) fn n lt mt)
          (sym lworld) (subst (λ (v : World k.shape).
          Half k names (other h) h fw (effected k s lw t answer call o) v fn n lt mt) (sym gworld) f');
    }

-- any step
pub stepped : (k : Kernel) → ((n : ℕ) → k.given k.empty n ≡ false) → (names : Names) → Apt names
    → (h : Host) (s : ℕ) (lw fw gw : World k.shape) (ln fn n : ℕ) (lt mt : List (Option Host)) (step : Step k.shape)
    → Half k names h (other h) lw fw gw ln n (on (step_line k step) lt (λ l. Some h ∷ lt)) (if step_makes k step then Some h ∷ mt else mt)
    → Half k names (other h) h fw lw gw fn n (on (step_line k step) lt (λ l. Some h ∷ lt)) (if step_makes k step then Some h ∷ mt else mt)
    → Permitted k s lw step × OwnStep k h lw step → InLane k h (after k s lw step) → ((line : ℕ) → step_line k step ≡ Some line → line ≡ ln)
    → Stepped k names h s lw fw gw ln fn n lt mt step
stepped k none names apt h s lw fw gw ln fn n lt mt (Begin line t call) m f fits lanes numbered =
    let lined = lines_mine (names.line h) ln n h (Some line) lt m.lines numbered in
    record {
      may = ap (λ (u : Turn k.shape). first_broken (begin_rules u)) (m.threads.same t fits.1.0) ∙ fits.0;
      line = lined.0;
      mine = record {
        hosts =
            record {
              host = m.hosts.host;
              heard = m.hosts.heard;
              below = λ tag e at. let b = m.hosts.below tag e at in
                  omega arith;
              lanes = m.hosts.lanes;
              bare = m.hosts.bare;
            };
        threads =
            threads_mine k h lw.threads gw.threads m.threads t (Called call)
            (λ c is. subst (λ (c : k.shape.Call). Aims h (k.aim c)) (same_called k call c is) fits.1.1);
        lines = lined.1;
        made = m.made;
      };
      theirs =
          record {
            hosts = f.hosts;
            threads =
                threads_theirs k h fw.threads gw.threads f.threads t (Called call) fits.1.0;
            lines = lines_theirs (names.line (other h)) fn n h (Some line) lt f.lines;
            made = f.made;
          };
    }
stepped k none names apt h s lw fw gw ln fn n lt mt (Finish line t answer) m f fits lanes numbered =
    let lined = lines_mine (names.line h) ln n h (Some line) lt m.lines numbered in
    record {
      may = ap (λ (u : Turn k.shape). first_broken (end_rules k.differs u answer)) (m.threads.same t fits.1) ∙ fits.0;
      line = lined.0;
      mine = record {
        hosts =
            record {
              host = m.hosts.host;
              heard = m.hosts.heard;
              below = λ tag e at. let b = m.hosts.below tag e at in
                  omega arith;
              lanes = m.hosts.lanes;
              bare = m.hosts.bare;
            };
        threads = threads_mine k h lw.threads gw.threads m.threads t Idle (λ c is. absurd (idle_uncalled k c is));
        lines = lined.1;
        made = m.made;
      };
      theirs =
          record {
            hosts = f.hosts;
            threads = threads_theirs k h fw.threads gw.threads f.threads t Idle fits.1;
            lines = lines_theirs (names.line (other h)) fn n h (Some line) lt f.lines;
            made = f.made;
          };
    }
stepped k none names apt h s lw fw gw ln fn n lt mt (Effect t answer) m f fits lanes numbered =
    stepped_effect k none names h s lw fw gw ln fn n lt mt t answer m f fits.0 fits.1 lanes
stepped k none names apt h s lw fw gw ln fn n lt mt (At side d) m f fits lanes numbered =
    subst (λ (g : Host). Permitted k s lw (At g d) → InLane k h (after k s lw (At g d)) → Stepped k names h s lw fw gw ln fn n lt mt (At g d)) (sym fits.1)
    (λ p l. stepped_at k names h apt s lw fw gw ln fn n lt mt d m f p l numbered) fits.0 lanes
