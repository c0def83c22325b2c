-- What is sent had just been built.
use Rattle.std.proofs.Common.{◌≡◌, ℕ, suc, ◌+◌, ◌<◌, ◌≤◌, ◌⊎◌, inl, inr, Bool, true, false, List, Option, Some, None, refl, ap, sym, subst, ◌∙◌, nat_eq}
use Rattle.std.proofs.Common.{arith}
use Rattle.std.specs.Prelude.{if◌then◌else◌, is_some}
use Rattle.std.specs.Map.{lookup}
use Rattle.std.specs.Option.{option_map, option_map_or}
use Rattle.std.proofs.lemmas.Bool.{cases_lt}
use Rattle.std.proofs.lemmas.Bool.Decides.{nat_tests}
use Rattle.std.proofs.lemmas.Option.{none-some, same_Some}
use Rattle.case_forms.specs.declared.calls.Host.{Host}
use Rattle.case_forms.specs.declared.calls.Host.TheVariants.{Zero, One}
use Rattle.case_forms.specs.declared.trace.Header.{Header}
use Rattle.spec_network.specs.HostSteps.{after}
use Rattle.spec_network.specs.Hosts.{Stamped, World}
use Rattle.spec_network.specs.Tables.{Made, pick, waiting}
use Rattle.spec_tcp.specs.Machine.{tcp, tcp_shape}
use Rattle.spec_tcp.specs.declared.endpoint.Emission.{Emission}
use Rattle.spec_cases.specs.Cases.{Known, first_known}
use Rattle.spec_duties.specs.Deadlines.{is_late}
use Rattle.spec_duties.specs.Observations.{observe, view_in}
use Rattle.spec_duties.specs.Watching.{builds_mere_ack, built_after, built_by, counts_now, sent_late}
use Rattle.spec_duties.specs.declared.observations.BuiltChange.{BuiltChange}
use Rattle.spec_duties.specs.declared.observations.BuiltChange.TheVariants as built_change
use Rattle.spec_duties.specs.declared.tables.Built.{Built}
use Rattle.spec_duties.specs.declared.views.View.{View}
use Rattle.kept_duties.proofs.Inbox.{not_late}
use Rattle.kept_duties.proofs.Runs.{Goes, Run, run_goes, run_keeps}
use Rattle.kept_duties.proofs.Observations.{IsMade, IsNew, BuiltChangeOf, builds, count_after, made_by, made_from, built_change_builds, built_change_of}
use Rattle.kept_duties.proofs.Observations.{built_change_sends, sends}
use Rattle.kept_duties.proofs.Observations.{waiting_elsewhere, waiting_here}

same_pair : (o : Option (Host × ℕ)) (g host : Host) (q n : ℕ) → o ≡ Some (g, q) → g ≡ host → q ≡ n → o ≡ Some (host, n)
same_pair o g host q n is same number = is ∙ (λ i. Some (same i, number i))

module _ (h : Header) (slack n : ℕ) (acts : ℕ → Option (Stamped tcp_shape)) (known : ℕ → Known) (r : Run h slack n acts known) where
  -- whether an act builds a mere acknowledgment
  abbrev pub counts_by : Known → Stamped tcp_shape → Bool
  counts_by k x =
      option_map_or (builds_mere_ack (view_in (after (tcp h) x.moment k.model x.step) (observe h x.moment k.model x.step).touched))
      (observe h x.moment k.model x.step).touched false

  -- before this place a host built the segment of that number
  pub record WasBuilt (to : ℕ) (host : Host) (number : ℕ) : Type 0 where
    pub place : ℕ
    pub act : Stamped tcp_shape
    pub low : place < to
    pub is : acts place ≡ Some act
    pub builds : builds act.step ≡ Some host
    pub count : number ≡ suc (known place).model.count

  abbrev built_earlier : (j : ℕ) (host : Host) (number : ℕ) → WasBuilt j host number → WasBuilt (suc j) host number
  built_earlier j host number b = record {
    place = b.place;
    act = b.act;
    low = (let low = b.low in omega arith);
    is = b.is;
    builds = b.builds;
    count = b.count;
  }

  pub count_next : (j : ℕ) (x : Stamped tcp_shape) → j < n → acts j ≡ Some x
      → (known (suc j)).model.count ≡ (if is_some (builds x.step) then suc (known j).model.count else (known j).model.count)
  count_next j x low is =
      let goes = run_goes h slack n acts known r j x low is in
      ap (λ (w : World tcp_shape). w.count) goes.model ∙ count_after h x.moment (known j).model x.step

  -- the numbers rise
  counts_rise : (i j : ℕ) → i ≤ j → j ≤ n → (known i).model.count ≤ (known j).model.count
  counts_rise i j le high =
      run_keeps h slack n acts known r (λ q k. (known i).model.count ≤ k.model.count) (λ q k p. p) i j le high (omega arith)
      (λ q x a b is goes p. by (is_some (builds x.step)) (count_next q x (omega (arith, b, high)) is) p)
    where
      by : {a b c : ℕ} (t : Bool) → a ≡ (if t then suc b else b) → c ≤ b → c ≤ a
      by true e le = omega arith
      by false e le = omega arith

  count_built : (j : ℕ) (x : Stamped tcp_shape) (host : Host) → j < n → acts j ≡ Some x → builds x.step ≡ Some host
      → (known (suc j)).model.count ≡ suc (known j).model.count
  count_built j x host low is makes =
      count_next j x low is ∙ ap (λ (o : Option Host). if is_some o then suc (known j).model.count else (known j).model.count) makes

  pub low_number : (to : ℕ) (host : Host) (number : ℕ) → to ≤ n → WasBuilt to host number → number ≤ (known to).model.count
  low_number to host number high b =
      let low = b.low in
      let rise = counts_rise (suc b.place) to (omega arith) high in
      let here = count_built b.place b.act host (omega arith) b.is b.builds in
      let count = b.count in omega arith

  -- so each number is given once
  before_not : (to : ℕ) (g host : Host) (number : ℕ) → to ≤ n → (b : WasBuilt to g number) (c : WasBuilt to host number) → b.place < c.place → ⊥
  before_not to g host number high b c less =
      let low = c.low in
      let rise = counts_rise (suc b.place) c.place (omega (arith, less)) (omega arith) in
      let here = count_built b.place b.act g (omega (arith, less)) b.is b.builds in
      let first = b.count in
      let second = c.count in omega arith

  pub same_place : (to : ℕ) (g host : Host) (number : ℕ) → to ≤ n → (b : WasBuilt to g number) (c : WasBuilt to host number) → b.place ≡ c.place
  same_place to g host number high b c = by (cases_lt b.place c.place) (cases_lt c.place b.place)
    where
      by : (b.place < c.place) ⊎ (c.place ≤ b.place) → (c.place < b.place) ⊎ (b.place ≤ c.place) → b.place ≡ c.place
      by (inl less) q = absurd (before_not to g host number high b c less)
      by (inr p) (inl less) = absurd (before_not to host g number high c b less)
      by (inr p) (inr q) = omega (arith, p, q)

  pub same_builder : (to : ℕ) (g host : Host) (number : ℕ) → to ≤ n → WasBuilt to g number → WasBuilt to host number → g ≡ host
  same_builder to g host number high b c =
      let act : b.act ≡ c.act = same_Some b.act c.act (sym b.is ∙ ap acts (same_place to g host number high b c) ∙ c.is) in
      same_Some g host (sym b.builds ∙ ap (λ (y : Stamped tcp_shape). builds y.step) act ∙ c.builds)

  -- a segment in the model's table was built, and if it isn't sent, duties know when
  pub record InTime (to : ℕ) (k : Known) (host : Host) (number : ℕ) (m : Made Emission) : Type 0 where
    pub was : WasBuilt to host number
    pub content : made_by was.act.moment (known was.place).model was.act.step ≡ Some m.emission
    pub waits : m.sent ≡ false → (b : Built) × (waiting number k.duties.built ≡ Some b) × (b.since ≡ was.act.moment)
        × (b.counts ≡ counts_by (known was.place) was.act)

  abbrev AllInTime : ℕ → Known → Type 0
  AllInTime to k = (host : Host) (number : ℕ) (m : Made Emission) → lookup (nat_eq number) (pick k.model.hosts host).made ≡ Some m
      → InTime to k host number m

  module _ (j : ℕ) (x : Stamped tcp_shape) (low : j < n) (is : acts j ≡ Some x) (goes : Goes h slack (known j) (known (suc j)) x)
      (all : AllInTime j (known j)) where
    abbrev table : List (ℕ × Option Built)
    table = (known j).duties.built

    abbrev shown : BuiltChange
    shown = (observe h x.moment (known j).model x.step).built_change

    abbrev shown_view : View
    shown_view = view_in (after (tcp h) x.moment (known j).model x.step) (observe h x.moment (known j).model x.step).touched

    -- what is kept of a segment that is built now
    abbrev just_built : Built
    just_built = record {
      since = x.moment;
      counts = option_map_or (builds_mere_ack shown_view) (observe h x.moment (known j).model x.step).touched false;
    }

    go_on : (q : ℕ) (p : BuiltChange) → shown ≡ p
        → waiting q (known (suc j)).duties.built
        ≡ waiting q (built_after shown_view x.moment (observe h x.moment (known j).model x.step).touched p table)
    go_on q p shows =
        ap (waiting q) goes.built
        ∙ ap (λ p. waiting q (built_after shown_view x.moment (observe h x.moment (known j).model x.step).touched p table)) shows

    new : (host : Host) (number : ℕ) (m : Made Emission) → IsNew x.moment (known j).model x.step host number m → InTime (suc j) (known (suc j)) host number m
    new host number m now = record {
      was = record { place = j; act = x; low = omega arith; is = is; builds = now.built; count = now.number };
      content = now.content;
      waits = λ no.
          let made = built_change_builds h x.moment (known j).model x.step host now.built in
          let self : nat_eq number number ≡ true = grind (arith, nat_tests) in (
            just_built,
            go_on number (built_change.Builds number) (made ∙ ap built_change.Builds (sym now.number))
                ∙ waiting_here number (Some just_built) table,
            refl,
            refl,
          );
    }

    -- a segment that waits and isn't sent now goes on waiting
    still : (host : Host) (number : ℕ) → WasBuilt j host number → (sends x.step ≡ Some (host, number) → ⊥)
        → (b : Built) → waiting number table ≡ Some b → waiting number (known (suc j)).duties.built ≡ Some b
    still host number was not b waits = by shown refl (built_change_of h x.moment (known j).model x.step)
      where
        by : (p : BuiltChange) → shown ≡ p → BuiltChangeOf (known j).model.count p x.step → waiting number (known (suc j)).duties.built ≡ Some b
        by built_change.Nothing shows of = go_on number built_change.Nothing shows ∙ waits
        by (built_change.Builds q) shows of =
            let low' = low_number j host number (omega (arith, low)) was in
            let next = of.0 in
            let other : nat_eq number q ≡ false = grind (arith, nat_tests, low', next) in
            subst (λ (o : Option Built). o ≡ Some b) (sym (go_on number (built_change.Builds q) shows))
            (waiting_elsewhere number q (Some just_built) table other ∙ waits)
        by (built_change.Sends q) shows of = test (nat_eq number q) refl
          where
            test : (t : Bool) → nat_eq number q ≡ t → waiting number (known (suc j)).duties.built ≡ Some b
            test true same =
                let e : q ≡ number = grind (arith, nat_tests, same) in
                let sent = built_change_sends h x.moment (known j).model x.step of.0 q goes.permitted of.1 in
                let other = subst (λ (k : ℕ). WasBuilt j of.0 k) e (all of.0 q sent.1.made sent.1.there).was in
                let one : of.0 ≡ host = same_builder j of.0 host number (omega (arith, low)) other was in
                absurd (not (same_pair (sends x.step) of.0 host q number of.1 one e))
            test false other =
                subst (λ (o : Option Built). o ≡ Some b) (sym (go_on number (built_change.Sends q) shows)) (waiting_elsewhere number q None table other ∙ waits)

    step : AllInTime (suc j) (known (suc j))
    step host number m there =
        by (made_from h x.moment (known j).model x.step host number m
        (ap (λ (w : World tcp_shape). lookup (nat_eq number) (pick w.hosts host).made) (sym goes.model) ∙ there))
      where
        by : IsMade x.moment (known j).model x.step host number m → InTime (suc j) (known (suc j)) host number m
        by (inl now) = new host number m now
        by (inr was) =
            let old = all host number was.before was.there in
            record {
              was = built_earlier j host number old.was;
              content = old.content ∙ ap (λ (e : Emission). Some e) (sym was.same);
              waits = λ no.
                  let unsent = was.unsent no in
                  let b = old.waits unsent.0 in
                  (b.0, still host number old.was unsent.1 b.0 b.1, b.2, b.3);
            }

  all_in_time : (to : ℕ) → to ≤ n → AllInTime to (known to)
  all_in_time to high =
      run_keeps h slack n acts known r AllInTime
      (λ j k all host number m there.
      let old = all host number m there in
      record { was = built_earlier j host number old.was; content = old.content; waits = old.waits })
      0 to (omega arith) high (subst (AllInTime 0) (sym r.start) nothing) (λ j x low less is goes all. step j x (omega (arith, less, high)) is goes all)
    where
      nothing : AllInTime 0 (first_known h)
      nothing Zero number m there = absurd (none-some m there)
      nothing One number m there = absurd (none-some m there)

  -- a segment that is sent is one that was built, by the host that sends it, and duties know whether it is a mere
  -- acknowledgment
  pub record Sent (j : ℕ) (y : Stamped tcp_shape) (host : Host) (number : ℕ) : Type 0 where
    pub was : WasBuilt j host number
    pub made : Made Emission
    pub there : lookup (nat_eq number) (pick (known j).model.hosts host).made ≡ Some made
    pub content : made_by was.act.moment (known was.place).model was.act.step ≡ Some made.emission
    pub counts : counts_now (built_by (known j).duties (observe h y.moment (known j).model y.step).built_change) ≡ counts_by (known was.place) was.act

  pub sent_was_built : (j : ℕ) (y : Stamped tcp_shape) (host : Host) (number : ℕ) → j < n → acts j ≡ Some y → sends y.step ≡ Some (host, number)
      → Sent j y host number
  sent_was_built j y host number low is sending =
      let goes = run_goes h slack n acts known r j y low is in
      let sent = built_change_sends h y.moment (known j).model y.step host number goes.permitted sending in
      let old = all_in_time j (omega (arith, low)) host number sent.1.made sent.1.there in
      let b = old.waits sent.1.unsent in
      record {
        was = old.was;
        made = sent.1.made;
        there = sent.1.there;
        content = old.content;
        counts =
            ap (λ p. counts_now (built_by (known j).duties p)) sent.0
            ∙ ap counts_now b.1
            ∙ b.3;
      }

  -- a segment that is sent was built by the host that sends it, at most the slack before
  pub sent_in_time : (j : ℕ) (y : Stamped tcp_shape) (host : Host) (number : ℕ) → j < n → acts j ≡ Some y → sends y.step ≡ Some (host, number)
      → (b : WasBuilt j host number) × (y.moment ≤ b.act.moment + slack)
  sent_in_time j y host number low is sending =
      let goes = run_goes h slack n acts known r j y low is in
      let sent = built_change_sends h y.moment (known j).model y.step host number goes.permitted sending in
      let old = all_in_time j (omega (arith, low)) host number sent.1.made sent.1.there in
      let b = old.waits sent.1.unsent in
      let d = (known j).duties in
      let fine = goes.dutiful.1.1.1.0 in
      let due : is_late slack y.moment (option_map (λ (b : Built). b.since) (waiting number d.built)) ≡ false =
      sym (ap (λ p. sent_late slack y.moment (built_by d p)) sent.0) ∙ fine in (
        old.was,
        not_late slack old.was.act.moment y.moment (option_map (λ (b : Built). b.since) (waiting number d.built))
            (ap (option_map (λ (b : Built). b.since)) b.1 ∙ ap (λ (m : ℕ). Some m) b.2) due,
      )
