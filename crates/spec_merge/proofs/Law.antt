-- Two runs of one host each, merged, are a run of both.
use Rattle.std.proofs.Common.{◌≡◌, ℕ, suc, true, false, List, [], ◌∷◌, Option, Some, None, refl, sym, subst}
use Rattle.std.proofs.lemmas.Option.{none-some}
use Rattle.case_forms.specs.declared.calls.Host.{Host}
use Rattle.case_forms.specs.declared.calls.Host.TheVariants.{One, Zero}
use Rattle.spec_network.specs.Tables.{Both, lane, on, other, pick, with_host}
use Rattle.spec_network.specs.Hosts.{Answers, At, Begin, HostStep, Does, Drops, Effect, Expires, Finish, Gets, Hears, Kernel, Makes, Sends, Step, Takes, World}
use Rattle.spec_network.specs.HostSteps.{Lawful, after, start}
use Rattle.spec_merge.specs.Books.{Bring, Do, Entry, Item, Key, host_step_line, next, step_line}
use Rattle.spec_merge.specs.Merging.{Names, heads, line_turns, make_turns, names_of, restep_at, restep, steps_of, with_step}
use Rattle.spec_merge.specs.Keys.{If}
use Rattle.spec_merge.proofs.Joint.{Joint, LinesRise, count_on}
use Rattle.spec_merge.proofs.Counting.{nth_apart, nth_heads}
use Rattle.spec_merge.proofs.Rename.{Apt}
use Rattle.spec_merge.proofs.Halves.{HostHalf, hosts_bring, hosts_brought}
use Rattle.spec_merge.proofs.Stepped.{Half, idle_uncalled, stepped}

-- each host has its half
abbrev pub Halves : (k : Kernel) → Names → Both (World k.shape) → World k.shape → Both ℕ → ℕ → List (Option Host) → List (Option Host) → Type 0
Halves k names ws gw ls n lt mt = (h : Host) → Half k names h (other h) (pick ws h) (pick ws (other h)) gw (pick ls h) n lt mt

theirs_of : (k : Kernel) (names : Names) (ws : Both (World k.shape)) (gw : World k.shape) (ls : Both ℕ) (n : ℕ)
    (lt mt : List (Option Host)) → Halves k names ws gw ls n lt mt → (h : Host)
    → Half k names (other h) h (pick ws (other h)) (pick ws h) gw (pick ls (other h)) n lt mt
theirs_of k names ws gw ls n lt mt all Zero = all One
theirs_of k names ws gw ls n lt mt all One = all Zero

halves : (k : Kernel) (names : Names) (ws : Both (World k.shape)) (lw gw : World k.shape) (ls : Both ℕ) (ln n : ℕ) (lt mt : List (Option Host)) (h : Host)
    → Half k names h (other h) lw (pick ws (other h)) gw ln n lt mt → Half k names (other h) h (pick ws (other h)) lw gw (pick ls (other h)) n lt mt
    → Halves k names (with_host ws h lw) gw (with_host ls h ln) n lt mt
halves k names ws lw gw ls ln n lt mt Zero a b Zero = a
halves k names ws lw gw ls ln n lt mt Zero a b One = b
halves k names ws lw gw ls ln n lt mt One a b Zero = b
halves k names ws lw gw ls ln n lt mt One a b One = a

restep_at_line : (k : Kernel) (names : Names) (h : Host) (d : HostStep k.shape)
    → host_step_line k (restep_at k names h d) ≡ on (host_step_line k d) None (λ l. Some (names.line h l))
restep_at_line k names h (Does v) = refl
restep_at_line k names h (Expires line v) = refl
restep_at_line k names h (Makes v) = refl
restep_at_line k names h (Sends line number wire) = refl
restep_at_line k names h (Gets line copied wire) = refl
restep_at_line k names h (Hears line wire) = refl
restep_at_line k names h (Takes line how) = refl
restep_at_line k names h (Drops line) = refl
restep_at_line k names h (Answers line) = refl

restep_line : (k : Kernel) (names : Names) (h : Host) (step : Step k.shape)
    → step_line k (restep k names h step) ≡ on (step_line k step) None (λ l. Some (names.line h l))
restep_line k names h (Begin line t call) = refl
restep_line k names h (Finish line t answer) = refl
restep_line k names h (Effect t answer) = refl
restep_line k names h (At side d) = restep_at_line k names h d

line_rises : (P : ℕ → Type 0) (f : ℕ → ℕ) (n : ℕ) (o : Option ℕ) → ((l : ℕ) → o ≡ Some l → f l ≡ n)
    → P (on o n (λ l. suc n)) → If (on o None (λ l. Some (f l))) (P n) (λ line. (line ≡ n) × P (suc n))
line_rises P f n None is p = p
line_rises P f n (Some l) is p = (is l refl, p)

abbrev Outcome : (k : Kernel) → Names → World k.shape → ℕ → List (Entry k.shape) → Type 0
Outcome k names gw n zs = Lawful k gw (steps_of k names zs) × LinesRise k n (steps_of k names zs)

-- from halves on, the entries that are left are a run, whose lines are numbered on
pub merged : (k : Kernel) → ((n : ℕ) → k.given k.empty n ≡ false) → (names : Names) → Apt names
    → (ws : Both (World k.shape)) (gw : World k.shape) (ls : Both ℕ) (n : ℕ) (zs : List (Entry k.shape))
    → Joint k ws ls zs → Halves k names ws gw ls n (line_turns k zs) (make_turns k zs) → Lawful k gw (steps_of k names zs) × LinesRise k n (steps_of k names zs)
merged k none names apt ws gw ls n [] joint all = (tt, tt)
merged k none names apt ws gw ls n (x ∷ xs) joint all = go x.key x.item joint all (λ ws gw ls n. merged k none names apt ws gw ls n xs)
  where
    go : (key : Key) (item : Item k.shape) → Joint k ws ls (record { key = key; item = item } ∷ xs)
        → Halves k names ws gw ls n (line_turns k (record { key = key; item = item } ∷ xs))
        (make_turns k (record { key = key; item = item } ∷ xs))
        → ((ws : Both (World k.shape)) (gw : World k.shape) (ls : Both ℕ) (n : ℕ) → Joint k ws ls xs
        → Halves k names ws gw ls n (line_turns k xs) (make_turns k xs)
        → Lawful k gw (steps_of k names xs) × LinesRise k n (steps_of k names xs))
        → Lawful k gw (with_step k names key item (steps_of k names xs)) × LinesRise k n (with_step k names key item (steps_of k names xs))
    go key (Do step) joint all rest =
        let h = key.host in
        let lw = pick ws h in
        let done =
        stepped k none names apt h key.moment lw (pick ws (other h)) gw (pick ls h) (pick ls (other h)) n
        (line_turns k xs) (make_turns k xs) step (all h)
        (theirs_of k names ws gw ls n _ _ all h) joint.0 joint.1 joint.3 in
        let more =
        rest (with_host ws h (after k key.moment lw step)) (after k key.moment gw (restep k names h step))
        (with_host ls h (count_on k (Do step) (pick ls h))) (on (step_line k step) n (λ l. suc n)) joint.4
        (halves k names ws (after k key.moment lw step) (after k key.moment gw (restep k names h step)) ls
        (on (step_line k step) (pick ls h) (λ l. suc (pick ls h))) (on (step_line k step) n (λ l. suc n))
        (line_turns k xs) (make_turns k xs) h done.mine done.theirs) in (
          (done.may, more.0),
          subst (λ (o : Option ℕ). If o (LinesRise k n (steps_of k names xs))
              (λ line. (line ≡ n) × LinesRise k (suc n) (steps_of k names xs))) (sym (restep_line k names h step))
              (line_rises (λ m. LinesRise k m (steps_of k names xs)) (names.line h) n (step_line k step) done.line more.1),
        )
    go key (Bring f) joint all rest =
        let h = key.host in
        let lw = pick ws h in
        let m = all h in
        let t = theirs_of k names ws gw ls n _ _ all h in
        rest (with_host ws h (next k h lw (record { key = key; item = Bring f }))) gw (with_host ls h (pick ls h)) n joint.4
        (halves k names ws (next k h lw (record { key = key; item = Bring f })) gw ls (pick ls h) n (line_turns k xs) (make_turns k xs) h
        (record {
          hosts = hosts_bring k names h lw.hosts (pick ws (other h)).hosts gw.hosts
              (pick ls h) m.hosts f joint.2;
          threads = m.threads;
          lines = m.lines;
          made = m.made;
        })
        (record {
          hosts = hosts_brought k names h lw.hosts (pick ws (other h)).hosts gw.hosts
              (pick ls (other h)) t.hosts _;
          threads = t.threads;
          lines = t.lines;
          made = t.made;
        }))

-- from the start, with lines numbered from the first on
start_half : (k : Kernel) → ((n : ℕ) → k.given k.empty n ≡ false) → (first : ℕ) (zs : List (Entry k.shape)) (h : Host)
    → Half k (names_of k first zs) h (other h) (start k) (start k) (start k) first first (line_turns k zs)
    (make_turns k zs)
start_half k none first zs h = record {
  hosts = host h;
  threads = record { same = λ t is. refl; aims = λ t call is at. absurd (idle_uncalled k call at) };
  lines = nth_heads h first (line_turns k zs);
  made = nth_heads h 1 (make_turns k zs);
}
  where
    free : (h : Host) (n : ℕ) → k.given k.empty n ≡ true → lane n ≡ h
    free h n e = let f = none n in absurd (cc)

    host : (h : Host) → HostHalf k (names_of k first zs) h (other h) (start k).hosts (start k).hosts (start k).hosts first
    host Zero = record { host = refl; heard = λ tag e at. at; below = λ tag e at. absurd (none-some e at); lanes = free Zero; bare = refl }
    host One = record { host = refl; heard = λ tag e at. at; below = λ tag e at. absurd (none-some e at); lanes = free One; bare = refl }

-- the numbers of a list are apart
pub apt_of : (k : Kernel) (first : ℕ) (zs : List (Entry k.shape)) → Apt (names_of k first zs)
apt_of k first zs = record { line = λ h. nth_apart h (heads first (line_turns k zs)); made = λ h. nth_apart h (heads 1 (make_turns k zs)) }

abbrev pub starts : (k : Kernel) → Both (World k.shape)
starts k = record { zero = start k; one = start k }

abbrev pub firsts : ℕ → Both ℕ
firsts first = record { zero = first; one = first }

-- two runs told in one order are a run of both hosts, whose lines are numbered on from the first
pub law : (k : Kernel) → ((n : ℕ) → k.given k.empty n ≡ false) → (first : ℕ) (zs : List (Entry k.shape)) → Joint k (starts k) (firsts first) zs
    → Lawful k (start k) (steps_of k (names_of k first zs) zs) × LinesRise k first (steps_of k (names_of k first zs) zs)
law k none first zs joint = merged k none (names_of k first zs) (apt_of k first zs) (starts k) (start k) (firsts first) first zs joint all
  where
    all : Halves k (names_of k first zs) (starts k) (start k) (firsts first) first (line_turns k zs) (make_turns k zs)
    all Zero = start_half k none first zs Zero
    all One = start_half k none first zs One
