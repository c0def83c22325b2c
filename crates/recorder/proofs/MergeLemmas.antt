-- What two recordings tell, merged.
use Rattle.std.proofs.Common.{None, ◌≡◌, ℕ, ◌+◌, ◌≤◌, false, List, [], ◌∷◌, map, refl, sym, ap, ◌∙◌, subst, arith}
use Rattle.case_forms.specs.declared.calls.Host.{Host}
use Rattle.case_forms.specs.declared.calls.Host.TheVariants.{Zero, One}
use Rattle.case_forms.specs.declared.trace.Header.{Header}
use Rattle.case_forms.specs.declared.trace.Line.{Line}
use Rattle.case_forms.specs.declared.trace.Trace.{Trace}
use Rattle.case_forms.specs.declared.steps.Step as witness
use Rattle.case_forms.specs.declared.steps.Witness.{Witness}
use Rattle.case_forms.specs.declared.version.Version.{Version}
use Rattle.case_forms.specs.declared.version.Version.TheVariants as versions
use Rattle.case_forms.specs.Traces.{first_event_line, IsRecorded}
use Rattle.case_forms.specs.Versions.{first_line_of, is_half}
use Rattle.spec_network.specs.Hosts.{Step, Does, Expires, Makes, Sends, Gets, Hears, Takes, Drops, Answers, Begin, Finish, Effect, At, Stamped}
use Rattle.spec_network.specs.HostSteps.{start}
use Rattle.spec_network.specs.Tables.{on, pick}
use Rattle.spec_tcp.specs.Machine.{tcp, tcp_shape}
use Rattle.spec_merge.specs.Keys as keys
use Rattle.spec_merge.specs.Keys.{Books}
use Rattle.spec_merge.specs.Merging.{Names, names_of, steps_of}
use Rattle.spec_merge.specs.Placing.{MomentsRise}
use Rattle.spec_merge.specs.Recordings.{IsKept, NamesSent, TcpEntry, merged, world_of}
use Rattle.spec_merge.proofs.Joint.{LinesRise}
use Rattle.spec_merge.proofs.Law.{law}
use Rattle.spec_merge.proofs.Merged.{is_placed_run}
use Rattle.spec_merge.proofs.Order.{told}
use Rattle.spec_flights.specs.Flights.{judges}
use Rattle.stack_core.specs.Entries.{steps_in}
use Rattle.stack_core.specs.Recordings.{Recorded}
use Rattle.recorder.specs.Faults.{NamesAll}
use Rattle.recorder.specs.Naming.{AllAbove, AllNamed, line_keys}
use Rattle.recorder.specs.Numbers.{AllSmall, counted, names_in, no_counts}
use Rattle.recorder.specs.Order.{in_order}
use Rattle.recorder.specs.Saying.{all_renumbered, line_said, lines_said, steps_said}
use Rattle.checker.specs.Seen.{stamped}
use Rattle.recorder.specs.Told.{AllOwnThreads, AllTakeWell, Tells, line_told}
use Rattle.recorder.proofs.JoinLemmas.{named_sent, small_merged}
use Rattle.recorder.proofs.OrderLemmas.{names_are, order_is, steps_are}
use Rattle.recorder.proofs.SayLemmas.{AllWhole, lines_are, recorded_in, run_whole, told_from}
use Rattle.recorder.proofs.SmallLemmas.{kept_small}

-- two recordings, of host 0 and of host 1, with one header, each of which brought what the other let out
pub record AreBeside (a b : Recorded) : Type 0 where
  pub zero : a.me ≡ Zero
  pub one : b.me ≡ One
  pub headers : a.header ≡ b.header
  pub kept_zero : IsKept a.header a.me (first_event_line a.header) a.entries
  pub kept_one : IsKept b.header b.me (first_event_line b.header) b.entries
  pub few : steps_in a.entries + steps_in b.entries ≤ 100000000
  pub above_zero : AllAbove a.entries
  pub above_one : AllAbove b.entries
  pub named_zero : NamesAll a b
  pub named_one : NamesAll b a

pub beside : (a b : Recorded) → (a.me ≡ Zero) × (b.me ≡ One) → a.header ≡ b.header
    → IsKept a.header a.me (first_event_line a.header) a.entries
    → IsKept b.header b.me (first_event_line b.header) b.entries
    → steps_in a.entries + steps_in b.entries ≤ 100000000 → AllAbove a.entries × AllAbove b.entries → NamesAll a b → NamesAll b a → AreBeside a b
beside a b hosts headers zero one few above p q = record {
  zero = hosts.0;
  one = hosts.1;
  headers = headers;
  kept_zero = zero;
  kept_one = one;
  few = few;
  above_zero = above.0;
  above_one = above.1;
  named_zero = p;
  named_one = q;
}

first_small : (v : Version) → first_line_of v ≤ 100
first_small versions.One = omega arith
first_small versions.Two = omega arith
first_small versions.Three = omega arith
first_small versions.Four = omega arith
first_small versions.FourHalf = omega arith
first_small versions.Five = omega arith
first_small versions.FiveHalf = omega arith
first_small versions.Six = omega arith
first_small versions.SixHalf = omega arith

pub beside_small : (a b : Recorded) → AreBeside a b → AllSmall (in_order a.entries b.entries)
beside_small a b x =
    let few = x.few in
    let first = first_small a.header.version in
    let second = first_small b.header.version in
    small_merged a.entries b.entries
    (kept_small a.header a.me (first_event_line a.header) (first_event_line b.header) a.entries b.entries _ x.kept_zero
    (omega (arith, few, first)) (omega (arith, few, second)) x.named_zero)
    (kept_small b.header b.me (first_event_line b.header) (first_event_line a.header) b.entries a.entries _ x.kept_one
    (omega (arith, few, second)) (omega (arith, few, first)) x.named_one)

-- ---- two books

abbrev pub Finished : Type 0
Finished = (h : Header) (first : ℕ) (zeros ones : List TcpEntry) → IsKept h Zero first zeros → IsKept h One first ones
    → NamesSent h One zeros ones → NamesSent h Zero ones zeros → Books (tcp h) first zeros ones

-- what a host's recording names, where the other's is of this host and has this header
names_at : (h : Header) (o : Host) (mine others : Recorded) → others.header ≡ h → others.me ≡ o → NamesAll mine others
    → AllNamed (first_event_line h) (line_keys others.entries)
    (pick (world_of h o others.entries).hosts o).wire mine.entries
names_at h o mine others header me named =
    subst (λ (g : Header). AllNamed (first_event_line g) (line_keys others.entries) (pick (world_of g o others.entries).hosts o).wire mine.entries) header
    (subst (λ (m : Host). AllNamed (first_event_line others.header) (line_keys others.entries)
    (pick (world_of others.header m others.entries).hosts m).wire mine.entries) me named)

kept_at : (h : Header) (o : Host) (r : Recorded) → r.header ≡ h → r.me ≡ o
    → IsKept r.header r.me (first_event_line r.header) r.entries → IsKept h o (first_event_line h) r.entries
kept_at h o r header me kept =
    subst (λ (g : Header). IsKept g o (first_event_line g) r.entries) header
    (subst (λ (m : Host). IsKept r.header m (first_event_line r.header) r.entries) me kept)

pub beside_books : Finished → (a b : Recorded) → AreBeside a b → Books (tcp a.header) (first_event_line a.header) a.entries b.entries
beside_books finished a b x =
    let h = a.header in
    let zero = kept_at a.header Zero a refl x.zero x.kept_zero in
    let one = kept_at a.header One b (sym x.headers) x.one x.kept_one in
    finished a.header (first_event_line a.header) a.entries b.entries zero one
    (named_sent a.header One (first_event_line a.header) b.entries one.numbered a.entries x.above_zero
    (names_at a.header One a b (sym x.headers) x.one x.named_zero))
    (named_sent a.header Zero (first_event_line a.header) a.entries zero.numbered b.entries x.above_one (names_at a.header Zero b a refl x.zero x.named_one))

-- ---- what is told

abbrev pub new_names : Header → List TcpEntry → Names
new_names h es = names_in (counted (no_counts (first_event_line h)) es)

merged_is : (h : Header) (zs os : List TcpEntry) → all_renumbered (new_names h (in_order zs os)) (in_order zs os) ≡ merged h (first_event_line h) zs os
merged_is h zs os =
    ap (λ (n : Names). all_renumbered n (in_order zs os)) (names_are h (first_event_line h) (in_order zs os))
    ∙ steps_are h (names_of (tcp h) (first_event_line h) (in_order zs os)) (in_order zs os)
    ∙ ap (λ (xs : List TcpEntry). steps_of (tcp h) (names_of (tcp h) (first_event_line h) xs) xs) (order_is h zs os)

told_by : (t : Trace) (w : Witness) (zs os : List TcpEntry) → is_half t.header.version ≡ false → t.header.slack ≡ None
    → judges t.header ≡ false → w.version ≡ t.header.version
    → t.lines ≡ lines_said (all_renumbered (new_names t.header (in_order zs os)) (in_order zs os))
    → w.steps ≡ steps_said (all_renumbered (new_names t.header (in_order zs os)) (in_order zs os))
    → Books (tcp t.header) (first_event_line t.header) zs os
    → Tells t w (merged t.header (first_event_line t.header) zs os)
told_by t w zs os both any unjudged version lines_is steps_is books =
    let h = t.header in
    let first = first_event_line t.header in
    let xs = merged t.header (first_event_line t.header) zs os in
    let are = merged_is t.header zs os in
    let rise : LinesRise (tcp h) first xs =
    (law (tcp h) (λ n. refl) first (keys.merge (tcp h) zs os)
    (told (tcp h) zs os (start (tcp h)) (start (tcp h)) first first books.0 books.1)).1 in
    let placed = is_placed_run (tcp h) (λ n. refl) h.skew first zs os books in
    let moments : MomentsRise (tcp h) 0 xs = placed.0.moments in
    let whole : AllWhole xs = run_whole h both (start (tcp h)) xs placed.1 in
    let lines_eq : t.lines ≡ lines_said xs = lines_is ∙ ap lines_said are in
    let steps_eq : w.steps ≡ steps_said xs = steps_is ∙ ap steps_said are in
    let from = told_from h both (lines_said xs) first xs whole rise (λ m line at. at) in
    record {
      trace = subst (λ (ls : List Line). IsRecorded first 0 ls) (sym lines_eq) (recorded_in h both first 0 xs whole rise moments);
      version = sym version;
      takes =
          subst (λ (ls : List Line). AllTakeWell h ls w.steps) (sym lines_eq)
          (subst (λ (ss : List witness.Step). AllTakeWell h (lines_said xs) ss) (sym steps_eq) from.1);
      slack = any;
      judged = unjudged;
      steps_are = ap (λ (ls : List Line). stamped h ls w.steps) lines_eq ∙ ap (λ (ss : List witness.Step). stamped h (lines_said xs) ss) steps_eq ∙ from.0;
      lines_are = ap (map line_told) lines_eq ∙ lines_are h both xs whole;
    }

-- the same for a trace that has this header
pub told_as : (h : Header) (t : Trace) (w : Witness) (zs os : List TcpEntry) → is_half h.version ≡ false → h.slack ≡ None
    → judges h ≡ false → t.header ≡ h → w.version ≡ h.version
    → t.lines ≡ lines_said (all_renumbered (new_names h (in_order zs os)) (in_order zs os))
    → w.steps ≡ steps_said (all_renumbered (new_names h (in_order zs os)) (in_order zs os))
    → Books (tcp h) (first_event_line h) zs os
    → Tells t w (merged h (first_event_line h) zs os)
told_as h t w zs os both any unjudged is version lines_is steps_is books =
    subst (λ (g : Header). Tells t w (merged g (first_event_line g) zs os)) is
    (told_by t w zs os (ap (λ (g : Header). is_half g.version) is ∙ both) (ap (λ (g : Header). g.slack) is ∙ any) (ap judges is ∙ unjudged)
    (version ∙ ap (λ (g : Header). g.version) (sym is))
    (lines_is ∙ ap (λ (g : Header). lines_said (all_renumbered (new_names g (in_order zs os)) (in_order zs os))) (sym is))
    (steps_is ∙ ap (λ (g : Header). steps_said (all_renumbered (new_names g (in_order zs os)) (in_order zs os))) (sym is))
    (subst (λ (g : Header). Books (tcp g) (first_event_line g) zs os) (sym is) books))

-- ---- the threads of what is told

pub own_threads : (xs : List (Stamped tcp_shape)) → AllOwnThreads (lines_said xs)
own_threads [] = tt
own_threads (x ∷ xs) = go x.step (own_threads xs)
  where
    go : (s : Step tcp_shape) → AllOwnThreads (lines_said xs) → AllOwnThreads (on (line_said x.moment s) (lines_said xs) (λ line. line ∷ lines_said xs))
    go (Begin line t call) more = (tt, more)
    go (Finish line t answer) more = (tt, more)
    go (Effect t answer) more = more
    go (At host (Expires line y)) more = (refl, more)
    go (At host (Sends line number wire)) more = (refl, more)
    go (At host (Gets line copied wire)) more = (refl, more)
    go (At host (Hears line wire)) more = (refl, more)
    go (At host (Does y)) more = more
    go (At host (Makes plan)) more = more
    go (At host (Takes line choice)) more = more
    go (At host (Drops line)) more = more
    go (At host (Answers line)) more = more
