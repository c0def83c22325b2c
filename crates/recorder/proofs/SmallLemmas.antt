-- The numbers that the entries of a host's run name are small.
use Rattle.std.proofs.Common.{◌≡◌, ℕ, ◌+◌, ◌-◌, ◌<◌, ◌≤◌, inl, inr, zero, suc, if◌then◌else◌, Bool, true, false, cond}
use Rattle.std.proofs.Common.{List, [], ◌∷◌, length, refl, sym, ◌∙◌, subst, arith, Option, Some, None}
use Rattle.std.specs.Prelude.{nat_eq, slice_get}
use Rattle.std.specs.Map.{lookup}
use Rattle.std.proofs.lemmas.Bool.Decides.{nat_tests}
use Rattle.std.proofs.lemmas.Option.{none-some, same_Some}
use Rattle.indexmap.specs.IndexMap.{insert_entry}
use Rattle.case_forms.specs.declared.calls.Host.{Host}
use Rattle.case_forms.specs.declared.calls.Host.TheVariants.{Zero, One}
use Rattle.case_forms.specs.declared.calls.Answer.{Answer}
use Rattle.case_forms.specs.declared.trace.Header.{Header}
use Rattle.verdict.specs.declared.rule.Rule.{Rule}
use Rattle.verdict.specs.declared.rule.Rule.TheVariants as rules
use Rattle.verdict.specs.Rules.{first_broken}
use Rattle.spec_network.specs.Tables.{Both, gone_out, on, other, pick, unsent, waiting, with_host}
use Rattle.spec_network.specs.Hosts.{HostStep, Does, Expires, Makes, Sends, Gets, Hears, Takes, Drops, Answers, Begin}
use Rattle.spec_network.specs.Hosts.{Finish, Effect, At, HostState, World, Turn, Idle, Called, Answered, turn_of}
use Rattle.spec_network.specs.HostRules.{Permitted, aim_of, host_step_rules, just}
use Rattle.spec_network.specs.HostSteps.{act_made, call_after, host_step_after, effect_after, makes, start}
use Rattle.spec_network.proofs.Entries.{lookup_insert}
use Rattle.spec_tcp.specs.declared.endpoint.Emission.{Emission}
use Rattle.spec_tcp.specs.Machine.{tcp, tcp_shape}
use Rattle.spec_tcp.specs.HostTcp.{HostTcp}
use Rattle.spec_merge.specs.Books.{Item, Do, Bring, FitsItem, Flying, HostRun, bring, host_step_line, item_line, next, next_item}
use Rattle.spec_merge.specs.Keys.{Numbered}
use Rattle.spec_merge.specs.Recordings.{IsKept, TcpEntry}
use Rattle.spec_merge.proofs.Rename.{on_passes}
use Rattle.stack_core.specs.Entries.{item_steps, steps_in}
use Rattle.recorder.specs.Naming.{AllNamed, NamedItem, line_keys}
use Rattle.recorder.specs.Numbers.{AllSmall, IsSmall, IsSmallHostStep, IsSmallItem, takes_line}
use Rattle.recorder.proofs.JoinLemmas.{Front, front}

-- ---- tables whose numbers are small

abbrev AreSmall : {X : Type 0} → List (ℕ × X) → Type 0
AreSmall {X} table = (m : ℕ) (e : X) → lookup (nat_eq m) table ≡ Some e → IsSmall m

small_insert : {X : Type 0} (table : List (ℕ × X)) (n : ℕ) (v : X) → AreSmall table → IsSmall n → AreSmall (insert_entry nat_eq table n v)
small_insert {X} table n v small own m e at = go (nat_eq m n) refl (sym (lookup_insert m n v table) ∙ at)
  where
    go : (b : Bool) → nat_eq m n ≡ b → cond b (Some v) (lookup (nat_eq m) table) ≡ Some e → IsSmall m
    go true is at = let same : m ≡ n = grind (arith, nat_tests, is) in omega (arith, own, same)
    go false is at = small m e at

-- a table in which an entry is changed that is there, or that is new and small
small_changed : {X Y : Type 0} (table : List (ℕ × X)) (n : ℕ) (o : Option Y) (f : Y → X) → AreSmall table
    → ((y : Y) → o ≡ Some y → IsSmall n) → AreSmall (on o table (λ y. insert_entry nat_eq table n (f y)))
small_changed table n None f small own = small
small_changed table n (Some y) f small own = small_insert table n (f y) small (own y refl)

there : {X : Type 0} (n : ℕ) (inbox : List (ℕ × Option X)) (e : X) → AreSmall inbox → waiting n inbox ≡ Some e → IsSmall n
there {X} n inbox e small at = go (lookup (nat_eq n) inbox) refl at
  where
    go : (o : Option (Option X)) → lookup (nat_eq n) inbox ≡ o → on o None (λ x. x) ≡ Some e → IsSmall n
    go None is at = absurd (none-some e at)
    go (Some x) is at = small n x is

-- ---- one host

-- the tables of a host and the wire of the other have small numbers
record IsBounded (s : HostState tcp_shape) (far : List (ℕ × Emission)) : Type 0 where
  made : AreSmall s.made
  inbox : AreSmall s.inbox
  heard : AreSmall far

-- what a host's step names, and what is there then
record Keeps (s : HostState tcp_shape) (far : List (ℕ × Emission)) (d : HostStep tcp_shape) : Type 0 where
  small : IsSmallHostStep d
  bounded : IsBounded s far

module _ (h : Header) (me : Host) (moment fresh : ℕ) (far : List (ℕ × Emission)) (s : HostState tcp_shape) (b : IsBounded s far) where
  abbrev done : HostStep tcp_shape → HostState tcp_shape
  done d = host_step_after (tcp h) me moment fresh far s d

  abbrev May : HostStep tcp_shape → Type 0
  May d = first_broken (host_step_rules (tcp h) me moment far s d) ≡ None

  -- what waits under a line that may be taken, dropped or answered
  waits : (n : ℕ) (f : Emission → List (Rule × Bool)) → first_broken (on (waiting n s.inbox) (just rules.Inbox true) f) ≡ None → IsSmall n
  waits n f may = let w = on_passes (waiting n s.inbox) rules.Inbox f may in there n s.inbox w.0 b.inbox w.1

  host_step_keeps : (d : HostStep tcp_shape) → May d → ((makes (tcp h) d ≡ true) → IsSmall fresh) → IsSmallHostStep d → Keeps (done d) far d
  host_step_keeps (Does x) may new small = record { small = small; bounded = record { made = b.made; inbox = b.inbox; heard = b.heard } }
  host_step_keeps (Expires line x) may new small = record { small = small; bounded = record { made = b.made; inbox = b.inbox; heard = b.heard } }
  host_step_keeps (Makes plan) may new small = record {
    small = small;
    bounded = record { made = small_changed s.made fresh _ unsent b.made (λ y is. new refl); inbox = b.inbox; heard = b.heard };
  }
  host_step_keeps (Sends line number wire) may new small = record {
    small = small;
    bounded =
        record {
          made = small_changed s.made number (lookup (nat_eq number) s.made) gone_out b.made
              (λ y is. b.made number y is);
          inbox = b.inbox;
          heard = b.heard;
        };
  }
  host_step_keeps (Gets line copied wire) may new small = record {
    small = small;
    bounded =
        record {
          made = b.made;
          inbox =
              small_changed s.inbox line (lookup (nat_eq copied) far) (λ e. Some e) b.inbox (λ y is. small.0);
          heard = b.heard;
        };
  }
  host_step_keeps (Hears line wire) may new small = record {
    small = small;
    bounded = record { made = b.made; inbox = small_insert s.inbox line (Some ((tcp h).heard moment wire)) b.inbox small; heard = b.heard };
  }
  host_step_keeps (Takes line choice) may new small = record {
    small = small;
    bounded = record { made = b.made; inbox = small_changed s.inbox line (waiting line s.inbox) (λ e. None) b.inbox (λ y is. small); heard = b.heard };
  }
  host_step_keeps (Drops line) may new small = record {
    small = small;
    bounded = record { made = b.made; inbox = small_changed s.inbox line (waiting line s.inbox) (λ e. None) b.inbox (λ y is. small); heard = b.heard };
  }
  host_step_keeps (Answers line) may new small = record {
    small = small;
    bounded =
        record {
          made = answered (waiting line s.inbox);
          inbox = small_changed s.inbox line (waiting line s.inbox) (λ e. None) b.inbox (λ y is. small);
          heard = b.heard;
        };
  }
    where
      answered : (o : Option Emission) → AreSmall (on o s.made (λ e. act_made (tcp h) me moment fresh s ((tcp h).answers e)))
      answered None = b.made
      answered (Some e) = small_changed s.made fresh ((tcp h).act_makes me moment s.body ((tcp h).answers e)) unsent b.made (λ y is. new refl)

  -- the numbers that a permitted step of a host names
  host_step_small : (d : HostStep tcp_shape) → May d → ((line : ℕ) → host_step_line (tcp h) d ≡ Some line → IsSmall line) → IsSmallHostStep d
  host_step_small (Does x) may own = tt
  host_step_small (Expires line x) may own = own line refl
  host_step_small (Makes plan) may own = tt
  host_step_small (Sends line number wire) may own = let w =
      on_passes (lookup (nat_eq number) s.made) rules.NotMade _ may in (own line refl, b.made number w.0 w.1)
  host_step_small (Gets line copied wire) may own = let w =
      on_passes (lookup (nat_eq copied) far) rules.NoEmission _ may in (own line refl, b.heard copied w.0 w.1)
  host_step_small (Hears line wire) may own = own line refl
  host_step_small (Takes line choice) may own = waits line _ may
  host_step_small (Drops line) may own = waits line _ may
  host_step_small (Answers line) may own = waits line _ may

-- ---- the world of a host alone

abbrev IsBoundedAt : Host → Both (HostState tcp_shape) → Type 0
IsBoundedAt me hosts = IsBounded (pick hosts me) (pick hosts (other me)).wire

host_step_at : (me : Host) (hosts : Both (HostState tcp_shape)) (s : HostState tcp_shape)
    → IsBounded s (pick hosts (other me)).wire → IsBoundedAt me (with_host hosts me s)
host_step_at Zero hosts s b = b
host_step_at One hosts s b = b

body_at : (me host : Host) (hosts : Both (HostState tcp_shape)) (body : HostTcp) → IsBoundedAt me hosts
    → IsBoundedAt me (with_host hosts host (record (pick hosts host) { body = body }))
body_at Zero Zero hosts body b = record { made = b.made; inbox = b.inbox; heard = b.heard }
body_at Zero One hosts body b = record { made = b.made; inbox = b.inbox; heard = b.heard }
body_at One Zero hosts body b = record { made = b.made; inbox = b.inbox; heard = b.heard }
body_at One One hosts body b = record { made = b.made; inbox = b.inbox; heard = b.heard }

call_at : (h : Header) (me : Host) (moment : ℕ) (hosts : Both (HostState tcp_shape)) (act : _) (host : Option Host)
    → IsBoundedAt me hosts → IsBoundedAt me (call_after (tcp h) moment hosts act host)
call_at h me moment hosts act None b = b
call_at h me moment hosts act (Some host) b = body_at me host hosts _ b

effect_at : (h : Header) (me : Host) (moment : ℕ) (w : World tcp_shape) (t : ℕ) (answer : Answer) (u : Turn tcp_shape)
    → IsBoundedAt me w.hosts → IsBoundedAt me (effect_after (tcp h) moment w t answer u).hosts
effect_at h me moment w t answer Idle b = b
effect_at h me moment w t answer (Called call) b = call_at h me moment w.hosts ((tcp h).calls call answer) (aim_of (tcp h) w.hosts ((tcp h).aim call)) b
effect_at h me moment w t answer (Answered given) b = b

effect_count : (h : Header) (moment : ℕ) (w : World tcp_shape) (t : ℕ) (answer : Answer) (u : Turn tcp_shape)
    → (effect_after (tcp h) moment w t answer u).count ≡ w.count
effect_count h moment w t answer Idle = refl
effect_count h moment w t answer (Called call) = refl
effect_count h moment w t answer (Answered given) = refl

bring_at : (me : Host) (w : World tcp_shape) (h : Header) (f : Flying tcp_shape) → IsSmall f.line
    → IsBoundedAt me w.hosts → IsBoundedAt me (bring (tcp h) (other me) f w).hosts
bring_at Zero w h f small b = record { made = b.made; inbox = b.inbox; heard = small_insert (pick w.hosts One).wire f.line f.emission b.heard small }
bring_at One w h f small b = record { made = b.made; inbox = b.inbox; heard = small_insert (pick w.hosts Zero).wire f.line f.emission b.heard small }

-- one entry of a host's run
record Goes (me : Host) (item : Item tcp_shape) (v : World tcp_shape) (most : ℕ) : Type 0 where
  small : IsSmallItem item
  bounded : IsBoundedAt me v.hosts
  count : v.count ≤ most

if_more : (b : Bool) (n : ℕ) → (if b then suc n else n) ≤ suc n
if_more true n = omega arith
if_more false n = omega arith

abbrev IsBroughtSmall : Item tcp_shape → Type 0
IsBroughtSmall (Do step) = Unit {0}
IsBroughtSmall (Bring f) = IsSmall f.line

goes : (h : Header) (me : Host) (moment : ℕ) (w : World tcp_shape) (item : Item tcp_shape) → IsBoundedAt me w.hosts
    → FitsItem (tcp h) me moment w item → ((line : ℕ) → item_line (tcp h) item ≡ Some line → IsSmall line)
    → IsSmall (w.count + item_steps item 0) → IsBroughtSmall item
    → Goes me item (next_item (tcp h) me moment w item) (w.count + item_steps item 0)
goes h me moment w (Bring f) b fits own new brought = record { small = tt; bounded = bring_at me w h f brought b; count = omega arith }
goes h me moment w (Do (Begin line t call)) b fits own new brought = record { small = own line refl; bounded = b; count = omega arith }
goes h me moment w (Do (Finish line t answer)) b fits own new brought = record { small = own line refl; bounded = b; count = omega arith }
goes h me moment w (Do (Effect t answer)) b fits own new brought = record {
  small = tt;
  bounded = effect_at h me moment w t answer (turn_of t w.threads) b;
  count = let same = effect_count h moment w t answer (turn_of t w.threads) in omega (arith, same);
}
goes h me moment w (Do (At host d)) b fits own new brought =
    subst (λ (g : Host). Goes me (Do (At g d)) (next_item (tcp h) me moment w (Do (At g d))) (w.count + 1)) (sym fits.1)
    (let may = subst (λ (g : Host). Permitted (tcp h) moment w (At g d)) fits.1 fits.0 in
    let fresh : IsSmall (suc w.count) = omega (arith, new) in
    let named = host_step_small h me moment (suc w.count) (pick w.hosts (other me)).wire (pick w.hosts me) b d may own in
    let kept = host_step_keeps h me moment (suc w.count) (pick w.hosts (other me)).wire (pick w.hosts me) b d may (λ is. fresh) named in
    record { small = named; bounded = host_step_at me w.hosts _ kept.bounded; count = let le = if_more (makes (tcp h) d) w.count in omega (arith, le) })

abbrev AllBroughtSmall : List TcpEntry → Type 0
AllBroughtSmall [] = Unit {0}
AllBroughtSmall (x ∷ xs) = IsBroughtSmall x.item × AllBroughtSmall xs

step_more : (item : Item tcp_shape) (n : ℕ) → item_steps item n ≡ item_steps item 0 + n
step_more (Do step) n = omega arith
step_more (Bring f) n = omega arith

line_counts : (item : Item tcp_shape) → takes_line item ≡ true → item_steps item 0 ≡ 1
line_counts (Do step) e = refl
line_counts (Bring f) e = absurd cc

run_small : (h : Header) (me : Host) (w : World tcp_shape) (n : ℕ) (es : List TcpEntry) → HostRun (tcp h) me w es
    → Numbered (tcp h) n es → n + steps_in es ≤ 2147483647 → w.count + steps_in es ≤ 2147483647 → AllBroughtSmall es
    → IsBoundedAt me w.hosts → AllSmall es
run_small h me w n [] run num lines mades brought b = tt
run_small h me w n (x ∷ xs) run num lines mades brought b =
    go (front h n x xs num) (λ m num le small count.
    run_small h me (next (tcp h) me w x) m xs run.2 num le count brought.1 small)
  where
    more : steps_in (x ∷ xs) ≡ item_steps x.item 0 + steps_in xs
    more = step_more x.item (steps_in xs)

    v : World tcp_shape
    v = next (tcp h) me w x

    one : ((line : ℕ) → item_line (tcp h) x.item ≡ Some line → IsSmall line) → Goes me x.item v (w.count + item_steps x.item 0)
    one own = goes h me x.key.moment w x.item b run.0 own (omega (arith, mades, more)) brought.0

    rest : (m : ℕ) → Numbered (tcp h) m xs → m + steps_in xs ≤ 2147483647 → ((line : ℕ) → item_line (tcp h) x.item ≡ Some line → IsSmall line)
        → ((m : ℕ) → Numbered (tcp h) m xs → m + steps_in xs ≤ 2147483647 → IsBoundedAt me v.hosts
        → v.count + steps_in xs ≤ 2147483647 → AllSmall xs) → AllSmall (x ∷ xs)
    rest m num le own others = let g = one own in let count = g.count in (g.small, others m num le g.bounded (omega (arith, mades, more, count)))

    go : Front h n x xs
        → ((m : ℕ) → Numbered (tcp h) m xs → m + steps_in xs ≤ 2147483647 → IsBoundedAt me v.hosts
        → v.count + steps_in xs ≤ 2147483647 → AllSmall xs) → AllSmall (x ∷ xs)
    go (inl f) others = rest n f.2 (omega (arith, lines, more)) (λ line is. absurd (none-some line (sym f.1 ∙ is))) others
    go (inr f) others =
        let one = line_counts x.item f.0 in
        rest (suc n) f.2 (omega (arith, lines, more, one))
        (λ line is. let same : n ≡ line = same_Some n line (sym f.1 ∙ is) in omega (arith, lines, same)) others

-- ---- two recordings

keys_few : (ys : List TcpEntry) → length (line_keys ys) ≤ steps_in ys
keys_few [] = omega arith
keys_few (y ∷ ys) = go (takes_line y.item) refl (keys_few ys) (step_more y.item (steps_in ys))
  where
    go : (t : Bool) → takes_line y.item ≡ t → length (line_keys ys) ≤ steps_in ys
        → steps_in (y ∷ ys) ≡ item_steps y.item 0 + steps_in ys
        → length (if t then y.key ∷ line_keys ys else line_keys ys) ≤ steps_in (y ∷ ys)
    go true is le more = let one = line_counts y.item is in omega (arith, le, more, one)
    go false is le more = omega (arith, le, more)

inside : {X : Type 0} (xs : List X) (i : ℕ) (x : X) → slice_get xs i ≡ Some x → i < length xs
inside [] i x at = absurd (none-some x at)
inside (y ∷ xs) zero x at = omega arith
inside (y ∷ xs) (suc i) x at = let lt = inside xs i x at in omega (arith, lt)

named_small : (first : ℕ) (ys : List TcpEntry) (wire : List (ℕ × Emission)) → first + steps_in ys ≤ 2147483647
    → (xs : List TcpEntry) → AllNamed first (line_keys ys) wire xs → AllBroughtSmall xs
named_small first ys wire le [] named = tt
named_small first ys wire le (x ∷ xs) named = (go x.item named.0, named_small first ys wire le xs named.1)
  where
    go : (item : Item tcp_shape) → NamedItem first (line_keys ys) wire item → IsBroughtSmall item
    go (Do step) n = tt
    go (Bring f) n = let lt = inside (line_keys ys) (f.line - first) f.key n.key in let few = keys_few ys in
        let from = n.event in omega (arith, lt, few, le, from)

nothing_small : {X : Type 0} (m : ℕ) (e : X) → lookup (nat_eq m) [] ≡ Some e → IsSmall m
nothing_small m e at = absurd (none-some e at)

at_start : (h : Header) (me : Host) → IsBoundedAt me (start (tcp h)).hosts
at_start h Zero = record { made = nothing_small; inbox = nothing_small; heard = nothing_small }
at_start h One = record { made = nothing_small; inbox = nothing_small; heard = nothing_small }

pub kept_small : (h : Header) (me : Host) (first other : ℕ) (xs ys : List TcpEntry) (wire : List (ℕ × Emission))
    → IsKept h me first xs → first + steps_in xs ≤ 2147483647 → other + steps_in ys ≤ 2147483647
    → AllNamed other (line_keys ys) wire xs → AllSmall xs
kept_small h me first other xs ys wire kept mine others named =
    run_small h me (start (tcp h)) first xs kept.runs kept.numbered mine (omega (arith, mine)) (named_small other ys wire others xs named) (at_start h me)
