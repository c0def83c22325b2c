-- What entries say, told one by one, and counted one by one.
use Rattle.std.proofs.Common.{◌≡◌, ◌≤◌, ◌+◌, ℕ, Bool, true, false, List, [], ◌∷◌, ◌++◌, Option, Some, None, refl, sym, ap, ◌∙◌, append_assoc, arith}
use Rattle.case_forms.specs.declared.calls.Host.{Host}
use Rattle.case_forms.specs.declared.calls.Host.TheVariants.{Zero, One}
use Rattle.case_forms.specs.declared.taken_line.TakenLine.{TakenLine}
use Rattle.case_forms.specs.declared.taken_line.TakenLine.TheVariants as taken
use Rattle.case_forms.specs.declared.trace.Line.{Line}
use Rattle.case_forms.specs.declared.steps.Step as witness
use Rattle.spec_network.specs.Tables.{on}
use Rattle.spec_network.specs.Hosts.{Step}
use Rattle.spec_tcp.specs.Machine.{tcp_shape}
use Rattle.spec_tcp.specs.Steps.{line_step}
use Rattle.spec_merge.specs.Books.{Item, Do, Bring, Key}
use Rattle.spec_merge.specs.Merging.{Names}
use Rattle.spec_merge.specs.Recordings.{TcpEntry}
use Rattle.stack_core.specs.Entries.{item_steps, steps_in}
use Rattle.recorder.specs.Numbers.{Counts, IsSmall, IsSmallStep, Turns, counted_one, makes_segment, takes_line, with_turn_if}
use Rattle.recorder.specs.Saying.{all_renumbered, event_said, extras_said, label_said, line_said, lines_said, names as labelled, own_number}
use Rattle.recorder.specs.Saying.{renumbered, said, steps_said, thread_said, with_renumbered}

-- what is said of a line that a step takes, part by part
pub line_told : (names : Names) (host : Host) (moment : ℕ) (t : TakenLine)
    → line_said moment (renumbered names host (line_step t))
    ≡ Some (said (names.line host (own_number t)) moment (thread_said t) (event_said t))
line_told names host moment (taken.CallBegin line t call) = refl
line_told names host moment (taken.CallEnd line t answer) = refl
line_told names host moment (taken.Sent line at made wire) = refl
line_told names host moment (taken.Came line at copied wire) = refl
line_told names host moment (taken.Heard line at wire) = refl
line_told names host moment (taken.Expired line at ports e) = refl

pub label_told : (names : Names) (host : Host) (t : TakenLine)
    → label_said (renumbered names host (line_step t))
    ≡ labelled (names.line host (own_number t)) (extras_said names host t)
label_told names host (taken.CallBegin line t call) = refl
label_told names host (taken.CallEnd line t answer) = refl
label_told names host (taken.Sent line at made wire) = refl
label_told names host (taken.Came line at copied wire) = refl
label_told names host (taken.Heard line at wire) = refl
label_told names host (taken.Expired line at ports e) = refl

-- its number is small
pub small_line : (t : TakenLine) → IsSmallStep (line_step t) → IsSmall (own_number t)
small_line (taken.CallBegin line t call) small = small
small_line (taken.CallEnd line t answer) small = small
small_line (taken.Sent line at made wire) small = small.0
small_line (taken.Came line at copied wire) small = small.0
small_line (taken.Heard line at wire) small = small
small_line (taken.Expired line at ports e) small = small

line_front : (o : Option Line) (ls : List Line) → on o ls (λ l. l ∷ ls) ≡ on o [] (λ l. l ∷ []) ++ ls
line_front None ls = refl
line_front (Some l) ls = refl

lines_head : (names : Names) (e : TcpEntry) (es : List TcpEntry)
    → lines_said (all_renumbered names (e ∷ es))
    ≡ lines_said (all_renumbered names (e ∷ [])) ++ lines_said (all_renumbered names es)
lines_head names e es = go e.item
  where
    go : (item : Item tcp_shape)
        → lines_said (with_renumbered names e.key item (all_renumbered names es))
        ≡ lines_said (with_renumbered names e.key item []) ++ lines_said (all_renumbered names es)
    go (Do step) = line_front (line_said e.key.moment (renumbered names e.key.host step)) (lines_said (all_renumbered names es))
    go (Bring f) = refl

steps_head : (names : Names) (e : TcpEntry) (es : List TcpEntry)
    → steps_said (all_renumbered names (e ∷ es))
    ≡ steps_said (all_renumbered names (e ∷ [])) ++ steps_said (all_renumbered names es)
steps_head names e es = go e.item
  where
    go : (item : Item tcp_shape)
        → steps_said (with_renumbered names e.key item (all_renumbered names es))
        ≡ steps_said (with_renumbered names e.key item []) ++ steps_said (all_renumbered names es)
    go (Do step) = refl
    go (Bring f) = refl

pub lines_on : (names : Names) (whole told new : List Line) (e : TcpEntry) (left es : List TcpEntry)
    → told ++ lines_said (all_renumbered names left) ≡ whole → left ≡ e ∷ es
    → new ≡ told ++ lines_said (all_renumbered names (e ∷ []))
    → new ++ lines_said (all_renumbered names es) ≡ whole
lines_on names whole told new e left es was is longer =
    ap (λ (ls : List Line). ls ++ lines_said (all_renumbered names es)) longer
    ∙ append_assoc told (lines_said (all_renumbered names (e ∷ []))) (lines_said (all_renumbered names es))
    ∙ ap (λ (ls : List Line). told ++ ls) (sym (lines_head names e es))
    ∙ ap (λ (xs : List TcpEntry). told ++ lines_said (all_renumbered names xs)) (sym is)
    ∙ was

pub steps_on : (names : Names) (whole told new : List witness.Step) (e : TcpEntry) (left es : List TcpEntry)
    → told ++ steps_said (all_renumbered names left) ≡ whole → left ≡ e ∷ es
    → new ≡ told ++ steps_said (all_renumbered names (e ∷ []))
    → new ++ steps_said (all_renumbered names es) ≡ whole
steps_on names whole told new e left es was is longer =
    ap (λ (ls : List witness.Step). ls ++ steps_said (all_renumbered names es)) longer
    ∙ append_assoc told (steps_said (all_renumbered names (e ∷ []))) (steps_said (all_renumbered names es))
    ∙ ap (λ (ls : List witness.Step). told ++ ls) (sym (steps_head names e es))
    ∙ ap (λ (xs : List TcpEntry). told ++ steps_said (all_renumbered names xs)) (sym is)
    ∙ was

-- a step's line joins
pub line_joined : (names : Names) (x : TcpEntry) (key : Key) (step : Step tcp_shape) (o : Option Line)
    (old new : List Line) → key ≡ x.key → Do step ≡ x.item → o ≡ line_said key.moment (renumbered names key.host step)
    → new ≡ old ++ on o [] (λ l. l ∷ [])
    → new ≡ old ++ lines_said (all_renumbered names (x ∷ []))
line_joined names x key step o old new same is said joined =
    joined ∙ ap (λ (p : Option Line). old ++ on p [] (λ l. l ∷ [])) said
    ∙ ap (λ (k : Key). old ++ lines_said (with_renumbered names k (Do step) [])) same
    ∙ ap (λ (item : Item tcp_shape). old ++ lines_said (with_renumbered names x.key item [])) is

-- ---- counts

step_more : (item : Item tcp_shape) (n : ℕ) → item_steps item n ≡ item_steps item 0 + n
step_more (Do step) n = omega arith
step_more (Bring f) n = omega arith

-- a turn that is taken is of a step
taking_steps : (item : Item tcp_shape) → takes_line item ≡ true → item_steps item 0 ≡ 1
taking_steps (Do step) e = refl
taking_steps (Bring f) e = absurd cc

making_steps : (item : Item tcp_shape) → makes_segment item ≡ true → item_steps item 0 ≡ 1
making_steps (Do step) e = refl
making_steps (Bring f) e = absurd cc

turn_next : (b : Bool) (t : Turns) (host : Host) (n : ℕ) → (b ≡ true → n ≡ 1) → (with_turn_if b t host).next ≤ t.next + n
turn_next false t host n one = omega arith
turn_next true t Zero n one = let e = one refl in omega arith
turn_next true t One n one = let e = one refl in omega arith

-- one entry more was counted: there is room for what is left
pub lines_room : (c d : Counts) (e : TcpEntry) (left es : List TcpEntry) (most : ℕ) → left ≡ e ∷ es
    → d ≡ counted_one c e → c.lines.next + steps_in left ≤ most → d.lines.next + steps_in es ≤ most
lines_room c d e left es most is one room =
    let now = turn_next (takes_line e.item) c.lines e.key.host (item_steps e.item 0) (taking_steps e.item) in
    let there : d.lines.next ≡ (counted_one c e).lines.next = ap (λ (x : Counts). x.lines.next) one in
    let more = step_more e.item (steps_in es) in
    let all : steps_in left ≡ item_steps e.item (steps_in es) = ap steps_in is in
    omega (arith, now, there, more, all, room)

pub mades_room : (c d : Counts) (e : TcpEntry) (left es : List TcpEntry) (most : ℕ) → left ≡ e ∷ es
    → d ≡ counted_one c e → c.mades.next + steps_in left ≤ most → d.mades.next + steps_in es ≤ most
mades_room c d e left es most is one room =
    let now = turn_next (makes_segment e.item) c.mades e.key.host (item_steps e.item 0) (making_steps e.item) in
    let there : d.mades.next ≡ (counted_one c e).mades.next = ap (λ (x : Counts). x.mades.next) one in
    let more = step_more e.item (steps_in es) in
    let all : steps_in left ≡ item_steps e.item (steps_in es) = ap steps_in is in
    omega (arith, now, there, more, all, room)
