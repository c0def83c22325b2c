-- The order of entries and their new numbers are those of the definitions.
use Rattle.std.proofs.Common.{◌≡◌, ℕ, ◌+◌, ◌-◌, ◌<◌, ◌≤◌, zero, suc, Bool, true, false, if◌then◌else◌, List, [], ◌∷◌}
use Rattle.std.proofs.Common.{◌++◌, length, refl, sym, ap, ◌∙◌, subst, arith, Option, Some, append_assoc, append-nil}
use Rattle.std.specs.Prelude.{nat_lt, slice_get, unwrap_or}
use Rattle.std.proofs.lemmas.Bool.Decides.{nat_tests}
use Rattle.case_forms.specs.declared.calls.Host.{Host}
use Rattle.case_forms.specs.declared.calls.Host.TheVariants.{Zero, One}
use Rattle.case_forms.specs.declared.trace.Header.{Header}
use Rattle.spec_network.specs.Tables.{on}
use Rattle.spec_network.specs.Hosts.{HostStep, Does, Expires, Makes, Sends, Gets, Hears, Takes, Drops, Answers, Step, Begin, Finish, Effect, At, Stamped}
use Rattle.spec_tcp.specs.Machine.{tcp, tcp_shape}
use Rattle.spec_merge.specs.Books.{Item, Do, Bring, item_line}
use Rattle.spec_merge.specs.Keys as keys
use Rattle.spec_merge.specs.Keys.{before}
use Rattle.spec_merge.specs.Merging.{Names, mine, nth, pass, heads, line_turns, make_turns, names_of, item_makes, restep, steps_of, with_step}
use Rattle.spec_merge.specs.Recordings.{TcpEntry}
use Rattle.spec_merge.proofs.Counting.{nth_heads}
use Rattle.recorder.specs.Numbers.{Turns, Counts, no_turns, no_counts, with_turn_if, turns_of, number_in, counted}
use Rattle.recorder.specs.Numbers.{counted_one, takes_line, makes_segment, names_in}
use Rattle.recorder.specs.Order.{in_order, in_order_with}
use Rattle.recorder.specs.Saying.{all_renumbered, renumbered, with_renumbered}

-- ---- the order

pub order_is : (h : Header) (xs ys : List TcpEntry) → in_order xs ys ≡ keys.merge (tcp h) xs ys
order_is h [] ys = refl
order_is h (x ∷ xs) ys = inner (in_order xs) (order_is h xs) ys
  where
    inner : (rest : List TcpEntry → List TcpEntry) → ((ys : List TcpEntry) → rest ys ≡ keys.merge (tcp h) xs ys)
        → (ys : List TcpEntry) → in_order_with x rest ys ≡ keys.merge_with (tcp h) x (keys.merge (tcp h) xs) ys
    inner rest is [] = ap (λ (es : List TcpEntry). x ∷ es) (is [])
    inner rest is (y ∷ ys) = go (before x.key y.key) (inner rest is ys)
      where
        go : (b : Bool) → in_order_with x rest ys ≡ keys.merge_with (tcp h) x (keys.merge (tcp h) xs) ys
            → (if b then x ∷ rest (y ∷ ys) else y ∷ in_order_with x rest ys)
            ≡ (if b then x ∷ keys.merge (tcp h) xs (y ∷ ys)
            else y ∷ keys.merge_with (tcp h) x (keys.merge (tcp h) xs) ys)
        go true more = ap (λ (es : List TcpEntry). x ∷ es) (is (y ∷ ys))
        go false more = ap (λ (es : List TcpEntry). y ∷ es) more

-- ---- places of turns

abbrev places : Host → ℕ → List (Option Host) → List ℕ
places h n [] = []
places h n (m ∷ ms) = if mine h m then n ∷ places h (n + 1) ms else places h (n + 1) ms

-- the number of turn j of this host; behind its last, the turns of the other host are added
abbrev found : Host → ℕ → List (Option Host) → ℕ → ℕ
found h n ms j = unwrap_or (slice_get (places h n ms) j) (n + j + (length ms - length (places h n ms)))

few_places : (h : Host) (n : ℕ) (ms : List (Option Host)) → length (places h n ms) ≤ length ms
few_places h n [] = omega arith
few_places h n (m ∷ ms) = go (mine h m) (few_places h (n + 1) ms)
  where
    go : (b : Bool) → length (places h (n + 1) ms) ≤ length ms → length (if b then n ∷ places h (n + 1) ms else places h (n + 1) ms) ≤ suc (length ms)
    go true le = omega (arith, le)
    go false le = omega (arith, le)

found_at : (h : Host) (n : ℕ) (ms : List (Option Host)) (j : ℕ) → found h n ms j ≡ n + nth h ms j
found_at h n [] j = omega arith
found_at h n (m ∷ ms) j = go (mine h m) j (found_at h (n + 1) ms) (few_places h (n + 1) ms)
  where
    go : (b : Bool) (j : ℕ) → ((j : ℕ) → found h (n + 1) ms j ≡ n + 1 + nth h ms j) → length (places h (n + 1) ms) ≤ length ms
        → unwrap_or (slice_get (if b then n ∷ places h (n + 1) ms else places h (n + 1) ms) j)
        (n + j + (suc (length ms) - length (if b then n ∷ places h (n + 1) ms else places h (n + 1) ms)))
        ≡ n + pass b (nth h ms) j
    go true zero rest le = omega arith
    go true (suc j) rest le =
        let e : n + suc j + (suc (length ms) - suc (length (places h (n + 1) ms))) ≡ n + 1 + j + (length ms - length (places h (n + 1) ms)) = omega arith in
        let z : n + 1 + nth h ms j ≡ n + suc (nth h ms j) = omega arith in
        ap (λ (d : ℕ). unwrap_or (slice_get (places h (n + 1) ms) j) d) e ∙ rest j ∙ z
    go false j rest le =
        let e : n + j + (suc (length ms) - length (places h (n + 1) ms)) ≡ n + 1 + j + (length ms - length (places h (n + 1) ms)) = omega (arith, le) in
        let z : n + 1 + nth h ms j ≡ n + suc (nth h ms j) = omega arith in
        ap (λ (d : ℕ). unwrap_or (slice_get (places h (n + 1) ms) j) d) e ∙ rest j ∙ z

heads_below : (h : Host) (k : ℕ) (ms : List (Option Host)) (n : ℕ) → n < k → nth h (heads k ms) n ≡ n
heads_below h zero ms n lt = absurd (omega arith)
heads_below h (suc k) ms zero lt = refl
heads_below h (suc k) ms (suc n) lt = ap suc (heads_below h k ms n (omega arith))

-- ---- what was counted

abbrev turn_if : Bool → Host → List (Option Host) → List (Option Host)
turn_if b g ms = if b then Some g ∷ ms else ms

turn_more : (b : Bool) (t : Turns) (g h : Host) (ms : List (Option Host))
    → turns_of (with_turn_if b t g) h ++ places h (with_turn_if b t g).next ms
    ≡ turns_of t h ++ places h t.next (turn_if b g ms)
turn_more false t g h ms = refl
turn_more true t Zero Zero ms = append_assoc t.zero (t.next ∷ []) (places Zero (t.next + 1) ms)
turn_more true t Zero One ms = refl
turn_more true t One Zero ms = refl
turn_more true t One One ms = append_assoc t.one (t.next ∷ []) (places One (t.next + 1) ms)

next_more : (b : Bool) (t : Turns) (g : Host) (ms : List (Option Host)) → (with_turn_if b t g).next + length ms ≡ t.next + length (turn_if b g ms)
next_more false t g ms = refl
next_more true t Zero ms = omega arith
next_more true t One ms = omega arith

first_same : (b : Bool) (t : Turns) (g : Host) → (with_turn_if b t g).first ≡ t.first
first_same false t g = refl
first_same true t Zero = refl
first_same true t One = refl

-- a list of turns was counted into these, from those
record AreCounted (t u : Turns) (ms : List (Option Host)) : Type 0 where
  own : (g : Host) → turns_of u g ≡ turns_of t g ++ places g t.next ms
  next : u.next ≡ t.next + length ms
  first : u.first ≡ t.first

nothing_more : (t : Turns) → AreCounted t t []
nothing_more t = record { own = λ g. sym (append-nil (turns_of t g)); next = omega arith; first = refl }

one_more : (b : Bool) (t u : Turns) (g : Host) (ms all : List (Option Host)) → all ≡ turn_if b g ms → AreCounted (with_turn_if b t g) u ms → AreCounted t u all
one_more b t u g ms all is c = subst (λ (xs : List (Option Host)). AreCounted t u xs) (sym is) (record {
  own = λ h. c.own h ∙ turn_more b t g h ms;
  next = c.next ∙ next_more b t g ms;
  first = c.first ∙ first_same b t g;
})

line_head : (h : Header) (x : TcpEntry) (xs : List TcpEntry) → line_turns (tcp h) (x ∷ xs) ≡ turn_if (takes_line x.item) x.key.host (line_turns (tcp h) xs)
line_head h x xs = go x.item
  where
    host_step : (host : Host) (d : HostStep tcp_shape)
        → on (item_line (tcp h) (Do (At host d))) (line_turns (tcp h) xs)
        (λ line. Some x.key.host ∷ line_turns (tcp h) xs)
        ≡ turn_if (takes_line (Do (At host d))) x.key.host (line_turns (tcp h) xs)
    host_step host (Does y) = refl
    host_step host (Expires line y) = refl
    host_step host (Makes plan) = refl
    host_step host (Sends line number wire) = refl
    host_step host (Gets line copied wire) = refl
    host_step host (Hears line wire) = refl
    host_step host (Takes line choice) = refl
    host_step host (Drops line) = refl
    host_step host (Answers line) = refl

    go : (item : Item tcp_shape)
        → on (item_line (tcp h) item) (line_turns (tcp h) xs) (λ line. Some x.key.host ∷ line_turns (tcp h) xs)
        ≡ turn_if (takes_line item) x.key.host (line_turns (tcp h) xs)
    go (Bring f) = refl
    go (Do (Begin line t call)) = refl
    go (Do (Finish line t answer)) = refl
    go (Do (Effect t answer)) = refl
    go (Do (At host d)) = host_step host d

make_head : (h : Header) (x : TcpEntry) (xs : List TcpEntry) → make_turns (tcp h) (x ∷ xs) ≡ turn_if (makes_segment x.item) x.key.host (make_turns (tcp h) xs)
make_head h x xs = ap (λ (b : Bool). turn_if b x.key.host (make_turns (tcp h) xs)) (go x.item)
  where
    host_step : (host : Host) (d : HostStep tcp_shape) → item_makes (tcp h) (Do (At host d)) ≡ makes_segment (Do (At host d))
    host_step host (Does y) = refl
    host_step host (Expires line y) = refl
    host_step host (Makes plan) = refl
    host_step host (Sends line number wire) = refl
    host_step host (Gets line copied wire) = refl
    host_step host (Hears line wire) = refl
    host_step host (Takes line choice) = refl
    host_step host (Drops line) = refl
    host_step host (Answers line) = refl

    go : (item : Item tcp_shape) → item_makes (tcp h) item ≡ makes_segment item
    go (Bring f) = refl
    go (Do (Begin line t call)) = refl
    go (Do (Finish line t answer)) = refl
    go (Do (Effect t answer)) = refl
    go (Do (At host d)) = host_step host d

lines_counted : (h : Header) (c : Counts) (xs : List TcpEntry) → AreCounted c.lines (counted c xs).lines (line_turns (tcp h) xs)
lines_counted h c [] = nothing_more c.lines
lines_counted h c (x ∷ xs) =
    one_more (takes_line x.item) c.lines (counted c (x ∷ xs)).lines x.key.host (line_turns (tcp h) xs)
    (line_turns (tcp h) (x ∷ xs)) (line_head h x xs) (lines_counted h (counted_one c x) xs)

mades_counted : (h : Header) (c : Counts) (xs : List TcpEntry) → AreCounted c.mades (counted c xs).mades (make_turns (tcp h) xs)
mades_counted h c [] = nothing_more c.mades
mades_counted h c (x ∷ xs) =
    one_more (makes_segment x.item) c.mades (counted c (x ∷ xs)).mades x.key.host (make_turns (tcp h) xs)
    (make_turns (tcp h) (x ∷ xs)) (make_head h x xs) (mades_counted h (counted_one c x) xs)

none_before : (first : ℕ) (g : Host) → turns_of (no_turns first) g ≡ []
none_before first Zero = refl
none_before first One = refl

-- the new number of a host's thing is that of the definitions
number_is : (first : ℕ) (u : Turns) (ms : List (Option Host)) → AreCounted (no_turns first) u ms → (g : Host) (n : ℕ)
    → number_in u g n ≡ nth g (heads first ms) n
number_is first u ms c g n = go (nat_lt n first) refl
  where
    own : turns_of u g ≡ places g first ms
    own = c.own g ∙ ap (λ (xs : List ℕ). xs ++ places g first ms) (none_before first g)

    shape : number_in u g n ≡ (if nat_lt n first then n
        else unwrap_or (slice_get (places g first ms) (n - first))
        (n + (first + length ms - first - length (places g first ms))))
    shape = rw (c.first, c.next, own) refl

    go : (b : Bool) → nat_lt n first ≡ b → number_in u g n ≡ nth g (heads first ms) n
    go true is = shape ∙ (let lt : n < first = grind (arith, nat_tests) in rw is (sym (heads_below g first ms n lt)))
    go false is =
        let le : first ≤ n = grind (arith, nat_tests) in
        let few = few_places g first ms in
        let back : first + (n - first) ≡ n = omega (arith, le) in
        let behind : n + (first + length ms - first - length (places g first ms))
        ≡ first + (n - first) + (length ms - length (places g first ms)) = omega (arith, le, few) in
        shape ∙ rw is (ap (λ (d : ℕ). unwrap_or (slice_get (places g first ms) (n - first)) d) behind
        ∙ found_at g first ms (n - first) ∙ sym (nth_heads g first ms (n - first))
        ∙ ap (nth g (heads first ms)) back)

pub names_are : (h : Header) (first : ℕ) (xs : List TcpEntry) → names_in (counted (no_counts first) xs) ≡ names_of (tcp h) first xs
names_are h first xs = λ i. record {
  line = λ g n. number_is first (counted (no_counts first) xs).lines (line_turns (tcp h) xs) (lines_counted h (no_counts first) xs) g n i;
  made = λ g n. number_is 1 (counted (no_counts first) xs).mades (make_turns (tcp h) xs) (mades_counted h (no_counts first) xs) g n i;
}

-- ---- steps under new numbers

renumbered_is : (h : Header) (names : Names) (g : Host) (s : Step tcp_shape) → renumbered names g s ≡ restep (tcp h) names g s
renumbered_is h names g (Begin line t call) = refl
renumbered_is h names g (Finish line t answer) = refl
renumbered_is h names g (Effect t answer) = refl
renumbered_is h names g (At host d) = host_step d
  where
    host_step : (d : HostStep tcp_shape) → renumbered names g (At host d) ≡ restep (tcp h) names g (At host d)
    host_step (Does y) = refl
    host_step (Expires line y) = refl
    host_step (Makes plan) = refl
    host_step (Sends line number wire) = refl
    host_step (Gets line copied wire) = refl
    host_step (Hears line wire) = refl
    host_step (Takes line choice) = refl
    host_step (Drops line) = refl
    host_step (Answers line) = refl

pub steps_are : (h : Header) (names : Names) (xs : List TcpEntry) → all_renumbered names xs ≡ steps_of (tcp h) names xs
steps_are h names [] = refl
steps_are h names (x ∷ xs) = go x.item (steps_are h names xs)
  where
    go : (item : Item tcp_shape) → all_renumbered names xs ≡ steps_of (tcp h) names xs
        → with_renumbered names x.key item (all_renumbered names xs)
        ≡ with_step (tcp h) names x.key item (steps_of (tcp h) names xs)
    go (Bring f) rest = rest
    go (Do s) rest =
        ap (λ (t : Step tcp_shape). let y : Stamped tcp_shape = record { moment = x.key.moment; step = t } in
        y ∷ all_renumbered names xs) (renumbered_is h names x.key.host s)
        ∙ ap (λ (ys : List (Stamped tcp_shape)). record { moment = x.key.moment; step = restep (tcp h) names x.key.host s } ∷ ys) rest
