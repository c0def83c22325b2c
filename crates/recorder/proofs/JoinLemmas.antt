-- Two recordings beside each other, merged.
use Rattle.std.proofs.Common.{◌≡◌, ℕ, ◌+◌, ◌-◌, ◌<◌, zero, suc, Bool, true, false, if◌then◌else◌, List, [], ◌∷◌, refl}
use Rattle.std.proofs.Common.{sym, ap, ◌∙◌, subst, arith, Option, Some, None, ◌⊎◌, inl, inr}
use Rattle.std.specs.Prelude.{slice_get}
use Rattle.std.proofs.lemmas.Option.{none-some, same_Some}
use Rattle.case_forms.specs.declared.calls.Host.{Host}
use Rattle.case_forms.specs.declared.trace.Header.{Header}
use Rattle.spec_network.specs.Tables.{pick}
use Rattle.spec_network.specs.Hosts.{HostStep, Does, Expires, Makes, Sends, Gets, Hears, Takes, Drops, Answers, Begin, Finish, Effect, At}
use Rattle.spec_tcp.specs.Machine.{tcp, tcp_shape}
use Rattle.spec_merge.specs.Books.{Item, Do, Bring, Key, item_line}
use Rattle.spec_merge.specs.Keys.{EachEntry, If, NamesOne, Numbered, before}
use Rattle.spec_merge.specs.Recordings.{NamesSent, TcpEntry, world_of}
use Rattle.stack_core.specs.Entries.{item_steps, steps_in}
use Rattle.recorder.specs.Naming.{AllAbove, AllNamed, IsAbove, NamedItem, line_keys}
use Rattle.recorder.specs.Numbers.{AllSmall, takes_line}
use Rattle.recorder.specs.Order.{in_order, in_order_with}

-- ---- what is summed or holds of all, over merged entries

pub steps_merged : (xs ys : List TcpEntry) → steps_in (in_order xs ys) ≡ steps_in xs + steps_in ys
steps_merged [] ys = omega arith
steps_merged (x ∷ xs) ys = inner (in_order xs) (steps_merged xs) ys
  where
    step_more : (item : Item tcp_shape) (n : ℕ) → item_steps item n ≡ item_steps item 0 + n
    step_more (Do step) n = omega arith
    step_more (Bring f) n = omega arith

    inner : (rest : List TcpEntry → List TcpEntry)
        → ((ys : List TcpEntry) → steps_in (rest ys) ≡ steps_in xs + steps_in ys) → (ys : List TcpEntry)
        → steps_in (in_order_with x rest ys) ≡ item_steps x.item (steps_in xs) + steps_in ys
    inner rest is [] = let a = step_more x.item (steps_in (rest [])) in let b = step_more x.item (steps_in xs) in let e = is [] in omega (arith, a, b, e)
    inner rest is (y ∷ ys) = go (before x.key y.key) (inner rest is ys)
      where
        go : (b : Bool) → steps_in (in_order_with x rest ys) ≡ item_steps x.item (steps_in xs) + steps_in ys
            → steps_in (if b then x ∷ rest (y ∷ ys) else y ∷ in_order_with x rest ys)
            ≡ item_steps x.item (steps_in xs) + item_steps y.item (steps_in ys)
        go true more = let a = step_more x.item (steps_in (rest (y ∷ ys))) in let b = step_more x.item (steps_in xs) in
            let e = is (y ∷ ys) in omega (arith, a, b, e)
        go false more = let a = step_more y.item (steps_in (in_order_with x rest ys)) in let b = step_more y.item (steps_in ys) in omega (arith, a, b, more)

pub small_merged : (xs ys : List TcpEntry) → AllSmall xs → AllSmall ys → AllSmall (in_order xs ys)
small_merged [] ys p q = q
small_merged (x ∷ xs) ys p q = inner (in_order xs) (λ ys q. small_merged xs ys p.1 q) ys q
  where
    inner : (rest : List TcpEntry → List TcpEntry) → ((ys : List TcpEntry) → AllSmall ys → AllSmall (rest ys))
        → (ys : List TcpEntry) → AllSmall ys → AllSmall (in_order_with x rest ys)
    inner rest is [] q = (p.0, is [] tt)
    inner rest is (y ∷ ys) q = go (before x.key y.key) (inner rest is ys q.1)
      where
        go : (b : Bool) → AllSmall (in_order_with x rest ys) → AllSmall (if b then x ∷ rest (y ∷ ys) else y ∷ in_order_with x rest ys)
        go true more = (p.0, is (y ∷ ys) q)
        go false more = (q.0, more)

-- ---- keys of lines

lined : (h : Header) (item : Item tcp_shape)
    → ((takes_line item ≡ false) × (item_line (tcp h) item ≡ None))
    ⊎ ((m : ℕ) × (takes_line item ≡ true) × (item_line (tcp h) item ≡ Some m))
lined h (Bring f) = inl (refl, refl)
lined h (Do (Begin line t call)) = inr (line, refl, refl)
lined h (Do (Finish line t answer)) = inr (line, refl, refl)
lined h (Do (Effect t answer)) = inl (refl, refl)
lined h (Do (At host d)) = host_step d
  where
    host_step : (d : HostStep tcp_shape)
        → ((takes_line (Do (At host d)) ≡ false) × (item_line (tcp h) (Do (At host d)) ≡ None))
        ⊎ ((m : ℕ) × (takes_line (Do (At host d)) ≡ true) × (item_line (tcp h) (Do (At host d)) ≡ Some m))
    host_step (Does x) = inl (refl, refl)
    host_step (Expires line x) = inr (line, refl, refl)
    host_step (Makes plan) = inl (refl, refl)
    host_step (Sends line number wire) = inr (line, refl, refl)
    host_step (Gets line copied wire) = inr (line, refl, refl)
    host_step (Hears line wire) = inr (line, refl, refl)
    host_step (Takes line choice) = inl (refl, refl)
    host_step (Drops line) = inl (refl, refl)
    host_step (Answers line) = inl (refl, refl)

-- the first of numbered entries
abbrev pub Front : Header → ℕ → TcpEntry → List TcpEntry → Type 0
Front h n e es =
    ((takes_line e.item ≡ false) × (item_line (tcp h) e.item ≡ None) × Numbered (tcp h) n es)
    ⊎ ((takes_line e.item ≡ true) × (item_line (tcp h) e.item ≡ Some n) × Numbered (tcp h) (suc n) es)

pub front : (h : Header) (n : ℕ) (e : TcpEntry) (es : List TcpEntry) → Numbered (tcp h) n (e ∷ es) → Front h n e es
front h n e es num = go (lined h e.item)
  where
    go : ((takes_line e.item ≡ false) × (item_line (tcp h) e.item ≡ None))
        ⊎ ((m : ℕ) × (takes_line e.item ≡ true) × (item_line (tcp h) e.item ≡ Some m)) → Front h n e es
    go (inl g) = inl (g.0, g.1, subst (λ (o : Option ℕ). If o (Numbered (tcp h) n es) (λ line. (line ≡ n) × Numbered (tcp h) (suc n) es)) g.1 num)
    go (inr g) =
        let f : (g.0 ≡ n) × Numbered (tcp h) (suc n) es =
        subst (λ (o : Option ℕ). If o (Numbered (tcp h) n es) (λ line. (line ≡ n) × Numbered (tcp h) (suc n) es))
        g.2 num in
        inr (g.1, g.2 ∙ ap (λ (m : ℕ). Some m) f.0, f.1)

-- entries of that line have that key
abbrev HaveKey : Header → ℕ → Key → List TcpEntry → Type 0
HaveKey h l k ys = EachEntry (tcp h) (λ y. item_line (tcp h) y.item ≡ Some l → y.key ≡ k) ys

-- no line is below the first
none_below : (h : Header) (n l : ℕ) (k : Key) (ys : List TcpEntry) → Numbered (tcp h) n ys → l < n → HaveKey h l k ys
none_below h n l k [] num lt = tt
none_below h n l k (y ∷ ys) num lt = go (front h n y ys num) (λ m num lt. none_below h m l k ys num lt)
  where
    go : Front h n y ys → ((m : ℕ) → Numbered (tcp h) m ys → l < m → HaveKey h l k ys) → HaveKey h l k (y ∷ ys)
    go (inl g) rest = ((λ is. absurd (none-some l (sym g.1 ∙ is))), rest n g.2 lt)
    go (inr g) rest = ((λ is. let e : n ≡ l = same_Some n l (sym g.1 ∙ is) in absurd (omega arith)), rest (suc n) g.2 (omega arith))

-- the line at a place has the key at that place
key_there : (h : Header) (n j : ℕ) (k : Key) (ys : List TcpEntry) → Numbered (tcp h) n ys → slice_get (line_keys ys) j ≡ Some k → HaveKey h (n + j) k ys
key_there h n j k [] num at = tt
key_there h n j k (y ∷ ys) num at = go (front h n y ys num) j at (λ m j num at. key_there h m j k ys num at)
  where
    go : Front h n y ys → (j : ℕ) → slice_get (line_keys (y ∷ ys)) j ≡ Some k
        → ((m j : ℕ) → Numbered (tcp h) m ys → slice_get (line_keys ys) j ≡ Some k → HaveKey h (m + j) k ys)
        → HaveKey h (n + j) k (y ∷ ys)
    go (inl g) j at rest = (
      (λ is. absurd (none-some (n + j) (sym g.1 ∙ is))),
      rest n j g.2 (sym (ap (λ (b : Bool). slice_get (if b then y.key ∷ line_keys ys else line_keys ys) j) g.0)
          ∙ at),
    )
    go (inr g) zero at rest =
        let same : y.key ≡ k = same_Some y.key k (sym (ap (λ (b : Bool). slice_get (if b then y.key ∷ line_keys ys else line_keys ys) zero) g.0) ∙ at) in
        ((λ is. same), none_below h (suc n) (n + zero) k ys g.2 (omega arith))
    go (inr g) (suc j) at rest =
        let z : suc n + j ≡ n + suc j = omega arith in (
          (λ is. let e : n ≡ n + suc j = same_Some n (n + suc j) (sym g.1 ∙ is) in absurd (omega arith)),
          subst (λ (l : ℕ). HaveKey h l k ys) z
              (rest (suc n) j g.2 (sym (ap (λ (b : Bool).
              slice_get (if b then y.key ∷ line_keys ys else line_keys ys) (suc j)) g.0) ∙ at)),
        )

-- what is named stands on the other's wire
pub named_sent : (h : Header) (o : Host) (first : ℕ) (ys : List TcpEntry) → Numbered (tcp h) first ys
    → (xs : List TcpEntry) → AllAbove xs → AllNamed first (line_keys ys) (pick (world_of h o ys).hosts o).wire xs
    → NamesSent h o xs ys
named_sent h o first ys num [] above named = tt
named_sent h o first ys num (x ∷ xs) above named = (go x.item above.0 named.0, named_sent h o first ys num xs above.1 named.1)
  where
    go : (item : Item tcp_shape) → IsAbove x.key item
        → NamedItem first (line_keys ys) (pick (world_of h o ys).hosts o).wire item
        → NamesOne (tcp h) o (world_of h o ys) ys x.key item
    go (Do step) a n = tt
    go (Bring f) a n =
        let le = n.event in
        let z : first + (f.line - first) ≡ f.line = omega (arith, le) in
        (a, n.emission, subst (λ (l : ℕ). HaveKey h l f.key ys) z (key_there h first (f.line - first) f.key ys num n.key))
