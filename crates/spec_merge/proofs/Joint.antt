-- Both hosts' runs, told in one order.
use Rattle.std.specs.Prelude.{◌≡◌, ℕ, suc, nat_eq, List, [], ◌∷◌, Some}
use Rattle.std.specs.Map.{lookup}
use Rattle.case_forms.specs.declared.calls.Host.{Host}
use Rattle.spec_network.specs.Tables.{Both, pick, other, with_host, on}
use Rattle.spec_network.specs.Hosts.{Kernel, World, Stamped}
use Rattle.spec_merge.specs.Books.{Item, Do, Bring, Entry, FitsItem, InLane, next, item_line, step_line}
use Rattle.spec_merge.specs.Keys.{If}

-- each host's own world after an entry
abbrev pub advance : (k : Kernel) → Both (World k.shape) → Entry k.shape → Both (World k.shape)
advance k ws x = with_host ws x.key.host (next k x.key.host (pick ws x.key.host) x)

-- a segment that is brought stands on the other host's own wire by then
abbrev pub NamedItem : (k : Kernel) → Host → Both (World k.shape) → Item k.shape → Type 0
NamedItem k o ws (Do step) = Unit {0}
NamedItem k o ws (Bring f) = lookup (nat_eq f.line) (pick (pick ws o).hosts o).wire ≡ Some f.emission

-- the item's line, if it takes one, has that number
abbrev pub NumberedItem : (k : Kernel) → ℕ → Item k.shape → Type 0
NumberedItem k n x = (line : ℕ) → item_line k x ≡ Some line → line ≡ n

-- the next line's number after an item
abbrev pub count_on : (k : Kernel) → Item k.shape → ℕ → ℕ
count_on k x n = on (item_line k x) n (λ line. suc n)

-- both runs in one order, from these worlds and line numbers on
abbrev pub Joint : (k : Kernel) → Both (World k.shape) → Both ℕ → List (Entry k.shape) → Type 0
Joint k ws ls [] = Unit {0}
Joint k ws ls (x ∷ xs) =
    FitsItem k x.key.host x.key.moment (pick ws x.key.host) x.item
    × InLane k x.key.host (next k x.key.host (pick ws x.key.host) x)
    × NamedItem k (other x.key.host) ws x.item
    × NumberedItem k (pick ls x.key.host) x.item
    × Joint k (advance k ws x) (with_host ls x.key.host (count_on k x.item (pick ls x.key.host))) xs

-- the lines of these steps are numbered on from n
abbrev pub LinesRise : (k : Kernel) → ℕ → List (Stamped k.shape) → Type 0
LinesRise k n [] = Unit {0}
LinesRise k n (x ∷ xs) = If (step_line k x.step) (LinesRise k n xs) (λ line. (line ≡ n) × LinesRise k (suc n) xs)
