-- The order of keys, the merge of two books by them, and what makes a list of entries a book.
use Rattle.std.specs.Prelude.{◌≡◌, ℕ, suc, nat_eq, Bool, true, false, if◌then◌else◌, nat_lt, List, [], ◌∷◌, Option}
use Rattle.std.specs.Prelude.{None, Some}
use Rattle.std.specs.Map.{lookup}
use Rattle.case_forms.specs.declared.calls.Host.{Host}
use Rattle.case_forms.specs.declared.calls.Host.TheVariants.{Zero, One}
use Rattle.spec_network.specs.Tables.{pick}
use Rattle.spec_network.specs.Hosts.{Kernel, World}
use Rattle.spec_network.specs.HostSteps.{start}
use Rattle.spec_merge.specs.Books.{Key, Item, Do, Bring, Entry, HostRun, item_line, end}

-- hosts in order
abbrev pub rank : Host → ℕ
rank Zero = 0
rank One = 1

-- whether three numbers come before three others, decided by the first that differ
abbrev pub lesser : ℕ → ℕ → ℕ → ℕ → ℕ → ℕ → Bool
lesser a b c x y z =
    if nat_lt a x then true else if nat_lt x a then false else if nat_lt b y then true else if nat_lt y b then false
    else nat_lt c z

-- whether a key comes before another: by moments, then by counters, then by hosts
abbrev pub before : Key → Key → Bool
before a b = lesser a.moment a.counter (rank a.host) b.moment b.counter (rank b.host)

-- an entry merged into those of the other host, before the first whose key is above its own; `rest` merges what follows
-- it
abbrev pub merge_with : (k : Kernel) → Entry k.shape → (List (Entry k.shape) → List (Entry k.shape))
    → List (Entry k.shape) → List (Entry k.shape)
merge_with k x rest [] = x ∷ rest []
merge_with k x rest (y ∷ ys) = if before x.key y.key then x ∷ rest (y ∷ ys) else y ∷ merge_with k x rest ys

-- two hosts' entries, in the order of their keys
abbrev pub merge : (k : Kernel) → List (Entry k.shape) → List (Entry k.shape) → List (Entry k.shape)
merge k [] ys = ys
merge k (x ∷ xs) ys = merge_with k x (merge k xs) ys

-- one property if there is no number, and another of a number
abbrev pub If : Option ℕ → Type 0 → (ℕ → Type 0) → Type 0
If None none some = none
If (Some n) none some = some n

-- the lines of these entries are numbered consecutively from n
abbrev pub Numbered : (k : Kernel) → ℕ → List (Entry k.shape) → Type 0
Numbered k n [] = Unit {0}
Numbered k n (x ∷ xs) = If (item_line k x.item) (Numbered k n xs) (λ line. (line ≡ n) × Numbered k (suc n) xs)

-- each entry has the property
abbrev pub EachEntry : (k : Kernel) → (Entry k.shape → Type 0) → List (Entry k.shape) → Type 0
EachEntry k P [] = Unit {0}
EachEntry k P (x ∷ xs) = P x × EachEntry k P xs

-- the keys are this host's and don't fall
abbrev pub KeysRise : (k : Kernel) → Host → List (Entry k.shape) → Type 0
KeysRise k h [] = Unit {0}
KeysRise k h (x ∷ xs) = (x.key.host ≡ h) × EachEntry k (λ y. before y.key x.key ≡ false) xs × KeysRise k h xs

-- a segment that is delivered has a key above that of its line, and is the one on host o's last wire under that line;
-- each entry of host o's book with that line has that key
abbrev pub NamesOne : (k : Kernel) → Host → World k.shape → List (Entry k.shape) → Key → Item k.shape → Type 0
NamesOne k o last ys key (Do step) = Unit {0}
NamesOne k o last ys key (Bring f) =
    (before f.key key ≡ true) × (lookup (nat_eq f.line) (pick last.hosts o).wire ≡ Some f.emission) ×
    EachEntry k (λ y. item_line k y.item ≡ Some f.line → y.key ≡ f.key) ys

-- entries of host h are a book, from this world and line number on, matching what is left of host o's book, which ends
-- in the world `last`
pub record Book (k : Kernel) (h o : Host) (w : World k.shape) (n : ℕ) (xs : List (Entry k.shape))
    (last : World k.shape) (ys : List (Entry k.shape)) : Type 0 where
  pub runs : HostRun k h w xs
  pub numbered : Numbered k n xs
  pub keys : KeysRise k h xs
  pub arrivals : EachEntry k (λ x. NamesOne k o last ys x.key x.item) xs

-- two finished books that match each other, whose event lines are numbered from the first on
abbrev pub Books : (k : Kernel) → ℕ → List (Entry k.shape) → List (Entry k.shape) → Type 0
Books k first xs ys =
    Book k Zero One (start k) first xs (end k One (start k) ys) ys
    × Book k One Zero (start k) first ys (end k Zero (start k) xs) xs
