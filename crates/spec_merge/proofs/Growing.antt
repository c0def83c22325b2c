-- A book grows at its end.
use Rattle.std.proofs.Common.{◌≡◌, ℕ, suc, false, List, [], ◌∷◌, ◌++◌, Option, Some, None, refl}
use Rattle.case_forms.specs.declared.calls.Host.{Host}
use Rattle.spec_network.specs.Tables.{on}
use Rattle.spec_network.specs.Hosts.{Kernel, World}
use Rattle.spec_merge.specs.Books.{Entry, HostRun, end, item_line, next}
use Rattle.spec_merge.specs.Keys.{EachEntry, If, KeysRise, Numbered, before}
use Rattle.spec_merge.proofs.Joint.{count_on}

-- a run goes on where it ended
pub run_more : (k : Kernel) (h : Host) (w : World k.shape) (xs ys : List (Entry k.shape)) → HostRun k h w xs
    → HostRun k h (end k h w xs) ys → HostRun k h w (xs ++ ys)
run_more k h w [] ys p q = q
run_more k h w (x ∷ xs) ys p q = (p.0, p.1, run_more k h (next k h w x) xs ys p.2 q)

-- and ends where what joins it ends
pub end_more : (k : Kernel) (h : Host) (w : World k.shape) (xs ys : List (Entry k.shape)) → end k h w (xs ++ ys) ≡ end k h (end k h w xs) ys
end_more k h w [] ys = refl
end_more k h w (x ∷ xs) ys = end_more k h (next k h w x) xs ys

-- the number of the line to come
abbrev pub line_after : (k : Kernel) → ℕ → List (Entry k.shape) → ℕ
line_after k n [] = n
line_after k n (x ∷ xs) = line_after k (count_on k x.item n) xs

-- its lines are numbered on
pub numbered_more : (k : Kernel) (n : ℕ) (xs ys : List (Entry k.shape)) → Numbered k n xs → Numbered k (line_after k n xs) ys → Numbered k n (xs ++ ys)
numbered_more k n [] ys p q = q
numbered_more k n (x ∷ xs) ys p q = go (item_line k x.item) p q (λ n. numbered_more k n xs ys)
  where
    go : (l : Option ℕ) → If l (Numbered k n xs) (λ line. (line ≡ n) × Numbered k (suc n) xs)
        → Numbered k (line_after k (on l n (λ line. suc n)) xs) ys
        → ((n : ℕ) → Numbered k n xs → Numbered k (line_after k n xs) ys → Numbered k n (xs ++ ys))
        → If l (Numbered k n (xs ++ ys)) (λ line. (line ≡ n) × Numbered k (suc n) (xs ++ ys))
    go None p q rest = rest n p q
    go (Some l) p q rest = (p.0, rest (suc n) p.1 q)

each_more : (k : Kernel) (P : Entry k.shape → Type 0) (xs ys : List (Entry k.shape)) → EachEntry k P xs → EachEntry k P ys → EachEntry k P (xs ++ ys)
each_more k P [] ys p q = q
each_more k P (x ∷ xs) ys p q = (p.0, each_more k P xs ys p.1 q)

-- its keys don't fall, if none that joins comes before one that is there
pub keys_more : (k : Kernel) (h : Host) (xs ys : List (Entry k.shape)) → KeysRise k h xs → KeysRise k h ys
    → EachEntry k (λ x. EachEntry k (λ y. before y.key x.key ≡ false) ys) xs → KeysRise k h (xs ++ ys)
keys_more k h [] ys p q over = q
keys_more k h (x ∷ xs) ys p q over = (p.0, each_more k (λ y. before y.key x.key ≡ false) xs ys p.1 over.0, keys_more k h xs ys p.2 q over.1)
