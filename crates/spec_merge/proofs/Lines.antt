-- The number of the next line, as lines are counted in `spec_network`.
use Rattle.std.proofs.Common.{◌≡◌, ℕ, suc, List, [], ◌∷◌, ◌++◌, refl}
use Rattle.case_forms.specs.declared.trace.Header.{Header}
use Rattle.spec_network.specs.Tables.{on}
use Rattle.spec_merge.specs.Books.{item_line}
use Rattle.spec_tcp.specs.Machine.{tcp}
use Rattle.spec_merge.proofs.Growing.{line_after}
use Rattle.spec_merge.specs.Recordings.{TcpEntry, next_line}

-- the line behind is the line to come
pub next_is_after : (h : Header) (n : ℕ) (xs : List TcpEntry) → next_line h n xs ≡ line_after (tcp h) n xs
next_is_after h n [] = refl
next_is_after h n (x ∷ xs) = next_is_after h (on (item_line (tcp h) x.item) n (λ line. suc n)) xs

-- lines are counted on
pub next_more : (h : Header) (n : ℕ) (xs ys : List TcpEntry) → next_line h n (xs ++ ys) ≡ next_line h (next_line h n xs) ys
next_more h n [] ys = refl
next_more h n (x ∷ xs) ys = next_more h (on (item_line (tcp h) x.item) n (λ line. suc n)) xs ys
