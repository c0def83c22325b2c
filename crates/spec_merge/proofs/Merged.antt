-- The steps of two books, merged, are a run and a placement of the lines that they take.
use Rattle.std.proofs.Common.{◌≡◌, ℕ, false, List}
use Rattle.spec_network.specs.Hosts.{Kernel}
use Rattle.spec_network.specs.HostSteps.{start}
use Rattle.spec_merge.specs.Books.{Entry}
use Rattle.spec_merge.specs.Merging.{names_of}
use Rattle.spec_merge.specs.Keys.{Books, merge}
use Rattle.spec_merge.specs.Placing.{IsPlacedRun, lines_of, merged_steps}
use Rattle.spec_merge.proofs.Law.{law}
use Rattle.spec_merge.proofs.Order.{told}
use Rattle.spec_merge.proofs.Placed.{placed}

-- two books, merged by their keys, are a placement of the lines that they take, and a run
pub is_placed_run : (k : Kernel) → ((n : ℕ) → k.given k.empty n ≡ false)
    → (skew first : ℕ) (xs ys : List (Entry k.shape)) → Books k first xs ys
    → IsPlacedRun k skew first (lines_of k (merged_steps k first xs ys)) (merged_steps k first xs ys)
is_placed_run k none skew first xs ys books =
    let l = law k none first (merge k xs ys) (told k xs ys (start k) (start k) first first books.0 books.1) in
    (placed k skew first (names_of k first (merge k xs ys)) xs ys books.0.keys books.1.keys l.1 l.0, l.0)
