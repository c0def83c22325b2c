-- Clean fields: joined by spaces they hold no LF and end in no CR.
use Rattle.std.proofs.Common.{◌≡◌, ◌≢◌, ◌≤◌, ◌<◌, ◌-◌, ℕ, List, [], ◌∷◌, ◌++◌, Bool, true, ◌&&◌, length, sym, ap, arith}
use Rattle.std.specs.Prelude.{All, nat_lt}
use Rattle.std.specs.List.{AllByRecursion}
use Rattle.std.proofs.lemmas.Bool.{and_parts, ltb-true}
use Rattle.std.proofs.lemmas.List.{append-nil}
use Rattle.std.proofs.lemmas.List.Elements.{All-cons, All-nil, All-append, All-weaker}
use Rattle.line_fields.specs.Lines.{HasNoFeed, NoReturn}
use Rattle.line_fields.specs.Spelling.{IsClean, joined, spaced}

abbrev is_clean : List ℕ → Bool
is_clean [] = true
is_clean (b ∷ bs) = nat_lt 32 b && is_clean bs

-- a literal is clean where the test computes: clean_by (codes "word") refl
pub clean_by : (text : List ℕ) → is_clean text ≡ true → IsClean text
clean_by [] e = All-nil (λ b. 32 < b)
clean_by (b ∷ bs) e = let parts = and_parts _ _ e in All-cons (λ c. 32 < c) b bs (ltb-true _ _ parts.0) (clean_by bs parts.1)

wide : (text : List ℕ) → IsClean text → All (λ b. 32 ≤ b) text
wide text clean = All-weaker (λ b. 32 < b) (λ b. 32 ≤ b) (λ b h. omega arith) text clean

joined_wide : (ws : List (List ℕ)) → AllByRecursion IsClean ws → All (λ b. 32 ≤ b) (joined ws)
joined_wide [] clean = All-nil (λ b. 32 ≤ b)
joined_wide (w ∷ []) clean = wide w clean.0
joined_wide (w ∷ v ∷ ws) clean =
    All-append (λ b. 32 ≤ b) w (32 ∷ joined (v ∷ ws)) (wide w clean.0)
    (All-cons (λ b. 32 ≤ b) 32 (joined (v ∷ ws)) (omega arith) (joined_wide (v ∷ ws) clean.1))

pub joined_no_return : (ws : List (List ℕ)) → AllByRecursion IsClean ws → NoReturn (joined ws)
joined_no_return ws clean some e = let high = joined_wide ws clean (length (joined ws) - 1) 0 (omega arith) in omega arith

pub joined_no_feed : (ws : List (List ℕ)) → AllByRecursion IsClean ws → HasNoFeed (joined ws)
joined_no_feed ws clean = All-weaker (λ b. 32 ≤ b) (λ b. b ≢ 10) (λ b h e. omega arith) (joined ws) (joined_wide ws clean)

-- the first field, and a space before each other
pub joined_spaced : (w : List ℕ) (ws : List (List ℕ)) → joined (w ∷ ws) ≡ w ++ spaced ws
joined_spaced w [] = sym (append-nil w)
joined_spaced w (v ∷ ws) = ap (λ (x : List ℕ). w ++ (32 ∷ x)) (joined_spaced v ws)
