-- Credits as a map keeps them: each with how many more there are of it.
use Rattle.std.specs.Prelude.{ℕ, zero, suc, if◌then◌else◌, List, [], ◌∷◌, Option, None, Some}
use Rattle.spec_duties.specs.Credits.{is_credit_from}

abbrev pub repeated : (credit more : ℕ) → List ℕ → List ℕ
repeated credit zero credits = credits
repeated credit (suc more) credits = credit ∷ repeated credit more credits

abbrev pub listed : List (ℕ × ℕ) → List ℕ
listed [] = []
listed (e ∷ entries) = e.0 ∷ repeated e.0 e.1 (listed entries)

-- the oldest credit that an endpoint earned from a moment on
abbrev pub found : (place moment : ℕ) → List (ℕ × ℕ) → Option (ℕ × ℕ)
found place moment [] = None
found place moment (e ∷ entries) = if is_credit_from place moment e.0 then Some e else found place moment entries
