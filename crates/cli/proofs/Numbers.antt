-- How `clap` reads a number.
use Rattle.std.proofs.Common.{◌≡◌, ◌==◌, ◌<◌, ◌^◌, ℕ, Bool, true, false, [], ◌∷◌, Option, None, Some, Result, Ok, Err, codes}
use Rattle.std.proofs.Common.{refl, ap, ◌∙◌, subst, inl, inr, arith}
use Rattle.std.specs.Prelude.{MatchOption}
use Rattle.std.specs.Str.Parse.{IsNumeral, ParsesUnsigned, digits_value, without_leading_plus}
use Rattle.std.proofs.lemmas.Bool.{eqb-true}
use Rattle.clap.specs.Words.{Text, HasKind, IsUnsignedIn, ReadsOne, fault_of, kind_of, matches_of, one_of, one_text, rows_of}
use Rattle.clap.specs.ValueTests.{accepts}
use Rattle.clap.specs.declared.builder.value_parser.ValueParser.TheVariants.{Unsigned}
use Rattle.clap.specs.declared.error.Error.{Error}
use Rattle.clap.specs.declared.error.kind.ErrorKind.TheVariants.{OutOfMemory}
use Rattle.clap.specs.declared.parser.matches.Found.{Found}
use Rattle.clap.proofs.OnLiterals.{clap_on_literals}
use Rattle.clap.proofs.ValueTestLemmas.{accepts-Accepts, Accepts-accepts}
use Rattle.clap.proofs.WalkLemmas.{one_text-rows}
use Rattle.cli.specs.CommandLine.{is_dashed}
use Rattle.cli.specs.Options.{number_in, IsNumberIn}

-- `clap` accepts the text as a number
abbrev passes : ℕ → ℕ → Text → Bool
passes low high text = accepts false (Unsigned low high) text

accepted : (low high x : ℕ) (xs : Text) → (x == 45) ≡ false → passes low high (x ∷ xs) ≡ true → fault_of (number_in low high) ((x ∷ xs) ∷ []) ≡ []
unfolding clap_on_literals
accepted low high x xs other may = simp (other, may)

refused : (low high x : ℕ) (xs : Text) → (x == 45) ≡ false → passes low high (x ∷ xs) ≡ false → fault_of (number_in low high) ((x ∷ xs) ∷ []) ≡ [] → ⊥
unfolding clap_on_literals
refused low high x xs other may none = let bad = simp (other, may) at none in cc

value : (low high x : ℕ) (xs : Text) → (x == 45) ≡ false → one_of (codes "number") (matches_of (number_in low high) ((x ∷ xs) ∷ [])) ≡ Some (x ∷ xs)
unfolding clap_on_literals
value low high x xs other = simp other

nothing_refused : (low high : ℕ) → fault_of (number_in low high) ([] ∷ []) ≡ [] → ⊥
unfolding clap_on_literals
nothing_refused low high none = cc

-- a text without a fault is accepted, and is the value
read : (low high : ℕ) (text : Text) → is_dashed text ≡ false → fault_of (number_in low high) (text ∷ []) ≡ []
    → (passes low high text ≡ true) × (one_of (codes "number") (matches_of (number_in low high) (text ∷ [])) ≡ Some text)
read low high [] other none = absurd (nothing_refused low high none)
read low high (x ∷ xs) other none = (by_case (passes low high (x ∷ xs)) refl, value low high x xs other)
  where
    by_case : (b : Bool) → passes low high (x ∷ xs) ≡ b → b ≡ true
    by_case true e = refl
    by_case false e = absurd (refused low high x xs other e none)

-- a numeral begins with no dash
pub not_dashed : (text : Text) → IsNumeral 10 (without_leading_plus text) → is_dashed text ≡ false
not_dashed [] numeral = refl
not_dashed (x ∷ xs) numeral = by_case (x == 45) refl
  where
    by_case : (b : Bool) → (x == 45) ≡ b → b ≡ false
    by_case false e = refl
    by_case true e =
        let bad : IsNumeral 10 (45 ∷ xs) = subst (λ (y : ℕ). IsNumeral 10 (without_leading_plus (y ∷ xs))) (eqb-true _ _ e) numeral in
        absurd (omega (bad.1.0, arith))

-- a text that spells a number has no fault
spelled_taken : (low high : ℕ) (text : Text) (n : ℕ) → high < 2 ^ 64 → IsNumberIn low high text n → fault_of (number_in low high) (text ∷ []) ≡ []
spelled_taken low high [] n small is = absurd (omega (is.numeral.0, arith))
spelled_taken low high (x ∷ xs) n small is =
    let e = is.number in let least = is.low in let most = is.high in
    accepted low high x xs (not_dashed (x ∷ xs) is.numeral)
    (Accepts-accepts false (Unsigned low high) (x ∷ xs) (is.numeral, omega arith, omega arith, omega arith))

-- a text that is refused, and not for lack of memory, spells no number
pub refused_number : (low high : ℕ) (text : Text) (error : Error) (n : ℕ) → high < 2 ^ 64 → HasKind (fault_of (number_in low high) (text ∷ [])) error
    → (kind_of error ≡ OutOfMemory → ⊥) → IsNumberIn low high text n → ⊥
refused_number low high text error n small has other is = by_kind (subst (λ kinds. HasKind kinds error) (spelled_taken low high text n small is) has)
  where
    by_kind : HasKind [] error → ⊥
    by_kind (inl memory) = other memory
    by_kind (inr among) = among

-- a text without a fault spells the number that is read
pub read_number : (E : Type 0) (G : Text → Result ℕ E → Type 0) (low high : ℕ) (text : Text) (found : Found) (number : Option ℕ)
    → ((u : Text) (x : Result ℕ E) → G u x → ParsesUnsigned 64 10 u x)
    → is_dashed text ≡ false → fault_of (number_in low high) (text ∷ []) ≡ [] → rows_of found ≡ matches_of (number_in low high) (text ∷ [])
    → ((t : Text) → one_text found (codes "number") ≡ Some t → ReadsOne G t number)
    → MatchOption number ((n : ℕ) → ¬ IsNumberIn low high text n) (IsNumberIn low high text)
read_number E G low high text found number only other none rows reads =
    let is = read low high text other none in
    let passed = accepts-Accepts false (Unsigned low high) text is.0 in
    by_case number passed (reads text (one_text-rows found (codes "number") ∙ ap (one_of (codes "number")) rows ∙ is.1))
  where
    by_case : (o : Option ℕ) → IsUnsignedIn low high text → ReadsOne G text o
        → MatchOption o ((n : ℕ) → ¬ IsNumberIn low high text n) (IsNumberIn low high text)
    by_case (Some n) passed given =
        let parsed = only text (Ok n) given in
        let least = passed.2 in
        let most = passed.3 in
        let number : n ≡ digits_value 10 (without_leading_plus text) = parsed.1 in
        record { numeral = passed.0; number = number; low = rw number least; high = rw number most }
    by_case None passed given = absurd (only text (Err given.0) given.1 (passed.0, passed.1))
