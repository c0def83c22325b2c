-- A line and its end.
use Rattle.std.proofs.Common.{◌≡◌, ◌<◌, ◌-◌, ℕ, List, [], ◌∷◌, ◌++◌, Bool, true, false, length, get_or, take, suc, ◌⊎◌}
use Rattle.std.proofs.Common.{append_assoc, refl, sym, ap, ◌∙◌, arith, inl, inr, ◌&&◌}
use Rattle.std.specs.Prelude.{nat_lt, ◌==◌}
use Rattle.std.proofs.lemmas.Bool.{and_parts, eqb-true, ltb-true, lt-ltb, eq-eqb, false_from_ne_true}
use Rattle.std.proofs.Math.Seq.{get_or-append_seam, take-suc, take-length}
use Rattle.std.proofs.lemmas.List.{take_at, length-append}
use Rattle.bstr.specs.Text.{without_terminator, no_cr}
use Rattle.line_fields.specs.Lines.{Ends, NoReturn, is_ended}

-- the last byte and those before it
last_cut : (bs : List ℕ) (c : ℕ) → 0 < length bs → get_or bs (length bs - 1) 0 ≡ c → bs ≡ take (length bs - 1) bs ++ c ∷ []
last_cut bs c some e =
    let whole : length bs ≡ suc (length bs - 1) = omega arith in
    sym (take-length bs) ∙ ap (λ (n : ℕ). take n bs) whole ∙ take-suc bs (length bs - 1) 0 (omega arith) ∙ ap (λ (x : ℕ). take (length bs - 1) bs ++ x ∷ []) e

-- a text and a byte behind it
pub record IsPushed (bs text : List ℕ) (c : ℕ) : Type 0 where
  pub some : 0 < length bs
  pub last : get_or bs (length bs - 1) 0 ≡ c
  pub front : take (length bs - 1) bs ≡ text

pushed : (text : List ℕ) (c : ℕ) → IsPushed (text ++ c ∷ []) text c
pushed text c =
    let len = length-append text (c ∷ []) in
    let place : length (text ++ c ∷ []) - 1 ≡ length text = omega arith in
    record {
      some = omega arith;
      last = ap (λ (n : ℕ). get_or (text ++ c ∷ []) n 0) place ∙ get_or-append_seam text c [] 0;
      front = take_at text (c ∷ []) (length (text ++ c ∷ []) - 1) (omega arith);
    }

cases_bool : (b : Bool) → (b ≡ true) ⊎ (b ≡ false)
cases_bool true = inl refl
cases_bool false = inr refl

-- the test of the last byte
tested : (bs : List ℕ) (c : ℕ) → (nat_lt 0 (length bs) && (get_or bs (length bs - 1) 0 == c)) ≡ true → bs ≡ take (length bs - 1) bs ++ c ∷ []
tested bs c h = let parts = and_parts _ _ h in last_cut bs c (ltb-true _ _ parts.0) (eqb-true _ _ parts.1)

test_yes : (bs text : List ℕ) (c : ℕ) → IsPushed bs text c → (nat_lt 0 (length bs) && (get_or bs (length bs - 1) 0 == c)) ≡ true
test_yes bs text c p = let some = lt-ltb 0 (length bs) p.some in let last = eq-eqb _ _ p.last in rw (some, last) refl

no_cr_pushed : (text : List ℕ) → no_cr (text ++ 13 ∷ []) ≡ text
no_cr_pushed text = let p = pushed text 13 in let t = test_yes (text ++ 13 ∷ []) text 13 p in rw t p.front

no_cr_other : (text : List ℕ) → (0 < length text → get_or text (length text - 1) 0 ≡ 13 → ⊥) → no_cr text ≡ text
no_cr_other text never =
    let t : (nat_lt 0 (length text) && (get_or text (length text - 1) 0 == 13)) ≡ false =
    false_from_ne_true _ (λ h. let parts = and_parts _ _ h in
    never (ltb-true _ _ parts.0) (eqb-true _ _ parts.1)) in
    rw t refl

without_feed : (text : List ℕ) → without_terminator (text ++ 10 ∷ []) ≡ no_cr text
without_feed text = let p = pushed text 10 in let t = test_yes (text ++ 10 ∷ []) text 10 p in rw t (ap no_cr p.front)

-- a line that is spelled so gives its text and has its end
pub ending_again : (raw text : List ℕ) → NoReturn text → Ends raw text → (without_terminator raw ≡ text) × (is_ended raw ≡ true)
ending_again raw text never h = elim h.1 [
  | inl feed ↦
      let e : raw ≡ text ++ 10 ∷ [] = h.2 ∙ ap (λ (x : List ℕ). text ++ x) feed in
      (ap without_terminator e ∙ without_feed text ∙ no_cr_other text never, ap is_ended e ∙ test_yes (text ++ 10 ∷ []) text 10 (pushed text 10))
  | inr both ↦
      let e : raw ≡ (text ++ 13 ∷ []) ++ 10 ∷ [] = h.2 ∙ ap (λ (x : List ℕ). text ++ x) both ∙ sym (append_assoc text (13 ∷ []) (10 ∷ [])) in (
        ap without_terminator e ∙ without_feed (text ++ 13 ∷ []) ∙ no_cr_pushed text,
        ap is_ended e ∙ test_yes ((text ++ 13 ∷ []) ++ 10 ∷ []) (text ++ 13 ∷ []) 10 (pushed (text ++ 13 ∷ []) 10),
      )
]

-- a line that has its end is its text and that end
pub ending_taken : (raw : List ℕ) → is_ended raw ≡ true → Ends raw (without_terminator raw)
ending_taken raw h =
    let front : List ℕ = take (length raw - 1) raw in
    let e : raw ≡ take (length raw - 1) raw ++ 10 ∷ [] = tested raw 10 h in
    let plain : without_terminator raw ≡ no_cr (take (length raw - 1) raw) = rw h refl in
    elim (cases_bool (nat_lt 0 (length (take (length raw - 1) raw)) && (get_or (take (length raw - 1) raw) (length (take (length raw - 1) raw) - 1) 0 == 13))) [
      | inl yes_cr ↦
          let f : take (length raw - 1) raw
          ≡ take (length (take (length raw - 1) raw) - 1) (take (length raw - 1) raw) ++ 13 ∷ [] =
          tested (take (length raw - 1) raw) 13 yes_cr in
          let cut : no_cr (take (length raw - 1) raw) ≡ take (length (take (length raw - 1) raw) - 1) (take (length raw - 1) raw) = rw yes_cr refl in (
            13 ∷ 10 ∷ [],
            inr refl,
            e ∙ ap (λ (x : List ℕ). x ++ 10 ∷ []) f ∙ append_assoc _ (13 ∷ []) (10 ∷ [])
                ∙ ap (λ (x : List ℕ). x ++ 13 ∷ 10 ∷ []) (sym (plain ∙ cut)),
          )
      | inr no_cr_here ↦
          let cut : no_cr (take (length raw - 1) raw) ≡ take (length raw - 1) raw = rw no_cr_here refl in
          (10 ∷ [], inl refl, e ∙ ap (λ (x : List ℕ). x ++ 10 ∷ []) (sym (plain ∙ cut)))
    ]
