-- A reader of fields and the spelling of what it reads.
use Rattle.std.specs.Prelude.{◌≡◌, List, [], ◌++◌, ℕ, Result, Ok, map}
use Rattle.line_fields.specs.declared.fault.TextFault.{TextFault}
use Rattle.line_fields.specs.Word.{Rest}

-- the texts of the fields that are left
abbrev pub texts : Rest → List (List ℕ)
texts r = map (λ w. w.text) r.words

-- what is read is spelled so; and what is spelled so is read, if what follows it satisfies Follows
pub record IsReaderBefore (Follows : List (List ℕ) → Type 0) {A : Type 0} (read : Rest
    → Result (A × Rest) TextFault) (R : A →
    List (List ℕ) → Type 0) : Type 0 where
  pub takes : (r : Rest) (x : A × Rest) → read r ≡ Ok x → (ws : List (List ℕ)) × R x.0 ws × (texts r ≡ ws ++ texts x.1)
  pub again : (r : Rest) (a : A) (ws more : List (List ℕ)) → Follows more → R a ws → texts r ≡ ws ++ more
      → (rest : Rest) ×
      (read r ≡ Ok (a, rest)) × (texts rest ≡ more)

-- anything may follow
abbrev pub Any : List (List ℕ) → Type 0
Any more = Unit {0}

-- nothing may follow
abbrev pub Nothing : List (List ℕ) → Type 0
Nothing more = more ≡ []

-- a reader of fields that others may follow
abbrev pub IsReader : {A : Type 0} → (Rest → Result (A × Rest) TextFault) → (A → List (List ℕ) → Type 0) → Type 0
IsReader read R = IsReaderBefore Any read R

-- a reader of the last fields of a line, one of which is optional
abbrev pub IsLastReader : {A : Type 0} → (Rest → Result (A × Rest) TextFault) → (A → List (List ℕ) → Type 0) → Type 0
IsLastReader read R = IsReaderBefore Nothing read R
