-- Cases that are taken one after another.
use Rattle.std.proofs.Common.{◌≡◌, ◌<◌, ◌+◌, ◌∙◌, sym, ap, subst, ℕ, List, [], ◌∷◌, length, get_or, drop, Option, None, Some, arith}
use Rattle.std.proofs.lemmas.List.{drop_more, length-drop}
use Rattle.std.specs.Io.KnownBytes.{Consumes}
use Rattle.case_stream.specs.Cases.{cases_of}
use Rattle.case_stream.specs.Left.{HasNoCase, TakesCase, TakesLast}
use Rattle.std.proofs.Math.Logic.{∥∥₁_map}
use Rattle.answer_stream.specs.declared.state.State.{State}
use Rattle.answer_stream.specs.declared.state.State.TheVariants.{Open, Ended}
use Rattle.answer_stream.specs.Left.{AreLeft, AreLeftIn, HasNone, IsCaseAt}

pub all_left : (input left : Option (List ℕ)) → input ≡ left → AreLeft input 0 left
all_left None left is = tt
all_left (Some input) None is = absurd cc
all_left (Some input) (Some left) is = ap (λ (o : Option (List ℕ)). cases_in o) (sym is)
  where
    cases_in : Option (List ℕ) → List (List ℕ)
    cases_in None = []
    cases_in (Some text) = cases_of text

-- there is a case if one is left
is_within : (n : ℕ) (cases rest : List (List ℕ)) (text : List ℕ) → text ∷ rest ≡ drop n cases → n < length cases
is_within n cases rest text is =
    let some = ap length is in
    let long = length-drop n cases in
    omega (arith, some, long)

whole : (n : ℕ) (cases rest : List (List ℕ)) (text : List ℕ) → text ∷ rest ≡ drop n cases → text ∷ rest ≡ get_or cases n [] ∷ drop (n + 1) cases
whole n cases rest text is = is ∙ drop_more cases n [] (is_within n cases rest text is)

case_at : (input : List ℕ) (n : ℕ) (rest : List (List ℕ)) (text : List ℕ) → text ∷ rest ≡ drop n (cases_of input) → IsCaseAt (Some input) n text
case_at input n rest text is = (
  is_within n (cases_of input) rest text is,
  ap (λ (xs : List (List ℕ)). get_or xs 0 []) (whole n (cases_of input) rest text is),
)

pub case_taken : (input old new : Option (List ℕ)) (n : ℕ) (text : List ℕ) → TakesCase old new text → AreLeft input n old → IsCaseAt input n text
case_taken None old new n text takes left = tt
case_taken (Some input) None new n text takes left = absurd left
case_taken (Some input) (Some old) None n text takes left = absurd takes
case_taken (Some input) (Some old) (Some new) n text takes left = case_at input n (cases_of new) text (sym takes ∙ left)

pub left_after : (input old new : Option (List ℕ)) (n : ℕ) (text : List ℕ) → TakesCase old new text → AreLeft input n old → AreLeft input (n + 1) new
left_after None old new n text takes left = tt
left_after (Some input) None new n text takes left = absurd left
left_after (Some input) (Some old) None n text takes left = absurd takes
left_after (Some input) (Some old) (Some new) n text takes left =
    ap (λ (xs : List (List ℕ)). drop 1 xs) (whole n (cases_of input) (cases_of new) text (sym takes ∙ left))

pub last_taken : (input old : Option (List ℕ)) (n : ℕ) (text : List ℕ) → TakesLast old text → AreLeft input n old → IsCaseAt input n text
last_taken None old n text takes left = tt
last_taken (Some input) None n text takes left = absurd left
last_taken (Some input) (Some old) n text takes left = case_at input n [] text (sym takes ∙ left)

pub none_after : (input old : Option (List ℕ)) (n : ℕ) (text : List ℕ) → TakesLast old text → AreLeft input n old → HasNone input (n + 1)
none_after None old n text takes left = tt
none_after (Some input) None n text takes left = absurd left
none_after (Some input) (Some old) n text takes left =
    let one = ap length (sym takes ∙ left) in
    let long = length-drop n (cases_of input) in
    omega (arith, one, long)

pub none_left : (input old : Option (List ℕ)) (n : ℕ) → HasNoCase old → AreLeft input n old → HasNone input n
none_left None old n none left = tt
none_left (Some input) None n none left = absurd left
none_left (Some input) (Some old) n none left =
    let nothing = ap length (sym none ∙ left) in
    let long = length-drop n (cases_of input) in
    omega (arith, nothing, long)

-- ---- by the state of the reader

if_open : (state : State) (input left : Option (List ℕ)) (n : ℕ) → state ≡ Open → AreLeftIn state input n left → AreLeft input n left
if_open state input left n is_open are = subst (λ (s : State). AreLeftIn s input n left) is_open are

pub at_case : (state : State) (input old new : Option (List ℕ)) (n : ℕ) (text : List ℕ) → state ≡ Open → TakesCase old new text
    → ∥ AreLeftIn state input n old ∥₁ → ∥ IsCaseAt input n text ∥₁
at_case state input old new n text is_open takes are = ∥∥₁_map are (λ a. case_taken input old new n text takes (if_open state input old n is_open a))

pub after_case : (state : State) (input old new : Option (List ℕ)) (n : ℕ) (text : List ℕ) → state ≡ Open → TakesCase old new text
    → ∥ AreLeftIn state input n old ∥₁ → ∥ AreLeftIn state input (n + 1) new ∥₁
after_case state input old new n text is_open takes are =
    ∥∥₁_map are
    (λ a. subst (λ (s : State). AreLeftIn s input (n + 1) new) (sym is_open) (left_after input old new n text takes (if_open state input old n is_open a)))

pub at_last : (state : State) (input old : Option (List ℕ)) (n : ℕ) (text : List ℕ) → state ≡ Open → TakesLast old text
    → ∥ AreLeftIn state input n old ∥₁ → ∥ IsCaseAt input n text ∥₁
at_last state input old n text is_open takes are = ∥∥₁_map are (λ a. last_taken input old n text takes (if_open state input old n is_open a))

pub after_last : (state : State) (input old new : Option (List ℕ)) (n : ℕ) (text : List ℕ) → state ≡ Open → TakesLast old text
    → ∥ AreLeftIn state input n old ∥₁ → ∥ AreLeftIn Ended input (n + 1) new ∥₁
after_last state input old new n text is_open takes are = ∥∥₁_map are (λ a. none_after input old n text takes (if_open state input old n is_open a))

pub after_none : (state : State) (input old new : Option (List ℕ)) (n : ℕ) → state ≡ Open → HasNoCase old
    → ∥ AreLeftIn state input n old ∥₁ → ∥ AreLeftIn Ended input n new ∥₁
after_none state input old new n is_open none are = ∥∥₁_map are (λ a. none_left input old n none (if_open state input old n is_open a))

kept_left : (input old new : Option (List ℕ)) (n : ℕ) → Consumes old new [] → AreLeft input n old → AreLeft input n new
kept_left None old new n same left = tt
kept_left (Some input) None new n same left = absurd left
kept_left (Some input) (Some old) None n same left = absurd same
kept_left (Some input) (Some old) (Some new) n same left = ap cases_of (sym same) ∙ left

pub after_nothing : (state : State) (input old new : Option (List ℕ)) (n : ℕ) → state ≡ Open → Consumes old new []
    → ∥ AreLeftIn state input n old ∥₁ → ∥ AreLeftIn state input n new ∥₁
after_nothing state input old new n is_open same are =
    ∥∥₁_map are
    (λ a. subst (λ (s : State). AreLeftIn s input n new) (sym is_open) (kept_left input old new n same (if_open state input old n is_open a)))

pub none_if_ended : (state : State) (input left : Option (List ℕ)) (n : ℕ) → state ≡ Ended → ∥ AreLeftIn state input n left ∥₁ → ∥ HasNone input n ∥₁
none_if_ended state input left n ended are = ∥∥₁_map are (λ a. subst (λ (s : State). AreLeftIn s input n left) ended a)
