-- From a step that breaks no rule to the facts.
use Rattle.std.proofs.Common.{◌≡◌, ℕ, ◌<◌, ◌≤◌, Bool, true, false, List, [], ◌∷◌, Option, Some, None, refl, ap, sym, arith}
use Rattle.std.specs.Prelude.{if◌then◌else◌, ◌==◌, ◌&&◌, ◌||◌, not, nat_lt, nat_le}
use Rattle.std.specs.Option.{option_map_or}
use Rattle.std.proofs.lemmas.Bool.Decides.{nat_tests}
use Rattle.std.proofs.lemmas.Option.{none-some}
use Rattle.case_forms.specs.declared.calls.Host.{Host}
use Rattle.case_forms.specs.declared.calls.Host.TheVariants.{Zero, One}
use Rattle.verdict.specs.declared.rule.Rule.{Rule}
use Rattle.verdict.specs.Rules.{first_broken}
use Rattle.spec_network.specs.Tables.{on, host_is}
use Rattle.spec_network.specs.HostRules.{just}
use Rattle.spec_tcp.specs.declared.endpoint.EndpointId.{EndpointId}
use Rattle.spec_tcp.specs.Same.{same_endpoint}

-- the thing is there, and the rules on it pass
pub on_passes : {A : Type 0} (o : Option A) (r : Rule) (f : A → List (Rule × Bool))
    → first_broken (on o (just r true) f) ≡ None → (x : A) × (o ≡ Some x) × (first_broken (f x) ≡ None)
on_passes None r f e = absurd (none-some r (sym e))
on_passes (Some x) r f e = (x, refl, e)

pub map_or_passes : {A : Type 0} (o : Option A) (r : Rule) (f : A → List (Rule × Bool))
    → first_broken (option_map_or f o ((r, true) ∷ [])) ≡ None → (x : A) × (o ≡ Some x) × (first_broken (f x) ≡ None)
map_or_passes None r f e = absurd (none-some r (sym e))
map_or_passes (Some x) r f e = (x, refl, e)

-- a property of what is done, if the thing is there or not
pub on_cases : {A B : Type 0} (P : B → Type 0) (o : Option A) (none : B) (f : A → B) → P none → ((x : A) → o ≡ Some x → P (f x)) → P (on o none f)
on_cases P None none f p q = p
on_cases P (Some x) none f p q = q x refl

-- a property of what is or is not there
pub option_cases : {A : Type 0} (P : Option A → Type 0) (o : Option A) → P None → ((x : A) → o ≡ Some x → P (Some x)) → P o
option_cases P None p q = p
option_cases P (Some x) p q = q x refl

pub map_or_cases : {A B : Type 0} (P : B → Type 0) (o : Option A) (none : B) (f : A → B) → (o ≡ None → P none)
    → ((x : A) → o ≡ Some x → P (f x)) → P (option_map_or f o none)
map_or_cases P None none f p q = p refl
map_or_cases P (Some x) none f p q = q x refl

-- what is true only where the thing is there
pub map_or_true : {A : Type 0} (o : Option A) (f : A → Bool) → option_map_or f o false ≡ true → (x : A) × (o ≡ Some x) × (f x ≡ true)
map_or_true None f e = absurd cc
map_or_true (Some x) f e = (x, refl, e)

pub not_false : (b : Bool) → not b ≡ false → b ≡ true
not_false true e = refl
not_false false e = absurd cc

pub not_true : (b : Bool) → not b ≡ true → b ≡ false
not_true true e = absurd cc
not_true false e = refl

pub if_false : (b c d : Bool) → (if b then c else d) ≡ false → b ≡ true → c ≡ false
if_false true c d e h = e
if_false false c d e h = absurd cc

pub else_false : (b c d : Bool) → (if b then c else d) ≡ false → b ≡ false → d ≡ false
else_false true c d e h = absurd cc
else_false false c d e h = e

pub both_true : (b c : Bool) → (b && c) ≡ true → (b ≡ true) × (c ≡ true)
both_true true c e = (refl, e)
both_true false c e = absurd cc

pub neither : (b c : Bool) → (b || c) ≡ false → (b ≡ false) × (c ≡ false)
neither true c e = absurd cc
neither false c e = (refl, e)

-- a test and what it guards are not both true
pub and_false : (b c : Bool) → (b && c) ≡ false → b ≡ true → c ≡ false
and_false true c e h = e
and_false false c e h = absurd cc

pub is_not : (b : Bool) → (b ≡ true → ⊥) → b ≡ false
is_not true h = absurd (h refl)
is_not false h = refl

pub true_false : {b : Bool} → b ≡ true → b ≡ false → ⊥
true_false t f = cc

pub number_same : (a b : ℕ) → (a == b) ≡ true → a ≡ b
number_same a b e = grind (arith, nat_tests)

pub number_other : (a b : ℕ) → (a == b) ≡ false → a ≡ b → ⊥
number_other a b e f = grind (arith, nat_tests)

pub number_self : (a b : ℕ) → a ≡ b → (a == b) ≡ true
number_self a b e = grind (arith, nat_tests)

pub zero_from : (n : ℕ) → (n == 0) ≡ true → n ≡ 0
zero_from n e = grind (arith, nat_tests)

pub some_from : (n : ℕ) → (n == 0) ≡ false → 0 < n
some_from n e = grind (arith, nat_tests)

pub at_most_from : (m n : ℕ) → nat_lt m n ≡ false → n ≤ m
at_most_from m n e = grind (arith, nat_tests)

pub at_most_to : (m n : ℕ) → nat_le m n ≡ true → m ≤ n
at_most_to m n e = grind (arith, nat_tests)

pub less_to : (m n : ℕ) → m < n → nat_lt m n ≡ true
less_to m n e = grind (arith, nat_tests)

pub host_same : (a b : Host) → host_is a b ≡ true → a ≡ b
host_same Zero Zero e = refl
host_same Zero One e = absurd cc
host_same One Zero e = absurd cc
host_same One One e = refl

pub name_same : (a b : EndpointId) → same_endpoint a b ≡ true → a ≡ b
name_same a b e =
    let parts = both_true (host_is a.host b.host) (a.number == b.number) e in
    let hosts : a.host ≡ b.host = host_same a.host b.host parts.0 in
    let numbers : a.number ≡ b.number = number_same a.number b.number parts.1 in
    λ i. record { host = hosts i; number = numbers i }

-- the one that is there has this name
pub some_name : (p : Option EndpointId) (n : EndpointId) → option_map_or (λ q. same_endpoint q n) p false ≡ true → p ≡ Some n
some_name None n e = absurd cc
some_name (Some p) n e = ap (λ (x : EndpointId). Some x) (name_same p n e)

-- the one that is there, if one is, has this name
pub any_name : (p : Option EndpointId) (n q : EndpointId) → option_map_or (λ r. same_endpoint r n) p true ≡ true → p ≡ Some q → p ≡ Some n
any_name None n q e f = absurd (none-some q f)
any_name (Some p) n q e f = ap (λ (x : EndpointId). Some x) (name_same p n e)
