-- Two books of a kernel that does next to nothing, merged: values that pin the definitions down.
use Rattle.std.proofs.Common.{◌≡◌, ◌+◌, ℕ, true, false, List, [], ◌∷◌, Option, Some, None, refl, arith}
use Rattle.std.specs.Prelude.{◌==◌, not}
use Rattle.std.proofs.lemmas.Bool.Decides.{nat_tests}
use Rattle.std.proofs.lemmas.Option.{none-some, same_Some}
use Rattle.case_forms.specs.declared.calls.Host.{Host}
use Rattle.case_forms.specs.declared.calls.Host.TheVariants.{Zero, One}
use Rattle.verdict.specs.declared.rule.Rule.{Rule}
use Rattle.verdict.specs.declared.rule.Rule.TheVariants as rules
use Rattle.verdict.specs.Rules.{first_broken}
use Rattle.spec_network.specs.Tables.{gone_out, lane, unsent}
use Rattle.spec_network.specs.Hosts.{Shape, Kernel, World, ThatHost, Idle, Called, Answered, Makes, Sends, Gets, Takes}
use Rattle.spec_network.specs.Hosts.{Drops, HostStep, Step, Begin, Finish, Effect, At, Stamped}
use Rattle.spec_network.specs.HostRules.{just, step_rules}
use Rattle.spec_network.specs.HostSteps.{start, after, after_all}
use Rattle.spec_merge.specs.Books.{Key, Item, Do, Bring, Entry}
use Rattle.spec_merge.specs.Keys.{Books}
use Rattle.spec_merge.specs.Placing.{IsPlacedRun, lines_of, merged_steps}
use Rattle.spec_merge.proofs.Merged.{is_placed_run}

-- a host makes a number, or adds one that came in to what it has
data Act : Type 0 where
  Make : (number : ℕ) → Act
  Take : (number : ℕ) → Act
  Rest : Act

abbrev shape : Shape
shape =
    record {
      Body = ℕ;
      Act = Act;
      Plain = Unit {0};
      Expiring = Unit {0};
      Making = ℕ;
      How = Unit {0};
      Expiry = Unit {0};
      Emission = ℕ;
      Wire = ℕ;
      Call = Unit {0};
      Answer = Unit {0};
    }

abbrev sum_after : ℕ → Act → ℕ
sum_after b (Make n) = b
sum_after b (Take n) = b + n
sum_after b Rest = b

abbrev made_by : Act → Option ℕ
made_by (Make n) = Some n
made_by (Take n) = None
made_by Rest = None

abbrev sums : Kernel
sums = record {
  shape = shape;
  empty = 0;
  act_rules = λ me moment b a. [];
  act_after = λ me moment b a. sum_after b a;
  act_makes = λ me moment b a. made_by a;
  does = λ x. Rest;
  expires = λ x. Rest;
  making = λ n. Make n;
  takes = λ how n. Take n;
  answers = λ n. Rest;
  calls = λ call answer. Rest;
  expiry = λ x. x;
  out_rules = λ wire n. just rules.BytesDiffer (not (wire == n));
  sent = λ moment wire n. n;
  in_rules = λ moment wire n. just rules.CopyDiffers (not (wire == n));
  half = false;
  heard = λ moment wire. wire;
  aim = λ call. ThatHost Zero;
  stray = λ call answer. true;
  gives = λ call answer. None;
  given = λ b n. false;
  differs = λ a b. false;
}

abbrev key : ℕ → ℕ → Host → Key
key moment counter host = record { moment = moment; counter = counter; host = host }

abbrev entry : ℕ → ℕ → Host → Item shape → Entry shape
entry moment counter host item = record { key = key moment counter host; item = item }

abbrev stamped : ℕ → Step shape → Stamped shape
stamped moment step = record { moment = moment; step = step }

-- host 0 sends 5 with its line 7, and takes what host 1 sent
abbrev zeros : List (Entry shape)
zeros = entry 1 0 Zero (Do (At Zero (Makes 5))) ∷ entry 1 1 Zero (Do (At Zero (Sends 7 1 5)))
    ∷ entry 4 2 Zero (Bring (record { key = key 2 1 One; line = 7; emission = 6 }))
    ∷ entry 4 2 Zero (Do (At Zero (Gets 8 7 6))) ∷ entry 4 3 Zero (Do (At Zero (Takes 8 tt))) ∷ []

-- host 1 sends 6 with its line 7, and takes what host 0 sent
abbrev ones : List (Entry shape)
ones = entry 2 0 One (Do (At One (Makes 6))) ∷ entry 2 1 One (Do (At One (Sends 7 1 6)))
    ∷ entry 3 2 One (Bring (record { key = key 1 1 Zero; line = 7; emission = 5 }))
    ∷ entry 3 2 One (Do (At One (Gets 8 7 5))) ∷ entry 3 3 One (Do (At One (Takes 8 tt))) ∷ []

-- merged, with lines from 7 on and made segments from 1 on
abbrev told : List (Stamped shape)
told = stamped 1 (At Zero (Makes 5)) ∷ stamped 1 (At Zero (Sends 7 1 5)) ∷ stamped 2 (At One (Makes 6)) ∷ stamped 2 (At One (Sends 8 2 6))
    ∷ stamped 3 (At One (Gets 9 7 5)) ∷ stamped 3 (At One (Takes 9 tt)) ∷ stamped 4 (At Zero (Gets 10 8 6)) ∷ stamped 4 (At Zero (Takes 10 tt)) ∷ []

merged_are : merged_steps sums 7 zeros ones ≡ told
merged_are = refl

-- no socket number is ever given
free : (h : Host) (n : ℕ) → false ≡ true → lane n ≡ h
free h n e = absurd cc

-- a step that takes no line does not take line n
unnamed : {A : Type 0} (n : ℕ) → None ≡ Some n → A
unnamed n e = absurd (none-some n e)

-- nor does a step that takes line m
otherwise : {A : Type 0} (m n : ℕ) → (m == n) ≡ false → Some m ≡ Some n → A
otherwise m n apart e = let s : m ≡ n = same_Some m n e in absurd (grind (arith, nat_tests))

-- the two are books beside each other
are_books : Books sums 7 zeros ones
are_books = (
  record {
    runs = ((refl, refl), free Zero, ((refl, refl), free Zero, (tt, free Zero, ((refl, refl), free Zero, ((refl, refl), free Zero, tt)))));
    numbered = (refl, (refl, tt));
    keys = (refl, (refl, (refl, (refl, (refl, tt)))), (refl, (refl, (refl, (refl, tt))), (refl, (refl, (refl, tt)), (refl, (refl, tt), (refl, tt, tt)))));
    arrivals = (tt, (tt, ((refl, refl, (unnamed 7, ((λ e. refl), (unnamed 7, ((λ e. otherwise 8 7 refl e), (unnamed 7, tt)))))), (tt, (tt, tt)))));
  },
  record {
    runs = ((refl, refl), free One, ((refl, refl), free One, (tt, free One, ((refl, refl), free One, ((refl, refl), free One, tt)))));
    numbered = (refl, (refl, tt));
    keys = (refl, (refl, (refl, (refl, (refl, tt)))), (refl, (refl, (refl, (refl, tt))), (refl, (refl, (refl, tt)), (refl, (refl, tt), (refl, tt, tt)))));
    arrivals = (tt, (tt, ((refl, refl, (unnamed 7, ((λ e. refl), (unnamed 7, ((λ e. otherwise 8 7 refl e), (unnamed 7, tt)))))), (tt, (tt, tt)))));
  },
)

-- so their merge is_placed_run itself, with no skew
placed_run : IsPlacedRun sums 0 7 (lines_of sums (merged_steps sums 7 zeros ones)) (merged_steps sums 7 zeros ones)
placed_run = is_placed_run sums (λ n. refl) 0 7 zeros ones are_books

-- what is left: each host has what the other sent; what went out is marked, and what was taken left None in its place
abbrev last : World shape
last = after_all sums (start sums) told

sums_are : (last.hosts.zero.body ≡ 6) × (last.hosts.one.body ≡ 5) × (last.count ≡ 2)
sums_are = (refl, refl, refl)

tables_are : (last.hosts.zero.made ≡ (1, gone_out (unsent 5)) ∷ []) × (last.hosts.zero.wire ≡ (7, 5) ∷ []) × (last.hosts.zero.inbox ≡ (10, None) ∷ [])
tables_are = (refl, refl, refl)

abbrev broken : HostStep shape → Option Rule
broken d = first_broken (step_rules sums 5 last (At Zero d))

-- a segment goes out once: the same bytes again are not made, other bytes differ; a number of the other host was not made here
again : broken (Sends 11 1 5) ≡ Some rules.NotMade
again = refl

other_bytes_again : broken (Sends 11 1 4) ≡ Some rules.BytesDiffer
other_bytes_again = refl

never_made : broken (Sends 11 2 6) ≡ Some rules.NotMade
never_made = refl

-- a line comes in as often as the network likes, from the other host alone; what was taken does not wait
comes_again : broken (Gets 11 8 6) ≡ None
comes_again = refl

own_line : broken (Gets 11 7 5) ≡ Some rules.NoEmission
own_line = refl

other_copy : broken (Gets 11 8 5) ≡ Some rules.CopyDiffers
other_copy = refl

taken_again : broken (Takes 10 tt) ≡ Some rules.Inbox
taken_again = refl

never_came : broken (Drops 11) ≡ Some rules.Inbox
never_came = refl

-- a take or a drop of what is not there changes nothing; what is dropped leaves None in its place
nothing_changes : (after sums 5 last (At Zero (Takes 10 tt)) ≡ last) × (after sums 5 last (At Zero (Drops 11)) ≡ last)
nothing_changes = (refl, refl)

dropped : (after sums 5 (after sums 5 last (At Zero (Gets 11 8 6))) (At Zero (Drops 11))).hosts.zero.inbox ≡ (10, None) ∷ (11, None) ∷ []
dropped = refl

-- a thread is called, answered and idle again, in one place
abbrev called : World shape
called = after sums 5 last (Begin 11 4 tt)

abbrev answered : World shape
answered = after sums 5 called (Effect 4 tt)

turns_are : (called.threads ≡ (4, Called tt) ∷ []) × (answered.threads ≡ (4, Answered tt) ∷ [])
    × ((after sums 5 answered (Finish 12 4 tt)).threads ≡ (4, Idle) ∷ [])
turns_are = (refl, refl, refl)

abbrev breaks : World shape → Step shape → Option Rule
breaks w step = first_broken (step_rules sums 5 w step)

-- each in its turn: another thread may begin, this one may not; it ends after its one effect
while_called : (breaks called (Begin 12 6 tt) ≡ None) × (breaks called (Begin 12 4 tt) ≡ Some rules.ThreadBusy)
    × (breaks called (Finish 12 4 tt) ≡ Some rules.AnswerDiffers) × (breaks called (Effect 4 tt) ≡ None)
while_called = (refl, refl, refl, refl)

while_answered : (breaks answered (Begin 12 4 tt) ≡ Some rules.ThreadBusy) × (breaks answered (Finish 12 4 tt) ≡ None)
    × (breaks answered (Effect 4 tt) ≡ Some rules.DoneTwice)
while_answered = (refl, refl, refl)

while_idle : (breaks last (Finish 12 4 tt) ≡ Some rules.NoCall) × (breaks last (Effect 4 tt) ≡ Some rules.NoCall)
while_idle = (refl, refl)
