-- What two books would say if a merge or a book were less than it is: computed, with the rule that refuses it.
use Rattle.std.proofs.Common.{◌≡◌, ℕ, suc, false, nat_le, if◌then◌else◌, List, [], ◌∷◌, ◌++◌, take, drop, Option, Some, None, refl}
use Rattle.case_forms.specs.declared.calls.Host.TheVariants.{Zero, One}
use Rattle.case_forms.specs.declared.calls.Call.TheVariants as calls
use Rattle.case_forms.specs.declared.calls.Answer.TheVariants as answers
use Rattle.verdict.specs.declared.rule.Rule.{Rule}
use Rattle.verdict.specs.declared.rule.Rule.TheVariants as rules
use Rattle.verdict.specs.Rules.{first_broken}
use Rattle.spec_network.specs.Tables.{on}
use Rattle.spec_network.specs.Hosts.{World, Begin, Effect, Finish, At, Gets, Stamped}
use Rattle.spec_network.specs.HostRules.{step_rules}
use Rattle.spec_network.specs.HostSteps.{after, start}
use Rattle.spec_merge.specs.Books.{step_line}
use Rattle.spec_merge.specs.Keys.{merge}
use Rattle.spec_merge.specs.Merging.{Names, names_of, steps_of}
use Rattle.spec_tcp.specs.Machine.{tcp, tcp_shape}
use Rattle.spec_merge.specs.Recordings.{TcpEntry, merged, world_of}
use Rattle.spec_merge.proofs.BookTests.{is_rising}
use Rattle.spec_merge.proofs.Entries.{does, header}
use Rattle.spec_merge.proofs.TwoBooks.{hello, ones, syn, syn_ack, zeros}

-- the place among steps, from 0, of the first that breaks a rule, with the rule
abbrev refused_from : ℕ → World tcp_shape → List (Stamped tcp_shape) → Option (ℕ × Rule)
refused_from place w [] = None
refused_from place w (x ∷ xs) =
    on (first_broken (step_rules (tcp header) x.moment w x.step))
    (refused_from (suc place) (after (tcp header) x.moment w x.step) xs) (λ rule. Some (place, rule))

abbrev refused : List (Stamped tcp_shape) → Option (ℕ × Rule)
refused steps = refused_from 0 (start (tcp header)) steps

abbrev together : List TcpEntry
together = merge (tcp header) zeros ones

abbrev names : Names
names = names_of (tcp header) 7 together

-- merged by keys, with all numbers counted anew, no step is refused
by_keys : refused (merged header 7 zeros ones) ≡ None
by_keys = refl

-- a merge by moments alone
abbrev by_moment_with : TcpEntry → (List TcpEntry → List TcpEntry) → List TcpEntry → List TcpEntry
by_moment_with x rest [] = x ∷ rest []
by_moment_with x rest (y ∷ ys) = if nat_le x.key.moment y.key.moment then x ∷ rest (y ∷ ys) else y ∷ by_moment_with x rest ys

abbrev by_moment : List TcpEntry → List TcpEntry → List TcpEntry
by_moment [] ys = ys
by_moment (x ∷ xs) ys = by_moment_with x (by_moment xs) ys

-- the answer to the SYN comes before it was sent
moments_alone : refused (steps_of (tcp header) (names_of (tcp header) 7 (by_moment zeros ones)) (by_moment zeros ones)) ≡ Some (10, rules.NoEmission)
moments_alone = refl

-- an arrival under a key below that of its segment
abbrev early : List TcpEntry
early = take 5 zeros ++ (does 49 6 Zero (At Zero (Gets 10 10 syn_ack)) ∷ drop 7 zeros)

early_arrival : refused (merged header 7 early ones) ≡ Some (10, rules.NoEmission)
early_arrival = refl

-- made numbers as each host counted them: host 1's first is not its own
old_made_numbers : refused (steps_of (tcp header) (record names { made = λ host n. n }) together) ≡ Some (11, rules.NotMade)
old_made_numbers = refl

-- the numbers of the lines that steps take
abbrev numbers : List (Stamped tcp_shape) → List ℕ
numbers [] = []
numbers (x ∷ xs) = on (step_line (tcp header) x.step) (numbers xs) (λ n. n ∷ numbers xs)

-- counted anew each line is taken once, in its order
new_lines : numbers (steps_of (tcp header) names together) ≡ 7 ∷ 8 ∷ 9 ∷ 10 ∷ 11 ∷ 12 ∷ 13 ∷ 14 ∷ 15 ∷ 16 ∷ 17 ∷ 18 ∷ 19 ∷ 20 ∷ 21 ∷ 22 ∷ 23 ∷ 24 ∷ 25 ∷ 26 ∷ []
new_lines = refl

-- lines as each host numbered them: a run, since each host's wire has its own, but no placement
old_lines : take 4 (numbers (steps_of (tcp header) (record names { line = λ host n. n }) together)) ≡ 7 ∷ 8 ∷ 7 ∷ 8 ∷ []
old_lines = refl

-- an arrival at host 0 that copies host 0's own line
own_line : first_broken (step_rules (tcp header) 50 (world_of header Zero (take 6 zeros)) (At Zero (Gets 10 9 syn))) ≡ Some rules.NoEmission
own_line = refl

-- a book whose last keys fall
abbrev falling : List TcpEntry
falling = take 17 ones ++ (
    does 1000119 15 One (Begin 15 1 (calls.Recv 7 100))
    ∷ does 1000119 16 One (Effect 1 (answers.Bytes hello))
    ∷ does 1000119 16 One (Finish 16 1 (answers.Bytes hello))
    ∷ [])

keys_fall : is_rising One falling ≡ false
keys_fall = refl
