use Rattle.std.proofs.Common.{◌≡◌, ◌<◌, ◌≤◌, ℕ, true, nat_le, nat_lt, length, refl, sym, subst, arith}
use Rattle.std.specs.Prelude.{◌&&◌}
use Rattle.std.proofs.lemmas.Bool.Decides.{nat_tests}
use Rattle.streams.specs.Pieces.{acknowledged}
use Rattle.flight_parts.proofs.SetLemmas.{read_back}
use Rattle.scoreboard.proofs.scoreboard.Scoreboard.build.Goals as goal

lies : (from upto una end : ℕ) → from < upto → una ≤ from → from ≤ end
    → (nat_lt from upto && nat_le una from && nat_le from end) ≡ true
lies from upto una end a b c = grind (arith, nat_tests, a, b, c)

pub returns : goal.returns
returns c =
    let at : (nat_lt c.args.stretch.from c.args.stretch.upto && nat_le
    (acknowledged c.self.inside.known) c.args.stretch.from && nat_le c.args.stretch.from (length c.self.inside.known)) ≡ true =
    lies c.args.stretch.from c.args.stretch.upto (acknowledged c.self.inside.known) (length c.self.inside.known)
    c.if-upto-from.false (subst (λ (n : ℕ). n ≤ c.args.stretch.from) c.snd_una.ensures c.if-from-snd_una.false)
    (subst (λ (n : ℕ). c.args.stretch.from ≤ n) c.end.ensures c.if-end-from.false) in
    rw (
      c.in_ok-make.ensures.ok,
      c.from.ensures,
      c.in_ok-remove.ensures.ok,
      c.in_ok-remove-2.ensures.ok,
      c.in_ok-push_back.ensures.items,
      sym
          c.self.view_is,
      read_back c.self.inside.told,
      read_back c.self.inside.ends,
      at,
    ) refl
