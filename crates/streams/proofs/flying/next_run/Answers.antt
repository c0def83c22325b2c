use Rattle.std.proofs.Common.{suc, ◌-◌, ◌++◌, ◌∙◌, refl, ap, sym, arith}
use Rattle.std.specs.Prelude.{Some}
use Rattle.std.specs.List.{zip}
use Rattle.streams.specs.Flying.{flying_in, state_before}
use Rattle.streams.specs.Pieces.{alike}
use Rattle.streams.specs.Ranges.{positions}
use Rattle.streams.specs.declared.outstanding.Outstanding.{Outstanding}
use Rattle.streams.proofs.FlyingLemmas.{all_passed, begins, first_run, left, none_left, passed, run_alike}
use Rattle.streams.proofs.flying.next_run.Goals as goal

pub returns-then-upto-first-clause-none : goal.returns-then-upto-first-clause-none
returns-then-upto-first-clause-none c none =
    all_passed c.args.known.now c.args.told.now c.args.from c.args.upto c.next_missing-first.result
    (begins c.args.known.now c.args.told.now c.args.from c.snd_una.result c.max.result c.next_missing-first.result c.max.ensures c.snd_una.ensures
    c.next_missing-first.ensures.held) c.if-upto-first.true

pub returns-in-None-clause-none : goal.returns-in-None-clause-none
returns-in-None-clause-none c none =
    none_left c.args.known.now c.args.told.now c.args.from c.args.upto c.next_missing-first.result
    (begins c.args.known.now c.args.told.now c.args.from c.snd_una.result c.max.result c.next_missing-first.result c.max.ensures c.snd_una.ensures
    c.next_missing-first.ensures.held) (c.in-None.ensures.none refl)

pub returns-in-Some-clause-some : goal.returns-in-Some-clause-some
returns-in-Some-clause-some c =
    let greater = c.max.ensures in
    let acked = c.snd_una.ensures in
    let from = c.next_missing-first.ensures.from in
    let least = c.min.ensures in
    let some = c.untold_upto-next.ensures.some in
    let most = c.untold_upto-next.ensures.most in (
      omega (arith, greater, from),
      some,
      omega (arith, least, most),
      first_run c.args.known.now c.args.told.now c.args.from c.next_missing-first.result c.untold_upto-next.result c.in-Some.end c.args.upto c.in-Some.state
          (omega (arith, greater, acked, from)) some (omega (arith, least, most)) (omega (arith, least, most))
          (begins c.args.known.now c.args.told.now c.args.from c.snd_una.result c.max.result c.next_missing-first.result c.max.ensures
          c.snd_una.ensures
          c.next_missing-first.ensures.held)
          c.untold_upto-next.ensures.untold c.in-Some.ensures.some.1
          ∙ ap (λ (x : Outstanding). zip (positions c.next_missing-first.result c.untold_upto-next.result)
          (alike x (c.untold_upto-next.result - c.next_missing-first.result))
          ++ flying_in c.args.known.now c.args.told.now c.untold_upto-next.result c.args.upto) (sym c.state_before.ensures),
    )

pub returns-then-upto-first-clause-rests : goal.returns-then-upto-first-clause-rests
returns-then-upto-first-clause-rests c none p low high =
    let over = c.if-upto-first.true in
    passed c.args.known.now c.args.told.now c.args.from c.next_missing-first.result p
    (begins c.args.known.now c.args.told.now c.args.from c.snd_una.result c.max.result c.next_missing-first.result c.max.ensures c.snd_una.ensures
    c.next_missing-first.ensures.held) low (omega (arith, over, high))

pub returns-in-None-clause-rests : goal.returns-in-None-clause-rests
returns-in-None-clause-rests c none p low high =
    left c.args.known.now c.args.told.now c.args.from c.next_missing-first.result p
    (begins c.args.known.now c.args.told.now c.args.from c.snd_una.result c.max.result c.next_missing-first.result c.max.ensures c.snd_una.ensures
    c.next_missing-first.ensures.held) (c.in-None.ensures.none refl) low

pub returns-in-Some-clause-before : goal.returns-in-Some-clause-before
returns-in-Some-clause-before c p low high =
    passed c.args.known.now c.args.told.now c.args.from c.next_missing-first.result p
    (begins c.args.known.now c.args.told.now c.args.from c.snd_una.result c.max.result c.next_missing-first.result c.max.ensures c.snd_una.ensures
    c.next_missing-first.ensures.held) low high

pub returns-in-Some-clause-alike : goal.returns-in-Some-clause-alike
returns-in-Some-clause-alike c p low high =
    let least = c.min.ensures in
    let most = c.untold_upto-next.ensures.most in
    run_alike c.args.known.now c.args.told.now c.next_missing-first.result c.untold_upto-next.result c.in-Some.end c.in-Some.state
    (omega (arith, least, most)) c.untold_upto-next.ensures.untold c.in-Some.ensures.some.1 p low high
    ∙ ap (λ (x : Outstanding). Some (state_before (suc p) c.untold_upto-next.result x)) (sym c.state_before.ensures)
