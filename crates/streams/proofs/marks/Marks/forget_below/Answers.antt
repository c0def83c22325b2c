use Rattle.streams.proofs.MarkLemmas.{none_lower, still_marked}
use Rattle.streams.proofs.marks.Marks.forget_below.Goals as goal

pub returns-then-snd_una-self : goal.returns-then-snd_una-self
returns-then-snd_una-self c end h = (h, λ position. none_lower c.args.self.now c.args.snd_una end position c.if-snd_una-self.true h)

pub returns : goal.returns
returns c end h =
    let below = c.drop_below-self.ensures.below c.args.self.now.floor end h.0 h.1 in (
      below,
      λ position. still_marked c.args.self.now.ranges.entries c.drop_below-self.new.ranges.entries
          c.args.self.now.floor c.args.self.now.reached c.drop_below-self.result c.args.snd_una end position
          c.if-snd_una-self.false below.0 (λ low. c.drop_below-self.ensures.same position low),
    )
