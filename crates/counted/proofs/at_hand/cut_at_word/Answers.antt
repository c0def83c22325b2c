use Rattle.std.proofs.Common.{rules}
use Rattle.counted.proofs.AtHand.{feed_in, one_more_other}
use Rattle.counted.proofs.at_hand.cut_at_word.Goals as goal

pub loop-feed-preserved : goal.loop-feed-preserved
loop-feed-preserved c = record {
  within = search rules;
  others =
      one_more_other _ _ _ _ c.loop-feed.invariant.others
      (feed_in c.args.bytes.now c.loop-feed.lines c.in-Some.feed c.in-Some.ensures.0.high c.in-Some.ensures.0.before c.in-Some.ensures.1)
      (λ line. search rules);
}
