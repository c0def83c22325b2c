use Rattle.std.proofs.Common.{◌+◌, ◌-◌, List, Option, take, length, replicate, ap}
use Rattle.std.specs.Option.{option_map}
use Rattle.streams.specs.declared.transmission.Transmission.{Transmission}
use Rattle.streams.specs.Transmissions.{any_again, once}
use Rattle.streams.proofs.Covers.{covered-covered, drop-covered, get-covered, length-covered}
use Rattle.streams.proofs.Fades.{below-mark}
use Rattle.streams.proofs.laws.forgetting_transmissions.Goals as goal

pub returns : goal.returns
returns c = record {
  measures = λ snd_una all. length-covered (once 0) snd_una all;
  makes =
      λ snd_una all position count moment.
      rw (length-covered (once 0) snd_una all)
      (below-mark snd_una position count all (replicate (position + count - length all) (once moment)));
  asks = λ snd_una all from upto h. ap (λ (xs : List Transmission). any_again (take (upto - from) xs)) (drop-covered (once 0) snd_una from all h);
  times =
      λ snd_una all position h. ap (λ (x : Option Transmission). option_map (λ (y : Transmission). y.moment) x)
      (get-covered (once 0) snd_una position all h);
  acks = λ snd_una higher all h. covered-covered (once 0) snd_una higher all h;
}
