use Rattle.std.proofs.Common.{ℕ, ◌+◌, ◌-◌, List, Option, take, length, suc, ap, arith}
use Rattle.streams.specs.declared.cell.Cell.{Cell}
use Rattle.streams.specs.Cells.{front, leading}
use Rattle.streams.specs.Received.{Receiving}
use Rattle.streams.proofs.Covers.{covered-append, covered-covered, drop-covered, length-covered}
use Rattle.streams.proofs.Fades.{drop-fade, fade-fade, is_fin-fade, length-front-fade}
use Rattle.streams.proofs.Keeping.{kept_forgotten}
use Rattle.streams.proofs.laws.forgetting_streams.Goals as goal

-- what was taken, with so many bytes delivered
abbrev with : ℕ → List (Option Cell) → Receiving
with delivered taken = record { taken = taken; delivered = delivered }

pub returns : goal.returns
returns c = record {
  counts = λ r. length-front-fade (suc r.delivered) r.taken;
  ends = λ r. rw (length-front-fade (suc r.delivered) r.taken) (is_fin-fade (suc r.delivered) r.taken (length (front r.taken) - 1));
  reads = λ r. ap leading (drop-fade (suc r.delivered) r.taken);
  takes = kept_forgotten;
  tells = λ r count. ap (with (r.delivered + count)) (fade-fade (suc r.delivered) (suc (r.delivered + count)) r.taken (omega arith));
  measures = λ snd_una accepted. ap (λ n. 1 + n) (length-covered 0 (snd_una - 1) accepted);
  sends = λ snd_una accepted bytes. covered-append 0 (snd_una - 1) accepted bytes;
  makes = λ snd_una accepted position count h. ap (take count) (drop-covered 0 (snd_una - 1) (position - 1) accepted (omega arith));
  acks = λ snd_una higher accepted h. covered-covered 0 (snd_una - 1) (higher - 1) accepted (omega arith);
}
