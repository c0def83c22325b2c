use Rattle.streams.specs.Received.{body_kept}
use Rattle.streams.proofs.Fronts.{all_put_all, next_put_all}
use Rattle.streams.proofs.Keeping.{kept_within}
use Rattle.streams.proofs.Pieces.{cells_end, cells_grow, piece_in}
use Rattle.streams.proofs.ReadLemmas.{in_order}
use Rattle.streams.proofs.laws.streams_in_order.Goals as goal

pub returns : goal.returns
returns c = record {
  reads = in_order;
  takes = λ r accepted ended position bytes fin old new.
      all_put_all _ r.taken position (body_kept r.taken position bytes fin) old (λ k c e. new k c (kept_within r.taken position bytes fin k c e));
  advances = λ r position bytes fin. next_put_all r.taken position (body_kept r.taken position bytes fin);
  makes = piece_in;
  sends = cells_grow;
  finishes = cells_end;
}
