use Rattle.std.proofs.Common.{List, ℕ, ap, ◌∙◌}
use Rattle.std.specs.Prelude.{nat_eq}
use Rattle.indexmap.specs.IndexMap.{insert_entry}
use Rattle.spec_flights.specs.Flights.{Flight}
use Rattle.tables.specs.Tables.{changed_at}
use Rattle.flights.proofs.TableLemmas.{put_back}
use Rattle.flights.proofs.flights.take_from.Goals as goal

pub returns-in-Some-clause-put_back : goal.returns-in-Some-clause-put_back
returns-in-Some-clause-put_back c f =
    ap (λ (es : List (ℕ × Flight)). insert_entry nat_eq es c.args.place f)
    (c.replace.ensures.entries ∙ ap (λ (n : ℕ). changed_at (λ old. c.new.result) c.args.table.now.entries n) c.from.ensures)
    ∙ put_back c.args.table.now.entries c.args.place c.new.result f
