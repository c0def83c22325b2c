use Rattle.streams.proofs.marks.Marks.add.Goals as goal

pub returns-in_err-lower-clause-below : goal.returns-in_err-lower-clause-below
returns-in_err-lower-clause-below c end high h = c.lower.ensures.below end h

pub returns-clause-below : goal.returns-clause-below
returns-clause-below c end high h =
    let lower = c.lower.ensures.below end h in
    (c.add_range.ensures.below c.lower.new.self.floor end c.in_ok-lower.ensures.low high lower.0, lower.1)
