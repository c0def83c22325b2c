use Rattle.std.proofs.Common.{◌≡◌, ◌≤◌, ◌-◌, ◌+◌, ◌∙◌, List, ℕ, length, drop, replicate, sym, ap, arith}
use borrow.Rule.Slice.PartMut.{put_mid}
use Rattle.std.proofs.lemmas.List.{length-drop, length-replicate, length-take-le, with_items_is}
use Rattle.streams.specs.Lists.{over}
use Rattle.streams.proofs.Overs.{part_long, part_over}
use Rattle.streams.proofs.byte_queue.ByteQueue.overfill.Goals as goal

pub returns : goal.returns
returns c =
    let q = c.self.inside in
    let place = q.gone + c.args.place in
    let less = length-drop q.gone q.bytes.items in
    let within : q.gone ≤ length q.bytes.items = let most = c.self.invariant in omega arith in
    let view = ap (λ (xs : List ℕ). length xs) c.self.view_is in
    let rep = length-replicate c.args.count c.args.byte in
    let count : q.gone + c.args.place + c.args.count - (q.gone + c.args.place) ≡ length (replicate c.args.count c.args.byte) = omega arith in
    let here = length-drop place q.bytes.items in
    let part = length-take-le (q.gone + c.args.place + c.args.count - (q.gone + c.args.place)) (drop place q.bytes.items) (omega arith) in
    let short : q.gone + c.args.place + c.args.count - (q.gone + c.args.place) ≡ c.args.count = omega arith in
    let ones : length c.fill.new.self ≡ c.args.count = (rw c.deref_mut.ensures.value at c.fill.ensures.len) ∙ (part ∙ short) in
    let filled : c.fill.new.self ≡ replicate c.args.count c.args.byte =
    c.fill.ensures.after (λ y e. e) ∙ ap (λ (n : ℕ). replicate n c.args.byte) (sym c.fill.ensures.len ∙ ones) in
    let written = ap (λ (xs : List ℕ). length xs) filled in
    let long = part_long place (q.gone + c.args.place + c.args.count - (q.gone + c.args.place)) q.bytes.items c.fill.new.self (omega arith) (omega arith) in
    rw c.deref_mut.ensures.value
    (ap (drop q.gone) (with_items_is q.bytes (put_mid place _ q.bytes.items c.fill.new.self) (let ok = q.bytes.ok.0 in omega arith))
    ∙ (part_over c.args.place _ q.gone q.bytes.items c.fill.new.self (replicate c.args.count c.args.byte) within filled count
    ∙ ap (λ (xs : List ℕ). over c.args.place xs (replicate c.args.count c.args.byte)) c.self.view_is))
