use Rattle.std.proofs.Common.{◌≡◌, ◌≤◌, ◌-◌, ◌+◌, ◌∙◌, List, ℕ, length, drop, ap, arith}
use borrow.Rule.Slice.PartMut.{put_mid}
use Rattle.std.proofs.lemmas.List.{length-drop, with_items_is}
use Rattle.streams.specs.Lists.{over}
use Rattle.streams.proofs.Overs.{part_long, part_over}
use Rattle.streams.proofs.byte_queue.ByteQueue.overwrite.Goals as goal

pub returns : goal.returns
returns c =
    let q = c.self.inside in
    let place = q.gone + c.args.place in
    let less = length-drop q.gone q.bytes.items in
    let within : q.gone ≤ length q.bytes.items = let most = c.self.invariant in omega arith in
    let view = ap (λ (xs : List ℕ). length xs) c.self.view_is in
    let written = ap (λ (xs : List ℕ). length xs) c.copy_from_slice.ensures.after in
    let count : q.gone + c.args.place + length c.args.bytes.now - (q.gone + c.args.place) ≡ length c.args.bytes.now = omega arith in
    let long = part_long place (q.gone + c.args.place + length c.args.bytes.now - (q.gone + c.args.place)) q.bytes.items
    c.copy_from_slice.new.self (omega arith) (omega arith) in
    rw c.deref_mut.ensures.value
    (ap (drop q.gone) (with_items_is q.bytes (put_mid place _ q.bytes.items c.copy_from_slice.new.self) (let ok = q.bytes.ok.0 in omega arith))
    ∙ (part_over c.args.place _ q.gone q.bytes.items c.copy_from_slice.new.self c.args.bytes.now within c.copy_from_slice.ensures.after count
    ∙ ap (λ (xs : List ℕ). over c.args.place xs c.args.bytes.now) c.self.view_is))
