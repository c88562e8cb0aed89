-- What was read stands behind what was received.
use Rattle.std.proofs.Common.{◌≡◌, ◌∙◌, ◌+◌, ◌-◌, length, take, ap, rules}
use Rattle.std.proofs.lemmas.List.{places}
use Rattle.h1_transfer.proofs.FillLemmas.{room_filled, fills_behind}
use Rattle.h1_transfer.proofs.receiving.fill_up_to.Goals as goal

pub returns-clause-fills : goal.returns-clause-fills
returns-clause-fills g c =
    let old = c.args.received.now.items in
    let room = c.advance_mut.new.self.items in
    let all = c.as_mut_slice.result.now in
    let got = c.read-filled.new.room in
    let n = c.read-filled.result.1 in
    let is = c.len-len.ensures.value ∙ ap length c.reserve.ensures.items in
    let front : take (length old) room ≡ old = rw c.reserve.ensures.items at c.advance_mut.ensures.front in
    let long = c.advance_mut.ensures.len ∙ ap (λ xs. length xs + c.args.size) c.reserve.ensures.items in
    let size : length got ≡ length all - c.len-len.result = search (rules, places) in
    fills_behind _ _ old _ (take n got) c.read-filled.result.0 c.read-filled.ensures.fills
    (c.truncate.ensures.items
    ∙ room_filled old room all got c.len-len.result n c.args.size is c.as_mut_slice.ensures.value front
    long size c.read-filled.ensures.fits)
