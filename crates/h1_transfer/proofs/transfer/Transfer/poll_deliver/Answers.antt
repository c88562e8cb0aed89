-- What delivering came to is what the call answers.
use Rattle.std.proofs.Common.{refl}
use Rattle.h1_transfer.proofs.transfer.Transfer.poll_deliver.Goals as goal

pub returns-clause-delivers : goal.returns-clause-delivers
returns-clause-delivers g c =
    let delivered = c.deliver-answer.ensures in
    rw (← c.self.view_is) (record {
      left = c.deliver-answer.new.budget;
      sent = rw c.allowance_of-left.ensures at delivered.sent;
      budget = c.budget_left-self-inside.ensures;
      rest = refl;
      same = delivered.same;
      counted = delivered.counted;
      answer = delivered.answer;
    })
