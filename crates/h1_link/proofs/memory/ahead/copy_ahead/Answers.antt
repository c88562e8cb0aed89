use Rattle.std.proofs.Common.{rules, drop, arith}
use Rattle.h1_link.proofs.MemReads.{take_read}
use Rattle.h1_link.proofs.memory.ahead.copy_ahead.Goals as goal

pub returns-clause-copied : goal.returns-clause-copied
returns-clause-copied c =
    let count = c.min-count.result in
    let rest = drop count c.args.buf.now in
    take_read c.args.next count c.args.put.now c.copy_from_slice.new.self rest (omega arith) (search rules)
