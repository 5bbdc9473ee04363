use Rattle.std.proofs.Common.{ℕ, Option, ap, unwrap_or}
use Rattle.generators.proofs.Queues.{queue_same}
use Rattle.generators.proofs.lines.Lines.room.Goals as goal

pub returns-clause-queues : goal.returns-clause-queues
returns-clause-queues c = λ d name. queue_same c.args.self.now (record { lines = c.reserve.new.self; turns = c.reserve-2.new.self }) d name
    (ap (λ o. unwrap_or o (record { first = 0; waiting = 0 })) (c.reserve.ensures.entries.2 (d, name)))
    (λ k. ap (λ (o : Option ℕ). unwrap_or o 0) (c.reserve-2.ensures.entries.2 (d, name, k)))
