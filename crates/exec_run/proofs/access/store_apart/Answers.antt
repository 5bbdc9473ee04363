-- Nothing is stored unless all is mapped.
use Rattle.std.proofs.Common.{◌≡◌, false, true, refl}
use Rattle.code_memory.specs.Mapped.{byte_at}
use Rattle.exec_run.proofs.Loads.{load_missing, never_read, read_gathered, none_of, some_of}
use Rattle.exec_run.proofs.access.store_apart.Goals as goal

pub returns-then-is_none-clause-mapped : goal.returns-then-is_none-clause-mapped
returns-then-is_none-clause-mapped c =
    let none = none_of c.gather.result _ c.gather.ensures.missing c.if-is_none.ensures in
    let unread = load_missing (byte_at c.args.memory.now) c.args.at c.args.width none in (
      λ (f : false ≡ true). absurd cc,
      λ some. absurd (never_read (byte_at c.args.memory.now) c.args.at c.args.width unread some),
    )

pub returns-clause-mapped : goal.returns-clause-mapped
returns-clause-mapped c =
    let found = some_of c.gather.result _ c.gather.ensures.found c.if-is_none.ensures in
    (λ _. read_gathered c.args.memory.now c.args.at c.args.width found.0 found.1, λ _. refl)
