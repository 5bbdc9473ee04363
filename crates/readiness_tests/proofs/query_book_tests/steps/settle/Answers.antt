use Rattle.std.proofs.Common.{refl}
use Rattle.readiness_tests.proofs.FirstChange.{first_told}
use Rattle.readiness_tests.proofs.query_book_tests.steps.settle.Goals as goal

pub settle-requires : goal.settle-requires
settle-requires c = first_told c.args.first.now.failed c.args.first.now.ready _ c.args.book.now c.requires refl
