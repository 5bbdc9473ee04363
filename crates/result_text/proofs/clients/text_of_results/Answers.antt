use Rattle.std.proofs.Common.{subst, sym}
use Rattle.std.specs.List.{All}
use Rattle.journal_text.proofs.Places.{at_place}
use Rattle.result_text.specs.Known.{KnownEnd}
use Rattle.result_text.proofs.clients.text_of_results.Goals as goal

pub put_client-requires-clause-answered : goal.put_client-requires-clause-answered
put_client-requires-clause-answered c = subst (All (KnownEnd c.args.names.now)) (sym c.as_slice.ensures.value) (at_place (All (KnownEnd c.args.names.now)) (λ v. v.items) c.args.ends.now c.loop-k.k c.index-ends-k.result c.loop-k-test.true c.index-ends-k.is c.requires.answered)
