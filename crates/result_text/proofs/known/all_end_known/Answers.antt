use Rattle.std.proofs.Common.{subst, rules}
use Rattle.std.specs.List.{All}
use Rattle.journal_text.proofs.Places.{every_place, more_places, no_place}
use Rattle.result_text.specs.Known.{KnownEnd}
use Rattle.result_text.proofs.known.all_end_known.Goals as goal

pub returns-then-not-ends_known : goal.returns-then-not-ends_known
returns-then-not-ends_known c = no_place (All (KnownEnd c.args.names.now)) (λ v. v.items) c.args.ends.now c.loop-client.client-index c.client-item.result c.loop-client-test.true c.client-item.is c.ends_known.result (search rules) (λ all. c.ends_known.ensures.1 (rw c.as_slice.ensures.value all))

pub loop-client-preserved : goal.loop-client-preserved
loop-client-preserved c = more_places (All (KnownEnd c.args.names.now)) (λ v. v.items) c.args.ends.now c.loop-client.client-index c.client-item.result c.loop-client-test.true c.client-item.is c.loop-client.invariant (subst (All (KnownEnd c.args.names.now)) c.as_slice.ensures.value (c.ends_known.ensures.0 (search rules)))

pub returns : goal.returns
returns c = (λ _. every_place (All (KnownEnd c.args.names.now)) (λ v. v.items) c.args.ends.now c.loop-client.client-index c.loop-client-test.false c.loop-client.invariant, λ _. search rules)
