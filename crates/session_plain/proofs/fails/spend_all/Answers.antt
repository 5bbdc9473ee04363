use Rattle.std.proofs.Common.{rules}
use Rattle.session_plain.specs.Meant.{gen_row}
use Rattle.session_model.specs.Change.{removed_generator}
use Rattle.session_plain.proofs.ListLemmas.{seen_more}
use Rattle.session_plain.proofs.fails.spend_all.Goals as goal

pub loop-g-preserved : goal.loop-g-preserved
loop-g-preserved g c = seen_more (gen_row g.U.UnitKind.meaning) (removed_generator c.args.t.0) c.loop-g.g-index c.args.generators.now c.loop-g.generators c.g-item.result c.spend_one.new.g c.loop-g.invariant (search rules) (search (rules, c.spend_one.ensures))
