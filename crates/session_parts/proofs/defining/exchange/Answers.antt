use Rattle.std.proofs.Common.{ap, ◌∙◌, ◌++◌, length, arith}
use Rattle.session_model.specs.Lists.{numbered}
use Rattle.std.proofs.lemmas.List.Sums.{count_by-le-length}
use Rattle.instances.specs.Table.{fresh_rows, replaced_row}
use Rattle.session_parts.proofs.Exchanges.{rows_gone, gone_length, exchanged_length}
use Rattle.session_parts.proofs.defining.exchange.Goals as goal

pub define-requires-clause-room : goal.define-requires-clause-room
define-requires-clause-room c = omega (arith, c.requires.room, c.replace.ensures.rooms.1, gone_length c.args.replaced.now c.args.graph.now.rows c.replace.new.self.rows c.replace.ensures.rows)

pub define-requires-clause-few : goal.define-requires-clause-few
define-requires-clause-few c = omega (arith, c.requires.few, gone_length c.args.replaced.now c.args.graph.now.rows c.replace.new.self.rows c.replace.ensures.rows)

pub overflow_sub-result : goal.overflow_sub-result
overflow_sub-result c = omega (arith, ap length c.rows.ensures, ap length c.rows-before.ensures, exchanged_length c.args.d.0 c.replace.new.self.units c.args.replaced.now c.args.offers.now c.args.live.now c.args.graph.now.rows c.replace.new.self.rows c.define.new.self.rows c.replace.ensures.rows c.define.ensures.rows c.requires.flags)

pub overflow_cast-result : goal.overflow_cast-result
overflow_cast-result c = omega (arith, c.requires.few, c.requires.flags, count_by-le-length (λ b. b) c.args.live.now, ap length c.rows.ensures, ap length c.rows-before.ensures, exchanged_length c.args.d.0 c.replace.new.self.units c.args.replaced.now c.args.offers.now c.args.live.now c.args.graph.now.rows c.replace.new.self.rows c.define.new.self.rows c.replace.ensures.rows c.define.ensures.rows c.requires.flags)

pub returns-clause-rows : goal.returns-clause-rows
returns-clause-rows c = c.define.ensures.rows
    ∙ (ap (λ rs. rs ++ fresh_rows c.args.d.0 c.replace.new.self.units 0 c.args.offers.now c.args.live.now) (rows_gone c.args.replaced.now c.args.graph.now.rows c.replace.new.self.rows c.replace.ensures.rows)
    ∙ ap (λ n. numbered (replaced_row c.args.replaced.now) 0 c.args.graph.now.rows ++ fresh_rows c.args.d.0 n 0 c.args.offers.now c.args.live.now) c.replace.ensures.rooms.0)

pub returns-clause-count : goal.returns-clause-count
returns-clause-count c = omega (arith, ap length c.rows.ensures, ap length c.rows-before.ensures, exchanged_length c.args.d.0 c.replace.new.self.units c.args.replaced.now c.args.offers.now c.args.live.now c.args.graph.now.rows c.replace.new.self.rows c.define.new.self.rows c.replace.ensures.rows c.define.ensures.rows c.requires.flags)

pub returns-clause-tells : goal.returns-clause-tells
returns-clause-tells c = c.tells_on.ensures c.args.graph.now c.replace.new.self c.define.new.self (omega (arith, gone_length c.args.replaced.now c.args.graph.now.rows c.replace.new.self.rows c.replace.ensures.rows)) c.replace.ensures.tells c.define.ensures.tells
