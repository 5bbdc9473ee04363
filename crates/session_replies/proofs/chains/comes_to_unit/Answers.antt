use Rattle.std.proofs.Common.{true, false, subst, ◌∙◌, ◌<◌, length}
use Rattle.session_replies.proofs.Walking.{tested, along_found, along_ends, along_next, along_last}
use Rattle.session_replies.proofs.chains.comes_to_unit.Goals as goal

pub returns-then-is_of_unit : goal.returns-then-is_of_unit
returns-then-is_of_unit g c = λ m l.
    let rows = c.rows-rows.ensures ∙ l.parts.kept.rows in
    along_found m c.args.u.0 c.loop.counter c.loop.at.0 c.args.from.0
    (tested m c.args.u.0 c.loop.at.0 c.rows-rows.result.now c.is_of_unit.result true rows c.is_of_unit.ensures c.if-is_of_unit.true)
    (c.loop.invariant m l)

pub returns-in-None : goal.returns-in-None
returns-in-None g c = λ m l.
    let rows = c.rows-rows.ensures ∙ l.parts.kept.rows in
    along_ends m c.args.u.0 c.loop.counter c.loop.at.0 c.args.from.0
    (tested m c.args.u.0 c.loop.at.0 c.rows-rows.result.now c.is_of_unit.result false rows c.is_of_unit.ensures c.if-is_of_unit.false)
    (c.in-None.ensures m l)
    (c.loop.invariant m l)

pub loop-preserved : goal.loop-preserved
loop-preserved g c = λ m l.
    let rows = c.rows-rows.ensures ∙ l.parts.kept.rows in
    along_next m c.args.u.0 c.loop.counter c.loop.at.0 c.args.from.0 c.in-Some.next
    (subst (λ rs. c.loop.counter < length rs) rows c.loop-test.true)
    (tested m c.args.u.0 c.loop.at.0 c.rows-rows.result.now c.is_of_unit.result false rows c.is_of_unit.ensures c.if-is_of_unit.false)
    (c.in-Some.ensures m l)
    (c.loop.invariant m l)

pub returns : goal.returns
returns g c = λ m l.
    along_last m c.args.u.0 c.loop.counter c.loop.at.0 c.args.from.0 c.rows-rows.result.now c.is_of_unit-2.result (c.rows-rows.ensures ∙ l.parts.kept.rows) c.is_of_unit-2.ensures c.loop-test.false (c.loop.invariant m l)
