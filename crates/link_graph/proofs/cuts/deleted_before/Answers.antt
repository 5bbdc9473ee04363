use Rattle.std.proofs.Common.{sym, arith}
use Rattle.link_graph.proofs.Deletions.{none_before, last_is, deleted_few}
use Rattle.link_graph.proofs.cuts.deleted_before.Goals as goal

pub returns-then-count-eq0-clause-exact : goal.returns-then-count-eq0-clause-exact
returns-then-count-eq0-clause-exact c = sym (none_before c.args.cuts.now c.args.at c.cuts_before-count.result c.requires c.if-count-eq0.true c.cuts_before-count.ensures.after)

pub overflow_sub-at : goal.overflow_sub-at
overflow_sub-at c =
    let last = last_is c.args.cuts.now c.args.at c.cuts_before-count.result (record { from = 0; to = 0; before = 0; boundary = 0 }) c.requires c.if-count-eq0.false c.cuts_before-count.ensures.few c.cuts_before-count.ensures.before c.cuts_before-count.ensures.after in
    let starts = last.starts in
    omega arith

pub overflow_sub-last-2 : goal.overflow_sub-last-2
overflow_sub-last-2 c =
    (last_is c.args.cuts.now c.args.at c.cuts_before-count.result (record { from = 0; to = 0; before = 0; boundary = 0 }) c.requires c.if-count-eq0.false c.cuts_before-count.ensures.few c.cuts_before-count.ensures.before c.cuts_before-count.ensures.after).long

pub overflow_add-result : goal.overflow_add-result
overflow_add-result c =
    let last = last_is c.args.cuts.now c.args.at c.cuts_before-count.result (record { from = 0; to = 0; before = 0; boundary = 0 }) c.requires c.if-count-eq0.false c.cuts_before-count.ensures.few c.cuts_before-count.ensures.before c.cuts_before-count.ensures.after in
    let is = last.is in
    let few = deleted_few c.args.cuts.now c.args.at c.requires in
    omega (arith, c.min.ensures)

pub returns-clause-exact : goal.returns-clause-exact
returns-clause-exact c =
    let last = last_is c.args.cuts.now c.args.at c.cuts_before-count.result (record { from = 0; to = 0; before = 0; boundary = 0 }) c.requires c.if-count-eq0.false c.cuts_before-count.ensures.few c.cuts_before-count.ensures.before c.cuts_before-count.ensures.after in
    let is = last.is in
    omega (arith, c.min.ensures)

pub returns-clause-few : goal.returns-clause-few
returns-clause-few c =
    let last = last_is c.args.cuts.now c.args.at c.cuts_before-count.result (record { from = 0; to = 0; before = 0; boundary = 0 }) c.requires c.if-count-eq0.false c.cuts_before-count.ensures.few c.cuts_before-count.ensures.before c.cuts_before-count.ensures.after in
    let is = last.is in
    let few = deleted_few c.args.cuts.now c.args.at c.requires in
    omega (arith, c.min.ensures)
