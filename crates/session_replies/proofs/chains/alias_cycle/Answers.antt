use Rattle.std.proofs.Common.{ap, sym, true, false, ◌∙◌, option_map}
use Rattle.session_model.specs.declared.entry.Reply.TheVariants.{AliasCycle}
use Rattle.session_replies.proofs.Walking.{no_target, its_target}
use Rattle.session_replies.proofs.chains.alias_cycle.Goals as goal

pub returns-in_err-i : goal.returns-in_err-i
returns-in_err-i g c = λ m x l one is.
    no_target m c.args.u.0 x c.args.found.now c.target.result one is c.target.ensures c.in_err-i.was ∙ sym (ap (option_map AliasCycle) c.from_residual.ensures)

pub returns-then-comes_to_unit : goal.returns-then-comes_to_unit
returns-then-comes_to_unit g c = λ m x l one is.
    its_target m c.args.u.0 x c.args.found.now c.target.result c.in_ok-i.i c.comes_to_unit.result true one is c.target.ensures c.in_ok-i.was (c.comes_to_unit.ensures m l) c.if-comes_to_unit.true

pub returns-else-comes_to_unit : goal.returns-else-comes_to_unit
returns-else-comes_to_unit g c = λ m x l one is.
    its_target m c.args.u.0 x c.args.found.now c.target.result c.in_ok-i.i c.comes_to_unit.result false one is c.target.ensures c.in_ok-i.was (c.comes_to_unit.ensures m l) c.if-comes_to_unit.false
