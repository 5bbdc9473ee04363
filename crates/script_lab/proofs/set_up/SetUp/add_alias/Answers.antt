use Rattle.script_lab.proofs.set_up.SetUp.add_alias.Goals as goal

pub add-requires-clause-can : goal.add-requires-clause-can
add-requires-clause-can c = c.hand_in.ensures c.next_unit-number.new.self.dylibs c.in_ok-unit.ensures
