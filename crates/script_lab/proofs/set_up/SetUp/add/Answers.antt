use Rattle.std.proofs.Common.{subst, sym}
use Rattle.script_lab.specs.SettingUp.{IsSetUp}
use Rattle.script_lab.proofs.SetUps.{call_added}
use Rattle.script_lab.proofs.set_up.SetUp.add.Goals as goal

pub returns-clause-made : goal.returns-clause-made
returns-clause-made c =
    let s = c.args.self.now in
    subst (IsSetUp s.dylibs) (sym c.in_ok-push.ensures.items) (call_added s.dylibs s.calls.items c.args.call c.requires.made c.requires.can)
