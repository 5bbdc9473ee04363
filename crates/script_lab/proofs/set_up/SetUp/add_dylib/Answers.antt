use Rattle.std.proofs.Common.{subst, sym, refl, ◌+◌}
use Rattle.script_lab.specs.SettingUp.{IsSetUp}
use Rattle.script_lab.proofs.SetUps.{dylib_added}
use Rattle.script_lab.proofs.set_up.SetUp.add_dylib.Goals as goal

pub add_tracker-requires : goal.add_tracker-requires
add_tracker-requires c =
    let s = c.args.self.now in
    subst (IsSetUp (s.dylibs + 1)) (sym c.in_ok-push.ensures.items) (dylib_added s.dylibs s.calls.items (record { 0 = s.dylibs }) refl c.requires.few c.requires.made)
