use Rattle.orc_cli.proofs.Shares.{pushed}
use Rattle.orc_cli.proofs.loading.share_units.Goals as goal

pub loop-file-preserved : goal.loop-file-preserved
loop-file-preserved c =
    pushed c.args.units.now c.args.files.now c.loop-file.file-index 0 c.loop-file.shared.items c.push.new.self.items c.index-units-file.result c.in_ok-share.field-0 c.loop-file.invariant c.loop-file-test.true
    (c.requires c.loop-file.file-index 0 c.loop-file-test.true) c.index-units-file.is c.in_ok-share.ensures c.in_ok-push.ensures.items
