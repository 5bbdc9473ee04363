use Rattle.block_groups.proofs.Rows.{pushed_to}
use Rattle.block_groups.proofs.lists.Lists.push.Goals as goal

pub returns : goal.returns
returns g c = pushed_to (λ v. v.items) c.self.inside.rows.items c.args.self.now c.args.k c.index_mut.result.now c.push.new.self c.args.x c.self.view_is c.requires c.index_mut.ensures.value c.in_ok-push.ensures.items
