use Rattle.std.proofs.Common.{ℕ, List, length, subst, arith}
use Rattle.std.specs.Prelude.{Contains}
use Rattle.std.proofs.lemmas.Result.{on_ok_weaker}
use Rattle.block_groups.specs.Groups.{leads_to}
use Rattle.block_groups.specs.Keys.{target_of}
use Rattle.block_groups.proofs.Keyed.{keyed_below}
use Rattle.block_groups.proofs.Needs.{needing_is}
use Rattle.block_groups.proofs.Searches.{clear_noted}
use Rattle.block_groups.proofs.needing.seek.Goals as goal

pub come_to_all-requires-clause-within : goal.come_to_all-requires-clause-within
come_to_all-requires-clause-within c = λ b has.
    let below = keyed_below c.args.g.now target_of (length c.args.g.now.symbols) c.args.symbol b c.args.referring.now c.requires.sound c.requires.referring (subst (λ (bs : List ℕ). Contains bs b) c.row.ensures has) in
    omega (arith, below, c.requires.whole)

pub come_to_all-requires-clause-noted : goal.come_to_all-requires-clause-noted
come_to_all-requires-clause-noted c = clear_noted c.args.search.now c.requires.clear

pub spread-requires-clause-within : goal.spread-requires-clause-within
spread-requires-clause-within c = λ a b has.
    let below = keyed_below c.args.g.now (leads_to c.args.g.now c.args.live.now) (length c.args.g.now.blocks) a b c.args.leading.now c.requires.sound c.requires.leading has in
    omega (arith, below, c.requires.whole, c.in_ok-come_to_all.ensures.more.whole)

pub returns-clause-needing : goal.returns-clause-needing
returns-clause-needing c =
    on_ok_weaker c.spread.result
    (λ spread. λ b. needing_is c.args.g.now c.args.live.now c.args.leading.now c.args.referring.now c.args.search.now c.come_to_all.new.search c.spread.new.search c.row.result.now c.args.symbol b c.requires.sound c.requires.leading c.requires.referring c.row.ensures c.requires.clear c.in_ok-come_to_all.ensures.more spread)
    c.spread.ensures.spread
