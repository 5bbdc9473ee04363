-- The bytes that are kept move up, and zero bytes come before them.
use Rattle.std.proofs.Common.{◌≡◌, ◌∙◌, ◌+◌, ◌-◌, ◌≤◌, ℕ, ap, arith, length, length-append}
use Rattle.std.specs.Prelude.{replicate, vec_len}
use Rattle.std.proofs.lemmas.List.{length-replicate}
use Rattle.exec_run.specs.declared.host.TheConstants.{STACK_SIZE}
use Rattle.exec_run.specs.Regions.{filled}
use Rattle.exec_run.proofs.Filled.{filled_more, turned, resized}
use Rattle.exec_run.proofs.stack.reach.Goals as goal

pub returns-clause-same : goal.returns-clause-same
returns-clause-same c =
    let old = c.args.bytes.now.items in
    let n = c.min-wanted.result in
    let m = n - c.len-kept.result in
    let more = c.resize.new.self in
    let most = c.min-wanted.ensures in
    let first = c.max.ensures in
    let second = c.max-2.ensures in
    let kept : c.len-kept.result ≡ length old = omega (arith, c.len-kept.ensures, c.args.bytes.now.ok.0) in
    let fits : m + length old ≤ STACK_SIZE = omega (arith, c.requires.room.long) in
    let less : length old ≤ n = omega (arith, c.requires.room.long) in
    let is = resized 0 old more.items _ n m (vec_len c.args.bytes.now) (c.resize.ensures.succeeds (omega (arith, c.requires.room.room))) less c.args.bytes.now.ok.0 (omega arith) c.resize.ensures.items in
    let back : vec_len more - m ≡ length old = omega (arith, more.ok.0, ap length is, length-append old (replicate m 0), length-replicate {A = ℕ} m 0) in
    ap (filled STACK_SIZE) (turned old more.items c.rotate_right.new.self.items m (vec_len more - m) back is c.rotate_right.ensures.items)
    ∙ filled_more STACK_SIZE m old fits
