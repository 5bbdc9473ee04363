-- All bytes are mapped where each piece is.
use Rattle.std.proofs.Common.{◌≡◌, ◌∙◌, true, false, ap, sym, refl, arith}
use Rattle.std.specs.Prelude.{is_some}
use Rattle.code_memory.specs.Mapped.{byte_at}
use Rattle.exec_run.proofs.Joined.{piece_some, none_left, all_done}
use Rattle.exec_run.proofs.pieces.has_bytes.Goals as goal

pub returns-in_default : goal.returns-in_default
returns-in_default c =
    let none = none_left (byte_at c.args.memory.now) c.loop-left.at c.loop-left.left (omega arith) c.in_default.ensures.missing in
    let never = c.loop-left.invariant ∙ ap is_some none in
    (λ (f : false ≡ true). absurd cc, λ yes. sym never ∙ yes)

pub loop-left-preserved : goal.loop-left-preserved
loop-left-preserved c = let m = c.min-here.ensures in
    c.loop-left.invariant ∙ piece_some c.args.memory.now c.loop-left.at c.min-here.result c.loop-left.left c.in-Some.rest.now c.in-Some.ensures.found (omega arith) (omega arith)

pub returns : goal.returns
returns c =
    let all = c.loop-left.invariant ∙ ap is_some (all_done (byte_at c.args.memory.now) c.loop-left.at c.loop-left.left (omega arith)) in
    (λ _. all, λ _. refl)
