-- What was added and what is left are all bytes.
use Rattle.std.proofs.Common.{◌≡◌, ◌∙◌, ◌+◌, ◌-◌, ◌++◌, Some, true, false, ap, sym, arith, append-nil}
use Rattle.std.specs.Prelude.{is_some, option_map}
use Rattle.code_memory.specs.Mapped.{byte_at}
use Rattle.exec_run.specs.Bytes.{bytes_from}
use Rattle.exec_run.proofs.Joined.{piece_some, piece_added, none_left, all_done, added_all}
use Rattle.exec_run.proofs.pieces.append.Goals as goal

pub returns-in_default : goal.returns-in_default
returns-in_default c =
    let none = none_left (byte_at c.args.memory.now) c.loop-left.at c.loop-left.left (omega arith) c.in_default.ensures.missing in
    let no : false ≡ true = sym (ap is_some none) ∙ c.loop-left.invariant.mapped in
    absurd cc

pub loop-left-preserved : goal.loop-left-preserved
loop-left-preserved c =
    let ss = c.args.memory.now in
    let m = c.min-here.ensures in
    let here = c.min-here.result in
    let rest = c.in-Some.rest.now in
    let found = c.in-Some.ensures.found in
    record {
      mapped = sym (piece_some ss c.loop-left.at here c.loop-left.left rest found (omega arith) (omega arith)) ∙ c.loop-left.invariant.mapped;
      same = ap (λ xs. option_map (λ more. xs ++ more) (bytes_from (byte_at ss) (c.loop-left.at + here) (c.loop-left.left - here))) c.in_ok-extend_from_slice.ensures.items
          ∙ sym (piece_added ss c.loop-left.at here c.loop-left.left rest c.loop-left.output.items found (omega arith) (omega arith))
          ∙ c.loop-left.invariant.same;
    }

pub returns : goal.returns
returns c =
    let done = all_done (byte_at c.args.memory.now) c.loop-left.at c.loop-left.left (omega arith) in
    added_all (bytes_from (byte_at c.args.memory.now) c.args.from c.args.count) c.args.output.now.items c.loop-left.output.items
    (ap Some (sym (append-nil c.loop-left.output.items)) ∙ sym (ap (option_map (λ more. c.loop-left.output.items ++ more)) done) ∙ c.loop-left.invariant.same)
