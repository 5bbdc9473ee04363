-- The cases of a write.
use Rattle.std.proofs.Common.{◌∙◌, ◌+◌, ◌<◌, ◌≤◌, Some, None, ap, sym, refl, arith, length}
use Rattle.code_memory.specs.Mapped.{byte_at}
use Rattle.exec_run.specs.declared.host.TheConstants.{OUTPUT_MAX}
use Rattle.exec_run.specs.Bytes.{bytes_from}
use Rattle.exec_run.specs.Host.{State, goes, answered}
use Rattle.exec_run.specs.Machine.{state_of}
use Rattle.exec_run.proofs.Calls.{write_other, write_unmapped, write_full, write_done, at_registers, not_some, some_bytes, some_fact}
use Rattle.exec_run.proofs.Spans.{bytes_length}
use Rattle.exec_run.proofs.machine.Machine.write.Goals as goal

pub returns-then-register-ne-STDOUT-clause-written : goal.returns-then-register-ne-STDOUT-clause-written
returns-then-register-ne-STDOUT-clause-written c =
    write_other (state_of c.args.self.now) (λ e. c.if-register-ne-STDOUT.true (c.register.ensures ∙ e)) ∙ ap goes (sym c.answer.ensures.answered)

pub returns-then-not-has_bytes-clause-written : goal.returns-then-not-has_bytes-clause-written
returns-then-not-has_bytes-clause-written c =
    let map = byte_at c.args.self.now.memory in
    let none = not_some (bytes_from map c.register-from.result c.register-count.result) (λ h. let all = c.has_bytes.ensures.1 h in let never = c.if-not-has_bytes.true in cc) in
    write_unmapped (state_of c.args.self.now) (sym c.register.ensures ∙ c.if-register-ne-STDOUT.false) (at_registers map c.register-from.result c.register-count.result _ _ None c.register-from.ensures c.register-count.ensures none)
    ∙ ap goes (sym c.answer-then-not-has_bytes.ensures.answered)

pub returns-then-saturating_add-gt-OUTPUT_MAX-clause-written : goal.returns-then-saturating_add-gt-OUTPUT_MAX-clause-written
returns-then-saturating_add-gt-OUTPUT_MAX-clause-written c =
    let map = byte_at c.args.self.now.memory in
    let b = some_bytes (bytes_from map c.register-from.result c.register-count.result) (c.has_bytes.ensures.0 c.if-not-has_bytes.false) in
    let long = bytes_length map c.register-from.result c.register-count.result b.0 b.1 in
    let more : OUTPUT_MAX < length c.args.self.now.output.items + length b.0 = omega (arith, long, c.if-saturating_add-gt-OUTPUT_MAX.true, c.saturating_add.ensures, c.len.ensures, c.args.self.now.output.ok.0) in
    (write_full (state_of c.args.self.now) b.0 (sym c.register.ensures ∙ c.if-register-ne-STDOUT.false) (at_registers map c.register-from.result c.register-count.result _ _ (Some b.0) c.register-from.ensures c.register-count.ensures b.1) more, refl)

pub returns-clause-written : goal.returns-clause-written
returns-clause-written c =
    let map = byte_at c.args.self.now.memory in
    let s : State = state_of c.args.self.now in
    let b = some_fact (bytes_from map c.register-from.result c.register-count.result) _ c.in_ok-append.ensures in
    let long = bytes_length map c.register-from.result c.register-count.result b.0 b.1 in
    let within : length c.args.self.now.output.items + length b.0 ≤ OUTPUT_MAX = omega (arith, long, c.if-saturating_add-gt-OUTPUT_MAX.false, c.saturating_add.ensures, c.len.ensures, c.args.self.now.output.ok.0) in
    write_done s b.0 (sym c.register.ensures ∙ c.if-register-ne-STDOUT.false) (at_registers map c.register-from.result c.register-count.result _ _ (Some b.0) c.register-from.ensures c.register-count.ensures b.1) within
    ∙ ap goes (sym (c.answer-2.ensures.answered
    ∙ ap (answered (record s { output = c.append.new.output.items })) (sym long)
    ∙ ap (λ out. answered (record s { output = out }) (length b.0)) b.2))
