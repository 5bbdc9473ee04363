-- The bytes are in one range, or stored one by one.
use Rattle.std.proofs.Common.{◌≡◌, ◌↔◌, subst, refl}
use Rattle.std.specs.Prelude.{IsTrue, IsSome}
use Rattle.std.specs.Bool.{OnTrue, OnFalse}
use Rattle.rv_hart.specs.Map.{read, stored}
use Rattle.code_memory.specs.Mapped.{byte_at}
use Rattle.exec_run.proofs.Loads.{true_of, false_of}
use Rattle.exec_run.proofs.access.store.Goals as goal

pub returns-then-put-clause-mapped : goal.returns-then-put-clause-mapped
returns-then-put-clause-mapped c = (λ _. true_of c.put.result _ c.put.ensures.mapped c.if-put.true, λ _. refl)

pub returns-then-put-clause-done : goal.returns-then-put-clause-done
returns-then-put-clause-done c = true_of c.put.result _ c.put.ensures.done c.if-put.true

pub returns-clause-mapped : goal.returns-clause-mapped
returns-clause-mapped c =
    subst (λ m. IsTrue c.store_apart.result ↔ IsSome (read (byte_at m) c.args.at c.args.width)) (false_of c.put.result _ c.put.ensures.kept c.if-put.false) c.store_apart.ensures.mapped

pub returns-clause-done : goal.returns-clause-done
returns-clause-done c =
    subst (λ m. OnTrue c.store_apart.result (byte_at c.store_apart.new.memory ≡ stored (byte_at m) c.args.at c.args.width c.args.value)) (false_of c.put.result _ c.put.ensures.kept c.if-put.false) c.store_apart.ensures.done

pub returns-clause-refused : goal.returns-clause-refused
returns-clause-refused c =
    subst (λ m. OnFalse c.store_apart.result (byte_at c.store_apart.new.memory ≡ byte_at m)) (false_of c.put.result _ c.put.ensures.kept c.if-put.false) c.store_apart.ensures.refused
