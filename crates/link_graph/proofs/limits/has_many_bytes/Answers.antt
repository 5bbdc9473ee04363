use Rattle.std.proofs.Common.{◌≡◌, ℕ, ◌+◌, ◌-◌, nat_lt, Some, None, sym, ◌∙◌, inl, inr, lt-ltb, le-ltb, arith}
use Rattle.std.specs.Prelude.{sum_by, if◌then◌else◌}
use Rattle.std.proofs.lemmas.Bool.{cases_lt}
use Rattle.elf_read.specs.declared.object.Section.{Section}
use Rattle.elf_read.specs.declared.object.Symbol.{Symbol}
use Rattle.link_graph.specs.Object.{common_symbols}
use Rattle.link_model.specs.Sound.{MAX_BYTES}
use Rattle.link_graph.proofs.limits.has_many_bytes.Goals as goal

-- what is left of a limit is passed where the limit is
limit_left : (limit used more left : ℕ) → Some left ≡ (if nat_lt limit used then None else Some (limit - used)) → nat_lt left more ≡ nat_lt limit (used + more)
limit_left limit used more left is = elim (cases_lt limit used) [
  | inl over ↦ (let none = rw (lt-ltb limit used over) at is in absurd cc)
  | inr fits ↦ (
      let same : left ≡ limit - used = (let some = rw (le-ltb limit used fits) at is in cc) in
      elim (cases_lt left more) [
        | inl passes ↦ lt-ltb left more passes ∙ sym (lt-ltb limit (used + more) (omega arith))
        | inr stays ↦ le-ltb left more stays ∙ sym (le-ltb limit (used + more) (omega arith))
      ])
]

pub returns-in-Some : goal.returns-in-Some
returns-in-Some c =
    let left : Some c.in-Some.left ≡ (if nat_lt MAX_BYTES (sum_by (λ (s : Section). s.size) c.args.o.now.sections) then None else Some (MAX_BYTES - sum_by (λ (s : Section). s.size) c.args.o.now.sections)) = rw c.as_slice.ensures at (sym c.in-Some.is ∙ c.bytes_left.ensures) in
    rw c.as_slice-in-Some.ensures at c.commons_exceed.ensures
    ∙ limit_left MAX_BYTES (sum_by (λ (s : Section). s.size) c.args.o.now.sections) (sum_by (λ (s : Symbol). s.size) (common_symbols c.args.o.now.symbols)) c.in-Some.left left
