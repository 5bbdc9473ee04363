use Rattle.std.proofs.Common.{◌≡◌, ℕ, ◌+◌, ◌/◌, ◌<◌, length, Global, Vec, refl, sym, ◌∙◌, subst, arith}
use Rattle.elf_read.specs.Index.{AreEnds}
use Rattle.elf_read.proofs.Ends.{ends-none, ends-same, ends-more}
use Rattle.elf_read.proofs.string_table.ends_of.Goals as goal
use Rattle.elf_read.proofs.string_table.ends_of.Goals.{then-byte-eq0+then-len-i+in_ok-resize, else-byte-eq0, else-byte-eq0-via-then-byte-eq0+else-len-i, else-byte-eq0-via-else-byte-eq0}

pub loop-i-init : goal.loop-i-init
loop-i-init c = rw c.new-ends.ensures.items (ends-none c.args.bytes.now)

pub loop-i-preserved : goal.loop-i-preserved
loop-i-preserved c =
    elim c.if-byte-eq0.branch [
      | then-byte-eq0+then-len-i+in_ok-resize w ↦
          (let by_index = w.in_ok-resize.ensures.by_index in
          subst (λ (ends : Vec ℕ Global). AreEnds c.args.bytes.now (c.loop-i.i + 1) ends.items) (sym w.ends-is)
          (ends-more c.args.bytes.now c.loop-i.i c.loop-i.ends.items w.resize.new.self.items c.loop-i.invariant c.loop-i-test.true w.if-byte-eq0.true
          (omega (arith, w.len.ensures, w.if-len-i.true))
          (sym w.resize.new.self.ok.0 ∙ w.in_ok-resize.ensures.len)
          (λ k lt. by_index.0 k 0 (omega (arith, w.len.ensures, w.if-len-i.true)) (omega (arith, c.loop-i.ends.ok.0)))
          (λ k le lt. by_index.1 k 0 refl (omega (arith, c.loop-i.ends.ok.0)) lt)))
      | else-byte-eq0 w ↦
          subst (λ (ends : Vec ℕ Global). AreEnds c.args.bytes.now (c.loop-i.i + 1) ends.items) (sym w.ends-is)
          (ends-same c.args.bytes.now c.loop-i.i c.loop-i.ends.items c.loop-i.invariant
          (elim w.else-byte-eq0.branch [
            | else-byte-eq0-via-then-byte-eq0+else-len-i v ↦ λ past. (let found : c.loop-i.i / 64 < length c.loop-i.ends.items = omega (arith, v.len.ensures, v.if-len-i.false) in absurd (omega arith))
            | else-byte-eq0-via-else-byte-eq0 v ↦ λ past. v.if-byte-eq0.false
          ]))
    ]

pub returns : goal.returns
returns c =
    let whole : c.loop-i.i ≡ length c.args.bytes.now = omega arith in
    rw whole at c.loop-i.invariant
