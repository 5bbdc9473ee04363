use Rattle.std.proofs.Common.{refl, arith}
use Rattle.elf_read.proofs.Apart.{apart-skip, apart-more, shared-start, apart-all}
use Rattle.elf_read.proofs.spans.follow_one_another.Goals as goal

pub loop-span-init : goal.loop-span-init
loop-span-init c = record { once = λ k. omega arith; ended = λ k le. refl; reached = λ m k e later inside low high. absurd (omega arith) }

pub loop-span-preserved-then-span-eq0 : goal.loop-span-preserved-then-span-eq0
loop-span-preserved-then-span-eq0 c = apart-skip c.args.spans.now c.loop-span.span-index c.loop-span.end (record { start = 0; size = 0 }) _ (omega arith) refl (omega arith) c.loop-span.invariant

pub loop-span-preserved : goal.loop-span-preserved
loop-span-preserved c = apart-more c.args.spans.now c.loop-span.span-index c.loop-span.end _ (record { start = 0; size = 0 }) _ (omega arith) refl c.requires (omega arith) refl c.loop-span.invariant

pub returns-then-start-end : goal.returns-then-start-end
returns-then-start-end c = (_, shared-start c.args.spans.now c.loop-span.span-index c.loop-span.end (record { start = 0; size = 0 }) _ (omega arith) refl (omega arith) (omega arith) c.loop-span.invariant)

pub returns : goal.returns
returns c = apart-all c.args.spans.now c.loop-span.span-index c.loop-span.end (omega arith) c.loop-span.invariant
