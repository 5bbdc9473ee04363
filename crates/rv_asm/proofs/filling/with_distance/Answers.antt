use Rattle.std.proofs.Common.{w64}
use Rattle.std.proofs.lemmas.Int.{to_z-of_z}
use Rattle.rv_asm.proofs.Ranges.{beq_range, bne_range, blt_range, bge_range, bltu_range, bgeu_range, jal_range}
use Rattle.rv_asm.proofs.filling.with_distance.Goals as goal

pub returns-in-Beq-clause-range : goal.returns-in-Beq-clause-range
returns-in-Beq-clause-range c = rw (to_z-of_z w64 c.args.imm c.ranges.imm) (beq_range c.args.insn _ _ _ c.args.imm c.in-Beq.is c.requires.range c.requires.reached)

pub returns-in-Bne-clause-range : goal.returns-in-Bne-clause-range
returns-in-Bne-clause-range c = rw (to_z-of_z w64 c.args.imm c.ranges.imm) (bne_range c.args.insn _ _ _ c.args.imm c.in-Bne.is c.requires.range c.requires.reached)

pub returns-in-Blt-clause-range : goal.returns-in-Blt-clause-range
returns-in-Blt-clause-range c = rw (to_z-of_z w64 c.args.imm c.ranges.imm) (blt_range c.args.insn _ _ _ c.args.imm c.in-Blt.is c.requires.range c.requires.reached)

pub returns-in-Bge-clause-range : goal.returns-in-Bge-clause-range
returns-in-Bge-clause-range c = rw (to_z-of_z w64 c.args.imm c.ranges.imm) (bge_range c.args.insn _ _ _ c.args.imm c.in-Bge.is c.requires.range c.requires.reached)

pub returns-in-Bltu-clause-range : goal.returns-in-Bltu-clause-range
returns-in-Bltu-clause-range c = rw (to_z-of_z w64 c.args.imm c.ranges.imm) (bltu_range c.args.insn _ _ _ c.args.imm c.in-Bltu.is c.requires.range c.requires.reached)

pub returns-in-Bgeu-clause-range : goal.returns-in-Bgeu-clause-range
returns-in-Bgeu-clause-range c = rw (to_z-of_z w64 c.args.imm c.ranges.imm) (bgeu_range c.args.insn _ _ _ c.args.imm c.in-Bgeu.is c.requires.range c.requires.reached)

pub returns-in-Jal-clause-range : goal.returns-in-Jal-clause-range
returns-in-Jal-clause-range c = rw (to_z-of_z w64 c.args.imm c.ranges.imm) (jal_range c.args.insn _ _ c.args.imm c.in-Jal.is c.requires.range c.requires.reached)
