use Rattle.rv_insn.proofs.Parts.{parts}
use Rattle.rv_insn.proofs.formats.word_of_parts.Goals as goal

pub returns : goal.returns
returns c =
    let r = c.requires in
    parts c.args.opcode c.args.rd c.args.f3 c.args.rs1 c.args.rs2 c.args.f7 r.opcode_in r.rd_in r.f3_in r.rs1_in r.rs2_in r.f7_in
