use Rattle.script_lab.proofs.CodeBytes.{byte_more}
use Rattle.script_lab.proofs.unit.code_bytes.Goals as goal

pub loop-k-preserved : goal.loop-k-preserved
loop-k-preserved c = byte_more c.args.answer c.loop-k.k c.code_byte.result c.loop-k.bytes.items c.push.new.self.items c.in_ok-push.ensures.items c.loop-k.invariant c.code_byte.ensures
