use Rattle.std.proofs.Common.{rules}
use Rattle.rv_insn.proofs.OneWord.{one_word}
use Rattle.rv_insn.proofs.encoding.encode.Goals as goal

pub returns-clause-only : goal.returns-clause-only
returns-clause-only c = λ word below fits. one_word c.args.insn.now word c.word_of.result below (search rules) fits c.word_of.ensures
