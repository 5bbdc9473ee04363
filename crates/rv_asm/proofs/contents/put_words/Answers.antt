use Rattle.std.proofs.Common.{refl, ◌∙◌}
use Rattle.rv_asm.proofs.Words.{near_at, stands_at, put_more, put_all}
use Rattle.rv_asm.proofs.contents.put_words.Goals as goal

pub loop-code-init : goal.loop-code-init
loop-code-init c = record { len = refl; encoded = refl }

pub put_word-requires-clause-near : goal.put_word-requires-clause-near
put_word-requires-clause-near c = near_at c.args.symbols.now c.args.section c.args.codes.now c.loop-code.code-index _ c.requires.near c.loop-code-test.true

pub put_word-requires-clause-inside : goal.put_word-requires-clause-inside
put_word-requires-clause-inside c = stands_at _ _ c.args.codes.now c.loop-code.code-index _ c.loop-code.invariant.len c.requires.inside c.loop-code-test.true

pub loop-code-preserved : goal.loop-code-preserved
loop-code-preserved c = record {
  len = c.put_word.ensures.len ∙ c.loop-code.invariant.len;
  encoded = put_more c.args.symbols.now c.args.section c.args.codes.now c.loop-code.code-index _ _ _ _ c.loop-code-test.true c.loop-code.invariant.encoded c.put_word.ensures.word;
}

pub returns-clause-len : goal.returns-clause-len
returns-clause-len c = c.loop-code.invariant.len

pub returns-clause-encoded : goal.returns-clause-encoded
returns-clause-encoded c = put_all c.args.symbols.now c.args.section c.args.codes.now c.loop-code.code-index _ _ c.loop-code-test.false c.loop-code.invariant.encoded
