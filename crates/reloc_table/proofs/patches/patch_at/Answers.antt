use Rattle.std.proofs.Common.{w64}
use Rattle.std.proofs.lemmas.Int.{to_z-of_z}
use Rattle.reloc_table.proofs.Law.{reads_back-of, others-of}
use Rattle.reloc_table.proofs.patches.patch_at.Goals as goal

pub returns-clause-reads_back : goal.returns-clause-reads_back
returns-clause-reads_back c =
    reads_back-of c.rule-rule.result _ c.args.at c.args.v _ c.rule-rule.ensures.exact
    (rw (to_z-of_z w64 c.args.v c.ranges.v) at c.write.ensures.reads_back)

pub returns-clause-others : goal.returns-clause-others
returns-clause-others c = others-of c.rule-rule.result _ c.args.at _ _ c.rule-rule.ensures.exact c.write.ensures.others
