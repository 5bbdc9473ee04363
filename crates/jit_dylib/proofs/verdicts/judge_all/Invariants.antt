use Rattle.std.proofs.Common.{◌≡◌, ◌++◌, drop}
use Rattle.jit_dylib.specs.Rows.{verdicts_at, first_clash}
use Rattle.jit_dylib.proofs.verdicts.judge_all.Given as goal

abbrev pub invariant-loop-offer : goal.invariant-loop-offer
invariant-loop-offer l = record {
  verdicts : l.found.items ++ verdicts_at l.rows l.present.entries (drop l.offer-index l.offers) ≡ verdicts_at l.rows l.present.entries l.offers;
  clash : first_clash l.rows l.present.entries (drop l.offer-index l.offers) ≡ first_clash l.rows l.present.entries l.offers;
}
