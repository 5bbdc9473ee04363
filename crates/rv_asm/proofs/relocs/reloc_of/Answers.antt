use Rattle.std.proofs.Common.{rules, w64}
use Rattle.std.proofs.lemmas.Int.{to_z-of_z}
use Rattle.rv_asm.proofs.Typed.{fits_signed}
use Rattle.rv_asm.proofs.relocs.reloc_of.Goals as goal

pub returns-clause-holds : goal.returns-clause-holds
returns-clause-holds c = record {
  at_in = search rules;
  kind_in = search rules;
  symbol_in = c.entry.ensures.inside;
  addend_in = rw (to_z-of_z w64 c.args.patch.addend (search rules)) (fits_signed c.args.patch.addend (search rules));
}
