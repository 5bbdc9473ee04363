use Rattle.std.proofs.Common.{◌≡◌, All, None, length}
use Rattle.orc_io.specs.Numbers.{AreNumberedFrom}
use Rattle.orc_io.specs.declared.notify.Note.{Note}
use Rattle.orc_io.proofs.notify.Note.numbered.Given as goal

abbrev pub invariant-loop-number : goal.invariant-loop-number
invariant-loop-number l = record {
  count : length l.notes.items ≡ l.number;
  unheard : All (λ n. n.outcome ≡ None) l.notes.items;
  numbered : AreNumberedFrom {N = Note} (λ n. n.number) 0 l.notes.items;
}
