use Rattle.std.proofs.Common.{◌≡◌, ◌+◌, ◌++◌, drop}
use Rattle.session_model.specs.State.{plain_history}
use Rattle.journal_text.specs.Journal.{lines_from, text_of_history}
use Rattle.journal_text.proofs.text.text_of.Given as goal

abbrev pub invariant-loop-entry : goal.invariant-loop-entry
invariant-loop-entry g l = record {
  counted : l.number ≡ l.entry-index;
  rest : l.out.items ++ lines_from l.names (l.number + 1) (plain_history g.U.UnitKind.meaning (drop l.entry-index l.entries)) ≡ text_of_history l.names (plain_history g.U.UnitKind.meaning l.entries);
}
