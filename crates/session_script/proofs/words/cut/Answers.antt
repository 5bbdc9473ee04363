use Rattle.std.proofs.Common.{sym, ◌∙◌}
use Rattle.std.proofs.lemmas.List.{take_rest}
use Rattle.session_script.specs.Words.{is_byte}
use Rattle.session_script.proofs.Cuts.{before_found, after_found, before_none, after_none}
use Rattle.session_script.proofs.words.cut.Goals as goal

pub returns-in-Some-clause-before : goal.returns-in-Some-clause-before
returns-in-Some-clause-before c = before_found (is_byte c.args.this) c.args.text.now c.in-Some.at (sym c.find.ensures ∙ c.in-Some.is)

pub returns-in-Some-clause-after : goal.returns-in-Some-clause-after
returns-in-Some-clause-after c = simp take_rest (after_found (is_byte c.args.this) c.args.text.now c.in-Some.at (sym c.find.ensures ∙ c.in-Some.is))

pub returns-in-None-clause-before : goal.returns-in-None-clause-before
returns-in-None-clause-before c = before_none (is_byte c.args.this) c.args.text.now (sym c.find.ensures ∙ c.in-None.is)

pub returns-in-None-clause-after : goal.returns-in-None-clause-after
returns-in-None-clause-after c = after_none (is_byte c.args.this) c.args.text.now (sym c.find.ensures ∙ c.in-None.is)
