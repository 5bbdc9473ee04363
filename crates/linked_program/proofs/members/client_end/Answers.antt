use Rattle.std.proofs.Common.{sym, ◌∙◌}
use Rattle.std.proofs.lemmas.Option.{none-some}
use Rattle.linked_program.proofs.members.client_end.Goals as goal

pub unreachable-requires : goal.unreachable-requires
unreachable-requires g c = none-some c.requires.0 (sym c.in-None.is ∙ (c.last_end.ensures ∙ c.requires.1))

pub returns : goal.returns
returns g c = sym c.last_end.ensures ∙ c.in-Some.is
