-- The names from the place on have been given.
use Rattle.std.proofs.Common.{◌≡◌, ◌++◌, drop}
use Rattle.orc_ids.specs.declared.ids.NameId.{NameId}
use Rattle.script_model.specs.Given.{match_of, given_names}
use Rattle.script_model.proofs.names.GivenNames.add.Given as goal

abbrev pub invariant-loop-place : goal.invariant-loop-place
invariant-loop-place l = (name : NameId) → match_of name l.self ≡ match_of name (given_names l.level (drop l.place l.wanted) (drop l.place l.matches) ++ l.fn.self)
