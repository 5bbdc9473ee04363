use Rattle.std.proofs.Common.{◌≡◌, drop}
use Rattle.session_model.specs.Query.{all_at}
use Rattle.session_plain.proofs.levels.all_are_at.Given as goal

abbrev pub invariant-loop-found : goal.invariant-loop-found
invariant-loop-found l = all_at l.rows l.level (drop l.found-index l.matched) ≡ all_at l.rows l.level l.matched
