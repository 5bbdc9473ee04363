-- How queries have ended.
use Rattle.std.specs.Prelude.{ℕ, Option, None, Some}
use Rattle.orc_ids.specs.declared.lookup.End.{End}
use Rattle.orc_ids.specs.declared.lookup.End.TheVariants as outcome
use Rattle.session_model.specs.declared.rows.Ending.{Ending}
use Rattle.session_model.specs.declared.rows.Ending.TheVariants as ending
use Rattle.query_book.specs.declared.ends.QueryEnd.{QueryEnd}
use Rattle.query_book.specs.declared.ends.Collected.{Collected}
use Rattle.query_book.specs.declared.ends.Collected.TheVariants as answer

-- what is collected of an end
abbrev pub collected_end : ℕ → Ending → Collected
collected_end at (ending.Found list) = answer.Found at list
collected_end at (ending.Lost i) = answer.Failed at i

-- what is collected of a query
abbrev pub collected_of : Option (Option QueryEnd) → Collected
collected_of None = answer.Unknown
collected_of (Some None) = answer.Open
collected_of (Some (Some e)) = collected_end e.at e.end

-- what its notifier is told
abbrev pub told_end : ℕ → Ending → End
told_end at (ending.Found list) = outcome.Found at
told_end at (ending.Lost i) = outcome.Failed at i
