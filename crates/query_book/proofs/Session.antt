-- Over the rows of a session the words of a book are the session's.
use Rattle.std.proofs.Common.{◌≡◌, ℕ, List, Option, refl, ap}
use Rattle.std.specs.Prelude.{◌||◌, is_some}
use Rattle.orc_ids.specs.declared.ids.InstId.{InstId}
use Rattle.orc_ids.specs.declared.lookup.Level.{Level}
use Rattle.orc_ids.specs.declared.lookup.Level.TheVariants.{Resolved, Ready}
use Rattle.session_model.specs.Query as session
use Rattle.session_model.specs.Query.{stand_at}
use Rattle.session_model.specs.declared.rows.InstRow.{InstRow}
use Rattle.query_book.specs.Stands.{at_level, all_at, first_lost}
use Rattle.query_book.specs.Laws.{StandsAsTheSession}

levels_same : (rows : List InstRow) (level : Level) (i : ℕ) → at_level (stand_at rows) level i ≡ session.at_level rows level i
levels_same rows Resolved i = refl
levels_same rows Ready i = refl

all_same : (rows : List InstRow) (level : Level) (matched : List (Option InstId)) → all_at (stand_at rows) level matched ≡ session.all_at rows level matched
all_same rows Resolved matched = refl
all_same rows Ready matched = refl

pub stands_same : (rows : List InstRow) → StandsAsTheSession rows
stands_same rows = record {
  levels = levels_same rows;
  losses = λ i. refl;
  all = all_same rows;
  first = λ matched. refl;
  found = λ matched. refl;
  met = λ q. ap (λ b. b || is_some (first_lost (stand_at rows) q.matched)) (all_same rows q.level q.matched);
  ends = λ q. refl;
}
