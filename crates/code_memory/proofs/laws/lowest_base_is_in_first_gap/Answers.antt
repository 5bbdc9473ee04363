-- What the first gap gives is the lowest free base.
use Rattle.std.proofs.Common.{ℕ, Option, Some, None, List}
use Rattle.std.specs.Prelude.{MatchOption}
use Rattle.orc_ids.specs.declared.limits.TheConstants.{CODE_START}
use Rattle.orc_ids.specs.declared.place.Shape.{Shape}
use Rattle.code_memory.specs.declared.placement.Placement.{Placement}
use Rattle.code_memory.specs.Gaps.{first_fit, with_rest, gaps_below, last_end}
use Rattle.code_memory.specs.Places.{IsFull, IsLowestFree, AreLaidOut}
use Rattle.code_memory.proofs.Fits.{IsAnswer, answer, lowest_free, full}
use Rattle.code_memory.proofs.laws.lowest_base_is_in_first_gap.Goals as goal

told : (ps : List Placement) (shape : Shape) (r : Option (ℕ × ℕ)) → AreLaidOut ps → IsAnswer CODE_START ps shape 0 r → MatchOption r (IsFull ps shape) (λ fit. IsLowestFree ps shape fit.1)
told ps shape None laid found = full ps shape found
told ps shape (Some fit) laid found = lowest_free ps shape fit.0 fit.1 laid.apart found

pub returns : goal.returns
returns c = λ ps shape laid some align.
    told ps shape (first_fit shape 0 (with_rest (gaps_below CODE_START ps) (last_end CODE_START ps))) laid (answer CODE_START ps shape 0 laid.apart some align)
