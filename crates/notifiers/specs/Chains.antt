-- The notices of a chain.
use Rattle.std.specs.Prelude.{List, [], ◌∷◌}
use Rattle.notifiers.specs.declared.notice.Notice.{Notice}
use Rattle.notifiers.specs.declared.chain.Link.{Link}
use Rattle.notifiers.specs.declared.chain.Link.TheVariants.{End, More'}

abbrev pub chained : {N : Type 0} → Link N → List (Notice N)
chained End = []
chained (More' n p rest) = n ∷ chained rest
