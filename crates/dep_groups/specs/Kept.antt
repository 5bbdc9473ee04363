-- How a frontier keeps what it is.
use Rattle.std.specs.Prelude.{◌≡◌, ℕ, false, Some, List, length}
use Rattle.dep_groups.specs.declared.resolve.Core.{Core}
use Rattle.dep_groups.specs.Shape.{home_in, ready_in, entries_of}
use Rattle.dep_groups.specs.Links.{IsHeld}
use Rattle.dep_groups.specs.Core.{IsSound}
use Rattle.dep_groups.specs.Wake.{IsIndexed}
use Rattle.dep_groups.specs.Frontier.{Entry}

abbrev pub entries_in : Core → List Entry
entries_in core = entries_of core.graph

-- each group with members that aren't ready is linked to what isn't ready
pub record IsKept (core : Core) : Type 0 where
  pub sound : IsSound core
  pub indexed : IsIndexed core.graph
  pub firsts : length core.graph.firsts.items ≡ length core.graph.homes.items
  pub held : (i g : ℕ) → home_in core.graph i ≡ Some g → ready_in core.graph i ≡ false → IsHeld core.graph core.links.items g
