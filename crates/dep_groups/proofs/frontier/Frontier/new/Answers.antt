use Rattle.dep_groups.proofs.Empty.{whole_empty}
use Rattle.dep_groups.proofs.frontier.Frontier.new.Goals as goal

pub invariant_of-result : goal.invariant_of-result
invariant_of-result c = whole_empty _ (record {
  homes = c.new.ensures.items;
  nodes = c.new-2.ensures;
  firsts = c.new-3.ensures.items;
  edges = c.new-4.ensures.items;
  ready = c.new-5.ensures.items;
  links = c.new-6.ensures.items;
  nexts = c.new-7.ensures.items;
  heads = c.new-8.ensures.items;
  cursors = c.new-9.ensures.items;
  seen = c.new-10.ensures.items;
  order = c.new-11.ensures.items;
  told = c.new-12.ensures.items;
}) _ c.new-13.ensures.items
