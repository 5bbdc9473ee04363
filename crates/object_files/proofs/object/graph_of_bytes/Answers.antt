use Rattle.std.proofs.Common.{rules, refl, []}
use Rattle.object_files.specs.Files.{NoGraph}
use Rattle.object_files.proofs.LaterTables.{same_refusal}
use Rattle.object_files.proofs.SymbolValues.{addresses_fit}
use Rattle.object_files.proofs.object.graph_of_bytes.Goals as goal

pub returns-in-Ok-clause-made : goal.returns-in-Ok-clause-made
returns-in-Ok-clause-made c = record {
  object = record {
    object = c.in_ok-object.object;
    read = c.in_ok-object.ensures.read;
    made = c.in-Ok.ensures.exact;
    named = c.in-Ok.ensures.named;
  };
  sound = c.in-Ok.ensures.sound;
  differ = c.in-Ok.ensures.offers;
  addresses = addresses_fit c.graph_of.new.names c.in_ok-object.object c.in-Ok.graph c.in-Ok.ensures.exact c.in_ok-object.ensures.values;
}

pub returns : goal.returns
returns c = record {
  made = tt;
  sized = tt;
  older = c.graph_of.ensures.older;
  refused = (refl, NoGraph c.in_ok-object.object c.in-Err.why c.in_ok-object.ensures.read (same_refusal c.graph_of.new.names [] c.in_ok-object.object c.in-Err.why (search rules)));
}
