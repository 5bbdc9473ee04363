use Rattle.std.proofs.Common.{◌≡◌, map, take, length, vec_len, vec_capacity}
use Rattle.link_model.specs.Image.{at_or}
use Rattle.link_model.specs.Offers.{no_symbol, wanted_of}
use Rattle.session_units.proofs.parts.all_wanted.Given as goal

abbrev pub invariant-loop-symbol : goal.invariant-loop-symbol
invariant-loop-symbol l = record {
  items : l.wanted.items ≡ map (λ s. wanted_of (at_or no_symbol l.g.symbols s)) (take l.symbol-index l.symbols);
  len : vec_len l.wanted ≡ l.symbol-index;
  room : vec_capacity l.wanted ≡ length l.symbols;
}
