-- What every section keeps, it keeps when something stands next.
use Rattle.std.proofs.Common.{◌≡◌, ℕ, zero, suc, ◌+◌, ◌≤◌, true, false, List, [], ◌∷◌, ◌++◌, length, ◌∙◌, arith}
use Rattle.std.specs.List.{All}
use Rattle.std.proofs.lemmas.List.Elements.{All-append}
use Rattle.rv_insn.specs.Range.{InRange}
use Rattle.asm_state.specs.declared.section.Code.{Code}
use Rattle.asm_state.specs.Sections.{Made, IsMade, StandIn, is_bss, largest}

wider : (from : ℕ) (cs : List Code) (to more : ℕ) → to ≤ more → StandIn from cs to → StandIn from cs more
wider from [] to more h stand = omega (arith, h, stand)
wider from (c ∷ cs) to more h stand = (stand.0, wider (c.at + 4) cs to more h stand.1)

one_more : (from : ℕ) (cs : List Code) (to : ℕ) (c : Code) → c.at ≡ to → StandIn from cs to → StandIn from (cs ++ c ∷ []) (to + 4)
one_more from [] to c is stand = (omega (arith, is, stand), omega (arith, is))
one_more from (x ∷ cs) to c is stand = (stand.0, one_more (x.at + 4) cs to c is stand.1)

-- more bytes
pub bytes_after : (m : Made) (size more : ℕ) (new : List ℕ) → IsMade m → length new ≡ length m.bytes + more → m.size + more ≡ size → size ≤ largest → IsMade (record m { size = size; bytes = new })
bytes_after m size more new kept longer is room = record {
  small = room;
  sized = λ not_bss. omega (arith, longer, kept.sized not_bss, is);
  in_range = kept.in_range;
  placed = wider 0 m.code (length m.bytes) (length new) (omega (arith, longer)) kept.placed;
}

-- a greater size, without bytes
pub size_after : (m : Made) (size : ℕ) → IsMade m → is_bss m.kind ≡ true → size ≤ largest → IsMade (record m { size = size })
size_after m size kept bss room = record { small = room; sized = λ not_bss. absurd (cc (bss, not_bss)); in_range = kept.in_range; placed = kept.placed }

-- one more instruction
pub code_after : (m : Made) (size : ℕ) (code : List Code) (c : Code) (new : List ℕ) → IsMade m → is_bss m.kind ≡ false → code ≡ m.code ++ c ∷ [] → c.at ≡ m.size → InRange c.insn → length new ≡ length m.bytes + 4 → m.size + 4 ≡ size → size ≤ largest → IsMade (record m { size = size; bytes = new; code = code })
code_after m size code c new kept not_bss coded at range longer is room =
    let end = kept.sized not_bss in
    let all = All-append (λ (x : Code). InRange x.insn) m.code (c ∷ []) kept.in_range (one_in_range c range) in
    record {
      small = room;
      sized = λ not_bss. omega (arith, longer, end, is);
      in_range = rw coded all;
      placed = rw (coded, longer) (one_more 0 m.code (length m.bytes) c (at ∙ end) kept.placed);
    }
  where
    one_in_range : (c : Code) → InRange c.insn → All (λ (x : Code). InRange x.insn) (c ∷ [])
    one_in_range c range zero d lt = range
    one_in_range c range (suc k) d lt = absurd (omega arith)
