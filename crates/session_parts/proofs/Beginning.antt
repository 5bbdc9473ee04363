-- The parts of a session before its first entry.
use Rattle.std.proofs.Common.{◌≡◌, ℕ, [], List, length, slice_get, Some, option_map, ap, sym, subst, arith}
use Rattle.std.proofs.lemmas.Option.{none-some}
use Rattle.session_model.specs.Meaning.{Meaning}
use Rattle.session_model.specs.Plain.{empty}
use Rattle.code_memory.specs.Places.{placement_of}
use Rattle.generators.specs.Rows.{gen_row}
use Rattle.mat_unit.specs.Rows.{unit_row}
use Rattle.mat_unit.specs.Roster.{nothing}
use Rattle.tracker.specs.Owners.{nobody, within}
use Rattle.session_parts.specs.declared.parts.Parts.{Parts}
use Rattle.session_parts.specs.Parts.{AreParts}

-- there is nothing in an empty list
none_in : {X : Type 0} (xs : List X) (k : ℕ) (x : X) → xs ≡ [] → slice_get xs k ≡ Some x → ⊥
none_in xs k x e t = none-some x (subst (λ (ys : List _). slice_get ys k ≡ Some x) e t)

pub parts_begin : {U N : Type 0} (means : U → Meaning) (p : Parts U N) → p.dylibs.dylibs ≡ [] → p.dylibs.tables ≡ [] → p.graph.rows ≡ [] → p.graph.units ≡ 0 → p.units ≡ nothing → p.generators.rows ≡ [] → p.trackers ≡ nobody → p.space ≡ [] → AreParts means p empty
parts_begin means p dylibs tables rows spans units generators trackers space = record {
  kept = record {
    dylibs = record { dylibs_are = dylibs; count = ap length tables; tables = λ d b. absurd (omega (arith, b)) };
    rows = rows;
    units = record {
      count = ap (λ r. length r.units) units;
      rows = λ u. sym (ap (λ r. option_map (unit_row means 0) (slice_get r.units u)) units);
      tracked = λ u x t. absurd (none-some x t);
      dylibs = λ u x t. absurd (none_in p.units.units u x (ap (λ r. r.units) units) t);
      readied = λ u x t. absurd (none_in p.units.units u x (ap (λ r. r.units) units) t);
    };
    jobs = ap (λ r. r.jobs) units;
    generators = record {
      count = ap length generators;
      rows = λ g. sym (ap (λ xs. option_map (gen_row means 0) (slice_get xs g)) generators);
      tracked = λ g x t. absurd (none-some x t);
    };
    owners = record {
      count = ap (λ o. length o.tracks) trackers;
      gone = λ t x h. absurd (none-some x h);
      dylibs = λ t x o h. absurd (none-some x h);
      owned = λ t o h. absurd (none-some o (subst (λ os. within (slice_get os.tracks t) ≡ Some o) trackers h));
    };
    memory = record {
      each = λ u x t. absurd (none-some x t);
      others = λ u b. ap (λ ps. placement_of ps (record { 0 = u })) space;
    };
  };
  spans = spans;
}
