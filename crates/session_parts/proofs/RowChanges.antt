-- Changes of rows that leave the present ones of each name.
use Rattle.std.proofs.Common.{◌≡◌, ℕ, ◌+◌, ◌&&◌, List, [], ◌∷◌, map, Some, refl, ap, sym, ◌∙◌}
use Rattle.std.specs.Bool.{if◌then◌else◌}
use Rattle.std.specs.Prelude.{◌==◌}
use Rattle.session_model.specs.Lists.{numbered}
use Rattle.session_model.specs.Match.{row_of, first_row}
use Rattle.session_model.specs.declared.rows.Dylib.{Dylib}
use Rattle.session_model.specs.declared.rows.InstRow.{InstRow}
use Rattle.jit_dylib.specs.Shelf.{Shelf}
use Rattle.session_parts.specs.Tied.{AreDylibs}

-- what matching sees of a row stays
pub record IsSeenSame (old new : InstRow) : Type 0 where
  pub present : new.present ≡ old.present
  pub dylib : new.dylib ≡ old.dylib
  pub name : new.name ≡ old.name
  pub flags : new.flags ≡ old.flags

seen_test : (d name : ℕ) (x y : InstRow) → IsSeenSame x y → (y.present && y.dylib.0 == d && y.name.0 == name) ≡ (x.present && x.dylib.0 == d && x.name.0 == name)
seen_test d name x y s = ap (λ b. b && y.dylib.0 == d && y.name.0 == name) s.present ∙ (ap (λ e. x.present && e.0 == d && y.name.0 == name) s.dylib ∙ ap (λ e. x.present && x.dylib.0 == d && e.0 == name) s.name)

first_numbered : (d name : ℕ) (f : ℕ → InstRow → InstRow) → ((i : ℕ) (r : InstRow) → IsSeenSame r (f i r)) → (k n : ℕ) (rows : List InstRow) →
    first_row (λ r. r.present && r.dylib.0 == d && r.name.0 == name) k (numbered f n rows) ≡ first_row (λ r. r.present && r.dylib.0 == d && r.name.0 == name) k rows
first_numbered d name f h k n [] = refl
first_numbered d name f h k n (r ∷ rs) =
    ap (λ b. if b then Some (record { inst = record { 0 = k }; flags = (f n r).flags }) else first_row (λ r. r.present && r.dylib.0 == d && r.name.0 == name) (k + 1) (numbered f (n + 1) rs)) (seen_test d name r (f n r) (h n r))
    ∙ ap (λ e. if r.present && r.dylib.0 == d && r.name.0 == name then Some (record { inst = record { 0 = k }; flags = e }) else first_row (λ r. r.present && r.dylib.0 == d && r.name.0 == name) (k + 1) (numbered f (n + 1) rs)) (h n r).flags
    ∙ ap (λ o. if r.present && r.dylib.0 == d && r.name.0 == name then Some (record { inst = record { 0 = k }; flags = r.flags }) else o) (first_numbered d name f h (k + 1) (n + 1) rs)

first_mapped : (d name : ℕ) (f : InstRow → InstRow) → ((r : InstRow) → IsSeenSame r (f r)) → (k : ℕ) (rows : List InstRow) →
    first_row (λ r. r.present && r.dylib.0 == d && r.name.0 == name) k (map f rows) ≡ first_row (λ r. r.present && r.dylib.0 == d && r.name.0 == name) k rows
first_mapped d name f h k [] = refl
first_mapped d name f h k (r ∷ rs) =
    ap (λ b. if b then Some (record { inst = record { 0 = k }; flags = (f r).flags }) else first_row (λ r. r.present && r.dylib.0 == d && r.name.0 == name) (k + 1) (map f rs)) (seen_test d name r (f r) (h r))
    ∙ ap (λ e. if r.present && r.dylib.0 == d && r.name.0 == name then Some (record { inst = record { 0 = k }; flags = e }) else first_row (λ r. r.present && r.dylib.0 == d && r.name.0 == name) (k + 1) (map f rs)) (h r).flags
    ∙ ap (λ o. if r.present && r.dylib.0 == d && r.name.0 == name then Some (record { inst = record { 0 = k }; flags = r.flags }) else o) (first_mapped d name f h (k + 1) rs)

-- with the same present rows of each name the tables are still theirs
pub dylibs_stay : (shelf : Shelf) (dylibs : List Dylib) (old new : List InstRow) → ((d name : ℕ) → row_of new d name ≡ row_of old d name) → AreDylibs shelf dylibs old → AreDylibs shelf dylibs new
dylibs_stay shelf dylibs old new same a = record { dylibs_are = a.dylibs_are; count = a.count; tables = λ d b name. a.tables d b name ∙ sym (same d name) }

pub dylibs_mapped : (shelf : Shelf) (dylibs : List Dylib) (rows : List InstRow) (f : InstRow → InstRow) → ((r : InstRow) → IsSeenSame r (f r)) → AreDylibs shelf dylibs rows → AreDylibs shelf dylibs (map f rows)
dylibs_mapped shelf dylibs rows f h a = dylibs_stay shelf dylibs rows (map f rows) (λ d name. first_mapped d name f h 0 rows) a

pub dylibs_numbered : (shelf : Shelf) (dylibs : List Dylib) (rows : List InstRow) (f : ℕ → InstRow → InstRow) → ((i : ℕ) (r : InstRow) → IsSeenSame r (f i r)) → AreDylibs shelf dylibs rows → AreDylibs shelf dylibs (numbered f 0 rows)
dylibs_numbered shelf dylibs rows f h a = dylibs_stay shelf dylibs rows (numbered f 0 rows) (λ d name. first_numbered d name f h 0 0 rows) a
