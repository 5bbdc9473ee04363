-- The shares of the units of some files, one for each number of a file.
use Rattle.std.proofs.Common.{◌≡◌, ℕ, suc, ◌+◌, ◌<◌, List, [], ◌∷◌, ◌++◌, length, get_or, map, take, Some, refl, sym, ap, ◌∙◌, subst, arith}
use Rattle.std.specs.Prelude.{option_map, slice_get}
use Rattle.std.proofs.Math.Seq.{take-suc}
use Rattle.std.proofs.lemmas.List.{length-append, map-append}
use Rattle.std.proofs.lemmas.Option.{none-some, slice_get-get_or, slice_get-map}
use Rattle.session_model.specs.Meaning.{Meaning}
use Rattle.session_units.specs.Units.{meaning_of}
use Rattle.session_units.specs.declared.unit.ObjectUnit.{ObjectUnit}
use Rattle.object_files.proofs.Snoc.{both_snoc}
use Rattle.orc_cli.specs.Loading.{AreShared}

pub none_shared : (file_units : List Meaning) → AreShared file_units [] []
none_shared file_units = record { count = refl; each = λ k file unit e f. absurd (none-some file e) }

one_more : (file_units : List Meaning) (files : List ℕ) (file : ℕ) (units : List Meaning) (unit : Meaning) → AreShared file_units files units → slice_get file_units file ≡ Some unit → AreShared file_units (files ++ file ∷ []) (units ++ unit ∷ [])
one_more file_units files file units unit are e = record {
  count = omega (arith, are.count, length-append units (unit ∷ []), length-append files (file ∷ []));
  each = both_snoc (λ (k : ℕ) (f : ℕ) (u : Meaning). slice_get file_units f ≡ Some u) files units file unit (sym are.count) are.each e;
}

pub more_shared : (file_units : List Meaning) (files : List ℕ) (i d : ℕ) (units : List Meaning) (unit : Meaning) → AreShared file_units (take i files) units → i < length files → slice_get file_units (get_or files i d) ≡ Some unit → AreShared file_units (take (i + 1) files) (units ++ unit ∷ [])
more_shared file_units files i d units unit are below e =
    let same : i + 1 ≡ suc i = omega arith in
    let next : take (i + 1) files ≡ take i files ++ get_or files i d ∷ [] = ap (λ n. take n files) same ∙ take-suc files i d below in
    subst (λ fs. AreShared file_units fs (units ++ unit ∷ [])) (sym next) (one_more file_units (take i files) (get_or files i d) units unit are e)

-- the share of the unit of the next number
pub pushed : (file_units : List ObjectUnit) (files : List ℕ) (i d : ℕ) (units units' : List ObjectUnit) (unit share : ObjectUnit) → AreShared (map meaning_of file_units) (take i files) (map meaning_of units) → i < length files → get_or files i d < length file_units →
    unit ≡ get_or file_units (get_or files i d) unit → meaning_of share ≡ meaning_of unit → units' ≡ units ++ share ∷ [] → AreShared (map meaning_of file_units) (take (i + 1) files) (map meaning_of units')
pushed file_units files i d units units' unit share are below within is means items =
    let there : slice_get (map meaning_of file_units) (get_or files i d) ≡ Some (meaning_of share) =
    slice_get-map meaning_of file_units (get_or files i d) ∙ (ap (option_map meaning_of) (slice_get-get_or file_units (get_or files i d) unit within) ∙ (ap (λ u. Some (meaning_of u)) (sym is) ∙ ap Some (sym means))) in
    let all : map meaning_of units' ≡ map meaning_of units ++ meaning_of share ∷ [] = ap (map meaning_of) items ∙ map-append meaning_of units (share ∷ []) in
    subst (AreShared (map meaning_of file_units) (take (i + 1) files)) (sym all) (more_shared (map meaning_of file_units) files i d (map meaning_of units) (meaning_of share) are below there)
