-- Each line of the setup leaves a script good that is good so far.
use Rattle.std.proofs.Common.{◌≡◌, ℕ, ◌<◌, ◌≤◌, ◌&&◌, not, List, [], ◌∷◌, ◌++◌, Option, Some, None, length, map, refl, le_refl, subst, arith}
use Rattle.std.specs.Prelude.{Ok, nat_le, nat_lt}
use Rattle.std.proofs.lemmas.List.{length-map}
use Rattle.std.proofs.lemmas.Bool.{and_parts, not-true, ltb-true, leb-true}
use Rattle.orc_ids.specs.declared.ids.DylibId.{DylibId}
use Rattle.orc_ids.specs.declared.ids.TrackId.{TrackId}
use Rattle.orc_ids.specs.declared.limits.TheConstants.{DYLIB_LIMIT, ORDER_LIMIT}
use Rattle.session_script.specs.declared.limits.TheConstants.{SIZE_LIMIT}
use Rattle.session_script.specs.declared.script.SetupLine.TheVariants as line
use Rattle.session_script.specs.declared.setup.SetupWord.{SetupWord}
use Rattle.session_script.specs.declared.setup.SetupWord.TheVariants as word
use Rattle.session_script.specs.Texts.{has, mentioned}
use Rattle.session_script.specs.Words.{is_empty, is_name, is_file, is_symbol}
use Rattle.session_script.specs.Forms.{are_items, are_declared, item_in, order_of, symbol_part, source_part, target_part, are_symbols, are_addressed}
use Rattle.session_script.specs.Known.{Known, dylib_in, tracker_in, file_in, name_in, with_file, with_name, with_setup}
use Rattle.session_script.specs.Setup.{dylib_line, order_line, tracker_line, are_known, has_room, placed_file, file_line, object_line, generator_line, are_new, with_names, defined_in, absolute_line, with_alias, aliased, alias_line, setup_line}
use Rattle.session_script.proofs.Checks.{passed, good_part}
use Rattle.session_script.proofs.NamesApart.{number_within, grown, defined_differ}
use Rattle.session_script.proofs.ScriptSoFar.{IsGoodSoFar, tables_grown, setup_pushed, dylib_pushed}
use Rattle.session_script.proofs.TextNumbers.{has_itself}
use Rattle.session_script.proofs.WordSizes.{size_of, size_of_definitions}

dylib_kept : (notes : ℕ) (k new : Known) (operands : List (List ℕ)) → IsGoodSoFar notes k → dylib_line k operands ≡ Ok new → IsGoodSoFar notes new
dylib_kept notes k new [] good read = absurd cc
dylib_kept notes k new (d ∷ []) good read =
    let named = passed (is_name d) _ _ new read in
    let untaken = passed (not (has d k.dylibs)) _ _ new named.1 in
    let room = passed (nat_lt (length k.dylibs) DYLIB_LIMIT) _ _ new untaken.1 in
    let tables = tables_grown notes k k.trackers k.files (d ∷ []) (le_refl (length k.files)) good in
    let declared : Known = record (with_name k d) { dylibs = k.dylibs ++ d ∷ [] } in
    let made : with_setup declared (line.Dylib (name_in (with_name k d) d)) ≡ new = cc room.1 in
    subst (IsGoodSoFar notes) made (dylib_pushed notes (with_name k d) d (has_itself d k.names) (not-true (has d k.dylibs) untaken.0) (ltb-true (length k.dylibs) DYLIB_LIMIT room.0) tables)
dylib_kept notes k new (_ ∷ _ ∷ _) good read = absurd cc

order_kept : (notes : ℕ) (k new : Known) (operands : List (List ℕ)) → IsGoodSoFar notes k → order_line k operands ≡ Ok new → IsGoodSoFar notes new
order_kept notes k new [] good read = absurd cc
order_kept notes k new (d ∷ items) good read =
    let some = passed (not (is_empty items)) _ _ new read in
    let named = passed (is_name d) _ _ new some.1 in
    let formed = passed (are_items items) _ _ new named.1 in
    let known = passed (has d k.dylibs && are_declared k.dylibs items) _ _ new formed.1 in
    let room = passed (nat_le (length items) ORDER_LIMIT) _ _ new known.1 in
    let few : length (order_of k.dylibs items) ≤ ORDER_LIMIT = omega (arith, length-map items (item_in k.dylibs), leb-true (length items) ORDER_LIMIT room.0) in
    let made : with_setup k (line.Order (dylib_in k d) (order_of k.dylibs items)) ≡ new = cc room.1 in
    subst (IsGoodSoFar notes) made (setup_pushed notes k (line.Order (dylib_in k d) (order_of k.dylibs items)) few refl tt good)

tracker_kept : (notes : ℕ) (k new : Known) (operands : List (List ℕ)) → IsGoodSoFar notes k → tracker_line k operands ≡ Ok new → IsGoodSoFar notes new
tracker_kept notes k new [] good read = absurd cc
tracker_kept notes k new (_ ∷ []) good read = absurd cc
tracker_kept notes k new (d ∷ t ∷ []) good read =
    let named = passed (is_name d && is_name t) _ _ new read in
    let untaken = passed (not (has t k.trackers)) _ _ new named.1 in
    let known = passed (has d k.dylibs) _ _ new untaken.1 in
    let declared : Known = record k { trackers = k.trackers ++ t ∷ [] } in
    let tables = tables_grown notes k (k.trackers ++ t ∷ []) k.files [] (le_refl (length k.files)) good in
    let made : with_setup declared (line.Tracker (dylib_in k d) (tracker_in declared t)) ≡ new = cc known.1 in
    subst (IsGoodSoFar notes) made (setup_pushed notes declared (line.Tracker (dylib_in k d) (tracker_in declared t)) tt refl tt tables)
tracker_kept notes k new (_ ∷ _ ∷ _ ∷ _) good read = absurd cc

-- a file that a line names is one of the script's
pub record IsPlaced (notes : ℕ) (k : Known) (p : Known × (DylibId × TrackId × ℕ)) : Type 0 where
  pub good : IsGoodSoFar notes p.0
  pub file : p.1.2 < length p.0.files
  pub begun : p.0.begun ≡ k.begun

placed : (notes : ℕ) (k : Known) (d t file : List ℕ) (p : Known × (DylibId × TrackId × ℕ)) → IsGoodSoFar notes k → placed_file k d t file ≡ Ok p → IsPlaced notes k p
placed notes k d t file p good read =
    let named = passed (is_name d && is_name t && is_file file) _ _ p read in
    let known = passed (are_known k d t) _ _ p named.1 in
    let room = passed (has_room k file) _ _ p known.1 in
    let made : (with_file k file, (dylib_in k d, tracker_in k t, file_in (with_file k file) file)) ≡ p = cc room.1 in
    subst (IsPlaced notes k) made (record {
      good = tables_grown notes k k.trackers (mentioned file k.files) [] (grown file k.files) good;
      file = number_within file (mentioned file k.files) (has_itself file k.files);
      begun = refl;
    })

pub file_placed : (notes : ℕ) (k : Known) (operands : List (List ℕ)) (p : Known × (DylibId × TrackId × ℕ)) → IsGoodSoFar notes k → file_line k operands ≡ Ok p → IsPlaced notes k p
file_placed notes k [] p good read = absurd cc
file_placed notes k (_ ∷ []) p good read = absurd cc
file_placed notes k (_ ∷ _ ∷ []) p good read = absurd cc
file_placed notes k (d ∷ t ∷ file ∷ []) p good read = placed notes k d t file p good read
file_placed notes k (_ ∷ _ ∷ _ ∷ _ ∷ _) p good read = absurd cc

object_kept : (notes : ℕ) (k new : Known) (operands : List (List ℕ)) → IsGoodSoFar notes k → object_line k operands ≡ Ok new → IsGoodSoFar notes new
object_kept notes k new operands good read =
    let part = good_part (file_line k operands) _ new read in
    let file = file_placed notes k operands part.0 good part.1 in
    let object = line.Object (part.0.1.0) (part.0.1.1) (part.0.1.2) in
    let made : with_setup (part.0.0) object ≡ new = cc part.2 in
    subst (IsGoodSoFar notes) made (setup_pushed notes part.0.0 object file.file refl tt file.good)

generator_kept : (notes : ℕ) (k new : Known) (operands : List (List ℕ)) → IsGoodSoFar notes k → generator_line k operands ≡ Ok new → IsGoodSoFar notes new
generator_kept notes k new operands good read =
    let part = good_part (file_line k operands) _ new read in
    let file = file_placed notes k operands part.0 good part.1 in
    let generator = line.Generator (part.0.1.0) (part.0.1.1) (part.0.1.2) in
    let made : with_setup (part.0.0) generator ≡ new = cc part.2 in
    subst (IsGoodSoFar notes) made (setup_pushed notes part.0.0 generator file.file refl tt file.good)

absolute_kept : (notes : ℕ) (k new : Known) (operands : List (List ℕ)) → size_of operands ≤ SIZE_LIMIT → IsGoodSoFar notes k → absolute_line k operands ≡ Ok new → IsGoodSoFar notes new
absolute_kept notes k new [] size good read = absurd cc
absolute_kept notes k new (_ ∷ []) size good read = absurd cc
absolute_kept notes k new (d ∷ t ∷ ds) size good read =
    let some = passed (not (is_empty ds)) _ _ new read in
    let named = passed (is_name d && is_name t && are_symbols ds) _ _ new some.1 in
    let addressed = passed (are_addressed ds) _ _ new named.1 in
    let untaken = passed (are_new [] ds) _ _ new addressed.1 in
    let known = passed (are_known k d t) _ _ new untaken.1 in
    let symbols = and_parts (is_name d && is_name t) (are_symbols ds) named.0 in
    let all : Known = with_names k (map symbol_part ds) in
    let absolute = line.Absolute (dylib_in k d) (tracker_in k t) (map (defined_in all) ds) in
    let made : with_setup all absolute ≡ new = cc known.1 in
    let tables = tables_grown notes k k.trackers k.files (map symbol_part ds) (le_refl (length k.files)) good in
    subst (IsGoodSoFar notes) made (setup_pushed notes all absolute (record {
      differ = defined_differ all ds k.names refl untaken.0;
      few = omega (arith, length-map ds (defined_in all), size_of_definitions ds symbols.1 addressed.0);
    }) refl tt tables)

aliased_kept : (notes : ℕ) (k new : Known) (d t definition : List ℕ) → IsGoodSoFar notes k → aliased k d t definition ≡ Ok new → IsGoodSoFar notes new
unfolding aliased
aliased_kept notes k new d t definition good read =
    let named = passed (is_name d && is_name t && is_symbol (symbol_part definition) && is_name (source_part definition) && is_symbol (target_part definition)) _ _ new read in
    let known = passed (are_known k d t && has (source_part definition) k.dylibs) _ _ new named.1 in
    let made : with_alias k d t (symbol_part definition) (source_part definition) (target_part definition) ≡ new = cc known.1 in
    let declared = and_parts (are_known k d t) (has (source_part definition) k.dylibs) known.0 in
    let source = number_within (source_part definition) k.dylibs declared.1 in
    let tables = tables_grown notes k k.trackers k.files (symbol_part definition ∷ target_part definition ∷ []) (le_refl (length k.files)) good in
    subst (IsGoodSoFar notes) made (setup_pushed notes (with_name (with_name k (symbol_part definition)) (target_part definition)) _ tt refl source tables)

alias_kept : (notes : ℕ) (k new : Known) (operands : List (List ℕ)) → IsGoodSoFar notes k → alias_line k operands ≡ Ok new → IsGoodSoFar notes new
alias_kept notes k new [] good read = absurd cc
alias_kept notes k new (_ ∷ []) good read = absurd cc
alias_kept notes k new (_ ∷ _ ∷ []) good read = absurd cc
alias_kept notes k new (d ∷ t ∷ definition ∷ []) good read = aliased_kept notes k new d t definition good read
alias_kept notes k new (_ ∷ _ ∷ _ ∷ _ ∷ _) good read = absurd cc

pub setup_kept : (notes : ℕ) (k new : Known) (first : Option SetupWord) (operands : List (List ℕ)) → size_of operands ≤ SIZE_LIMIT → IsGoodSoFar notes k → setup_line k first operands ≡ Ok new → IsGoodSoFar notes new
setup_kept notes k new (Some word.Dylib) operands size good read = dylib_kept notes k new operands good read
setup_kept notes k new (Some word.Order) operands size good read = order_kept notes k new operands good read
setup_kept notes k new (Some word.Tracker) operands size good read = tracker_kept notes k new operands good read
setup_kept notes k new (Some word.Object) operands size good read = object_kept notes k new operands good read
setup_kept notes k new (Some word.Absolute) operands size good read = absolute_kept notes k new operands size good read
setup_kept notes k new (Some word.Generator) operands size good read = generator_kept notes k new operands good read
setup_kept notes k new (Some word.Alias) operands size good read = alias_kept notes k new operands good read
setup_kept notes k new None operands size good read = absurd cc
