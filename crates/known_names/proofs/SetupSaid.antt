-- Each line of the setup says names of the table.
use Rattle.std.proofs.Common.{◌≡◌, ℕ, ◌<◌, ◌&&◌, not, true, List, [], ◌∷◌, ◌++◌, Option, Some, None, length, map, All, subst, arith}
use Rattle.std.specs.Prelude.{Ok, nat_le, nat_lt}
use Rattle.std.proofs.lemmas.Bool.{and_parts}
use Rattle.std.proofs.lemmas.List.Elements.{All-map, All-weaker}
use Rattle.orc_ids.specs.declared.ids.DylibId.{DylibId}
use Rattle.orc_ids.specs.declared.ids.NameId.{NameId}
use Rattle.orc_ids.specs.declared.ids.TrackId.{TrackId}
use Rattle.orc_ids.specs.declared.limits.TheConstants.{DYLIB_LIMIT, ORDER_LIMIT}
use Rattle.journal_text.specs.Parts.{IsGiven}
use Rattle.session_script.specs.declared.script.SetupLine.TheVariants as line
use Rattle.session_script.specs.declared.setup.SetupWord.{SetupWord}
use Rattle.session_script.specs.declared.setup.SetupWord.TheVariants as word
use Rattle.session_script.specs.Texts.{has, number_of, mentioned, all_mentioned}
use Rattle.session_script.specs.Words.{is_empty, is_name, is_file, is_symbol}
use Rattle.session_script.specs.Forms.{are_items, are_declared, order_of, symbol_part, source_part, target_part, are_symbols, are_addressed}
use Rattle.session_script.specs.Known.{Known, dylib_in, tracker_in, file_in, name_in, with_file, with_name, with_setup}
use Rattle.session_script.specs.Setup.{dylib_line, order_line, tracker_line, are_known, has_room, placed_file, file_line, object_line, generator_line, are_new, with_names, defined_in, absolute_line, with_alias, aliased, alias_line, setup_line}
use Rattle.session_script.proofs.Checks.{passed, good_part}
use Rattle.session_script.proofs.NamesApart.{grown, number_within}
use Rattle.session_script.proofs.TextNumbers.{has_itself}
use Rattle.known_names.proofs.SaidSoFar.{SaysSoFar, all_there, names_said, setup_said, dylib_said, file_said}

dylib_line_said : (k new : Known) (operands : List (List ℕ)) → SaysSoFar k → dylib_line k operands ≡ Ok new → SaysSoFar new
dylib_line_said k new [] said read = absurd cc
dylib_line_said k new (d ∷ []) said read =
    let named = passed (is_name d) _ _ new read in
    let untaken = passed (not (has d k.dylibs)) _ _ new named.1 in
    let room = passed (nat_lt (length k.dylibs) DYLIB_LIMIT) _ _ new untaken.1 in
    let given : number_of d (mentioned d k.names) < length (mentioned d k.names) = number_within d (mentioned d k.names) (has_itself d k.names) in
    let declared : Known = record (with_name k d) { dylibs = k.dylibs ++ d ∷ [] } in
    let made : with_setup declared (line.Dylib (name_in (with_name k d) d)) ≡ new = cc room.1 in
    subst SaysSoFar made (setup_said declared (line.Dylib (name_in (with_name k d) d)) given (dylib_said (with_name k d) d (omega (arith, given)) (names_said k (d ∷ []) said)))
dylib_line_said k new (_ ∷ _ ∷ _) said read = absurd cc

order_line_said : (k new : Known) (operands : List (List ℕ)) → SaysSoFar k → order_line k operands ≡ Ok new → SaysSoFar new
order_line_said k new [] said read = absurd cc
order_line_said k new (d ∷ items) said read =
    let some = passed (not (is_empty items)) _ _ new read in
    let named = passed (is_name d) _ _ new some.1 in
    let formed = passed (are_items items) _ _ new named.1 in
    let known = passed (has d k.dylibs && are_declared k.dylibs items) _ _ new formed.1 in
    let room = passed (nat_le (length items) ORDER_LIMIT) _ _ new known.1 in
    let made : with_setup k (line.Order (dylib_in k d) (order_of k.dylibs items)) ≡ new = cc room.1 in
    subst SaysSoFar made (setup_said k (line.Order (dylib_in k d) (order_of k.dylibs items)) tt said)

tracker_line_said : (k new : Known) (operands : List (List ℕ)) → SaysSoFar k → tracker_line k operands ≡ Ok new → SaysSoFar new
tracker_line_said k new [] said read = absurd cc
tracker_line_said k new (_ ∷ []) said read = absurd cc
tracker_line_said k new (d ∷ t ∷ []) said read =
    let named = passed (is_name d && is_name t) _ _ new read in
    let untaken = passed (not (has t k.trackers)) _ _ new named.1 in
    let known = passed (has d k.dylibs) _ _ new untaken.1 in
    let declared : Known = record k { trackers = k.trackers ++ t ∷ [] } in
    let tables : SaysSoFar declared = record { setup = said.setup; earlier = said.earlier; current = said.current; dylibs = said.dylibs; files = said.files } in
    let made : with_setup declared (line.Tracker (dylib_in k d) (tracker_in declared t)) ≡ new = cc known.1 in
    subst SaysSoFar made (setup_said declared (line.Tracker (dylib_in k d) (tracker_in declared t)) tt tables)
tracker_line_said k new (_ ∷ _ ∷ _ ∷ _) said read = absurd cc

-- a text that is among others isn't alone
some_there : (t : List ℕ) (texts : List (List ℕ)) → has t texts ≡ true → 0 < length texts
some_there t [] there = absurd cc
some_there t (x ∷ xs) there = omega arith

-- A file is placed in a dylib that was declared, so there is a name.
placed_said : (k : Known) (d t file : List ℕ) (p : Known × (DylibId × TrackId × ℕ)) → SaysSoFar k → placed_file k d t file ≡ Ok p → SaysSoFar p.0
placed_said k d t file p said read =
    let named = passed (is_name d && is_name t && is_file file) _ _ p read in
    let known = passed (are_known k d t) _ _ p named.1 in
    let room = passed (has_room k file) _ _ p known.1 in
    let declared = and_parts (has d k.dylibs) (has t k.trackers) known.0 in
    let made : (with_file k file, (dylib_in k d, tracker_in k t, file_in (with_file k file) file)) ≡ p = cc room.1 in
    subst (λ (q : Known × (DylibId × TrackId × ℕ)). SaysSoFar q.0) made (file_said k file (said.dylibs (some_there d k.dylibs declared.0)) said)

pub file_line_said : (k : Known) (operands : List (List ℕ)) (p : Known × (DylibId × TrackId × ℕ)) → SaysSoFar k → file_line k operands ≡ Ok p → SaysSoFar p.0
file_line_said k [] p said read = absurd cc
file_line_said k (_ ∷ []) p said read = absurd cc
file_line_said k (_ ∷ _ ∷ []) p said read = absurd cc
file_line_said k (d ∷ t ∷ file ∷ []) p said read = placed_said k d t file p said read
file_line_said k (_ ∷ _ ∷ _ ∷ _ ∷ _) p said read = absurd cc

object_line_said : (k new : Known) (operands : List (List ℕ)) → SaysSoFar k → object_line k operands ≡ Ok new → SaysSoFar new
object_line_said k new operands said read =
    let part = good_part (file_line k operands) _ new read in
    let object = line.Object (part.0.1.0) (part.0.1.1) (part.0.1.2) in
    let made : with_setup (part.0.0) object ≡ new = cc part.2 in
    subst SaysSoFar made (setup_said part.0.0 object tt (file_line_said k operands part.0 said part.1))

generator_line_said : (k new : Known) (operands : List (List ℕ)) → SaysSoFar k → generator_line k operands ≡ Ok new → SaysSoFar new
generator_line_said k new operands said read =
    let part = good_part (file_line k operands) _ new read in
    let generator = line.Generator (part.0.1.0) (part.0.1.1) (part.0.1.2) in
    let made : with_setup (part.0.0) generator ≡ new = cc part.2 in
    subst SaysSoFar made (setup_said part.0.0 generator tt (file_line_said k operands part.0 said part.1))

-- each symbol is a name once all are mentioned
symbols_given : (k : Known) (ds : List (List ℕ)) → All (λ (p : NameId × ℕ). IsGiven (all_mentioned (map symbol_part ds) k.names) p.0) (map (defined_in (with_names k (map symbol_part ds))) ds)
symbols_given k ds =
    let table = all_mentioned (map symbol_part ds) k.names in
    All-map (λ (p : NameId × ℕ). IsGiven table p.0) (defined_in (with_names k (map symbol_part ds))) ds
    (All-weaker (λ d. has (symbol_part d) table ≡ true) (λ d. number_of (symbol_part d) table < length table) (λ d. number_within (symbol_part d) table) ds (all_there symbol_part ds k.names))

absolute_line_said : (k new : Known) (operands : List (List ℕ)) → SaysSoFar k → absolute_line k operands ≡ Ok new → SaysSoFar new
absolute_line_said k new [] said read = absurd cc
absolute_line_said k new (_ ∷ []) said read = absurd cc
absolute_line_said k new (d ∷ t ∷ ds) said read =
    let some = passed (not (is_empty ds)) _ _ new read in
    let named = passed (is_name d && is_name t && are_symbols ds) _ _ new some.1 in
    let addressed = passed (are_addressed ds) _ _ new named.1 in
    let untaken = passed (are_new [] ds) _ _ new addressed.1 in
    let known = passed (are_known k d t) _ _ new untaken.1 in
    let all : Known = with_names k (map symbol_part ds) in
    let absolute = line.Absolute (dylib_in k d) (tracker_in k t) (map (defined_in all) ds) in
    let made : with_setup all absolute ≡ new = cc known.1 in
    subst SaysSoFar made (setup_said all absolute (symbols_given k ds) (names_said k (map symbol_part ds) said))

aliased_said : (k new : Known) (d t definition : List ℕ) → SaysSoFar k → aliased k d t definition ≡ Ok new → SaysSoFar new
unfolding aliased
aliased_said k new d t definition said read =
    let name = symbol_part definition in
    let target = target_part definition in
    let named = passed (is_name d && is_name t && is_symbol (symbol_part definition) && is_name (source_part definition) && is_symbol (target_part definition)) _ _ new read in
    let known = passed (are_known k d t && has (source_part definition) k.dylibs) _ _ new named.1 in
    let made : with_alias k d t name (source_part definition) target ≡ new = cc known.1 in
    let first = mentioned name k.names in
    let name_given : number_of name first < length (mentioned target first) = omega (arith, number_within name first (has_itself name k.names), grown target first) in
    let target_given : number_of target (mentioned target first) < length (mentioned target first) = number_within target (mentioned target first) (has_itself target first) in
    subst SaysSoFar made (setup_said (with_name (with_name k name) target) _ (name_given, target_given) (names_said k (name ∷ target ∷ []) said))

alias_line_said : (k new : Known) (operands : List (List ℕ)) → SaysSoFar k → alias_line k operands ≡ Ok new → SaysSoFar new
alias_line_said k new [] said read = absurd cc
alias_line_said k new (_ ∷ []) said read = absurd cc
alias_line_said k new (_ ∷ _ ∷ []) said read = absurd cc
alias_line_said k new (d ∷ t ∷ definition ∷ []) said read = aliased_said k new d t definition said read
alias_line_said k new (_ ∷ _ ∷ _ ∷ _ ∷ _) said read = absurd cc

pub setup_line_said : (k new : Known) (first : Option SetupWord) (operands : List (List ℕ)) → SaysSoFar k → setup_line k first operands ≡ Ok new → SaysSoFar new
setup_line_said k new (Some word.Dylib) operands said read = dylib_line_said k new operands said read
setup_line_said k new (Some word.Order) operands said read = order_line_said k new operands said read
setup_line_said k new (Some word.Tracker) operands said read = tracker_line_said k new operands said read
setup_line_said k new (Some word.Object) operands said read = object_line_said k new operands said read
setup_line_said k new (Some word.Absolute) operands said read = absolute_line_said k new operands said read
setup_line_said k new (Some word.Generator) operands said read = generator_line_said k new operands said read
setup_line_said k new (Some word.Alias) operands said read = alias_line_said k new operands said read
setup_line_said k new None operands said read = absurd cc
