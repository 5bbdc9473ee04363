-- The lines of the setup. Each takes what is known and the words after its first one.
use Rattle.std.specs.Prelude.{ℕ, Bool, true, List, [], ◌∷◌, ◌++◌, ◌&&◌, ◌||◌, not, length, map, nat_lt, nat_le, codes, Option, Some, None, Result, Ok, Err, if◌then◌else◌}
use Rattle.std.specs.Str.{bytes_eq}
use Rattle.orc_ids.specs.declared.ids.DylibId.{DylibId}
use Rattle.orc_ids.specs.declared.ids.TrackId.{TrackId}
use Rattle.orc_ids.specs.declared.ids.NameId.{NameId}
use Rattle.orc_ids.specs.declared.limits.TheConstants.{DYLIB_LIMIT, ORDER_LIMIT}
use Rattle.session_script.specs.declared.error.ScriptWhy.{ScriptWhy}
use Rattle.session_script.specs.declared.error.ScriptWhy.TheVariants as why
use Rattle.session_script.specs.declared.limits.TheConstants.{FILE_LIMIT}
use Rattle.session_script.specs.declared.script.SetupLine.TheVariants as line
use Rattle.session_script.specs.declared.setup.SetupWord.{SetupWord}
use Rattle.session_script.specs.declared.setup.SetupWord.TheVariants as word
use Rattle.session_script.specs.Texts.{has, all_mentioned}
use Rattle.session_script.specs.Words.{is_empty, is_name, is_file, is_symbol}
use Rattle.session_script.specs.Known.{Known, dylib_in, tracker_in, file_in, name_in, with_file, with_name, with_setup, checked, after_good}
use Rattle.session_script.specs.Forms.{are_items, are_declared, order_of, symbol_part, definition_in, source_part, target_part, are_symbols, are_addressed}

-- dylib D
abbrev pub dylib_line : Known → List (List ℕ) → Result Known ScriptWhy
dylib_line k (d ∷ []) =
    checked (is_name d) why.Name
    (checked (not (has d k.dylibs)) why.Taken
    (checked (nat_lt (length k.dylibs) DYLIB_LIMIT) why.TooMany
    (let named = with_name k d in
    Ok (with_setup (record named { dylibs = k.dylibs ++ d ∷ [] }) (line.Dylib (name_in named d))))))
dylib_line k _ = Err why.Count

-- order D ITEM ..
abbrev pub order_line : Known → List (List ℕ) → Result Known ScriptWhy
order_line k (d ∷ items) =
    checked (not (is_empty items)) why.Count
    (checked (is_name d) why.Name
    (checked (are_items items) why.Order
    (checked (has d k.dylibs && are_declared k.dylibs items) why.Unknown
    (checked (nat_le (length items) ORDER_LIMIT) why.TooMany
    (Ok (with_setup k (line.Order (dylib_in k d) (order_of k.dylibs items))))))))
order_line k [] = Err why.Count

-- tracker D T
abbrev pub tracker_line : Known → List (List ℕ) → Result Known ScriptWhy
tracker_line k (d ∷ t ∷ []) =
    checked (is_name d && is_name t) why.Name
    (checked (not (has t k.trackers)) why.Taken
    (checked (has d k.dylibs) why.Unknown
    (let made = record k { trackers = k.trackers ++ t ∷ [] } in
    Ok (with_setup made (line.Tracker (dylib_in k d) (tracker_in made t))))))
tracker_line k _ = Err why.Count

-- a declared dylib and a declared tracker
abbrev pub are_known : Known → List ℕ → List ℕ → Bool
are_known k d t = has d k.dylibs && has t k.trackers

-- there is room for the file, or it was mentioned before
abbrev pub has_room : Known → List ℕ → Bool
has_room k file = has file k.files || nat_lt (length k.files) FILE_LIMIT

-- D T FILE: their numbers, and what is then known
abbrev pub placed_file : Known → List ℕ → List ℕ → List ℕ → Result (Known × (DylibId × TrackId × ℕ)) ScriptWhy
placed_file k d t file =
    checked (is_name d && is_name t && is_file file) why.Name
    (checked (are_known k d t) why.Unknown
    (checked (has_room k file) why.TooMany
    (let mentioning = with_file k file in
    Ok (mentioning, (dylib_in k d, tracker_in k t, file_in mentioning file)))))

abbrev pub file_line : Known → List (List ℕ) → Result (Known × (DylibId × TrackId × ℕ)) ScriptWhy
file_line k (d ∷ t ∷ file ∷ []) = placed_file k d t file
file_line k _ = Err why.Count

-- object D T FILE
abbrev pub object_line : Known → List (List ℕ) → Result Known ScriptWhy
object_line k operands = after_good (file_line k operands) (λ p. Ok (with_setup (p.0) (line.Object (p.1.0) (p.1.1) (p.1.2))))

-- generator D T FILE
abbrev pub generator_line : Known → List (List ℕ) → Result Known ScriptWhy
generator_line k operands = after_good (file_line k operands) (λ p. Ok (with_setup (p.0) (line.Generator (p.1.0) (p.1.1) (p.1.2))))

-- no symbol is among those before it
abbrev pub are_new : List (List ℕ) → List (List ℕ) → Bool
are_new seen [] = true
are_new seen (definition ∷ more) = not (has (symbol_part definition) seen) && are_new (seen ++ symbol_part definition ∷ []) more

abbrev pub with_names : Known → List (List ℕ) → Known
with_names k names = record k { names = all_mentioned names k.names }

abbrev pub defined_in : Known → List ℕ → NameId × ℕ
defined_in k definition = definition_in k.names definition

-- absolute D T NAME=HEX ..
abbrev pub placed_symbols : Known → List ℕ → List ℕ → List (List ℕ) → Result Known ScriptWhy
placed_symbols k d t definitions =
    checked (is_name d && is_name t && are_symbols definitions) why.Name
    (checked (are_addressed definitions) why.Number
    (checked (are_new [] definitions) why.Taken
    (checked (are_known k d t) why.Unknown
    (let named = with_names k (map symbol_part definitions) in
    Ok (with_setup named (line.Absolute (dylib_in k d) (tracker_in k t) (map (defined_in named) definitions)))))))

abbrev pub absolute_line : Known → List (List ℕ) → Result Known ScriptWhy
absolute_line k (d ∷ t ∷ definitions) = checked (not (is_empty definitions)) why.Count (placed_symbols k d t definitions)
absolute_line k _ = Err why.Count

-- once the alias of these five words is set up
abbrev pub with_alias : Known → List ℕ → List ℕ → List ℕ → List ℕ → List ℕ → Known
with_alias k d t name source target =
    let named = with_name (with_name k name) target in
    with_setup named (line.Alias (record {
      dylib = dylib_in k d;
      tracker = tracker_in k t;
      name = name_in (with_name k name) name;
      source = dylib_in k source;
      target = name_in named target;
    }))

-- alias D T NAME=D:TARGET
unfoldable pub aliased : Known → List ℕ → List ℕ → List ℕ → Result Known ScriptWhy
aliased k d t definition =
    checked (is_name d && is_name t && is_symbol (symbol_part definition) && is_name (source_part definition) && is_symbol (target_part definition)) why.Name
    (checked (are_known k d t && has (source_part definition) k.dylibs) why.Unknown
    (Ok (with_alias k d t (symbol_part definition) (source_part definition) (target_part definition))))

abbrev pub alias_line : Known → List (List ℕ) → Result Known ScriptWhy
alias_line k (d ∷ t ∷ definition ∷ []) = aliased k d t definition
alias_line k _ = Err why.Count

-- the first words of these lines
abbrev pub setup_word : List ℕ → Option SetupWord
setup_word w =
    if bytes_eq w (codes "dylib") then Some word.Dylib else
    if bytes_eq w (codes "order") then Some word.Order else
    if bytes_eq w (codes "tracker") then Some word.Tracker else
    if bytes_eq w (codes "object") then Some word.Object else
    if bytes_eq w (codes "absolute") then Some word.Absolute else
    if bytes_eq w (codes "generator") then Some word.Generator else
    if bytes_eq w (codes "alias") then Some word.Alias else None

abbrev pub setup_line : Known → Option SetupWord → List (List ℕ) → Result Known ScriptWhy
setup_line k (Some word.Dylib) operands = dylib_line k operands
setup_line k (Some word.Order) operands = order_line k operands
setup_line k (Some word.Tracker) operands = tracker_line k operands
setup_line k (Some word.Object) operands = object_line k operands
setup_line k (Some word.Absolute) operands = absolute_line k operands
setup_line k (Some word.Generator) operands = generator_line k operands
setup_line k (Some word.Alias) operands = alias_line k operands
setup_line k None operands = Err why.Word
