-- The operands of lines: items of search orders, levels, wanted names, definitions and numbers.
use Rattle.std.specs.Prelude.{ℕ, Bool, List, ◌&&◌, ◌||◌, map, codes, is_some, unwrap_or, Option, if◌then◌else◌}
use Rattle.std.specs.List.{list_all}
use Rattle.std.specs.Str.{bytes_eq}
use Rattle.orc_ids.specs.declared.ids.NameId.{NameId}
use Rattle.orc_ids.specs.declared.lookup.Level.{Level}
use Rattle.orc_ids.specs.declared.lookup.Level.TheVariants.{Resolved, Ready}
use Rattle.orc_ids.specs.declared.lookup.Scope.{Scope}
use Rattle.orc_ids.specs.declared.lookup.Scope.TheVariants.{All as All_names, Exported}
use Rattle.orc_ids.specs.declared.lookup.OrderItem.{OrderItem}
use Rattle.orc_ids.specs.declared.lookup.Wanted.{Wanted}
use Rattle.session_script.specs.declared.forms.Form.{Form}
use Rattle.session_script.specs.declared.forms.Form.TheVariants as form
use Rattle.session_script.specs.declared.limits.TheConstants.{FUEL_LIMIT, NUMBER_LIMIT}
use Rattle.session_script.specs.Texts.{has, number_of}
use Rattle.session_script.specs.Words.{before, after, colon, equals, is_name, is_symbol, is_marked, unmarked, number_in, at_most}

abbrev pub is_scope : List ℕ → Bool
is_scope w = bytes_eq w (codes "all") || bytes_eq w (codes "exported")

abbrev pub scope_of : List ℕ → Scope
scope_of w = if bytes_eq w (codes "exported") then Exported else All_names

-- ITEM: D:all or D:exported
abbrev pub is_item : List ℕ → Bool
is_item item = is_name (before colon item) && is_scope (after colon item)

abbrev pub are_items : List (List ℕ) → Bool
are_items items = list_all is_item items

abbrev pub is_declared : List (List ℕ) → List ℕ → Bool
is_declared dylibs item = has (before colon item) dylibs

abbrev pub are_declared : List (List ℕ) → List (List ℕ) → Bool
are_declared dylibs items = list_all (is_declared dylibs) items

abbrev pub item_in : List (List ℕ) → List ℕ → OrderItem
item_in dylibs item = record { dylib = record { 0 = number_of (before colon item) dylibs }; scope = scope_of (after colon item) }

abbrev pub order_of : List (List ℕ) → List (List ℕ) → List OrderItem
order_of dylibs items = map (item_in dylibs) items

abbrev pub is_level : List ℕ → Bool
is_level w = bytes_eq w (codes "resolved") || bytes_eq w (codes "ready")

abbrev pub level_of : List ℕ → Level
level_of w = if bytes_eq w (codes "ready") then Ready else Resolved

-- a wanted name: NAME, or NAME? where it may have no match
abbrev pub are_wanted : List (List ℕ) → Bool
are_wanted words = list_all (λ word. is_symbol (unmarked word)) words

abbrev pub wanted_in : List (List ℕ) → List ℕ → Wanted
wanted_in names word = record { name = record { 0 = number_of (unmarked word) names }; weak = is_marked word }

-- NAME=HEX
abbrev pub symbol_part : List ℕ → List ℕ
symbol_part definition = before equals definition

abbrev pub address_part : List ℕ → Option ℕ
address_part definition = at_most NUMBER_LIMIT (number_in 16 (after equals definition))

-- the symbol and the address of a definition
abbrev pub definition_in : List (List ℕ) → List ℕ → NameId × ℕ
definition_in names definition = (record { 0 = number_of (symbol_part definition) names }, unwrap_or (address_part definition) 0)

abbrev pub are_symbols : List (List ℕ) → Bool
are_symbols definitions = list_all (λ definition. is_symbol (symbol_part definition)) definitions

abbrev pub are_addressed : List (List ℕ) → Bool
are_addressed definitions = list_all (λ definition. is_some (address_part definition)) definitions

-- NAME=D:TARGET
abbrev pub source_part : List ℕ → List ℕ
source_part definition = before colon (after equals definition)

abbrev pub target_part : List ℕ → List ℕ
target_part definition = after colon (after equals definition)

abbrev pub fuel_in : List ℕ → Option ℕ
fuel_in word = at_most FUEL_LIMIT (number_in 10 word)

abbrev pub argument_in : List ℕ → Option ℕ
argument_in word = at_most NUMBER_LIMIT (number_in 10 word)

abbrev pub are_arguments : List (List ℕ) → Bool
are_arguments words = list_all (λ word. is_some (argument_in word)) words

-- what a word of a list has to be
abbrev pub fits : Form → List ℕ → Bool
fits form.Item word = is_item word
fits form.Wanted word = is_symbol (unmarked word)
fits form.Defined word = is_symbol (symbol_part word)
fits form.Addressed word = is_some (address_part word)
fits form.Argument word = is_some (argument_in word)
