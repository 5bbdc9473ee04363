-- The parts of a line: names and lists.
use Rattle.std.specs.Prelude.{ℕ, ◌<◌, Bool, false, true, List, [], ◌∷◌, ◌++◌, length, codes, slice_get, Option, Some, None, unwrap_or}
use Rattle.std.specs.Fmt.{decimal}
use Rattle.orc_ids.specs.declared.groups.Group.{Group}
use Rattle.orc_ids.specs.declared.ids.InstId.{InstId}
use Rattle.orc_ids.specs.declared.ids.NameId.{NameId}
use Rattle.orc_ids.specs.declared.ids.UnitName.{UnitName}
use Rattle.orc_ids.specs.declared.ids.UnitName.TheVariants.{Object, Absolute, Alias}
use Rattle.orc_ids.specs.declared.lookup.Level.{Level}
use Rattle.orc_ids.specs.declared.lookup.Level.TheVariants.{Resolved, Ready}
use Rattle.orc_ids.specs.declared.lookup.OrderItem.{OrderItem}
use Rattle.orc_ids.specs.declared.lookup.Scope.{Scope}
use Rattle.orc_ids.specs.declared.lookup.Scope.TheVariants.{All as All_names, Exported}
use Rattle.orc_ids.specs.declared.lookup.Wanted.{Wanted}
use Rattle.text_parts.specs.Hexadecimal.{hex}

-- the name has a text in the table
abbrev pub IsGiven : List (List ℕ) → NameId → Type 0
IsGiven names name = name.0 < length names

-- the text of a name
abbrev pub name_text : List (List ℕ) → NameId → List ℕ
name_text names name = unwrap_or (slice_get names name.0) []

-- a list: `first` before its first element, `next` before each later one, and nothing where it is empty
abbrev pub listed : {X : Type 0} → List ℕ → List ℕ → (X → List ℕ) → List X → List ℕ
listed first next text [] = []
listed first next text (x ∷ xs) = first ++ text x ++ listed next next text xs

-- what the journal calls a unit: an object of a file, a line of absolute symbols, or one of aliases
abbrev pub unit_text : UnitName → List ℕ
unit_text (Object file) = codes "o" ++ decimal file
unit_text (Absolute line) = codes "a" ++ decimal line
unit_text (Alias line) = codes "l" ++ decimal line

abbrev pub level_text : Level → List ℕ
level_text Resolved = codes "resolved"
level_text Ready = codes "ready"

abbrev pub scope_text : Scope → List ℕ
scope_text All_names = codes ":all"
scope_text Exported = codes ":exported"

abbrev pub item_text : OrderItem → List ℕ
item_text item = codes "d" ++ decimal item.dylib.0 ++ scope_text item.scope

abbrev pub items_text : List OrderItem → List ℕ
items_text order = listed (codes " ") (codes ",") item_text order

-- a weak name is asked for with a question mark
abbrev pub weak_mark : Bool → List ℕ
weak_mark true = codes "?"
weak_mark false = []

abbrev pub wanted_text : List (List ℕ) → Wanted → List ℕ
wanted_text names w = name_text names w.name ++ weak_mark w.weak

abbrev pub wanted_list_text : List (List ℕ) → List Wanted → List ℕ
wanted_list_text names wanted = listed (codes " ") (codes " ") (wanted_text names) wanted

abbrev pub inst_text : InstId → List ℕ
inst_text i = codes "i" ++ decimal i.0

-- instances, with commas between them
abbrev pub insts_text : List InstId → List ℕ
insts_text insts = listed [] (codes ",") inst_text insts

-- a dependence group: its own instances, and what they depend on
abbrev pub group_text : Group → List ℕ
group_text g = insts_text g.members ++ codes ":" ++ insts_text g.deps

abbrev pub groups_text : List Group → List ℕ
groups_text groups = listed (codes " ") (codes ";") group_text groups

-- what a name was found to be: an instance at its address, or none
abbrev pub found_text : Option (InstId × ℕ) → List ℕ
found_text (Some p) = inst_text p.0 ++ codes "@" ++ hex p.1
found_text None = codes "none"

abbrev pub found_list_text : List (Option (InstId × ℕ)) → List ℕ
found_list_text matches = listed (codes " ") (codes ",") found_text matches

-- what an external is bound to: an instance, or none
abbrev pub bound_text : Option (InstId × ℕ) → List ℕ
bound_text (Some p) = inst_text p.0
bound_text None = codes "none"

abbrev pub bound_list_text : List (Option (InstId × ℕ)) → List ℕ
bound_list_text matches = listed (codes " ") (codes ",") bound_text matches
