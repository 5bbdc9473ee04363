-- The present rows of a dylib's names, and what a define and a removal make of them (ORC: the symbol
-- table of a `JITDylib`).
use Rattle.std.specs.Prelude.{◌≡◌, ⊤, ℕ, ◌+◌, ◌&&◌, ◌==◌, not, Bool, true, false, List, [], ◌∷◌, Option, Some, None, nat_eq, map, slice_get, filter_map, option_and_then}
use Rattle.std.specs.List.{list_any}
use Rattle.std.specs.Map.{lookup}
use Rattle.std.specs.Option.{option_map_or}
use Rattle.orc_ids.specs.declared.flags.SymFlags.{SymFlags}
use Rattle.orc_ids.specs.declared.ids.InstId.{InstId}
use Rattle.orc_ids.specs.declared.ids.NameId.{NameId}
use Rattle.session_model.specs.Answer.{clash}
use Rattle.session_model.specs.Change.{verdict_on}
use Rattle.session_model.specs.Lists.{first_some, only_if, or_else}
use Rattle.session_model.specs.declared.entry.Reply.{Reply}
use Rattle.session_model.specs.declared.entry.Reply.TheVariants as reply
use Rattle.session_model.specs.declared.rows.InstRow.{InstRow}
use Rattle.session_model.specs.declared.rows.Row.{Row}
use Rattle.session_model.specs.declared.rows.Verdict.{Verdict}
use Rattle.session_model.specs.declared.rows.Verdict.TheVariants.{Kept, Replaces}
use Rattle.jit_dylib.specs.declared.error.DefineError.{DefineError}
use Rattle.jit_dylib.specs.declared.error.DefineError.TheVariants as error

-- the present rows of a dylib, each at the number of its name
abbrev pub Rows : Type 0
Rows = List (ℕ × Row)

-- the present row of a name
abbrev pub row_at : Rows → ℕ → Option Row
row_at t name = lookup (nat_eq name) t

-- Define

-- what becomes of an offered name, over its present row
abbrev pub verdict_at : List InstRow → Rows → NameId × SymFlags → Verdict
verdict_at rows t offer = option_map_or (verdict_on rows offer.1) (row_at t offer.0.0) Kept

-- what becomes of each of them, over the rows before any of them is defined
abbrev pub verdicts_at : List InstRow → Rows → List (NameId × SymFlags) → List Verdict
verdicts_at rows t offers = map (verdict_at rows t) offers

-- the answer Duplicate of the first that clashes
abbrev pub first_clash : List InstRow → Rows → List (NameId × SymFlags) → Option Reply
first_clash rows t offers = first_some (λ (offer : NameId × SymFlags). clash offer.0 (verdict_at rows t offer)) offers

-- that answer is the refusal; want of memory has none
abbrev pub IsRefusedBy : Option Reply → DefineError → Type 0
IsRefusedBy refusal (error.Duplicate name i) = refusal ≡ Some (reply.Duplicate name i)
IsRefusedBy refusal error.NoMemory = ⊤

-- the instances that are replaced
abbrev pub replaced_instance : Verdict → Option InstId
replaced_instance (Replaces i) = Some i
replaced_instance _ = None

abbrev pub replaced_instances : List Verdict → List InstId
replaced_instances found = filter_map replaced_instance found

-- the rows of the names that stay, numbered on from `first`
abbrev pub fresh_rows : ℕ → List (NameId × SymFlags) → List Bool → Rows
fresh_rows first (offer ∷ offers) (true ∷ live) = (offer.0.0, record { inst = record { 0 = first }; flags = offer.1 }) ∷ fresh_rows (first + 1) offers live
fresh_rows first (offer ∷ offers) (false ∷ live) = fresh_rows first offers live
fresh_rows first _ _ = []

-- a name has its fresh row where it has one, and else the row that it had
abbrev pub AreAdded : Rows → Rows → Rows → Type 0
AreAdded fresh old new = (name : ℕ) → row_at new name ≡ or_else (row_at fresh name) (row_at old name)

-- no name is offered twice
abbrev pub NamesDiffer : List (NameId × SymFlags) → Type 0
NamesDiffer offers = (j k : ℕ) (a b : NameId × SymFlags) → slice_get offers j ≡ Some a → slice_get offers k ≡ Some b → a.0 ≡ b.0 → j ≡ k

-- Removal

-- the instance of the row is among those that go, beside this name
abbrev pub is_gone : List (NameId × InstId) → ℕ → Row → Bool
is_gone gone name r = list_any (λ g. g.0.0 == name && g.1.0 == r.inst.0) gone

-- the row that a name had, unless that goes
abbrev pub left_row : List (NameId × InstId) → ℕ → Option Row → Option Row
left_row gone name old = option_and_then (λ r. only_if (not (is_gone gone name r)) r) old

abbrev pub AreLeft : List (NameId × InstId) → Rows → Rows → Type 0
AreLeft gone old new = (name : ℕ) → row_at new name ≡ left_row gone name (row_at old name)
