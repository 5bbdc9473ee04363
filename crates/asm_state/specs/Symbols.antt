-- The symbols of a text.
use Rattle.std.specs.Prelude.{◌≡◌, ℕ, ◌<◌, true, false, List, [], ◌∷◌, ◌++◌, length, slice_index_or, slice_set, All, if◌then◌else◌}
use Rattle.asm_state.specs.declared.marks.Definition.{Definition}
use Rattle.asm_state.specs.declared.marks.Definition.TheVariants.{Nowhere, Label}
use Rattle.asm_state.specs.declared.marks.Marks.{Marks}
use Rattle.asm_state.specs.Names.{has, number_of}

-- the symbols in order of first mention, what is said of each, and the labels in order of definition
pub record Symbols : Type 0 where
  pub names : List (List ℕ)
  pub marks : List Marks
  pub labels : List ℕ

abbrev pub no_symbols : Symbols
no_symbols = record { names = []; marks = []; labels = [] }

-- something is said of each symbol, and labels are symbols
pub record IsBook (s : Symbols) : Type 0 where
  pub marked : length s.names ≡ length s.marks
  pub labels_in : All (λ n. n < length s.names) s.labels

-- what is said of a symbol by its mention
abbrev pub mentioned : Marks
mentioned = record { definition = Nowhere; global = false; weak = false; hidden = false }

abbrev pub added : List ℕ → Symbols → Symbols
added name s = record s { names = s.names ++ name ∷ []; marks = s.marks ++ mentioned ∷ [] }

-- the symbols once this one is mentioned: it stands last where it is new
unfoldable pub mentioning : List ℕ → Symbols → Symbols
mentioning name s = if has name s.names then s else added name s

-- what is said of a symbol that is there
abbrev pub marks_at : ℕ → Symbols → Marks
marks_at number s = slice_index_or s.marks number mentioned

-- what is said of a name
unfoldable pub said_of : List ℕ → Symbols → Marks
said_of name s = if has name s.names then marks_at (number_of name s.names) s else mentioned

abbrev pub with_marks : ℕ → Marks → Symbols → Symbols
with_marks number marks s = record s { marks = slice_set s.marks number marks }

abbrev pub remarked_at : (Marks → Marks) → ℕ → Symbols → Symbols
remarked_at f number s = with_marks number (f (marks_at number s)) s

-- the symbols once more is said of a name
unfoldable pub remarked : (Marks → Marks) → List ℕ → Symbols → Symbols
remarked f name s = let m = mentioning name s in remarked_at f (number_of name m.names) m

abbrev pub as_global : Marks → Marks
as_global m = record m { global = true }

abbrev pub as_weak : Marks → Marks
as_weak m = record m { weak = true }

abbrev pub as_hidden : Marks → Marks
as_hidden m = record m { hidden = true }

abbrev pub as_defined : Definition → Marks → Marks
as_defined definition m = record m { definition = definition }

abbrev pub with_label : ℕ → Symbols → Symbols
with_label number s = record s { labels = s.labels ++ number ∷ [] }

-- a label at a place
unfoldable pub labelled : List ℕ → ℕ → ℕ → Symbols → Symbols
labelled name section offset s =
    let m = mentioning name s in
    remarked_at (as_defined (Label section offset)) (number_of name m.names) (with_label (number_of name m.names) m)
