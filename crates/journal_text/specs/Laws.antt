-- What is written is read.
use Rattle.std.specs.Prelude.{◌≡◌, ℕ, List, [], ◌∷◌, ◌++◌, All, Option, Some, None, map}
use Rattle.orc_ids.specs.declared.ids.InstId.{InstId}
use Rattle.orc_ids.specs.declared.ids.UnitName.{UnitName}
use Rattle.orc_names.specs.Numbers.{IsTable}
use Rattle.session_model.specs.History.{IsLegal}
use Rattle.session_model.specs.Meaning.{Meaning}
use Rattle.session_model.specs.declared.entry.Entry.{Entry}
use Rattle.session_model.specs.declared.entry.Finishing.TheVariants.{Bound}
use Rattle.session_model.specs.declared.entry.Reply.{Reply}
use Rattle.session_model.specs.declared.entry.Reply.TheVariants as reply
use Rattle.journal_text.specs.Journal.{line_of, text_of_history}
use Rattle.journal_text.specs.Readable.{IsReadable}

-- an instance without its address
abbrev pub without_address : Option (InstId × ℕ) → Option (InstId × ℕ)
without_address (Some p) = Some (p.0, 0)
without_address None = None

-- What a reply's text shows: all but the addresses that a unit's externals are bound to, since it names their instances alone.
abbrev pub shown_reply : Reply → Reply
shown_reply (reply.Finish u (Bound matches)) = reply.Finish u (Bound (map without_address matches))
shown_reply r = r

abbrev pub shown : Entry Meaning → Entry Meaning
shown e = record e { reply = shown_reply e.reply }

-- From its line alone follows what an entry shows, where the unit of each unit's name is given.
abbrev pub LineIsRead : Type 0
LineIsRead = (names : List (List ℕ)) → IsTable names → (units : UnitName → Meaning) →
    (a b : Entry Meaning) → IsReadable names units a → IsReadable names units b →
    (n : ℕ) → line_of names n a ≡ line_of names n b → shown a ≡ shown b

-- So from a text follows what its entries show, and how many they are.
abbrev pub TextIsRead : Type 0
TextIsRead = (names : List (List ℕ)) → IsTable names → (units : UnitName → Meaning) →
    (h k : List (Entry Meaning)) → All (IsReadable names units) h → All (IsReadable names units) k →
    text_of_history names h ≡ text_of_history names k → map shown h ≡ map shown k

-- From its line and the entries before it follows the whole entry.
abbrev pub EntryIsRead : Type 0
EntryIsRead = (names : List (List ℕ)) → IsTable names → (units : UnitName → Meaning) →
    (jmax : ℕ) (h : List (Entry Meaning)) (a b : Entry Meaning) → IsLegal jmax (h ++ a ∷ []) → IsLegal jmax (h ++ b ∷ []) →
    IsReadable names units a → IsReadable names units b →
    (n : ℕ) → line_of names n a ≡ line_of names n b → a ≡ b

-- So from the text of a legal history follows the history.
abbrev pub HistoryIsRead : Type 0
HistoryIsRead = (names : List (List ℕ)) → IsTable names → (units : UnitName → Meaning) →
    (jmax : ℕ) (h k : List (Entry Meaning)) → IsLegal jmax h → IsLegal jmax k →
    All (IsReadable names units) h → All (IsReadable names units) k →
    text_of_history names h ≡ text_of_history names k → h ≡ k
