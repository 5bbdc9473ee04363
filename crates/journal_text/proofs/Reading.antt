-- Lines, and whole texts, are read.
use Rattle.std.proofs.Common.{◌≡◌, ℕ, ◌+◌, true, codes, decimal, List, [], ◌∷◌, ◌++◌, length, length-append, map, All, sym, refl, ap, ◌∙◌, arith, append_assoc}
use Rattle.std.proofs.lemmas.Bool.{and_from}
use Rattle.std.proofs.lemmas.List.{append_cancel_left}
use Rattle.std.proofs.lemmas.List.Elements.{All-head, All-tail}
use Rattle.orc_ids.specs.declared.ids.UnitName.{UnitName}
use Rattle.orc_names.specs.Numbers.{IsTable}
use Rattle.session_model.specs.Meaning.{Meaning}
use Rattle.session_model.specs.Plain.{empty}
use Rattle.session_model.specs.State.{state}
use Rattle.session_model.specs.declared.entry.Entry.{Entry}
use Rattle.session_laws.proofs.Declared.{one_more_legal}
use Rattle.journal_text.specs.Events.{event_text}
use Rattle.journal_text.specs.Journal.{line_of, lines_from}
use Rattle.journal_text.specs.Replies.{reply_text}
use Rattle.journal_text.specs.Laws.{shown, LineIsRead, TextIsRead, EntryIsRead, HistoryIsRead}
use Rattle.journal_text.specs.Readable.{IsReadable}
use Rattle.journal_text.proofs.Cuts.{parts9, all_solid, solid, solid-append, spaced, spaced-append, words_front}
use Rattle.journal_text.proofs.Ends.{entries_agree, histories_agree}
use Rattle.journal_text.proofs.ListLemmas.{first, rest, id_value}
use Rattle.journal_text.proofs.Numerals.{decimal_solid, value-decimal}
use Rattle.journal_text.proofs.Occurrence.{event_words, event_spaced, event_solid, read_event, event_read}
use Rattle.journal_text.proofs.Reply.{reply_begins, reply_has_none, reply_words, reply_spaced, reply_solid, read_reply, reply_read}

-- the words of a line behind its number
abbrev line_words : List (List ℕ) → Entry Meaning → List (List ℕ)
line_words names e = (115 ∷ decimal e.seat.0) ∷ (event_words names e.event ++ codes "=" ∷ reply_words names e.reply)

line_spaced : (names : List (List ℕ)) (n : ℕ) (e : Entry Meaning) (r : List ℕ) → line_of names n e ++ r ≡ decimal n ++ (spaced (line_words names e) ++ 10 ∷ r)
line_spaced names n e r =
    let seat = decimal e.seat.0 in
    let asked = spaced (event_words names e.event) in
    let answered = spaced (reply_words names e.reply) in
    parts9 (decimal n) (codes " s") seat (codes " ") (event_text names e.event) (codes " = ") (reply_text names e.reply) (10 ∷ []) r
    ∙ (λ k. decimal n ++ (codes " s" ++ (seat ++ (event_spaced names e.event k ++ (codes " =" ++ (reply_spaced names e.reply k ++ 10 ∷ r))))))
    ∙ ap (λ l. decimal n ++ (codes " s" ++ (seat ++ l))) (sym (append_assoc asked (codes " =" ++ answered) (10 ∷ r)))
    ∙ ap (λ l. decimal n ++ (codes " s" ++ (seat ++ (l ++ 10 ∷ r)))) (sym (spaced-append (event_words names e.event) (codes "=" ∷ reply_words names e.reply)))
    ∙ ap (λ l. decimal n ++ (codes " s" ++ l)) (sym (append_assoc seat (spaced (event_words names e.event ++ codes "=" ∷ reply_words names e.reply)) (10 ∷ r)))

-- a line is never empty
no_line : (names : List (List ℕ)) (n : ℕ) (e : Entry Meaning) (more : List ℕ) → [] ≡ line_of names n e ++ more → ⊥
no_line names n e more same =
    let line = decimal n ++ (spaced (line_words names e) ++ 10 ∷ more) in
    let none : 0 ≡ length line = ap length (same ∙ line_spaced names n e more) in
    let last : length line ≡ length (decimal n) + length (spaced (line_words names e) ++ 10 ∷ more) = length-append (decimal n) (spaced (line_words names e) ++ 10 ∷ more) in
    let some : length (spaced (line_words names e) ++ 10 ∷ more) ≡ length (spaced (line_words names e)) + length (10 ∷ more) = length-append (spaced (line_words names e)) (10 ∷ more) in
    omega arith

module _ (names : List (List ℕ)) (table : IsTable names) (units : UnitName → Meaning) where
  line_solid : (e : Entry Meaning) → IsReadable names units e → all_solid (line_words names e) ≡ true
  line_solid e good = and_from (solid (decimal e.seat.0)) (all_solid (event_words names e.event ++ codes "=" ∷ reply_words names e.reply)) (decimal_solid e.seat.0 good.seat)
      (solid-append (event_words names e.event) (codes "=" ∷ reply_words names e.reply) (event_solid names units e.event good.event) (reply_solid names e.reply good.reply))

  abbrev read_line : List (List ℕ) → Entry Meaning
  read_line ws = record { seat = record { 0 = id_value (first ws) }; event = (read_event names units (rest ws)).0; reply = read_reply names (rest (read_event names units (rest ws)).1) }

  line_read : (e : Entry Meaning) → IsReadable names units e → read_line (line_words names e) ≡ shown e
  line_read e good =
      let p = event_read names table units e.event (reply_words names e.reply) (reply_begins names e.reply) (reply_has_none names e.reply good.reply) good.event in
      (λ k. record { seat = record { 0 = value-decimal e.seat.0 good.seat k }; event = (p k).0; reply = read_reply names (rest (p k).1) })
      ∙ ap (λ r. record { seat = e.seat; event = e.event; reply = r }) (reply_read names table e.reply good.reply)

  -- what an entry shows, and the lines after it, follow from the text
  line_front : (a b : Entry Meaning) → IsReadable names units a → IsReadable names units b → (n : ℕ) (r s : List ℕ) → line_of names n a ++ r ≡ line_of names n b ++ s → (shown a ≡ shown b) × (r ≡ s)
  line_front a b good fine n r s e =
      let same = append_cancel_left (decimal n) (spaced (line_words names a) ++ 10 ∷ r) (spaced (line_words names b) ++ 10 ∷ s) (sym (line_spaced names n a r) ∙ e ∙ line_spaced names n b s) in
      let p = words_front (line_words names a) (line_words names b) r s (line_solid a good) (line_solid b fine) same in
      (sym (line_read a good) ∙ ap read_line p.0 ∙ line_read b fine, p.1)

  -- so it is of all that follow
  texts_agree : (n : ℕ) (h k : List (Entry Meaning)) → All (IsReadable names units) h → All (IsReadable names units) k → lines_from names n h ≡ lines_from names n k → map shown h ≡ map shown k
  texts_agree n [] [] good fine e = refl
  texts_agree n [] (b ∷ ys) good fine e = absurd (no_line names n b (lines_from names (n + 1) ys) e)
  texts_agree n (a ∷ xs) [] good fine e = absurd (no_line names n a (lines_from names (n + 1) xs) (sym e))
  texts_agree n (a ∷ xs) (b ∷ ys) good fine e =
      let p = line_front a b (All-head (IsReadable names units) a xs good) (All-head (IsReadable names units) b ys fine) n (lines_from names (n + 1) xs) (lines_from names (n + 1) ys) e in
      let more = texts_agree (n + 1) xs ys (All-tail (IsReadable names units) a xs good) (All-tail (IsReadable names units) b ys fine) p.1 in
      λ i. p.0 i ∷ more i

pub line_is_read : LineIsRead
line_is_read names table units a b good fine n e = (line_front names table units a b good fine n [] [] (ap (λ l. l ++ []) e)).0

pub text_is_read : TextIsRead
text_is_read names table units h k good fine e = texts_agree names table units 1 h k good fine e

pub entry_is_read : EntryIsRead
entry_is_read names table units jmax h a b l j good fine n e =
    entries_agree jmax h (state h) a b ((one_more_legal jmax h a).1 l) ((one_more_legal jmax h b).1 j) (line_is_read names table units a b good fine n e)

pub history_is_read : HistoryIsRead
history_is_read names table units jmax h k l j good fine e = histories_agree jmax [] empty h k l j (text_is_read names table units h k good fine e)
