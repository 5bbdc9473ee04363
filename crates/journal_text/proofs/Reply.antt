-- A reply's text is its words, and the reply is read from them, but for the addresses of bindings.
use Rattle.std.proofs.Common.{◌≡◌, ℕ, Bool, true, false, ◌&&◌, ◌||◌, nat_lt, bytes_eq, codes, decimal, List, [], ◌∷◌, ◌++◌, refl, ap, if◌then◌else◌}
use Rattle.std.proofs.lemmas.Bool.{and_from, and_left, and_right, or_from}
use Rattle.orc_names.specs.Numbers.{IsTable}
use Rattle.session_model.specs.declared.entry.Finishing.{Finishing}
use Rattle.session_model.specs.declared.entry.Finishing.TheVariants.{Bound, Lost}
use Rattle.session_model.specs.declared.entry.Reply.{Reply}
use Rattle.session_model.specs.declared.entry.Reply.TheVariants as reply
use Rattle.text_parts.specs.Hexadecimal.{hex}
use Rattle.journal_text.specs.Parts.{name_text, found_text, bound_text}
use Rattle.journal_text.specs.Replies.{finishing_text, reply_text}
use Rattle.journal_text.specs.Laws.{shown_reply}
use Rattle.journal_text.specs.Readable.{IsNumber, IsReadableFinishing, IsReadableReply}
use Rattle.journal_text.proofs.Cuts.{comma, words4, words6, last_word, joined, solid, all_solid, spaced}
use Rattle.journal_text.proofs.Numerals.{solid_passes, decimal_solid, hex_passes, value, value-decimal, hex_value, value-hex, is_equals, decimal_no_equals, is_reply_word, id_no_reply}
use Rattle.journal_text.proofs.Names.{place_of, name_read, name_solid}
use Rattle.journal_text.proofs.ListLemmas.{first, rest, list_words, list_spaced, id_value, read_founds, founds_read, founds_solid, read_bounds, bounds_read, bounds_solid}

-- The words

abbrev finishing_words : Finishing → List (List ℕ)
finishing_words (Bound matches) = codes "bound" ∷ list_words comma bound_text matches
finishing_words (Lost i) = codes "lost" ∷ (105 ∷ decimal i.0) ∷ []

abbrev pub reply_words : List (List ℕ) → Reply → List (List ℕ)
reply_words names (reply.NameTaken d) = codes "taken" ∷ (100 ∷ decimal d.0) ∷ []
reply_words names reply.TooMany = codes "toomany" ∷ []
reply_words names (reply.Made d) = codes "made" ∷ (100 ∷ decimal d.0) ∷ []
reply_words names (reply.NoDylib d) = codes "nodylib" ∷ (100 ∷ decimal d.0) ∷ []
reply_words names reply.Set = codes "set" ∷ []
reply_words names (reply.TrackerGone t) = codes "gone" ∷ (116 ∷ decimal t.0) ∷ []
reply_words names (reply.Generator g) = codes "generator" ∷ (103 ∷ decimal g.0) ∷ []
reply_words names (reply.Duplicate name i) = codes "duplicate" ∷ name_text names name ∷ (105 ∷ decimal i.0) ∷ []
reply_words names (reply.Defined u start count) = codes "defined" ∷ (117 ∷ decimal u.0) ∷ (105 ∷ decimal start.0) ∷ decimal count ∷ []
reply_words names (reply.NoGen g) = codes "nogen" ∷ (103 ∷ decimal g.0) ∷ []
reply_words names (reply.Spent g) = codes "spent" ∷ (103 ∷ decimal g.0) ∷ []
reply_words names (reply.Offer g) = codes "offer" ∷ (103 ∷ decimal g.0) ∷ []
reply_words names (reply.InError i) = codes "inerror" ∷ (105 ∷ decimal i.0) ∷ []
reply_words names (reply.Missing name) = codes "missing" ∷ name_text names name ∷ []
reply_words names (reply.AliasCycle i) = codes "aliascycle" ∷ (105 ∷ decimal i.0) ∷ []
reply_words names (reply.Done q) = codes "done" ∷ (113 ∷ decimal q.0) ∷ []
reply_words names (reply.Pending q) = codes "pending" ∷ (113 ∷ decimal q.0) ∷ []
reply_words names (reply.Unknown q) = codes "unknown" ∷ (113 ∷ decimal q.0) ∷ []
reply_words names reply.Open = codes "open" ∷ []
reply_words names (reply.Found at matches) = codes "found" ∷ decimal at ∷ list_words comma found_text matches
reply_words names (reply.Lost at i) = codes "failed" ∷ decimal at ∷ (105 ∷ decimal i.0) ∷ []
reply_words names (reply.Idle held) = codes "idle" ∷ decimal held ∷ []
reply_words names (reply.Start u) = codes "start" ∷ (117 ∷ decimal u.0) ∷ []
reply_words names (reply.Finish u end) = codes "finish" ∷ (117 ∷ decimal u.0) ∷ finishing_words end
reply_words names (reply.Defunct u) = codes "defunct" ∷ (117 ∷ decimal u.0) ∷ []
reply_words names (reply.WrongPhase u) = codes "wrongphase" ∷ (117 ∷ decimal u.0) ∷ []
reply_words names (reply.NoRoom need) = codes "noroom" ∷ decimal need ∷ []
reply_words names (reply.Placed base) = codes "placed" ∷ hex base ∷ []
reply_words names reply.Resolved = codes "resolved" ∷ []
reply_words names (reply.BadDep i) = codes "baddep" ∷ (105 ∷ decimal i.0) ∷ []
reply_words names reply.Emitted = codes "emitted" ∷ []
reply_words names reply.Failed = codes "failed" ∷ []
reply_words names (reply.Tracker t) = codes "tracker" ∷ (116 ∷ decimal t.0) ∷ []
reply_words names reply.OtherDylib = codes "otherdylib" ∷ []
reply_words names reply.Moved = codes "moved" ∷ []
reply_words names reply.Removed = codes "removed" ∷ []
reply_words names reply.Image = codes "image" ∷ []

finishing_spaced : (end : Finishing) → finishing_text end ≡ spaced (finishing_words end)
finishing_spaced (Bound matches) = ap (λ l. codes " bound" ++ l) (list_spaced comma bound_text matches)
finishing_spaced (Lost i) = last_word (codes " lost i") (decimal i.0)

pub reply_spaced : (names : List (List ℕ)) (r : Reply) → 32 ∷ reply_text names r ≡ spaced (reply_words names r)
reply_spaced names (reply.NameTaken d) = last_word (codes " taken d") (decimal d.0)
reply_spaced names reply.TooMany = refl
reply_spaced names (reply.Made d) = last_word (codes " made d") (decimal d.0)
reply_spaced names (reply.NoDylib d) = last_word (codes " nodylib d") (decimal d.0)
reply_spaced names reply.Set = refl
reply_spaced names (reply.TrackerGone t) = last_word (codes " gone t") (decimal t.0)
reply_spaced names (reply.Generator g) = last_word (codes " generator g") (decimal g.0)
reply_spaced names (reply.Duplicate name i) = words4 (codes " duplicate ") (name_text names name) (codes " i") (decimal i.0)
reply_spaced names (reply.Defined u start count) = words6 (codes " defined u") (decimal u.0) (codes " i") (decimal start.0) (codes " ") (decimal count)
reply_spaced names (reply.NoGen g) = last_word (codes " nogen g") (decimal g.0)
reply_spaced names (reply.Spent g) = last_word (codes " spent g") (decimal g.0)
reply_spaced names (reply.Offer g) = last_word (codes " offer g") (decimal g.0)
reply_spaced names (reply.InError i) = last_word (codes " inerror i") (decimal i.0)
reply_spaced names (reply.Missing name) = last_word (codes " missing ") (name_text names name)
reply_spaced names (reply.AliasCycle i) = last_word (codes " aliascycle i") (decimal i.0)
reply_spaced names (reply.Done q) = last_word (codes " done q") (decimal q.0)
reply_spaced names (reply.Pending q) = last_word (codes " pending q") (decimal q.0)
reply_spaced names (reply.Unknown q) = last_word (codes " unknown q") (decimal q.0)
reply_spaced names reply.Open = refl
reply_spaced names (reply.Found at matches) = ap (λ l. codes " found " ++ decimal at ++ l) (list_spaced comma found_text matches)
reply_spaced names (reply.Lost at i) = words4 (codes " failed ") (decimal at) (codes " i") (decimal i.0)
reply_spaced names (reply.Idle held) = last_word (codes " idle ") (decimal held)
reply_spaced names (reply.Start u) = last_word (codes " start u") (decimal u.0)
reply_spaced names (reply.Finish u end) = ap (λ l. codes " finish u" ++ decimal u.0 ++ l) (finishing_spaced end)
reply_spaced names (reply.Defunct u) = last_word (codes " defunct u") (decimal u.0)
reply_spaced names (reply.WrongPhase u) = last_word (codes " wrongphase u") (decimal u.0)
reply_spaced names (reply.NoRoom need) = last_word (codes " noroom ") (decimal need)
reply_spaced names (reply.Placed base) = last_word (codes " placed ") (hex base)
reply_spaced names reply.Resolved = refl
reply_spaced names (reply.BadDep i) = last_word (codes " baddep i") (decimal i.0)
reply_spaced names reply.Emitted = refl
reply_spaced names reply.Failed = refl
reply_spaced names (reply.Tracker t) = last_word (codes " tracker t") (decimal t.0)
reply_spaced names reply.OtherDylib = refl
reply_spaced names reply.Moved = refl
reply_spaced names reply.Removed = refl
reply_spaced names reply.Image = refl

-- They have no blanks

pub one_solid : (a : ℕ) → IsNumber a → all_solid (decimal a ∷ []) ≡ true
one_solid a x = and_from (solid (decimal a)) true (decimal_solid a x) refl

pub two_solid : (a b : ℕ) → IsNumber a → IsNumber b → all_solid (decimal a ∷ decimal b ∷ []) ≡ true
two_solid a b x y = and_from (solid (decimal a)) _ (decimal_solid a x) (one_solid b y)

hex_solid : (a : ℕ) → IsNumber a → solid (hex a) ≡ true
hex_solid a x = hex_passes (nat_lt 32) solid_passes a x

finishing_solid : (end : Finishing) → IsReadableFinishing end → all_solid (finishing_words end) ≡ true
finishing_solid (Bound matches) good = bounds_solid matches good
finishing_solid (Lost i) good = one_solid i.0 good

pub reply_solid : (names : List (List ℕ)) (r : Reply) → IsReadableReply names r → all_solid (reply_words names r) ≡ true
reply_solid names (reply.NameTaken d) good = one_solid d.0 good
reply_solid names reply.TooMany good = refl
reply_solid names (reply.Made d) good = one_solid d.0 good
reply_solid names (reply.NoDylib d) good = one_solid d.0 good
reply_solid names reply.Set good = refl
reply_solid names (reply.TrackerGone t) good = one_solid t.0 good
reply_solid names (reply.Generator g) good = one_solid g.0 good
reply_solid names (reply.Duplicate name i) good = and_from (solid (name_text names name)) _ (name_solid names name good.0) (one_solid i.0 good.1)
reply_solid names (reply.Defined u start count) good = and_from (solid (decimal u.0)) _ (decimal_solid u.0 good.0) (two_solid start.0 count good.1 good.2)
reply_solid names (reply.NoGen g) good = one_solid g.0 good
reply_solid names (reply.Spent g) good = one_solid g.0 good
reply_solid names (reply.Offer g) good = one_solid g.0 good
reply_solid names (reply.InError i) good = one_solid i.0 good
reply_solid names (reply.Missing name) good = and_from (solid (name_text names name)) true (name_solid names name good) refl
reply_solid names (reply.AliasCycle i) good = one_solid i.0 good
reply_solid names (reply.Done q) good = one_solid q.0 good
reply_solid names (reply.Pending q) good = one_solid q.0 good
reply_solid names (reply.Unknown q) good = one_solid q.0 good
reply_solid names reply.Open good = refl
reply_solid names (reply.Found at matches) good = and_from (solid (decimal at)) _ (decimal_solid at good.0) (founds_solid matches good.1)
reply_solid names (reply.Lost at i) good = two_solid at i.0 good.0 good.1
reply_solid names (reply.Idle held) good = one_solid held good
reply_solid names (reply.Start u) good = one_solid u.0 good
reply_solid names (reply.Finish u end) good = and_from (solid (decimal u.0)) _ (decimal_solid u.0 good.0) (finishing_solid end good.1)
reply_solid names (reply.Defunct u) good = one_solid u.0 good
reply_solid names (reply.WrongPhase u) good = one_solid u.0 good
reply_solid names (reply.NoRoom need) good = one_solid need good
reply_solid names (reply.Placed base) good = and_from (solid (hex base)) true (hex_solid base good) refl
reply_solid names reply.Resolved good = refl
reply_solid names (reply.BadDep i) good = one_solid i.0 good
reply_solid names reply.Emitted good = refl
reply_solid names reply.Failed good = refl
reply_solid names (reply.Tracker t) good = one_solid t.0 good
reply_solid names reply.OtherDylib good = refl
reply_solid names reply.Moved good = refl
reply_solid names reply.Removed good = refl
reply_solid names reply.Image good = refl

-- What is read from them

abbrev read_failed : List (List ℕ) → Reply
read_failed [] = reply.Failed
read_failed (w ∷ ws) = reply.Lost (value w) (record { 0 = id_value (first ws) })

abbrev read_finishing : List (List ℕ) → Finishing
read_finishing ws = if bytes_eq (first ws) (codes "bound") then Bound (read_bounds (rest ws)) else Lost (record { 0 = id_value (first (rest ws)) })

abbrev reply_of : List (List ℕ) → List ℕ → List (List ℕ) → Reply
reply_of names w ws =
    if bytes_eq w (codes "taken") then reply.NameTaken (record { 0 = id_value (first ws) })
    else if bytes_eq w (codes "toomany") then reply.TooMany
    else if bytes_eq w (codes "made") then reply.Made (record { 0 = id_value (first ws) })
    else if bytes_eq w (codes "nodylib") then reply.NoDylib (record { 0 = id_value (first ws) })
    else if bytes_eq w (codes "set") then reply.Set
    else if bytes_eq w (codes "gone") then reply.TrackerGone (record { 0 = id_value (first ws) })
    else if bytes_eq w (codes "generator") then reply.Generator (record { 0 = id_value (first ws) })
    else if bytes_eq w (codes "duplicate") then reply.Duplicate (record { 0 = place_of names (first ws) }) (record { 0 = id_value (first (rest ws)) })
    else if bytes_eq w (codes "defined") then reply.Defined (record { 0 = id_value (first ws) }) (record { 0 = id_value (first (rest ws)) }) (value (first (rest (rest ws))))
    else if bytes_eq w (codes "nogen") then reply.NoGen (record { 0 = id_value (first ws) })
    else if bytes_eq w (codes "spent") then reply.Spent (record { 0 = id_value (first ws) })
    else if bytes_eq w (codes "offer") then reply.Offer (record { 0 = id_value (first ws) })
    else if bytes_eq w (codes "inerror") then reply.InError (record { 0 = id_value (first ws) })
    else if bytes_eq w (codes "missing") then reply.Missing (record { 0 = place_of names (first ws) })
    else if bytes_eq w (codes "aliascycle") then reply.AliasCycle (record { 0 = id_value (first ws) })
    else if bytes_eq w (codes "done") then reply.Done (record { 0 = id_value (first ws) })
    else if bytes_eq w (codes "pending") then reply.Pending (record { 0 = id_value (first ws) })
    else if bytes_eq w (codes "unknown") then reply.Unknown (record { 0 = id_value (first ws) })
    else if bytes_eq w (codes "open") then reply.Open
    else if bytes_eq w (codes "found") then reply.Found (value (first ws)) (read_founds (rest ws))
    else if bytes_eq w (codes "failed") then read_failed ws
    else if bytes_eq w (codes "idle") then reply.Idle (value (first ws))
    else if bytes_eq w (codes "start") then reply.Start (record { 0 = id_value (first ws) })
    else if bytes_eq w (codes "finish") then reply.Finish (record { 0 = id_value (first ws) }) (read_finishing (rest ws))
    else if bytes_eq w (codes "defunct") then reply.Defunct (record { 0 = id_value (first ws) })
    else if bytes_eq w (codes "wrongphase") then reply.WrongPhase (record { 0 = id_value (first ws) })
    else if bytes_eq w (codes "noroom") then reply.NoRoom (value (first ws))
    else if bytes_eq w (codes "placed") then reply.Placed (hex_value (first ws))
    else if bytes_eq w (codes "resolved") then reply.Resolved
    else if bytes_eq w (codes "baddep") then reply.BadDep (record { 0 = id_value (first ws) })
    else if bytes_eq w (codes "emitted") then reply.Emitted
    else if bytes_eq w (codes "tracker") then reply.Tracker (record { 0 = id_value (first ws) })
    else if bytes_eq w (codes "otherdylib") then reply.OtherDylib
    else if bytes_eq w (codes "moved") then reply.Moved
    else if bytes_eq w (codes "removed") then reply.Removed
    else reply.Image

abbrev pub read_reply : List (List ℕ) → List (List ℕ) → Reply
read_reply names [] = reply.Open
read_reply names (w ∷ ws) = reply_of names w ws

module _ (names : List (List ℕ)) (table : IsTable names) where
  pub reply_read : (r : Reply) → IsReadableReply names r → read_reply names (reply_words names r) ≡ shown_reply r
  reply_read (reply.NameTaken d) good = λ k. reply.NameTaken (record { 0 = value-decimal d.0 good k })
  reply_read reply.TooMany good = refl
  reply_read (reply.Made d) good = λ k. reply.Made (record { 0 = value-decimal d.0 good k })
  reply_read (reply.NoDylib d) good = λ k. reply.NoDylib (record { 0 = value-decimal d.0 good k })
  reply_read reply.Set good = refl
  reply_read (reply.TrackerGone t) good = λ k. reply.TrackerGone (record { 0 = value-decimal t.0 good k })
  reply_read (reply.Generator g) good = λ k. reply.Generator (record { 0 = value-decimal g.0 good k })
  reply_read (reply.Duplicate name i) good = λ k. reply.Duplicate (record { 0 = name_read names table name good.0 k }) (record { 0 = value-decimal i.0 good.1 k })
  reply_read (reply.Defined u start count) good = λ k. reply.Defined (record { 0 = value-decimal u.0 good.0 k }) (record { 0 = value-decimal start.0 good.1 k }) (value-decimal count good.2 k)
  reply_read (reply.NoGen g) good = λ k. reply.NoGen (record { 0 = value-decimal g.0 good k })
  reply_read (reply.Spent g) good = λ k. reply.Spent (record { 0 = value-decimal g.0 good k })
  reply_read (reply.Offer g) good = λ k. reply.Offer (record { 0 = value-decimal g.0 good k })
  reply_read (reply.InError i) good = λ k. reply.InError (record { 0 = value-decimal i.0 good k })
  reply_read (reply.Missing name) good = λ k. reply.Missing (record { 0 = name_read names table name good k })
  reply_read (reply.AliasCycle i) good = λ k. reply.AliasCycle (record { 0 = value-decimal i.0 good k })
  reply_read (reply.Done q) good = λ k. reply.Done (record { 0 = value-decimal q.0 good k })
  reply_read (reply.Pending q) good = λ k. reply.Pending (record { 0 = value-decimal q.0 good k })
  reply_read (reply.Unknown q) good = λ k. reply.Unknown (record { 0 = value-decimal q.0 good k })
  reply_read reply.Open good = refl
  reply_read (reply.Found at matches) good = λ k. reply.Found (value-decimal at good.0 k) (founds_read matches good.1 k)
  reply_read (reply.Lost at i) good = λ k. reply.Lost (value-decimal at good.0 k) (record { 0 = value-decimal i.0 good.1 k })
  reply_read (reply.Idle held) good = λ k. reply.Idle (value-decimal held good k)
  reply_read (reply.Start u) good = λ k. reply.Start (record { 0 = value-decimal u.0 good k })
  reply_read (reply.Finish u (Bound matches)) good = λ k. reply.Finish (record { 0 = value-decimal u.0 good.0 k }) (Bound (bounds_read matches good.1 k))
  reply_read (reply.Finish u (Lost i)) good = λ k. reply.Finish (record { 0 = value-decimal u.0 good.0 k }) (Lost (record { 0 = value-decimal i.0 good.1 k }))
  reply_read (reply.Defunct u) good = λ k. reply.Defunct (record { 0 = value-decimal u.0 good k })
  reply_read (reply.WrongPhase u) good = λ k. reply.WrongPhase (record { 0 = value-decimal u.0 good k })
  reply_read (reply.NoRoom need) good = λ k. reply.NoRoom (value-decimal need good k)
  reply_read (reply.Placed base) good = λ k. reply.Placed (value-hex base good k)
  reply_read reply.Resolved good = refl
  reply_read (reply.BadDep i) good = λ k. reply.BadDep (record { 0 = value-decimal i.0 good k })
  reply_read reply.Emitted good = refl
  reply_read reply.Failed good = refl
  reply_read (reply.Tracker t) good = λ k. reply.Tracker (record { 0 = value-decimal t.0 good k })
  reply_read reply.OtherDylib good = refl
  reply_read reply.Moved good = refl
  reply_read reply.Removed good = refl
  reply_read reply.Image good = refl

-- Where a reply begins

-- an equals sign, and the first word of a reply
abbrev pub begins_reply : List (List ℕ) → Bool
begins_reply [] = false
begins_reply (w ∷ []) = false
begins_reply (w ∷ v ∷ vs) = is_equals w && is_reply_word v

-- so it stands among these words
abbrev pub has_reply : List (List ℕ) → Bool
has_reply [] = false
has_reply (w ∷ ws) = begins_reply (w ∷ ws) || has_reply ws

pub reply_begins : (names : List (List ℕ)) (r : Reply) → begins_reply (codes "=" ∷ reply_words names r) ≡ true
reply_begins names (reply.NameTaken d) = refl
reply_begins names _ = refl

-- it begins once
pub reply_has_none : (names : List (List ℕ)) (r : Reply) → IsReadableReply names r → has_reply (reply_words names r) ≡ false
reply_has_none names (reply.Duplicate name i) good = or_from (is_equals (name_text names name) && is_reply_word (105 ∷ decimal i.0)) false (and_right (is_equals (name_text names name)) (is_reply_word (105 ∷ decimal i.0)) (id_no_reply 105 i.0 good.1)) refl
reply_has_none names (reply.Found at []) good = refl
reply_has_none names (reply.Found at (m ∷ ms)) good = or_from (is_equals (decimal at) && is_reply_word (joined comma found_text m ms)) false (and_left (is_equals (decimal at)) (is_reply_word (joined comma found_text m ms)) (decimal_no_equals at good.0)) refl
reply_has_none names (reply.Lost at i) good = or_from (is_equals (decimal at) && is_reply_word (105 ∷ decimal i.0)) false (and_left (is_equals (decimal at)) (is_reply_word (105 ∷ decimal i.0)) (decimal_no_equals at good.0)) refl
reply_has_none names (reply.Finish u (Bound [])) good = refl
reply_has_none names (reply.Finish u (Bound (m ∷ ms))) good = refl
reply_has_none names (reply.Finish u (Lost i)) good = refl
reply_has_none names _ good = refl
