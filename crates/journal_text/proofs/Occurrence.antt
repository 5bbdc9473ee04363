-- An event's text is its words, and the event is read from them and what follows.
use Rattle.std.proofs.Common.{◌≡◌, ℕ, Bool, true, false, ◌||◌, ◌==◌, bytes_eq, codes, decimal, ℤ, List, [], ◌∷◌, ◌++◌, map, Option, Some, None, IfSome, All, sym, refl, ap, ◌∙◌, if◌then◌else◌, append-nil, append_assoc}
use Rattle.std.specs.Fmt.{signed_decimal}
use Rattle.std.proofs.lemmas.Bool.{and_from, or_left, or_right}
use Rattle.std.proofs.lemmas.List.Elements.{All-head, All-tail}
use Rattle.orc_ids.specs.declared.ids.UnitName.{UnitName}
use Rattle.orc_ids.specs.declared.ids.UnitName.TheVariants.{Object, Absolute, Alias}
use Rattle.orc_ids.specs.declared.lookup.Level.{Level}
use Rattle.orc_ids.specs.declared.lookup.Level.TheVariants.{Resolved, Ready}
use Rattle.orc_ids.specs.declared.lookup.OrderItem.{OrderItem}
use Rattle.orc_ids.specs.declared.lookup.Wanted.{Wanted}
use Rattle.orc_ids.specs.declared.place.Place.{Place}
use Rattle.orc_names.specs.Numbers.{IsTable}
use Rattle.session_model.specs.Meaning.{Meaning}
use Rattle.session_model.specs.declared.entry.Event.{Event}
use Rattle.session_model.specs.declared.entry.Event.TheVariants as event
use Rattle.session_model.specs.declared.entry.Why.{Why}
use Rattle.session_model.specs.declared.entry.Why.TheVariants as why
use Rattle.journal_text.specs.Parts.{name_text, unit_text, level_text, item_text, items_text, wanted_text, wanted_list_text, group_text}
use Rattle.journal_text.specs.Events.{why_text, ask_word, event_text}
use Rattle.journal_text.specs.Readable.{IsNumber, IsWantedName, IsNumbered, IsNamed, IsReadableWhy, IsReadableEvent}
use Rattle.journal_text.proofs.Cuts.{comma, semicolon, parts4, words4, parts5, words6, parts7, last_word, solid, all_solid, solid-append, spaced, spaced-append}
use Rattle.journal_text.proofs.Numerals.{decimal_solid, value, value-decimal, signed_value, signed_read, signed_solid, is_equals}
use Rattle.journal_text.proofs.Names.{place_of, name_read, name_solid, read_wanted, wanted_read, wanted_solid}
use Rattle.journal_text.proofs.ListLemmas.{first, rest, list_words, list_spaced, names_spaced, id_value, read_items, items_read, items_solid, read_groups, groups_read, groups_solid}
use Rattle.journal_text.proofs.Reply.{one_solid, two_solid, begins_reply, has_reply}

-- The words

abbrev why_words : List (List ℕ) → Why → List (List ℕ)
why_words names (why.Refused place kind z) = codes "refused" ∷ decimal place.block ∷ decimal place.offset ∷ decimal kind ∷ signed_decimal z ∷ []
why_words names (why.Missing name) = codes "missing" ∷ name_text names name ∷ []
why_words names (why.InError i) = codes "inerror" ∷ (105 ∷ decimal i.0) ∷ []
why_words names (why.AliasCycle i) = codes "aliascycle" ∷ (105 ∷ decimal i.0) ∷ []
why_words names (why.BadDep i) = codes "baddep" ∷ (105 ∷ decimal i.0) ∷ []
why_words names (why.NoRoom need) = codes "noroom" ∷ decimal need ∷ []
why_words names why.NoMemory = codes "nomemory" ∷ []
why_words names why.Full = codes "full" ∷ []

abbrev ask_words : Option ℕ → List (List ℕ)
ask_words None = codes "ask" ∷ []
ask_words (Some n) = codes "watch" ∷ decimal n ∷ []

-- the words of a lookup behind its first ones
abbrev lookup_words : List (List ℕ) → List OrderItem → List Wanted → Level → List (List ℕ)
lookup_words names order wanted lev = list_words comma item_text order ++ level_text lev ∷ map (wanted_text names) wanted

abbrev pub event_words : List (List ℕ) → Event Meaning → List (List ℕ)
event_words names (event.Dylib name) = codes "dylib" ∷ name_text names name ∷ []
event_words names (event.SetOrder d order) = codes "order" ∷ (100 ∷ decimal d.0) ∷ list_words comma item_text order
event_words names (event.Attach d t u) = codes "attach" ∷ (100 ∷ decimal d.0) ∷ (116 ∷ decimal t.0) ∷ unit_text u.name ∷ []
event_words names (event.Define d t u) = codes "define" ∷ (100 ∷ decimal d.0) ∷ (116 ∷ decimal t.0) ∷ unit_text u.name ∷ []
event_words names (event.Generate g) = codes "generate" ∷ (103 ∷ decimal g.0) ∷ []
event_words names (event.Ask order wanted lev n) = ask_words n ++ lookup_words names order wanted lev
event_words names (event.Collect q) = codes "collect" ∷ (113 ∷ decimal q.0) ∷ []
event_words names event.Take = codes "take" ∷ []
event_words names (event.Place u shape) = codes "place" ∷ (117 ∷ decimal u.0) ∷ decimal shape.need ∷ decimal shape.align ∷ []
event_words names (event.Resolve u) = codes "resolve" ∷ (117 ∷ decimal u.0) ∷ []
event_words names (event.Link u) = codes "link" ∷ (117 ∷ decimal u.0) ∷ []
event_words names (event.Emit u groups) = codes "emit" ∷ (117 ∷ decimal u.0) ∷ list_words semicolon group_text groups
event_words names (event.Fail u cause) = codes "fail" ∷ (117 ∷ decimal u.0) ∷ why_words names cause
event_words names (event.Tracker d) = codes "tracker" ∷ (100 ∷ decimal d.0) ∷ []
event_words names (event.MoveTracker t to) = codes "move" ∷ (116 ∷ decimal t.0) ∷ (116 ∷ decimal to.0) ∷ []
event_words names (event.Remove t) = codes "remove" ∷ (116 ∷ decimal t.0) ∷ []
event_words names event.Image = codes "image" ∷ []

refused_spaced : (place : Place) (kind : ℕ) (z : ℤ) → decimal place.block ++ codes " " ++ decimal place.offset ++ codes " " ++ decimal kind ++ codes " " ++ signed_decimal z
    ≡ decimal place.block ++ (codes " " ++ (decimal place.offset ++ (codes " " ++ (decimal kind ++ (codes " " ++ (signed_decimal z ++ []))))))
refused_spaced place kind z = parts7 (decimal place.block) (codes " ") (decimal place.offset) (codes " ") (decimal kind) (codes " ") (signed_decimal z)
    ∙ ap (λ l. decimal place.block ++ (codes " " ++ (decimal place.offset ++ (codes " " ++ (decimal kind ++ (codes " " ++ l)))))) (sym (append-nil (signed_decimal z)))

why_spaced : (names : List (List ℕ)) (cause : Why) → 32 ∷ why_text names cause ≡ spaced (why_words names cause)
why_spaced names (why.Refused place kind z) = ap (λ l. codes " refused " ++ l) (refused_spaced place kind z)
why_spaced names (why.Missing name) = last_word (codes " missing ") (name_text names name)
why_spaced names (why.InError i) = last_word (codes " inerror i") (decimal i.0)
why_spaced names (why.AliasCycle i) = last_word (codes " aliascycle i") (decimal i.0)
why_spaced names (why.BadDep i) = last_word (codes " baddep i") (decimal i.0)
why_spaced names (why.NoRoom need) = last_word (codes " noroom ") (decimal need)
why_spaced names why.NoMemory = refl
why_spaced names why.Full = refl

ask_spaced : (n : Option ℕ) → 32 ∷ ask_word n ≡ spaced (ask_words n)
ask_spaced None = refl
ask_spaced (Some n) = last_word (codes " watch ") (decimal n)

lookup_spaced : (names : List (List ℕ)) (order : List OrderItem) (wanted : List Wanted) (lev : Level) (n : Option ℕ) →
    (32 ∷ ask_word n) ++ items_text order ++ codes " " ++ level_text lev ++ wanted_list_text names wanted ≡ spaced (ask_words n ++ lookup_words names order wanted lev)
lookup_spaced names order wanted lev n =
    parts5 (32 ∷ ask_word n) (items_text order) (codes " ") (level_text lev) (wanted_list_text names wanted)
    ∙ (λ k. ask_spaced n k ++ (list_spaced comma item_text order k ++ (32 ∷ (level_text lev ++ names_spaced (wanted_text names) wanted k))))
    ∙ ap (λ l. spaced (ask_words n) ++ l) (sym (spaced-append (list_words comma item_text order) (level_text lev ∷ map (wanted_text names) wanted)))
    ∙ sym (spaced-append (ask_words n) (lookup_words names order wanted lev))

pub event_spaced : (names : List (List ℕ)) (e : Event Meaning) → 32 ∷ event_text names e ≡ spaced (event_words names e)
event_spaced names (event.Dylib name) = last_word (codes " dylib ") (name_text names name)
event_spaced names (event.SetOrder d order) = ap (λ l. codes " order d" ++ decimal d.0 ++ l) (list_spaced comma item_text order)
event_spaced names (event.Attach d t u) = words6 (codes " attach d") (decimal d.0) (codes " t") (decimal t.0) (codes " ") (unit_text u.name)
event_spaced names (event.Define d t u) = words6 (codes " define d") (decimal d.0) (codes " t") (decimal t.0) (codes " ") (unit_text u.name)
event_spaced names (event.Generate g) = last_word (codes " generate g") (decimal g.0)
event_spaced names (event.Ask order wanted lev n) = lookup_spaced names order wanted lev n
event_spaced names (event.Collect q) = last_word (codes " collect q") (decimal q.0)
event_spaced names event.Take = refl
event_spaced names (event.Place u shape) = words6 (codes " place u") (decimal u.0) (codes " ") (decimal shape.need) (codes " ") (decimal shape.align)
event_spaced names (event.Resolve u) = last_word (codes " resolve u") (decimal u.0)
event_spaced names (event.Link u) = last_word (codes " link u") (decimal u.0)
event_spaced names (event.Emit u groups) = ap (λ l. codes " emit u" ++ decimal u.0 ++ l) (list_spaced semicolon group_text groups)
event_spaced names (event.Fail u cause) = parts4 (codes " fail u") (decimal u.0) (codes " ") (why_text names cause) ∙ ap (λ l. codes " fail u" ++ (decimal u.0 ++ l)) (why_spaced names cause)
event_spaced names (event.Tracker d) = last_word (codes " tracker d") (decimal d.0)
event_spaced names (event.MoveTracker t to) = words4 (codes " move t") (decimal t.0) (codes " t") (decimal to.0)
event_spaced names (event.Remove t) = last_word (codes " remove t") (decimal t.0)
event_spaced names event.Image = refl

-- They have no blanks

unit_solid : (u : UnitName) → IsNumbered u → solid (unit_text u) ≡ true
unit_solid (Object file) good = decimal_solid file good
unit_solid (Absolute line) good = decimal_solid line good
unit_solid (Alias line) good = decimal_solid line good

why_solid : (names : List (List ℕ)) (cause : Why) → IsReadableWhy names cause → all_solid (why_words names cause) ≡ true
why_solid names (why.Refused place kind z) good = and_from (solid (decimal place.block)) _ (decimal_solid place.block good.0.0)
    (and_from (solid (decimal place.offset)) _ (decimal_solid place.offset good.0.1)
    (and_from (solid (decimal kind)) _ (decimal_solid kind good.1) (and_from (solid (signed_decimal z)) true (signed_solid z good.2) refl)))
why_solid names (why.Missing name) good = and_from (solid (name_text names name)) true (name_solid names name good) refl
why_solid names (why.InError i) good = one_solid i.0 good
why_solid names (why.AliasCycle i) good = one_solid i.0 good
why_solid names (why.BadDep i) good = one_solid i.0 good
why_solid names (why.NoRoom need) good = one_solid need good
why_solid names why.NoMemory good = refl
why_solid names why.Full good = refl

ask_solid : (n : Option ℕ) → IfSome n IsNumber → all_solid (ask_words n) ≡ true
ask_solid None good = refl
ask_solid (Some n) good = one_solid n good

level_solid : (lev : Level) (ws : List (List ℕ)) → all_solid ws ≡ true → all_solid (level_text lev ∷ ws) ≡ true
level_solid Resolved ws x = x
level_solid Ready ws x = x

wanteds_solid : (names : List (List ℕ)) (wanted : List Wanted) → All (λ (w : Wanted). IsWantedName names w.name) wanted → all_solid (map (wanted_text names) wanted) ≡ true
wanteds_solid names [] good = refl
wanteds_solid names (w ∷ ws) good = and_from (solid (wanted_text names w)) (all_solid (map (wanted_text names) ws)) (wanted_solid names w (All-head (λ (x : Wanted). IsWantedName names x.name) w ws good))
    (wanteds_solid names ws (All-tail (λ (x : Wanted). IsWantedName names x.name) w ws good))

pub event_solid : (names : List (List ℕ)) (units : UnitName → Meaning) (e : Event Meaning) → IsReadableEvent names units e → all_solid (event_words names e) ≡ true
event_solid names units (event.Dylib name) good = and_from (solid (name_text names name)) true (name_solid names name good) refl
event_solid names units (event.SetOrder d order) good = and_from (solid (decimal d.0)) _ (decimal_solid d.0 good.0) (items_solid order good.1)
event_solid names units (event.Attach d t u) good = and_from (solid (decimal d.0)) _ (decimal_solid d.0 good.0) (and_from (solid (decimal t.0)) _ (decimal_solid t.0 good.1) (and_from (solid (unit_text u.name)) true (unit_solid u.name good.2.number) refl))
event_solid names units (event.Define d t u) good = and_from (solid (decimal d.0)) _ (decimal_solid d.0 good.0) (and_from (solid (decimal t.0)) _ (decimal_solid t.0 good.1) (and_from (solid (unit_text u.name)) true (unit_solid u.name good.2.number) refl))
event_solid names units (event.Generate g) good = one_solid g.0 good
event_solid names units (event.Ask order wanted lev n) good = solid-append (ask_words n) (lookup_words names order wanted lev) (ask_solid n good.2)
    (solid-append (list_words comma item_text order) (level_text lev ∷ map (wanted_text names) wanted) (items_solid order good.0) (level_solid lev (map (wanted_text names) wanted) (wanteds_solid names wanted good.1)))
event_solid names units (event.Collect q) good = one_solid q.0 good
event_solid names units event.Take good = refl
event_solid names units (event.Place u shape) good = and_from (solid (decimal u.0)) _ (decimal_solid u.0 good.0) (two_solid shape.need shape.align good.1 good.2)
event_solid names units (event.Resolve u) good = one_solid u.0 good
event_solid names units (event.Link u) good = one_solid u.0 good
event_solid names units (event.Emit u groups) good = and_from (solid (decimal u.0)) _ (decimal_solid u.0 good.0) (groups_solid groups good.1)
event_solid names units (event.Fail u cause) good = and_from (solid (decimal u.0)) _ (decimal_solid u.0 good.0) (why_solid names cause good.1)
event_solid names units (event.Tracker d) good = one_solid d.0 good
event_solid names units (event.MoveTracker t to) good = two_solid t.0 to.0 good.0 good.1
event_solid names units (event.Remove t) good = one_solid t.0 good
event_solid names units event.Image good = refl

-- What is read from them

abbrev read_unit : List ℕ → UnitName
read_unit [] = Object 0
read_unit (b ∷ bs) = if b == 111 then Object (value bs) else if b == 97 then Absolute (value bs) else Alias (value bs)

unit_read : (u : UnitName) → IsNumbered u → read_unit (unit_text u) ≡ u
unit_read (Object file) good = λ k. Object (value-decimal file good k)
unit_read (Absolute line) good = λ k. Absolute (value-decimal line good k)
unit_read (Alias line) good = λ k. Alias (value-decimal line good k)

meaning_read : (units : UnitName → Meaning) (u : Meaning) → IsNamed units u → units (read_unit (unit_text u.name)) ≡ u
meaning_read units u good = ap units (unit_read u.name good.number) ∙ sym good.its

abbrev read_level : List ℕ → Level
read_level w = if bytes_eq w (codes "resolved") then Resolved else Ready

abbrev is_level : List ℕ → Bool
is_level w = bytes_eq w (codes "resolved") || bytes_eq w (codes "ready")

level_read : (lev : Level) → read_level (level_text lev) ≡ lev
level_read Resolved = refl
level_read Ready = refl

level_is : (lev : Level) → is_level (level_text lev) ≡ true
level_is Resolved = refl
level_is Ready = refl

-- names, up to the last place where a reply begins
abbrev read_names : List (List ℕ) → List (List ℕ) → List Wanted × List (List ℕ)
read_names names [] = ([], [])
read_names names (w ∷ ws) = if has_reply ws then (read_wanted names w ∷ (read_names names ws).0, (read_names names ws).1) else ([], w ∷ ws)

abbrev read_why : List (List ℕ) → List (List ℕ) → Why × List (List ℕ)
read_why names ws =
    if bytes_eq (first ws) (codes "refused") then (why.Refused (record { block = value (first (rest ws)); offset = value (first (rest (rest ws))) }) (value (first (rest (rest (rest ws))))) (signed_value (first (rest (rest (rest (rest ws)))))), rest (rest (rest (rest (rest ws)))))
    else if bytes_eq (first ws) (codes "missing") then (why.Missing (record { 0 = place_of names (first (rest ws)) }), rest (rest ws))
    else if bytes_eq (first ws) (codes "inerror") then (why.InError (record { 0 = id_value (first (rest ws)) }), rest (rest ws))
    else if bytes_eq (first ws) (codes "aliascycle") then (why.AliasCycle (record { 0 = id_value (first (rest ws)) }), rest (rest ws))
    else if bytes_eq (first ws) (codes "baddep") then (why.BadDep (record { 0 = id_value (first (rest ws)) }), rest (rest ws))
    else if bytes_eq (first ws) (codes "noroom") then (why.NoRoom (value (first (rest ws))), rest (rest ws))
    else if bytes_eq (first ws) (codes "nomemory") then (why.NoMemory, rest ws)
    else (why.Full, rest ws)

-- an event with what follows it
abbrev Read : Type 0
Read = Event Meaning × List (List ℕ)

abbrev read_lookup : Option ℕ → List OrderItem → Level → List Wanted × List (List ℕ) → Read
read_lookup n order lev p = (event.Ask order p.0 lev n, p.1)

abbrev read_ask : List (List ℕ) → Option ℕ → List OrderItem × List (List ℕ) → Read
read_ask names n p = read_lookup n p.0 (read_level (first p.1)) (read_names names (rest p.1))

abbrev event_of : List (List ℕ) → (UnitName → Meaning) → List ℕ → List (List ℕ) → Read
event_of names units w ws =
    if bytes_eq w (codes "dylib") then (event.Dylib (record { 0 = place_of names (first ws) }), rest ws)
    else if bytes_eq w (codes "order") then (event.SetOrder (record { 0 = id_value (first ws) }) (read_items is_equals (rest ws)).0, (read_items is_equals (rest ws)).1)
    else if bytes_eq w (codes "attach") then (event.Attach (record { 0 = id_value (first ws) }) (record { 0 = id_value (first (rest ws)) }) (units (read_unit (first (rest (rest ws))))), rest (rest (rest ws)))
    else if bytes_eq w (codes "define") then (event.Define (record { 0 = id_value (first ws) }) (record { 0 = id_value (first (rest ws)) }) (units (read_unit (first (rest (rest ws))))), rest (rest (rest ws)))
    else if bytes_eq w (codes "generate") then (event.Generate (record { 0 = id_value (first ws) }), rest ws)
    else if bytes_eq w (codes "ask") then read_ask names None (read_items is_level ws)
    else if bytes_eq w (codes "watch") then read_ask names (Some (value (first ws))) (read_items is_level (rest ws))
    else if bytes_eq w (codes "collect") then (event.Collect (record { 0 = id_value (first ws) }), rest ws)
    else if bytes_eq w (codes "take") then (event.Take, ws)
    else if bytes_eq w (codes "place") then (event.Place (record { 0 = id_value (first ws) }) (record { need = value (first (rest ws)); align = value (first (rest (rest ws))) }), rest (rest (rest ws)))
    else if bytes_eq w (codes "resolve") then (event.Resolve (record { 0 = id_value (first ws) }), rest ws)
    else if bytes_eq w (codes "link") then (event.Link (record { 0 = id_value (first ws) }), rest ws)
    else if bytes_eq w (codes "emit") then (event.Emit (record { 0 = id_value (first ws) }) (read_groups is_equals (rest ws)).0, (read_groups is_equals (rest ws)).1)
    else if bytes_eq w (codes "fail") then (event.Fail (record { 0 = id_value (first ws) }) (read_why names (rest ws)).0, (read_why names (rest ws)).1)
    else if bytes_eq w (codes "tracker") then (event.Tracker (record { 0 = id_value (first ws) }), rest ws)
    else if bytes_eq w (codes "move") then (event.MoveTracker (record { 0 = id_value (first ws) }) (record { 0 = id_value (first (rest ws)) }), rest (rest ws))
    else if bytes_eq w (codes "remove") then (event.Remove (record { 0 = id_value (first ws) }), rest ws)
    else (event.Image, ws)

abbrev pub read_event : List (List ℕ) → (UnitName → Meaning) → List (List ℕ) → Read
read_event names units [] = (event.Image, [])
read_event names units (w ∷ ws) = event_of names units w ws

module _ (names : List (List ℕ)) (table : IsTable names) where
  why_read : (cause : Why) (ws : List (List ℕ)) → IsReadableWhy names cause → read_why names (why_words names cause ++ ws) ≡ (cause, ws)
  why_read (why.Refused place kind z) ws good = λ k. (why.Refused (record { block = value-decimal place.block good.0.0 k; offset = value-decimal place.offset good.0.1 k }) (value-decimal kind good.1 k) (signed_read z good.2 k), ws)
  why_read (why.Missing name) ws good = λ k. (why.Missing (record { 0 = name_read names table name good k }), ws)
  why_read (why.InError i) ws good = λ k. (why.InError (record { 0 = value-decimal i.0 good k }), ws)
  why_read (why.AliasCycle i) ws good = λ k. (why.AliasCycle (record { 0 = value-decimal i.0 good k }), ws)
  why_read (why.BadDep i) ws good = λ k. (why.BadDep (record { 0 = value-decimal i.0 good k }), ws)
  why_read (why.NoRoom need) ws good = λ k. (why.NoRoom (value-decimal need good k), ws)
  why_read why.NoMemory ws good = refl
  why_read why.Full ws good = refl

  reply_ahead : (wanted : List Wanted) (ws : List (List ℕ)) → begins_reply (codes "=" ∷ ws) ≡ true → has_reply (map (wanted_text names) wanted ++ codes "=" ∷ ws) ≡ true
  reply_ahead [] ws begins = or_left (begins_reply (codes "=" ∷ ws)) (has_reply ws) begins
  reply_ahead (w ∷ others) ws begins =
      let after = map (wanted_text names) others ++ codes "=" ∷ ws in
      or_right (begins_reply (wanted_text names w ∷ after)) (has_reply after) (reply_ahead others ws begins)

  names_read : (wanted : List Wanted) (ws : List (List ℕ)) → begins_reply (codes "=" ∷ ws) ≡ true → has_reply ws ≡ false → All (λ (w : Wanted). IsWantedName names w.name) wanted →
      read_names names (map (wanted_text names) wanted ++ codes "=" ∷ ws) ≡ (wanted, codes "=" ∷ ws)
  names_read [] ws begins last good = ap (λ b. if b then (read_wanted names (codes "=") ∷ (read_names names ws).0, (read_names names ws).1) else ([], codes "=" ∷ ws)) last
  names_read (w ∷ others) ws begins last good =
      let here = All-head (λ (x : Wanted). IsWantedName names x.name) w others good in
      let more = names_read others ws begins last (All-tail (λ (x : Wanted). IsWantedName names x.name) w others good) in
      let after = map (wanted_text names) others ++ codes "=" ∷ ws in
      ap (λ b. if b then (read_wanted names (wanted_text names w) ∷ (read_names names after).0, (read_names names after).1) else ([], wanted_text names w ∷ after)) (reply_ahead others ws begins)
      ∙ (λ k. (wanted_read names table w here k ∷ (more k).0, (more k).1))

  lookup_read : (n : Option ℕ) (order : List OrderItem) (wanted : List Wanted) (lev : Level) (ws : List (List ℕ)) → begins_reply (codes "=" ∷ ws) ≡ true → has_reply ws ≡ false → All (λ (item : OrderItem). IsNumber item.dylib.0) order → All (λ (w : Wanted). IsWantedName names w.name) wanted →
      read_ask names n (read_items is_level (lookup_words names order wanted lev ++ codes "=" ∷ ws)) ≡ (event.Ask order wanted lev n, codes "=" ∷ ws)
  lookup_read n order wanted lev ws begins last items good =
      let after = map (wanted_text names) wanted ++ codes "=" ∷ ws in
      ap (λ l. read_ask names n (read_items is_level l)) (append_assoc (list_words comma item_text order) (level_text lev ∷ map (wanted_text names) wanted) (codes "=" ∷ ws))
      ∙ ap (read_ask names n) (items_read is_level (λ w. refl) (level_text lev) after (level_is lev) order items)
      ∙ (λ k. read_lookup n order (level_read lev k) (names_read wanted ws begins last good k))

  pub event_read : (units : UnitName → Meaning) (e : Event Meaning) (ws : List (List ℕ)) → begins_reply (codes "=" ∷ ws) ≡ true → has_reply ws ≡ false → IsReadableEvent names units e → read_event names units (event_words names e ++ codes "=" ∷ ws) ≡ (e, codes "=" ∷ ws)
  event_read units (event.Dylib name) ws begins last good = λ k. (event.Dylib (record { 0 = name_read names table name good k }), codes "=" ∷ ws)
  event_read units (event.SetOrder d order) ws begins last good =
      let p = items_read is_equals (λ w. refl) (codes "=") ws refl order good.1 in
      λ k. (event.SetOrder (record { 0 = value-decimal d.0 good.0 k }) (p k).0, (p k).1)
  event_read units (event.Attach d t u) ws begins last good = λ k. (event.Attach (record { 0 = value-decimal d.0 good.0 k }) (record { 0 = value-decimal t.0 good.1 k }) (meaning_read units u good.2 k), codes "=" ∷ ws)
  event_read units (event.Define d t u) ws begins last good = λ k. (event.Define (record { 0 = value-decimal d.0 good.0 k }) (record { 0 = value-decimal t.0 good.1 k }) (meaning_read units u good.2 k), codes "=" ∷ ws)
  event_read units (event.Generate g) ws begins last good = λ k. (event.Generate (record { 0 = value-decimal g.0 good k }), codes "=" ∷ ws)
  event_read units (event.Ask order wanted lev None) ws begins last good = lookup_read None order wanted lev ws begins last good.0 good.1
  event_read units (event.Ask order wanted lev (Some n)) ws begins last good =
      ap (λ m. read_ask names (Some m) (read_items is_level (lookup_words names order wanted lev ++ codes "=" ∷ ws))) (value-decimal n good.2)
      ∙ lookup_read (Some n) order wanted lev ws begins last good.0 good.1
  event_read units (event.Collect q) ws begins last good = λ k. (event.Collect (record { 0 = value-decimal q.0 good k }), codes "=" ∷ ws)
  event_read units event.Take ws begins last good = refl
  event_read units (event.Place u shape) ws begins last good = λ k. (event.Place (record { 0 = value-decimal u.0 good.0 k }) (record { need = value-decimal shape.need good.1 k; align = value-decimal shape.align good.2 k }), codes "=" ∷ ws)
  event_read units (event.Resolve u) ws begins last good = λ k. (event.Resolve (record { 0 = value-decimal u.0 good k }), codes "=" ∷ ws)
  event_read units (event.Link u) ws begins last good = λ k. (event.Link (record { 0 = value-decimal u.0 good k }), codes "=" ∷ ws)
  event_read units (event.Emit u groups) ws begins last good =
      let p = groups_read ws groups good.1 in
      λ k. (event.Emit (record { 0 = value-decimal u.0 good.0 k }) (p k).0, (p k).1)
  event_read units (event.Fail u cause) ws begins last good =
      let p = why_read cause (codes "=" ∷ ws) good.1 in
      λ k. (event.Fail (record { 0 = value-decimal u.0 good.0 k }) (p k).0, (p k).1)
  event_read units (event.Tracker d) ws begins last good = λ k. (event.Tracker (record { 0 = value-decimal d.0 good k }), codes "=" ∷ ws)
  event_read units (event.MoveTracker t to) ws begins last good = λ k. (event.MoveTracker (record { 0 = value-decimal t.0 good.0 k }) (record { 0 = value-decimal to.0 good.1 k }), codes "=" ∷ ws)
  event_read units (event.Remove t) ws begins last good = λ k. (event.Remove (record { 0 = value-decimal t.0 good k }), codes "=" ∷ ws)
  event_read units event.Image ws begins last good = refl
