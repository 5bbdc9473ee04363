-- Until names are asked for, a program's session stays as its objects were defined.
use Rattle.std.proofs.Common.{◌≡◌, ℕ, ◌+◌, Bool, true, false, ◌&&◌, nat_eq, List, [], ◌∷◌, ◌++◌, slice_get, subst, sym, refl, ap, ◌∙◌, Option, Some, None, append_assoc, append-nil}
use Rattle.std.specs.Bool.{if◌then◌else◌}
use Rattle.std.specs.List.{All}
use Rattle.std.specs.Option.{option_map_or}
use Rattle.std.proofs.lemmas.Bool.{both_ways}
use Rattle.std.proofs.lemmas.List.Elements.{All-head, All-tail}
use Rattle.orc_ids.specs.declared.ids.UnitId.{UnitId}
use Rattle.session_model.specs.Answer.{Answers, AnswersCall, AnswersTake, Called, Gone, Wrong, Right, called, is_held}
use Rattle.session_model.specs.Change.{change_of, changed, settled}
use Rattle.session_model.specs.History.{IsLegal}
use Rattle.session_model.specs.Meaning.{Meaning}
use Rattle.session_model.specs.Plain.{Plain, UnitRow, empty, is_defunct}
use Rattle.session_model.specs.State.{state}
use Rattle.session_model.specs.declared.change.Change.{Change}
use Rattle.session_model.specs.declared.change.Change.TheVariants.{Nothing}
use Rattle.session_model.specs.declared.entry.Entry.{Entry}
use Rattle.session_model.specs.declared.entry.Event.{Event}
use Rattle.session_model.specs.declared.entry.Event.TheVariants as event
use Rattle.session_model.specs.declared.entry.Reply.{Reply}
use Rattle.session_model.specs.declared.entry.Reply.TheVariants as reply
use Rattle.session_model.specs.declared.rows.Job.{Job}
use Rattle.session_model.specs.declared.rows.UnitPhase.{UnitPhase}
use Rattle.session_laws.proofs.Declared.{prefixes_legal, state_from_push}
use Rattle.closure_laws.proofs.Declared.{OneMore, one_more}
use Rattle.memory_laws.specs.NameLaws.{AskComesFirst, IsUntouched, is_ask}
use Rattle.memory_laws.specs.Objects.{keeps_names}
use Rattle.memory_laws.proofs.SettingUp.{at_entries, set_up, settled_none, these_units}

-- no unit can be called
wrong : (m : Plain) (s : ℕ) (u : UnitId) (fits : UnitRow → Bool) → IsUntouched m → called m s u fits ≡ Wrong
wrong m s u fits was = split (slice_get m.units u.0) refl
  where
    split : (o : Option UnitRow) → slice_get m.units u.0 ≡ o → option_map_or (λ x. if is_defunct x.phase then Gone else (if is_held s x && fits x then Right x else Wrong)) o Wrong ≡ Wrong
    split None e = refl
    split (Some x) e =
        let p = was.units u.0 x e in
        ap (λ (q : UnitPhase). if is_defunct q then Gone else (if is_held s x && fits x then Right x else Wrong)) p.0
        ∙ ap (λ (o : Option ℕ). if option_map_or (nat_eq s) o false && fits x then Right x else Wrong) p.1

-- so a call is turned away
turned_away : (m : Plain) (s : ℕ) (u : UnitId) (fits : UnitRow → Bool) (P : UnitRow → Type 0) (r : Reply) → IsUntouched m → AnswersCall (called m s u fits) u P r → r ≡ reply.WrongPhase u
turned_away m s u fits P r was a = subst (λ (c : Called). AnswersCall c u P r) (wrong m s u fits was) a

-- nothing changes
idle : (jmax : ℕ) (past : List (Entry Meaning)) (m : Plain) (s : ℕ) (e : Event Meaning) (r : Reply) → IsUntouched m → keeps_names e ≡ true → is_ask e ≡ false → Answers jmax past m s e r → change_of m s e r ≡ Nothing
idle jmax past m s (event.Ask order wanted lev n) r was k l a = absurd (both_ways true l refl)
idle jmax past m s (event.Link u) r was k l a = ap (change_of m s (event.Link u)) (turned_away m s u _ _ r was a)
idle jmax past m s (event.Collect q) (reply.Defunct u) was k l a = absurd a
idle jmax past m s (event.Collect q) _ was k l a = refl
idle jmax past m s event.Take r was k l a = absurd (subst (λ (js : List Job). AnswersTake past m js r) was.jobs a)
idle jmax past m s (event.Place u shape) r was k l a = ap (change_of m s (event.Place u shape)) (turned_away m s u _ _ r was a)
idle jmax past m s (event.Resolve u) r was k l a = ap (change_of m s (event.Resolve u)) (turned_away m s u _ _ r was a)
idle jmax past m s (event.Emit u groups) r was k l a = ap (change_of m s (event.Emit u groups)) (turned_away m s u _ _ r was a)
idle jmax past m s (event.Fail u why) r was k l a = ap (change_of m s (event.Fail u why)) (turned_away m s u _ _ r was a)
idle jmax past m s event.Image r was k l a = ap (change_of m s event.Image) a
idle jmax past m s _ r was k l a = absurd (both_ways false refl k)

untouched_more : (jmax : ℕ) (h : List (Entry Meaning)) (e : Entry Meaning) → OneMore jmax h e → keeps_names e.event ≡ true → is_ask e.event ≡ false → IsUntouched (state h) → IsUntouched (state (h ++ e ∷ []))
untouched_more jmax h e one k l was = subst IsUntouched (sym whole) (at_entries (state h) ((state h).entries + 1) was)
  where
    whole : state (h ++ e ∷ []) ≡ record (state h) { entries = (state h).entries + 1 }
    whole = state_from_push empty h e
        ∙ (ap (λ (c : Change Meaning). record (settled (changed c (state h))) { entries = (state h).entries + 1 }) (idle jmax h (state h) e.seat.0 e.event e.reply was k l one.answers)
        ∙ ap (λ (n : Plain). record n { entries = (state h).entries + 1 }) (settled_none (state h) was.queries))

untouched_stays : (jmax : ℕ) (h more : List (Entry Meaning)) → IsLegal jmax (h ++ more) → All (λ (e : Entry Meaning). keeps_names e.event ≡ true) more → All (λ (e : Entry Meaning). is_ask e.event ≡ false) more → IsUntouched (state h) → IsUntouched (state (h ++ more))
untouched_stays jmax h [] l quiet none was = subst (λ g. IsUntouched (state g)) (sym (append-nil h)) was
untouched_stays jmax h (e ∷ es) l quiet none was =
    let legal = subst (IsLegal jmax) (sym (append_assoc h (e ∷ []) es)) l in
    let one = one_more jmax h e ((prefixes_legal jmax (h ++ e ∷ []) es).0 legal) in
    subst (λ g. IsUntouched (state g)) (append_assoc h (e ∷ []) es)
    (untouched_stays jmax (h ++ e ∷ []) es legal (All-tail (λ (f : Entry Meaning). keeps_names f.event ≡ true) e es quiet) (All-tail (λ (f : Entry Meaning). is_ask f.event ≡ false) e es none)
    (untouched_more jmax h e one (All-head (λ (f : Entry Meaning). keeps_names f.event ≡ true) e es quiet) (All-head (λ (f : Entry Meaning). is_ask f.event ≡ false) e es none) was))

pub ask_comes_first : AskComesFirst
ask_comes_first jmax h l graphs p none =
    let legal = subst (IsLegal jmax) p.parts l in
    let start = set_up jmax p.setup p.main graphs p.units ((prefixes_legal jmax p.setup p.later).0 legal) (these_units p.units graphs p.are) p.events p.done in
    subst (λ g. IsUntouched (state g)) (sym p.parts) (untouched_stays jmax p.setup p.later legal p.quiet none start.untouched)
