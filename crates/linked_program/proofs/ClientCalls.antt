-- What a lookup comes to, and a copy of the memory after it.
use Rattle.std.proofs.Common.{◌≡◌, ℕ, ◌-◌, Bool, true, false, MatchBool, List, [], ◌∷◌, ◌++◌, take, append-nil, append_assoc, refl, sym, ap, subst, ◌∙◌, Option, None, Result, Ok, Err}
use Rattle.std.proofs.lemmas.Bool.{both_ways}
use Rattle.std.proofs.lemmas.List.Elements.{All-append, All-cons, All-nil}
use Rattle.orc_ids.specs.declared.ids.NameId.{NameId}
use Rattle.orc_ids.specs.declared.lookup.Outcome.{Outcome}
use Rattle.orc_ids.specs.declared.lookup.Stop.{Stop}
use Rattle.orc_ids.specs.declared.lookup.Stop.TheVariants as stop
use Rattle.code_memory.specs.declared.image.Segment.{Segment}
use Rattle.session_model.specs.Calls.{Looks}
use Rattle.session_model.specs.Meaning.{Meaning, Bindings}
use Rattle.session_model.specs.State.{state}
use Rattle.session_model.specs.declared.entry.Entry.{Entry}
use Rattle.session_model.specs.declared.entry.Event.TheVariants as event
use Rattle.session_model.specs.declared.entry.Reply.TheVariants as reply
use Rattle.shared_session.specs.Does.{seat}
use Rattle.notifiers.specs.declared.notice.Notice.{Notice}
use Rattle.notifiers.specs.declared.notice.Unheard.{Unheard}
use Rattle.turn_lock.specs.declared.view.View.{View}
use Rattle.shared_session.specs.Did.{Did, Nothing, Then}
use Rattle.shared_session.proofs.Doing.{less_is_done, parts_are_done}
use Rattle.session_model.specs.Stopped.{IsCutShort}
use Rattle.session_model.proofs.Lasts.{split_end}
use Rattle.link_worker.specs.Does.{Does, PlacesLowest, ToldAt}
use Rattle.session_model.specs.Ends.{EndsAs}
use Rattle.link_worker.specs.Looks.{HasLooked, end_stopped, left_of}
use Rattle.session_model.specs.declared.look_end.LookEnd.{LookEnd}
use Rattle.session_model.specs.declared.look_end.LookEnd.TheVariants as end
use Rattle.link_worker.specs.Jobs.{SpareAll, is_cut_fail}
use Rattle.link_worker.proofs.Sparing.{spare_both, spare_one}
use Rattle.link_worker.proofs.Telling.{is_placing, places_nothing, IsCalledLowest}
use Rattle.link_worker.proofs.Working.{stopped_since}
use Rattle.run_laws.specs.Runs.{IsCopy, LooksAndCopies, has_found, lookup_of}
use Rattle.linked_program.specs.Clients.{Begins, Copies, Ends, IsClient, LookedUp, found_in}
use Rattle.link_worker.specs.Copies.{CopiesAt, IsStoppedAt, OneCopy}

-- What was still to come

abbrev some_copy : ℕ × Entry Meaning
some_copy = (0, record { seat = seat 0; event = event.Image; reply = reply.Image })

-- a copy where the lookup has found the entry
abbrev copied_after : Bool → List (ℕ × Entry Meaning)
copied_after true = some_copy ∷ []
copied_after false = []

copies_after : (b : Bool) → MatchBool b (IsCopy (copied_after b)) (copied_after b ≡ [])
copies_after true = refl
copies_after false = refl

more_than : {X : Type 0} (xs ys : List X) → (xs ≡ [] → ⊥) → xs ++ ys ≡ [] → ⊥
more_than [] ys more e = more refl
more_than (x ∷ xs) ys more e = absurd (cc)

-- the rest of a lookup, and the copy
cut_in_lookup : (h : List (Entry Meaning)) (entry : NameId) (cs : List (ℕ × Entry Meaning)) → IsCutShort (Looks h (lookup_of entry)) cs → IsCutShort (LooksAndCopies h entry) cs
cut_in_lookup h entry cs s = by s.rest s.would s.more
  where
    by : (rest : List (ℕ × Entry Meaning)) → Looks h (lookup_of entry) (cs ++ rest) → (rest ≡ [] → ⊥) → IsCutShort (LooksAndCopies h entry) cs
    by [] looks more = absurd (more refl)
    by (r ∷ rs) looks more =
        let s = split_end r rs in
        let found = has_found s.1.1.reply in
        let are : cs ++ (r ∷ rs) ≡ (cs ++ s.0) ++ s.1 ∷ [] = ap (λ l. cs ++ l) s.2 ∙ sym (append_assoc cs s.0 (s.1 ∷ [])) in
        record {
          rest = (r ∷ rs) ++ copied_after found;
          would = record {
            before = cs ++ s.0;
            last = s.1;
            copied = copied_after found;
            are = sym (append_assoc cs (r ∷ rs) (copied_after found)) ∙ ap (λ l. l ++ copied_after found) are;
            looks = subst (Looks h (lookup_of entry)) are looks;
            copies = copies_after found;
          };
          more = more_than (r ∷ rs) (copied_after found) more;
        }

-- the copy alone
cut_in_copy : (h : List (Entry Meaning)) (entry : NameId) (cs : List (ℕ × Entry Meaning)) (m : Bindings) → Looks h (lookup_of entry) cs → EndsAs (end.Found m) cs → IsCutShort (LooksAndCopies h entry) cs
cut_in_copy h entry cs m looks (at, last) = record {
  rest = some_copy ∷ [];
  would = record {
    before = last.before;
    last = (last.number, last.entry);
    copied = some_copy ∷ [];
    are = ap (λ l. l ++ some_copy ∷ []) last.are;
    looks = subst (Looks h (lookup_of entry)) last.are looks;
    copies = subst (λ r. MatchBool (has_found r) (IsCopy (some_copy ∷ [])) (some_copy ∷ [] ≡ [])) (sym last.reply) refl;
  };
  more = λ e. absurd (cc);
}

module _ {U N : Type 0} (means : U → Meaning) (heard : N → Option Outcome) (jmax : ℕ) (v w : View (Entry U)) (old new : List (Notice N)) where
  -- what a lookup of the entry came to, whoever was told
  module _ (entry : NameId) (then' back : Option (Unheard N)) where
    found_end : (e : LookEnd) → Does means heard v w old new (λ h cs. Looks h (lookup_of entry) cs × EndsAs e cs × (back ≡ left_of then' cs) × SpareAll cs) → Did means v w (Ends entry e)
    found_end e does = less_is_done means v w (λ h cs. (Looks h (lookup_of entry) cs × EndsAs e cs × (back ≡ left_of then' cs) × SpareAll cs) × ToldAt h cs does.told × PlacesLowest h cs) (Ends entry e)
        (λ h cs k. (k.0.0, k.0.1, k.2, k.0.3)) does.did

    stopped_end : Does means heard v w old new (λ h cs. IsCutShort (Looks h (lookup_of entry)) cs × (back ≡ left_of then' cs)) → Did means v w (Begins entry)
    stopped_end does = less_is_done means v w (λ h cs. (IsCutShort (Looks h (lookup_of entry)) cs × (back ≡ left_of then' cs)) × ToldAt h cs does.told × PlacesLowest h cs) (Begins entry)
        (λ h cs k. (cut_in_lookup h entry cs k.0.0, k.2)) does.did

    pub looked_up : (e : LookEnd) → HasLooked means heard jmax v w old new (lookup_of entry) then' e back → LookedUp means jmax entry v w e
    looked_up (end.Found matches) has = found_end (end.Found matches) has
    looked_up (end.Failed i) has = found_end (end.Failed i) has
    looked_up (end.InError i) has = found_end (end.InError i) has
    looked_up (end.Missing name) has = found_end (end.Missing name) has
    looked_up (end.NoDylib d) has = found_end (end.NoDylib d) has
    looked_up (end.JournalFull len) has = (stopped_end has.0, has.1)
    looked_up end.NoMemory has = stopped_end has

-- a lookup that was found
abbrev is_ok : {A B : Type 0} → Result A B → Bool
is_ok (Ok a) = true
is_ok (Err b) = false

abbrev matches_in : Bindings → Result Bindings LookEnd → Bindings
matches_in other (Ok m) = m
matches_in other (Err e) = other

found_is : (e : LookEnd) (m : Bindings) → found_in e ≡ Ok m → e ≡ end.Found m
found_is (end.Found x) m is = ap (λ r. end.Found (matches_in x r)) is
found_is _ m is = absurd (both_ways true (ap is_ok (sym is)) refl)

module _ {U : Type 0} (means : U → Meaning) (jmax : ℕ) (entry : NameId) (v x w : View (Entry U)) (e : LookEnd) (m : Bindings) (is : found_in e ≡ Ok m) (looked : LookedUp means jmax entry v x e) where
  found_first : Did means v x (Ends entry (end.Found m))
  found_first = subst (LookedUp means jmax entry v x) (found_is e m is) looked

  copies : (image : List Segment) (h : List (Entry Meaning)) (cs : List (ℕ × Entry Meaning)) → Then (Ends entry (end.Found m)) (OneCopy image) h cs → Copies entry (end.Found m) image h cs
  copies image h cs t =
      let copy = t.4 in
      let are : cs ≡ t.0 ++ (copy.0, copy.1) ∷ [] = t.2 ∙ ap (λ l. t.0 ++ l) copy.2 in
      record {
        looked = t.0;
        number = copy.0;
        copy = copy.1;
        are = are;
        looks = t.3.0;
        ends = t.3.1;
        copies = copy.3;
        has = copy.4;
        lowest = subst (PlacesLowest h) (sym are) (All-append (IsCalledLowest h) t.0 ((copy.0, copy.1) ∷ []) t.3.2
            (All-cons (IsCalledLowest h) (copy.0, copy.1) [] (places_nothing (state (take (copy.0 - 1) h)) copy.1.event copy.1.reply (subst (λ f. is_placing f ≡ false) (sym copy.3) refl)) (All-nil (IsCalledLowest h))));
        spare = subst SpareAll (sym are) (spare_both t.0 ((copy.0, copy.1) ∷ []) t.3.3 (spare_one copy.0 copy.1 (ap is_cut_fail copy.3)));
      }

  pub looked_and_copied : (image : List Segment) → CopiesAt means x w image → Did means v w (Copies entry (end.Found m) image)
  looked_and_copied image copy = less_is_done means v w (Then (Ends entry (end.Found m)) (OneCopy image)) (Copies entry (end.Found m) image) (copies image) (parts_are_done means v x w (Ends entry (end.Found m)) (OneCopy image) found_first copy)

  only_looked : Did means x w Nothing → Did means v w (Begins entry)
  only_looked none = less_is_done means v w (Then (Ends entry (end.Found m)) Nothing) (Begins entry)
      (λ h cs t. subst (Begins entry h) (sym (t.2 ∙ (ap (λ l. t.0 ++ l) t.4 ∙ append-nil t.0))) (cut_in_copy h entry t.0 m t.3.0 t.3.1, t.3.2))
      (parts_are_done means v x w (Ends entry (end.Found m)) Nothing found_first none)

  pub looked_and_stopped : (st : Stop) → IsStoppedAt means jmax x w st → IsClient means jmax entry v w (end_stopped st) None
  looked_and_stopped (stop.JournalFull len) s = (only_looked s.0, stopped_since means jmax v.seen x.seen w.seen (stop.JournalFull len) found_first.later s.1)
  looked_and_stopped stop.NoMemory s = only_looked s.0
