-- Lines, one after the other.
use Rattle.std.proofs.Common.{◌≡◌, ℕ, ◌⊎◌, inl, inr, Bool, true, false, ◌||◌, List, [], ◌∷◌, ◌++◌, length, slice_get, append-nil, refl, sym, ap, subst, ◌∙◌, All, Option, Some}
use Rattle.std.proofs.lemmas.Bool.{both_ways}
use Rattle.std.proofs.lemmas.List.{append_assoc}
use Rattle.std.proofs.lemmas.List.Elements.{All-head, All-tail}
use Rattle.std.proofs.lemmas.Option.{none-some}
use Rattle.orc_ids.specs.declared.lookup.Outcome.{Outcome}
use Rattle.orc_ids.specs.declared.lookup.Stop.{Stop}
use Rattle.session_model.specs.Meaning.{Meaning}
use Rattle.session_model.specs.declared.entry.Entry.{Entry}
use Rattle.session_laws.proofs.Declared.{pushed_cases}
use Rattle.notifiers.specs.declared.notice.Notice.{Notice}
use Rattle.turn_lock.specs.declared.view.View.{View}
use Rattle.turn_lock.specs.Lists.{StartsWith}
use Rattle.shared_session.specs.Did.{Did, Nothing, Promise}
use Rattle.shared_session.proofs.Doing.{nothing_is_done}
use Rattle.link_worker.specs.Does.{Does}
use Rattle.link_worker.specs.Works.{WasStopped}
use Rattle.link_worker.proofs.Telling.{does_both, does_less, does_none}
use Rattle.link_worker.proofs.Working.{stopped_since, stopped_until}
use Rattle.script_model.specs.Given.{Given}
use Rattle.script_model.specs.Asking.{Line}
use Rattle.script_model.specs.Lines.{AreLines, AreSkipped, AtEnd, Goes, Stops, given_by}
use Rattle.script_model.specs.declared.line_end.LineEnd.{LineEnd}
use Rattle.script_model.specs.declared.line_end.LineEnd.TheVariants as end
use Rattle.script_session.specs.Clients.{Begins, Going, Halted, HasDone, HasDoneAll, HasDoneSome, Makes, MakesAll}
use Rattle.script_session.specs.Lines.{AreSame, is_stopped}

-- the lines after one are those of a longer list
longer : {X : Type 0} (xs : List X) (x : X) (ys : List X) → xs ++ x ∷ ys ≡ (xs ++ x ∷ []) ++ ys
longer xs x ys = sym (append_assoc xs (x ∷ []) ys)

-- one more line was done
gone_on : (given : Given) (done : List Line) (ends : List LineEnd) (line : Line) (e : LineEnd) (h : List (Entry Meaning)) (cs ds : List (ℕ × Entry Meaning)) → Going given done ends h cs → Makes given line e h ds → Going (given_by line e ++ given) (done ++ line ∷ []) (ends ++ e ∷ []) h (cs ++ ds)
gone_on given done ends line e h cs ds before now lines es later more =
    let whole = before (line ∷ lines) (e ∷ es) (ds ++ later) (Goes given line lines e es ds later now more) in
    subst (λ l. AreLines h [] l ((ends ++ e ∷ []) ++ es) ((cs ++ ds) ++ later)) (longer done line lines)
    (subst (λ l. AreLines h [] (done ++ line ∷ lines) l ((cs ++ ds) ++ later)) (longer ends e es)
    (subst (AreLines h [] (done ++ line ∷ lines) (ends ++ e ∷ es)) (sym (append_assoc cs ds later)) whole))

-- or stopped
halted_in : (given : Given) (done : List Line) (ends : List LineEnd) (line : Line) (st : Stop) (h : List (Entry Meaning)) (cs ds : List (ℕ × Entry Meaning)) → Going given done ends h cs → Begins st given line h ds → Halted (done ++ line ∷ []) (ends ++ end.Stopped st ∷ []) h (cs ++ ds)
halted_in given done ends line st h cs ds before now lines es skipped =
    let whole = before (line ∷ lines) (end.Stopped st ∷ es) ds (Stops given line lines st es ds now skipped) in
    subst (λ l. AreLines h [] l ((ends ++ end.Stopped st ∷ []) ++ es) (cs ++ ds)) (longer done line lines)
    (subst (λ l. AreLines h [] (done ++ line ∷ lines) l (cs ++ ds)) (longer ends (end.Stopped st) es) whole)

-- or skipped
skipped_one : (done : List Line) (ends : List LineEnd) (line : Line) (h : List (Entry Meaning)) (cs : List (ℕ × Entry Meaning)) → Halted done ends h cs → Halted (done ++ line ∷ []) (ends ++ end.Skipped ∷ []) h cs
skipped_one done ends line h cs before lines es skipped =
    subst (λ l. AreLines h [] l ((ends ++ end.Skipped ∷ []) ++ es) cs) (longer done line lines) (subst (λ l. AreLines h [] (done ++ line ∷ lines) l cs) (longer ends end.Skipped es) (before (line ∷ lines) (end.Skipped ∷ es) skipped))

-- with no line to come
all_of_them : (lines : List Line) (ends : List LineEnd) (h : List (Entry Meaning)) (cs : List (ℕ × Entry Meaning)) → AreLines h [] (lines ++ []) (ends ++ []) cs → AreLines h [] lines ends cs
all_of_them lines ends h cs are = subst (λ l. AreLines h [] l ends cs) (append-nil lines) (subst (λ l. AreLines h [] (lines ++ []) l cs) (append-nil ends) are)

-- an element of a list of which all are so, by what stands before and behind it
pub next_of_all : {X : Type 0} (P : X → Type 0) (all done rest : List X) (x : X) → all ≡ done ++ x ∷ rest → All P all → P x
next_of_all P all done rest x parts every = All-head P x rest (All-behind P done (x ∷ rest) (subst (All P) parts every))
  where
    All-behind : {X : Type 0} (P : X → Type 0) (xs ys : List X) → All P (xs ++ ys) → All P ys
    All-behind P [] ys a = a
    All-behind P (x ∷ xs) ys a = All-behind P xs ys (All-tail P x (xs ++ ys) a)

-- skipped lines, and one more
pub skipped_last : (lines : List Line) (ends : List LineEnd) (line : Line) (e : LineEnd) → e ≡ end.Skipped → AreSkipped lines ends → AreSkipped (lines ++ line ∷ []) (ends ++ e ∷ [])
skipped_last [] [] line e is are = subst (λ x. AreSkipped (line ∷ []) (x ∷ [])) (sym is) tt
skipped_last (l ∷ ls) (end.Skipped ∷ es) line e is are = skipped_last ls es line e is are
skipped_last [] (x ∷ es) line e is are = absurd are
skipped_last (l ∷ ls) [] line e is are = absurd are
skipped_last (l ∷ ls) (end.Stopped st ∷ es) line e is are = absurd are
skipped_last (l ∷ ls) (end.Replied r ∷ es) line e is are = absurd are
skipped_last (l ∷ ls) (end.Looked k ∷ es) line e is are = absurd are
skipped_last (l ∷ ls) (end.Ran r o ∷ es) line e is are = absurd are
skipped_last (l ∷ ls) (end.Unfound ∷ es) line e is are = absurd are
skipped_last (l ∷ ls) (end.Peeked p ∷ es) line e is are = absurd are

-- an end is a stop, or none
stop_or_none : (e : LineEnd) → ((st : Stop) × (e ≡ end.Stopped st)) ⊎ (is_stopped e ≡ false)
stop_or_none (end.Stopped st) = inl (st, refl)
stop_or_none (end.Replied r) = inr refl
stop_or_none (end.Looked l) = inr refl
stop_or_none (end.Ran r o) = inr refl
stop_or_none end.Unfound = inr refl
stop_or_none (end.Peeked p) = inr refl
stop_or_none end.Skipped = inr refl

module _ {U N : Type 0} (means : U → Meaning) (heard : N → Option Outcome) (jmax : ℕ) where
  -- a line that wasn't stopped
  pub made_of : (given : Given) (line : Line) (e : LineEnd) (v w : View (Entry U)) (a b : List (Notice N)) → is_stopped e ≡ false → HasDone means heard jmax given line e v w a b → Does means heard v w a b (Makes given line e)
  made_of given line (end.Stopped st) v w a b isnt has = absurd (both_ways true isnt refl)
  made_of given line (end.Replied r) v w a b isnt has = has
  made_of given line (end.Looked l) v w a b isnt has = has
  made_of given line (end.Ran r o) v w a b isnt has = has
  made_of given line end.Unfound v w a b isnt has = has
  made_of given line (end.Peeked p) v w a b isnt has = has
  made_of given line end.Skipped v w a b isnt has = has

  -- and the other way
  done_of : (given : Given) (line : Line) (e : LineEnd) (v w : View (Entry U)) (a b : List (Notice N)) → is_stopped e ≡ false → Does means heard v w a b (Makes given line e) → HasDone means heard jmax given line e v w a b
  done_of given line (end.Stopped st) v w a b isnt does = absurd (both_ways true isnt refl)
  done_of given line (end.Replied r) v w a b isnt does = does
  done_of given line (end.Looked l) v w a b isnt does = does
  done_of given line (end.Ran r o) v w a b isnt does = does
  done_of given line end.Unfound v w a b isnt does = does
  done_of given line (end.Peeked p) v w a b isnt does = does
  done_of given line end.Skipped v w a b isnt does = does

  later_of : (given : Given) (line : Line) (e : LineEnd) (v w : View (Entry U)) (a b : List (Notice N)) → HasDone means heard jmax given line e v w a b → StartsWith w.seen v.seen
  later_of given line (end.Stopped st) v w a b has = has.0.did.later
  later_of given line (end.Replied r) v w a b has = has.did.later
  later_of given line (end.Looked l) v w a b has = has.did.later
  later_of given line (end.Ran r o) v w a b has = has.did.later
  later_of given line end.Unfound v w a b has = has.did.later
  later_of given line (end.Peeked p) v w a b has = has.did.later
  later_of given line end.Skipped v w a b has = has.did.later

  stop_of : (given : Given) (line : Line) (st : Stop) (e : LineEnd) (v w : View (Entry U)) (a b : List (Notice N)) → e ≡ end.Stopped st → HasDone means heard jmax given line e v w a b → Does means heard v w a b (Begins st given line) × WasStopped means jmax v.seen w.seen st
  stop_of given line st e v w a b is has = subst (λ x. HasDone means heard jmax given line x v w a b) is has

  -- a line, and then no call
  pub still_done : (given : Given) (line : Line) (e : LineEnd) (v x w : View (Entry U)) (a b : List (Notice N)) → HasDone means heard jmax given line e v x a b → Did means x w Nothing → HasDone means heard jmax given line e v w a b
  still_done given line e v x w a b has quiet = by (stop_or_none e)
    where
      more : (P : Promise) → Does means heard v x a b P → Does means heard v w a b P
      more P does = does_both means heard v x w a b b P Nothing P (λ h cs ds p none. subst (P h) (sym (ap (λ l. cs ++ l) none ∙ append-nil cs)) p) does (does_none means heard x w b Nothing (λ h. refl) quiet)

      by : ((st : Stop) × (e ≡ end.Stopped st)) ⊎ (is_stopped e ≡ false) → HasDone means heard jmax given line e v w a b
      by (inl (st, is)) = let was = stop_of given line st e v x a b is has in
          subst (λ y. HasDone means heard jmax given line y v w a b) (sym is) (more (Begins st given line) was.0, stopped_until means jmax v.seen x.seen w.seen st quiet.later was.1)
      by (inr none) = done_of given line e v w a b none (more (Makes given line e) (made_of given line e v x a b none has))

  -- nothing was done yet
  pub none_done : (table : Given) (v : View (Entry U)) (a : List (Notice N)) → AreSame table [] → HasDoneSome means heard jmax [] [] false table v v a a
  none_done table v a same = record {
    going = λ isnt. ([], same, does_none means heard v v a (Going [] [] []) (λ h lines es later are. are) (nothing_is_done means v));
    halted = λ yes. absurd (both_ways false refl yes);
    causes = λ i st at. absurd (none-some (end.Stopped st) at);
  }

  module _ (lines : List Line) (ends : List LineEnd) (line : Line) (v x w : View (Entry U)) (a b c : List (Notice N)) where
    old_causes : (e : LineEnd) (later : StartsWith w.seen x.seen) → ((i : ℕ) (st : Stop) → slice_get ends i ≡ Some (end.Stopped st) → WasStopped means jmax v.seen x.seen st) → StartsWith x.seen v.seen → ((st : Stop) → e ≡ end.Stopped st → WasStopped means jmax x.seen w.seen st) →
        (i : ℕ) (st : Stop) → slice_get (ends ++ e ∷ []) i ≡ Some (end.Stopped st) → WasStopped means jmax v.seen w.seen st
    old_causes e later old before new i st at = by (pushed_cases ends e i (end.Stopped st) at)
      where
        by : (slice_get ends i ≡ Some (end.Stopped st)) ⊎ ((i ≡ length ends) × (end.Stopped st ≡ e)) → WasStopped means jmax v.seen w.seen st
        by (inl was) = stopped_until means jmax v.seen x.seen w.seen st later (old i st was)
        by (inr last) = stopped_since means jmax v.seen x.seen w.seen st before (new st (sym last.1))

    -- one more line was done, or stopped
    pub one_more : (table after : Given) (e : LineEnd) → HasDoneSome means heard jmax lines ends false table v x a b → ((given : Given) → AreSame table given → HasDone means heard jmax given line e x w b c) →
        ((given : Given) → AreSame table given → is_stopped e ≡ false → AreSame after (given_by line e ++ given)) → HasDoneSome means heard jmax (lines ++ line ∷ []) (ends ++ e ∷ []) (false || is_stopped e) after v w a c
    one_more table after e some done same = by (stop_or_none e)
      where
        went : (given : Given) × AreSame table given × Does means heard v x a b (Going given lines ends)
        went = some.going refl

        has : HasDone means heard jmax went.0 line e x w b c
        has = done went.0 went.1

        causes : (i : ℕ) (st : Stop) → slice_get (ends ++ e ∷ []) i ≡ Some (end.Stopped st) → WasStopped means jmax v.seen w.seen st
        causes = old_causes e (later_of went.0 line e x w b c has) some.causes went.2.did.later (λ st is. (stop_of went.0 line st e x w b c is has).1)

        by : ((st : Stop) × (e ≡ end.Stopped st)) ⊎ (is_stopped e ≡ false) → HasDoneSome means heard jmax (lines ++ line ∷ []) (ends ++ e ∷ []) (false || is_stopped e) after v w a c
        by (inl (st, is)) = record {
          going = λ isnt. absurd (both_ways (is_stopped e) isnt (ap is_stopped is));
          halted = λ yes. subst (λ y. Does means heard v w a c (Halted (lines ++ line ∷ []) (ends ++ y ∷ []))) (sym is)
              (does_both means heard v x w a b c (Going went.0 lines ends) (Begins st went.0 line) (Halted (lines ++ line ∷ []) (ends ++ end.Stopped st ∷ [])) (halted_in went.0 lines ends line st) went.2 (stop_of went.0 line st e x w b c is has).0);
          causes = causes;
        }
        by (inr none) = record {
          going = λ isnt. (
            given_by line e ++ went.0,
            same went.0 went.1 none,
            does_both means heard v x w a b c (Going went.0 lines ends) (Makes went.0 line e) (Going (given_by line e ++ went.0) (lines ++ line ∷ []) (ends ++ e ∷ [])) (gone_on went.0 lines ends line e) went.2 (made_of went.0 line e x w b c none has),
          );
          halted = λ yes. absurd (both_ways (is_stopped e) none yes);
          causes = causes;
        }

    -- one more line was skipped
    pub one_skipped : (table : Given) → HasDoneSome means heard jmax lines ends true table v x a b → w ≡ x → c ≡ b → HasDoneSome means heard jmax (lines ++ line ∷ []) (ends ++ end.Skipped ∷ []) true table v w a c
    one_skipped table some same told = subst (λ y. HasDoneSome means heard jmax (lines ++ line ∷ []) (ends ++ end.Skipped ∷ []) true table v y a c) (sym same)
        (subst (λ l. HasDoneSome means heard jmax (lines ++ line ∷ []) (ends ++ end.Skipped ∷ []) true table v x a l) (sym told) (record {
          going = λ isnt. absurd (both_ways true isnt refl);
          halted = λ yes. does_less means heard v x a b (Halted lines ends) (Halted (lines ++ line ∷ []) (ends ++ end.Skipped ∷ [])) (skipped_one lines ends line) (some.halted refl);
          causes = λ i st at. skipped_causes i st (pushed_cases ends end.Skipped i (end.Stopped st) at);
        }))
      where
        skipped_causes : (i : ℕ) (st : Stop) → (slice_get ends i ≡ Some (end.Stopped st)) ⊎ ((i ≡ length ends) × (end.Stopped st ≡ end.Skipped)) → WasStopped means jmax v.seen x.seen st
        skipped_causes i st (inl was) = some.causes i st was
        skipped_causes i st (inr last) = absurd (both_ways true (ap is_stopped last.1) refl)

  -- all lines were done
  pub all_done : (lines : List Line) (ends : List LineEnd) (stopped : Bool) (table : Given) (v w : View (Entry U)) (a b : List (Notice N)) → HasDoneSome means heard jmax lines ends stopped table v w a b → HasDoneAll means heard jmax lines ends v w a b
  all_done lines ends true table v w a b some = record {
    does = does_less means heard v w a b (Halted lines ends) (MakesAll lines ends) (λ h cs k. all_of_them lines ends h cs (k [] [] tt)) (some.halted refl);
    causes = some.causes;
  }
  all_done lines ends false table v w a b some = let went = some.going refl in record {
    does = does_less means heard v w a b (Going went.0 lines ends) (MakesAll lines ends) (λ h cs k. all_of_them lines ends h cs (subst (AreLines h [] (lines ++ []) (ends ++ [])) (append-nil cs) (k [] [] [] (AtEnd went.0)))) went.2;
    causes = some.causes;
  }

  -- the same, by whether one was stopped before
  pub more_done : (lines : List Line) (ends : List LineEnd) (line : Line) (v x w : View (Entry U)) (a b c : List (Notice N)) (table after : Given) (e : LineEnd) (stopped : Bool) → stopped ≡ false → HasDoneSome means heard jmax lines ends stopped table v x a b → ((given : Given) → AreSame table given → HasDone means heard jmax given line e x w b c) →
      ((given : Given) → AreSame table given → is_stopped e ≡ false → AreSame after (given_by line e ++ given)) → HasDoneSome means heard jmax (lines ++ line ∷ []) (ends ++ e ∷ []) (stopped || is_stopped e) after v w a c
  more_done lines ends line v x w a b c table after e stopped isnt some done same = subst (λ s. HasDoneSome means heard jmax (lines ++ line ∷ []) (ends ++ e ∷ []) (s || is_stopped e) after v w a c) (sym isnt)
      (one_more lines ends line v x w a b c table after e (subst (λ s. HasDoneSome means heard jmax lines ends s table v x a b) isnt some) done same)

  pub skipped_more : (lines : List Line) (ends : List LineEnd) (line : Line) (v x : View (Entry U)) (a b : List (Notice N)) (table : Given) (stopped : Bool) (e : LineEnd) → stopped ≡ true → e ≡ end.Skipped → HasDoneSome means heard jmax lines ends stopped table v x a b →
      HasDoneSome means heard jmax (lines ++ line ∷ []) (ends ++ e ∷ []) (stopped || is_stopped e) table v x a b
  skipped_more lines ends line v x a b table stopped e isso skipped some = subst (λ s. HasDoneSome means heard jmax (lines ++ line ∷ []) (ends ++ e ∷ []) (s || is_stopped e) table v x a b) (sym isso)
      (subst (λ y. HasDoneSome means heard jmax (lines ++ line ∷ []) (ends ++ y ∷ []) true table v x a b) (sym skipped)
      (one_skipped lines ends line v x x a b b table (subst (λ s. HasDoneSome means heard jmax lines ends s table v x a b) isso some) refl refl))
