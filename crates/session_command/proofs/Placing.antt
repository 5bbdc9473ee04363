-- Where the notifiers stand that were put in places.
use Rattle.std.proofs.Common.{arith, ◌≡◌, ℕ, zero, suc, ◌+◌, ◌<◌, ◌≤◌, ◌⊎◌, inl, inr, List, [], ◌∷◌, set, All, length, flat_map, slice_get, Option, None, Some, IfSome, Result, Ok, Err, IfOk, refl, sym, subst, ap, ◌∙◌}
use Rattle.std.specs.Bool.{⊤}
use Rattle.std.specs.Option.{option_to_list}
use Rattle.std.proofs.lemmas.List.{length-set}
use Rattle.std.proofs.lemmas.List.Elements.{All-head, All-tail}
use Rattle.std.proofs.lemmas.Option.{none-some, same_Some, slice_get_within}
use Rattle.list_laws.proofs.Each.{all_at}
use Rattle.list_laws.proofs.Lists.{set_there}
use Rattle.orc_ids.specs.declared.lookup.Outcome.{Outcome}
use Rattle.session_model.specs.Meaning.{Meaning}
use Rattle.session_model.specs.declared.entry.Entry.{Entry}
use Rattle.notifiers.specs.Notices.{AreHeard}
use Rattle.notifiers.specs.declared.notice.Notice.{Notice}
use Rattle.orc_io.specs.Numbers.{AreNumberedFrom}
use Rattle.notifiers.proofs.Back.{all_taken, set_cases}
use Rattle.notifiers.specs.Heard.{AreInOrder}
use Rattle.notifiers.specs.declared.notes.Noted.{Noted}
use Rattle.notifiers.specs.declared.notes.Noted.TheVariants.{Fired, Unfired}
use Rattle.history_laws.specs.NoticeLaws.{IsAmong}
use Rattle.history_laws.specs.Notices.{NoteEnded}
use Rattle.session_command.specs.Notes.{AreBack, HasHeardBy}
use Rattle.session_command.specs.Places.{ArePut, HasHeardNothing, NoneHasHeard, Places, put_told, put_all_told}

-- notifiers that are numbered on: the first, and the others
pub first_numbered : {N : Type 0} (number : N → ℕ) (first : ℕ) (notes rest : List N) (n : N) → notes ≡ n ∷ rest → AreNumberedFrom number first notes → number n ≡ first
first_numbered number first notes rest n is are = omega (arith, subst (AreNumberedFrom number first) is are 0 n refl)

pub rest_numbered : {N : Type 0} (number : N → ℕ) (first : ℕ) (notes rest : List N) (n : N) → notes ≡ n ∷ rest → AreNumberedFrom number first notes → AreNumberedFrom number (first + 1) rest
rest_numbered number first notes rest n is are k m there = omega (arith, subst (AreNumberedFrom number first) is are (suc k) m there)

module _ {N : Type 0} where
  -- Who was told

  abbrev IsFired : Option (Option (Noted N)) → Type 0
  IsFired (Some (Some (Fired what))) = ⊤
  IsFired _ = ⊥

  set_fired : (places : Places N) (i k : ℕ) (what : N) → IsFired (slice_get places k) → IsFired (slice_get (set places i (Some (Fired what))) k)
  set_fired [] i k what fired = fired
  set_fired (o ∷ os) zero zero what fired = tt
  set_fired (o ∷ os) zero (suc k) what fired = fired
  set_fired (o ∷ os) (suc i) zero what fired = fired
  set_fired (o ∷ os) (suc i) (suc k) what fired = set_fired os i k what fired

  told_length : (told : List (Notice N)) (places : Places N) → length (put_told told places) ≡ length places
  told_length [] places = refl
  told_length (f ∷ told) places = told_length told (set places f.note (Some (Fired f.what))) ∙ length-set places f.note (Some (Fired f.what))

  pub all_told_length : (told : List (List (Notice N))) (places : Places N) → length (put_all_told told places) ≡ length places
  all_told_length [] places = refl
  all_told_length (fired ∷ told) places = all_told_length told (put_told fired places) ∙ told_length fired places

  stays_fired : (told : List (Notice N)) (places : Places N) (k : ℕ) → IsFired (slice_get places k) → IsFired (slice_get (put_told told places) k)
  stays_fired [] places k fired = fired
  stays_fired (f ∷ told) places k fired = stays_fired told (set places f.note (Some (Fired f.what))) k (set_fired places f.note k f.what fired)

  all_stay_fired : (told : List (List (Notice N))) (places : Places N) (k : ℕ) → IsFired (slice_get places k) → IsFired (slice_get (put_all_told told places) k)
  all_stay_fired [] places k fired = fired
  all_stay_fired (now ∷ told) places k fired = all_stay_fired told (put_told now places) k (stays_fired now places k fired)

  fired_at : (told : List (Notice N)) (places : Places N) (j : ℕ) (f : Notice N) → slice_get told j ≡ Some f → f.note < length places → IsFired (slice_get (put_told told places) f.note)
  fired_at [] places j f there lt = absurd (none-some f there)
  fired_at (g ∷ told) places zero f there lt =
      let same : g ≡ f = same_Some g f there in
      subst (λ (x : Notice N). IsFired (slice_get (put_told told (set places x.note (Some (Fired x.what)))) f.note)) (sym same)
      (stays_fired told (set places f.note (Some (Fired f.what))) f.note (subst IsFired (sym (set_there places f.note (Some (Fired f.what)) lt)) tt))
  fired_at (g ∷ told) places (suc j) f there lt = fired_at told (set places g.note (Some (Fired g.what))) j f there (omega (arith, lt, length-set places g.note (Some (Fired g.what))))

  all_fired_at : (told : List (List (Notice N))) (places : Places N) (i : ℕ) (fired : List (Notice N)) (j : ℕ) (f : Notice N) → slice_get told i ≡ Some fired → slice_get fired j ≡ Some f → f.note < length places → IsFired (slice_get (put_all_told told places) f.note)
  all_fired_at [] places i fired j f there at lt = absurd (none-some fired there)
  all_fired_at (now ∷ told) places zero fired j f there at lt =
      all_stay_fired told (put_told now places) f.note (subst (λ l. IsFired (slice_get (put_told l places) f.note)) (sym (same_Some now fired there)) (fired_at fired places j f at lt))
  all_fired_at (now ∷ told) places (suc i) fired j f there at lt = all_fired_at told (put_told now places) i fired j f there at (omega (arith, lt, told_length now places))

  module _ (heard : N → Option Outcome) (h : List (Entry Meaning)) where
    -- What they have heard

    abbrev StandsFor : ℕ → Noted N → Type 0
    StandsFor note (Fired what) = (outcome : Outcome) × NoteEnded h note outcome × (heard what ≡ Some outcome)
    StandsFor note (Unfired what) = heard what ≡ None

    abbrev AreSo : Places N → Type 0
    AreSo places = (k : ℕ) (noted : Noted N) → slice_get places k ≡ Some (Some noted) → StandsFor k noted

    -- each was told the end of its note's query, and has heard it
    abbrev pub WereTold : List (Notice N) → Type 0
    WereTold told = All (λ f. NoteEnded h f.note f.outcome) told × AreHeard heard told

    none_so : (places : Places N) → NoneHasHeard heard places → AreSo places
    none_so places none k (Fired what) there = absurd (all_at (λ o. IfSome o (HasHeardNothing heard)) places k (Some (Fired what)) none there)
    none_so places none k (Unfired what) there = all_at (λ o. IfSome o (HasHeardNothing heard)) places k (Some (Unfired what)) none there

    one_so : (places : Places N) (f : Notice N) → AreSo places → NoteEnded h f.note f.outcome → heard f.what ≡ Some f.outcome → AreSo (set places f.note (Some (Fired f.what)))
    one_so places f so ended heard_it k noted there = by (set_cases places f.note k (Some (Fired f.what)) (Some noted) there)
      where
        by : ((k ≡ f.note) × (Some noted ≡ Some (Fired f.what))) ⊎ (slice_get places k ≡ Some (Some noted)) → StandsFor k noted
        by (inl p) = subst (λ j. StandsFor j noted) (sym p.0) (subst (StandsFor f.note) (sym (same_Some noted (Fired f.what) p.1)) (f.outcome, ended, heard_it))
        by (inr t) = so k noted t

    told_so : (told : List (Notice N)) (places : Places N) → WereTold told → AreSo places → AreSo (put_told told places)
    told_so [] places were so = so
    told_so (f ∷ told) places were so = told_so told (set places f.note (Some (Fired f.what)))
        (All-tail (λ g. NoteEnded h g.note g.outcome) f told were.0, All-tail (λ g. heard g.what ≡ Some g.outcome) f told were.1)
        (one_so places f so (All-head (λ g. NoteEnded h g.note g.outcome) f told were.0) (All-head (λ g. heard g.what ≡ Some g.outcome) f told were.1))

    all_told_so : (told : List (List (Notice N))) (places : Places N) → All WereTold told → AreSo places → AreSo (put_all_told told places)
    all_told_so [] places were so = so
    all_told_so (now ∷ told) places were so = all_told_so told (put_told now places) (All-tail WereTold now told were) (told_so now places (All-head WereTold now told were) so)

    -- all ends of notes' queries are among those that were told
    abbrev pub AllWereTold : List (List (Notice N)) → Type 0
    AllWereTold told = (note : ℕ) (outcome : Outcome) → NoteEnded h note outcome → (i : ℕ) × (fired : List (Notice N)) × (slice_get told i ≡ Some fired) × IsAmong note outcome fired

    are_noted : (count : ℕ) (told : List (List (Notice N))) (back : List (Noted N)) → ArePut heard count told back → All WereTold told → AllWereTold told → length back ≡ count → (k : ℕ) (noted : Noted N) → slice_get back k ≡ Some noted → HasHeardBy heard h k noted
    are_noted count told back put were all size k noted there = each k noted (stands k noted there)
      where
        places : Places N
        places = put_all_told told put.others

        long : length places ≡ count
        long = all_told_length told put.others ∙ put.size

        full : length (flat_map option_to_list places) ≡ length places
        full = ap length (sym put.are) ∙ (size ∙ sym long)

        stands : (k : ℕ) (noted : Noted N) → slice_get back k ≡ Some noted → slice_get places k ≡ Some (Some noted)
        stands k noted there = all_taken places full k noted (subst (λ l. slice_get l k ≡ Some noted) put.are there)

        so : AreSo places
        so = all_told_so told put.others were (none_so put.others put.unheard)

        silent : (k : ℕ) (what : N) → slice_get places k ≡ Some (Some (Unfired what)) → (outcome : Outcome) → NoteEnded h k outcome → ⊥
        silent k what there outcome ended =
            let t = all k outcome ended in
            let lt : k < length put.others = omega (arith, slice_get_within places k (Some (Unfired what)) there, all_told_length told put.others) in
            let f = t.3 in
            let fired = all_fired_at told put.others t.0 t.1 f.0 f.1 t.2 f.2 (subst (λ n. n < length put.others) (sym f.3) lt) in
            subst IsFired there (subst (λ n. IsFired (slice_get places n)) f.3 fired)

        each : (k : ℕ) (noted : Noted N) → slice_get places k ≡ Some (Some noted) → HasHeardBy heard h k noted
        each k (Fired what) there = so k (Fired what) there
        each k (Unfired what) there = (so k (Unfired what) there, silent k what there)

-- so all came back
pub are_back : {N : Type 0} (heard : N → Option Outcome) (number : N → ℕ) (h : List (Entry Meaning)) (count : ℕ) (told : List (List (Notice N))) (back : List (Noted N)) → ArePut heard count told back → All (WereTold heard h) told → AllWereTold heard h told → length back ≡ count → AreInOrder number back →
    AreBack heard number h count back
are_back heard number h count told back put were all size order = record { all = size; in_order = order; each = are_noted heard h count told back put were all size }

-- what the places hold in the end was put there
pub put_back : {N E : Type 0} (heard : N → Option Outcome) (count : ℕ) (told : List (List (Notice N))) (others : Places N) (r : Result (List (Noted N)) E) →
    length others ≡ count → NoneHasHeard heard others → IfOk r (λ notes. notes ≡ flat_map option_to_list (put_all_told told others)) → IfOk r (ArePut heard count told)
put_back heard count told others (Ok notes) size unheard are = record { others = others; size = size; unheard = unheard; are = are }
put_back heard count told others (Err e) size unheard are = tt

-- and stands in order, where all came back
pub back_ordered : {N E : Type 0} (number : N → ℕ) (told : List (List (Notice N))) (others : Places N) (r : Result (List (Noted N)) E) (count : ℕ) → length others ≡ count → IfOk r (λ notes. length notes ≡ length (put_all_told told others) → AreInOrder number notes) →
    IfOk r (λ notes. length notes ≡ count → AreInOrder number notes)
back_ordered number told others (Ok notes) count size are = λ all. are (all ∙ sym (all_told_length told others ∙ size))
back_ordered number told others (Err e) count size are = tt
