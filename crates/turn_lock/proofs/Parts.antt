-- The parts of the rule: what holds of one view, and how it goes on as the views, the history and the holders change.
use Rattle.std.proofs.Common.{◌≡◌, ◌≢◌, ℕ, ◌-◌, ◌<◌, List, [], ◌∷◌, ◌++◌, set, Bool, true, false, true≢false, sym, ap, ◌∙◌, subst, ⊎_elim, arith, slice_index_or}
use Rattle.std.proofs.lemmas.List.Kept.{AllPairs-cons}
use Rattle.std.proofs.lemmas.List.Elements.{All-append, All-cons, All-head, All-tail, All-nil}
use mathlib.Core.Logic.{dite}
use mathlib.Core.Option.{some, some-injective}
use native.Mathlib.Decide.{ℕ_discrete}
use lib.ListN.{get_elem?}
use Rattle.atomic_table.proofs.Lists.{at_set, set_here, set_else}
use Rattle.turn_lock.specs.declared.view.View.{View}
use Rattle.turn_lock.specs.Lists.{StartsWith, unused}
use Rattle.turn_lock.specs.Rule.{Use, owned, took_in, spared, Accounts, Differ, Numbers}
use Rattle.turn_lock.specs.Views.{tried, learns}
use Rattle.turn_lock.specs.Told.{Shows}
use Rattle.turn_lock.proofs.Entries.{within, all_front, pairs_append, unused_all, unused_differ, entry_of_it, entry_of_other}

pub off : false ≡ true → ⊥
off e = true≢false (sym e)

pub owned_took_in : owned ≡ took_in → ⊥
owned_took_in e = cc

pub owned_spared : owned ≡ spared → ⊥
owned_spared e = cc

pub took_in_spared : took_in ≡ spared → ⊥
took_in_spared e = cc

module _ {E : Type 0} where
  -- what holds of each view still does after one of them was set
  pub set_each : (F : ℕ → View E → Type 0) (vs : List (View E)) (id : ℕ) (w : View E) → F id w → ((j : ℕ) (u : View E) → j ≢ id → get_elem? vs j ≡ some u → F j u) → (j : ℕ) (u : View E) → get_elem? (set vs id w) j ≡ some u → F j u
  set_each F vs id w mine others j u e = ⊎_elim (λ (t : (j ≡ id) × (w ≡ u)). subst (λ (x : ℕ × View E). F x.0 x.1) (λ i. (sym t.0 i, t.1 i)) mine)
      (λ (t : (j ≢ id) × (get_elem? vs j ≡ some u)). others j u t.0 t.1) (at_set vs id j w u e)

  -- a view at the place of another is the other
  pub one_there : (vs : List (View E)) (id : ℕ) (v w : View E) → get_elem? vs id ≡ some v → get_elem? vs id ≡ some w → v ≡ w
  one_there vs id v w a b = some-injective v w (sym a ∙ b)

  abbrev pub Taken : List (View E) → ℕ → Type 0
  Taken vs keeper = (v : View E) × (get_elem? vs keeper ≡ some v) × (v.turn ≡ true)

  -- the view with the turn still has it after a view was set to one that has the turn as before
  pub still_taken : (vs : List (View E)) (keeper id : ℕ) (v w : View E) → get_elem? vs id ≡ some v → v.turn ≡ w.turn → Taken vs keeper → Taken (set vs id w) keeper
  still_taken vs keeper id v w at same t = dite (ℕ_discrete keeper id)
      (λ e. let there : get_elem? vs id ≡ some t.0 = subst (λ (k : ℕ). get_elem? vs k ≡ some t.0) e t.1 in
      (w, subst (λ (k : ℕ). get_elem? (set vs id w) k ≡ some w) (sym e) (set_here vs id w (within vs id v at)), sym same ∙ (ap (λ (u : View E). u.turn) (one_there vs id v t.0 at there) ∙ t.2)))
      (λ ne. (t.0, set_else vs id keeper w ne ∙ t.1, t.2))

  pub untaken : (vs : List (View E)) (keeper id : ℕ) (v w : View E) → get_elem? vs id ≡ some v → v.turn ≡ false → Taken vs keeper → Taken (set vs id w) keeper
  untaken vs keeper id v w at free t = dite (ℕ_discrete keeper id)
      (λ e. let there : get_elem? vs id ≡ some t.0 = subst (λ (k : ℕ). get_elem? vs k ≡ some t.0) e t.1 in absurd (off (sym free ∙ (ap (λ (u : View E). u.turn) (one_there vs id v t.0 at there) ∙ t.2))))
      (λ ne. (t.0, set_else vs id keeper w ne ∙ t.1, t.2))

module _ {E : Type 0} (seat_of : E → ℕ) where
  -- the same accounts and numbers, of a view that differs in the rest
  pub recount : (log : List E) (v : View E) (turn shuts : Bool) (seen : List E) (told : List (List E)) (found : ℕ) → Accounts seat_of log v → Accounts seat_of log (record v { turn = turn; shuts = shuts; seen = seen; told = told; found = found })
  recount log v turn shuts seen told found a = record { mine = a.mine; ended = a.ended; spare = a.spare; below = a.below }

  pub renumber : (seats : ℕ) (holder : ℕ → ℕ × Use) (place : ℕ) (v : View E) (turn shuts : Bool) (seen : List E) (told : List (List E)) (mine : List E) (found : ℕ)
      → Numbers seat_of seats holder place v → Numbers seat_of seats holder place (record v { turn = turn; shuts = shuts; seen = seen; told = told; mine = mine; found = found })
  renumber seats holder place v turn shuts seen told mine found n = record { own = n.own; ended = n.ended; apart = n.apart; spare = n.spare; seats_are = n.seats_are }

  -- a view's numbers stay its own where the holders of these numbers stay
  pub keep_numbers : (seats : ℕ) (holder holder' : ℕ → ℕ × Use) (place : ℕ) (v : View E) → ((n : ℕ) (use' : Use) → holder n ≡ (place, use') → holder' n ≡ (place, use'))
      → Numbers seat_of seats holder place v → Numbers seat_of seats holder' place v
  keep_numbers seats holder holder' place v stays n = record {
    own = (n.own.0, stays v.number owned n.own.1);
    ended = λ k d l. let t = n.ended k d l in (t.0, stays _ took_in t.1);
    apart = n.apart;
    spare = λ k low high. let t = n.spare k low high in (t.0, stays k spared t.1);
    seats_are = n.seats_are;
  }

  -- the numbers of a view all differ, since each is kept for one use
  pub all_differ : (seats : ℕ) (holder : ℕ → ℕ × Use) (place : ℕ) (v : View E) → Numbers seat_of seats holder place v → Differ v
  all_differ seats holder place v n =
      let R : ℕ × List E → ℕ × List E → Type 0 = λ p q. p.0 ≢ q.0 in
      let rest : List (ℕ × List E) = unused v.spare_from (v.spare_to - v.spare_from) in
      let other : (m k : ℕ) (one two : Use) → (one ≡ two → ⊥) → holder m ≡ (place, one) → holder k ≡ (place, two) → m ≢ k = λ m k one two apart a b e. apart (ap (λ (x : ℕ × Use). x.1) (sym a ∙ (ap holder e ∙ b))) in
      AllPairs-cons R (v.number, v.mine) (v.ended ++ rest)
      (All-append (R (v.number, v.mine)) v.ended rest (λ k d l. other v.number _ owned took_in owned_took_in n.own.1 (n.ended k d l).1)
      (unused_all (R (v.number, v.mine)) v.spare_from (v.spare_to - v.spare_from) (λ m low high. other v.number m owned spared owned_spared n.own.1 (n.spare m low (omega arith)).1)))
      (pairs_append R v.ended rest n.apart (unused_differ v.spare_from (v.spare_to - v.spare_from))
      (λ k d l. unused_all (R (slice_index_or v.ended k d)) v.spare_from (v.spare_to - v.spare_from) (λ m low high. other _ m took_in spared took_in_spared (n.ended k d l).1 (n.spare m low (omega arith)).1)))

  -- an entry of a number that another view owns leaves the accounts of this view as they were
  pub other_accounts : (seats : ℕ) (holder : ℕ → ℕ × Use) (place id number : ℕ) (v : View E) (log : List E) (e : E) → place ≢ id → seat_of e ≡ number → number < seats → holder number ≡ (id, owned)
      → Numbers seat_of seats holder place v → Accounts seat_of log v → Accounts seat_of (log ++ e ∷ []) v
  other_accounts seats holder place id number v log e apart is low mine n a =
      let differs : (m : ℕ) (use' : Use) → holder m ≡ (place, use') → seat_of e ≢ m = λ m use' h same. apart (ap (λ (x : ℕ × Use). x.0) (sym h ∙ (ap holder (sym same ∙ is) ∙ mine))) in record {
        mine = entry_of_other seat_of v.number log e (differs v.number owned n.own.1) ∙ a.mine;
        ended = λ k d l. entry_of_other seat_of _ log e (differs _ took_in (n.ended k d l).1) ∙ a.ended k d l;
        spare = λ k low' high. entry_of_other seat_of k log e (differs k spared (n.spare k low' high).1) ∙ a.spare k low' high;
        below = All-append (λ x. seat_of x < v.seats) log (e ∷ []) a.below (All-cons (λ x. seat_of x < v.seats) e [] (subst (λ (m : ℕ). m < v.seats) (sym is) (subst (λ (m : ℕ). number < m) (sym n.seats_are) low)) (All-nil (λ x. seat_of x < v.seats)));
      }

  -- an entry of a view's own number is one more of its mine
  pub own_accounts : (seats : ℕ) (holder : ℕ → ℕ × Use) (place : ℕ) (v : View E) (log : List E) (e : E) → seat_of e ≡ v.number
      → Numbers seat_of seats holder place v → Accounts seat_of log v → Accounts seat_of (log ++ e ∷ []) (record v { seen = v.seen ++ e ∷ []; mine = v.mine ++ e ∷ [] })
  own_accounts seats holder place v log e is n a =
      let differs : (m : ℕ) (use' : Use) → (owned ≡ use' → ⊥) → holder m ≡ (place, use') → seat_of e ≢ m = λ m use' other h same. other (ap (λ (x : ℕ × Use). x.1) (sym n.own.1 ∙ (ap holder (sym is ∙ same) ∙ h))) in record {
        mine = entry_of_it seat_of v.number log e is ∙ ap (λ (l : List E). l ++ e ∷ []) a.mine;
        ended = λ k d l. entry_of_other seat_of _ log e (differs _ took_in owned_took_in (n.ended k d l).1) ∙ a.ended k d l;
        spare = λ k low' high. entry_of_other seat_of k log e (differs k spared owned_spared (n.spare k low' high).1) ∙ a.spare k low' high;
        below = All-append (λ x. seat_of x < v.seats) log (e ∷ []) a.below (All-cons (λ x. seat_of x < v.seats) e [] (subst (λ (m : ℕ). m < v.seats) (sym is) (subst (λ (m : ℕ). v.number < m) (sym n.seats_are) n.own.0)) (All-nil (λ x. seat_of x < v.seats)));
      }

module _ {E : Type 0} (seat_of : E → ℕ) (lawful : List E → Type 0) (posted : List E → ℕ → ℕ → Type 0) where
  -- what was told to a seat that had tried in vain so often holds of the seat as it began
  pub told_tried : (log : List E) (v u : View E) (found : ℕ) → u ≡ tried found v → Shows seat_of lawful posted log u → Shows seat_of lawful posted log v
  told_tried log v u found same told = let s = subst (Shows seat_of lawful posted log) same told in record {
    later = s.later;
    told = s.told;
    own = s.own;
    legal = s.legal;
    accounts = recount seat_of log (tried found v) v.turn v.shuts v.seen v.told v.found s.accounts;
    differ = s.differ;
    noted = s.noted;
  }

  -- what was told to a seat that had taken in a note holds of the seat before, and the history begins with the note
  pub told_note : (log : List E) (v w : View E) → Shows seat_of lawful posted log (learns v w) → Shows seat_of lawful posted log v × StartsWith log w.seen
  told_note log v w s = (
    record {
      later = s.later;
      told = all_front (StartsWith log) v.told w.told (All-tail (StartsWith log) w.seen (v.told ++ w.told) s.told);
      own = s.own;
      legal = s.legal;
      accounts = recount seat_of log (learns v w) v.turn v.shuts v.seen v.told v.found s.accounts;
      differ = s.differ;
      noted = s.noted;
    },
    All-head (StartsWith log) w.seen (v.told ++ w.told) s.told,
  )

  -- the same, of a view that is given
  pub told_by_note : (log : List E) (v w u : View E) → u ≡ learns v w → Shows seat_of lawful posted log u → Shows seat_of lawful posted log v × StartsWith log w.seen
  told_by_note log v w u same told = told_note log v w (subst (Shows seat_of lawful posted log) same told)
