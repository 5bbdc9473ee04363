-- A store and a load of a post keep the rule.
use Rattle.std.proofs.Common.{◌≡◌, ◌≢◌, ℕ, zero, suc, ◌<◌, ◌≤◌, List, [], ◌∷◌, ◌++◌, length, set, get_or, refl, sym, ap, ◌∙◌, subst, arith, All, Option, ⊎_elim, append-nil, append_assoc, length-set}
use Rattle.std.proofs.lemmas.List.{set-get_or}
use Rattle.std.proofs.lemmas.List.Elements.{All-cons, All-head, All-weaker}
use mathlib.Core.Logic.{dite}
use mathlib.Core.Option.{none, some, some-injective}
use native.Mathlib.Decide.{ℕ_discrete}
use lib.ListN.{get_elem?}
use Rattle.atomic_table.specs.Table.{State, Me, step, keeps, Allows}
use Rattle.atomic_table.proofs.Lists.{set_here, set_else, at_set}
use Rattle.turn_lock.specs.declared.view.View.{View}
use Rattle.turn_lock.specs.Lists.{StartsWith}
use Rattle.turn_lock.specs.Views.{notes, finds_post}
use Rattle.turn_lock.specs.Rule.{Use, Fits, Kept}
use Rattle.turn_lock.specs.Told.{Shows, post_at, Posted, FoundPost}
use Rattle.turn_lock.proofs.Parts.{set_each, still_taken}
use Rattle.turn_lock.proofs.Steps.{revises}

module _ {E : Type 0} (lawful : List E → Type 0) (posted : List E → ℕ → ℕ → Type 0) where
  -- what is posted by a beginning of a lawful history is posted by all of it
  pub still_posted : ((before more : List E) → lawful (before ++ more) → lawful before) → ((before : List E) (e : E) (k v : ℕ) → lawful (before ++ e ∷ []) → posted before k v → posted (before ++ e ∷ []) k v)
      → (k v : ℕ) (seen more : List E) → lawful (seen ++ more) → posted seen k v → posted (seen ++ more) k v
  still_posted before stays k v seen [] legal p = subst (λ (l : List E). posted l k v) (sym (append-nil seen)) p
  still_posted before stays k v seen (e ∷ es) legal p =
      let same : (seen ++ e ∷ []) ++ es ≡ seen ++ e ∷ es = append_assoc seen (e ∷ []) es in
      let legal' : lawful ((seen ++ e ∷ []) ++ es) = subst lawful (sym same) legal in
      subst (λ (l : List E). posted l k v) same (still_posted before stays k v (seen ++ e ∷ []) es legal' (stays seen e k v (before (seen ++ e ∷ []) es legal') p))

module _ {E : Type 0} (seat_of : E → ℕ) where
  -- the same view, but for what it knows of posts
  pub fits_noting : (seats : ℕ) (log : List E) (turn : ℕ) (posts posts' : List ℕ) (keeper : ℕ) (holder : ℕ → ℕ × Use) (place : ℕ) (v : View E) (noted : List (ℕ × ℕ)) (zeros : List ℕ)
      → All (λ (p : ℕ × ℕ). (get_elem? posts' p.0 ≡ some p.1) × (p.1 ≢ 0)) noted
      → Fits seat_of seats log turn posts keeper holder place v → Fits seat_of seats log turn posts' keeper holder place (record v { noted = noted; zeros = zeros })
  fits_noting seats log turn posts posts' keeper holder place v noted zeros all f = record {
    seen = f.seen;
    told = f.told;
    has_turn = f.has_turn;
    has_closed = f.has_closed;
    noted = all;
    numbers = λ b. let n = f.numbers b in record { own = n.own; ended = n.ended; apart = n.apart; spare = n.spare; seats_are = n.seats_are };
    own = f.own;
    accounts = λ b. let a = f.accounts b in record { mine = a.mine; ended = a.ended; spare = a.spare; below = a.below };
  }

module _ {T E : Type 0} (history : T → List E) (seat_of : E → ℕ) (lawful : List E → Type 0) (posted : List E → ℕ → ℕ → Type 0) where
  abbrev Rule : ℕ × ℕ → State (Option T) (View E) → Type 0
  Rule = Kept history seat_of lawful posted

  -- a word behind the count and the turn is a post
  is_post : (i : ℕ) → 2 ≤ i → i ≡ suc (suc (post_at i))
  is_post i high = omega arith

  post_of : (c t : ℕ) (posts : List ℕ) (k : ℕ) → get_or (c ∷ t ∷ posts) (suc (suc k)) 0 ≡ get_or posts k 0
  post_of c t posts k = refl

  -- what a list has at a place is what its lookup gives
  at_place : (l : List ℕ) (k : ℕ) → k < length l → get_elem? l k ≡ some (get_or l k 0)
  at_place [] k low = absurd (omega arith)
  at_place (x ∷ xs) zero low = refl
  at_place (x ∷ xs) (suc k) low = at_place xs k (omega arith)

  pub loads_post : (key : ℕ × ℕ) (slots id i : ℕ) (me : Me (Option T) (View E)) → 2 ≤ i → post_at i < key.1
      → Allows (Rule key) slots id me i (λ n. n) (FoundPost (step slots i 0 0 none) me)
  loads_post key slots id i me high low s r deep at _ =
      let v = me.0 in
      let f = r.each id v at in
      let k : ℕ = post_at i in
      let n : ℕ = get_or s.words i 0 in
      let found : n ≡ get_or r.posts k 0 = ap (λ (ws : List ℕ). get_or ws i 0) r.words ∙ ap (λ (j : ℕ). get_or (length r.log ∷ r.turn ∷ r.posts) j 0) (is_post i high) in
      let there : get_elem? r.posts k ≡ some n = at_place r.posts k (subst (λ (c : ℕ). k < c) (sym r.post_count) low) ∙ ap some (sym found) in
      let w : View E = finds_post k n v in (
        w,
        keeps,
        tt,
        revises history seat_of lawful posted key s r (set s.words i n) id v w (set-get_or s.words i 0) at (same_turn k v n) (fits r.posts key.0 r.log r.turn r.keeper r.holder id k v n there f),
        (refl, λ j d l. λ same. some-injective _ _ (sym there ∙ (ap (get_elem? r.posts) (sym same) ∙ (f.noted j d l).0))),
      )
    where
      same_turn : (k : ℕ) (v : View E) (n : ℕ) → v.turn ≡ (finds_post k n v).turn
      same_turn k v zero = refl
      same_turn k v (suc n) = refl

      fits : (posts : List ℕ) (seats : ℕ) (log : List E) (turn keeper : ℕ) (holder : ℕ → ℕ × Use) (place k : ℕ) (v : View E) (n : ℕ) → get_elem? posts k ≡ some n
          → Fits seat_of seats log turn posts keeper holder place v → Fits seat_of seats log turn posts keeper holder place (finds_post k n v)
      fits posts seats log turn keeper holder place k v zero there f = fits_noting seat_of seats log turn posts posts keeper holder place v v.noted (v.zeros ++ k ∷ []) f.noted f
      fits posts seats log turn keeper holder place k v (suc n) there f = fits_noting seat_of seats log turn posts posts keeper holder place v ((k, suc n) ∷ v.noted) v.zeros
          (All-cons (λ (p : ℕ × ℕ). (get_elem? posts p.0 ≡ some p.1) × (p.1 ≢ 0)) (k, suc n) v.noted (there, λ e. absurd (omega arith)) f.noted) f

  abbrev Notes : List ℕ → ℕ × ℕ → Type 0
  Notes posts p = (get_elem? posts p.0 ≡ some p.1) × (p.1 ≢ 0)

  -- what was noted of posts still stands there after a post was filled by what the history shows
  still_noted : (once : (log : List E) (k v w : ℕ) → lawful log → posted log k v → posted log k w → v ≡ w) (log : List E) → lawful log → (posts : List ℕ) → ((k v : ℕ) → get_elem? posts k ≡ some v → v ≢ 0 → posted log k v)
      → (k x : ℕ) → k < length posts → posted log k x → (noted : List (ℕ × ℕ)) → All (Notes posts) noted → All (Notes (set posts k x)) noted
  still_noted once log legal posts filled k x low shown noted all = All-weaker (Notes posts) (Notes (set posts k x)) one noted all
    where
      one : (p : ℕ × ℕ) → Notes posts p → Notes (set posts k x) p
      one p n = dite (ℕ_discrete p.0 k)
          (λ same. let is : x ≡ p.1 = once log k x p.1 legal shown (subst (λ (j : ℕ). posted log j p.1) same (filled p.0 p.1 n.0 n.1)) in
          (subst (λ (j : ℕ). get_elem? (set posts k x) j ≡ some p.1) (sym same) (set_here posts k x low ∙ ap some is), n.1))
          (λ other. (set_else posts k p.0 x other ∙ n.0, n.1))

  pub stores_post : (key : ℕ × ℕ) (slots id i x : ℕ) (me : Me (Option T) (View E))
      → ((before more : List E) → lawful (before ++ more) → lawful before) → ((before : List E) (e : E) (k v : ℕ) → lawful (before ++ e ∷ []) → posted before k v → posted (before ++ e ∷ []) k v)
      → ((log : List E) (k v w : ℕ) → lawful log → posted log k v → posted log k w → v ≡ w)
      → 2 ≤ i → post_at i < key.1 → x ≢ 0 → posted me.0.seen (post_at i) x
      → Allows (Rule key) slots id me i (λ _. x) (λ _. Posted (step slots i x 0 none) me x)
  stores_post key slots id i x me before stays once high low some_x shown s r deep at _ =
      let v = me.0 in
      let f = r.each id v at in
      let k : ℕ = post_at i in
      let there : k < length r.posts = subst (λ (c : ℕ). k < c) (sym r.post_count) low in
      let seen : StartsWith r.log v.seen = f.seen in
      let legal : lawful (v.seen ++ seen.0) = subst lawful seen.1 r.legal in
      let shown' : posted r.log k x = subst (λ (l : List E). posted l k x) (sym seen.1) (still_posted lawful posted before stays k x v.seen seen.0 legal shown) in
      let posts' : List ℕ = set r.posts k x in
      let noted' : (u : View E) → All (Notes r.posts) u.noted → All (Notes posts') u.noted = λ u all. still_noted once r.log r.legal r.posts r.filled k x there shown' u.noted all in
      let w : View E = notes k x v in (
        w,
        keeps,
        tt,
        record {
          log = r.log;
          turn = r.turn;
          posts = posts';
          keeper = r.keeper;
          holder = r.holder;
          words = ap (λ (ws : List ℕ). set ws i x) r.words ∙ ap (λ (j : ℕ). set (length r.log ∷ r.turn ∷ r.posts) j x) (is_post i high);
          post_count = length-set r.posts k x ∙ r.post_count;
          turn_is = r.turn_is;
          legal = r.legal;
          filled = λ j y p ne. ⊎_elim (λ (t : (j ≡ k) × (x ≡ y)). subst (λ (q : ℕ × ℕ). posted r.log q.0 q.1) (λ d. (sym t.0 d, t.1 d)) shown') (λ (t : (j ≢ k) × (get_elem? r.posts j ≡ some y)). r.filled j y t.1 ne) (at_set r.posts k j x y p);
          home = r.home;
          taken = λ t. still_taken s.views r.keeper id v w at refl (r.taken t);
          closed = r.closed;
          each = set_each (Fits seat_of key.0 r.log r.turn posts' r.keeper r.holder) s.views id w
              (fits_noting seat_of key.0 r.log r.turn r.posts posts' r.keeper r.holder id v ((k, x) ∷ v.noted) v.zeros
              (All-cons (Notes posts') (k, x) v.noted (set_here r.posts k x there, some_x) (noted' v f.noted)) f)
              (λ j u _ e. let g = r.each j u e in fits_noting seat_of key.0 r.log r.turn r.posts posts' r.keeper r.holder j u u.noted u.zeros (noted' u g.noted) g);
        },
        refl,
      )

module _ {E : Type 0} (seat_of : E → ℕ) (lawful : List E → Type 0) (posted : List E → ℕ → ℕ → Type 0) where
  -- what a post was found to hold the history shows, once it was seen
  shown_of : (log : List E) (k n : ℕ) (v : View E) → Shows seat_of lawful posted log (finds_post k n v) → n ≢ 0 → posted log k n
  shown_of log k zero v s some_n = absurd (some_n refl)
  shown_of log k (suc n) v s some_n = All-head (λ (p : ℕ × ℕ). posted log p.0 p.1) (k, suc n) v.noted s.noted

  pub post_shown : (log seen : List E) (i k n : ℕ) (v u : View E) → seen ≡ log → k ≡ post_at i → u ≡ finds_post (post_at i) n v → Shows seat_of lawful posted log u → n ≢ 0 → posted seen k n
  post_shown log seen i k n v u same its is s some_n =
      subst (λ (p : List E × ℕ). posted p.0 p.1 n) (λ d. (sym same d, sym its d)) (shown_of log (post_at i) n v (subst (Shows seat_of lawful posted log) is s) some_n)
