-- The opening, and views that are split and joined, keep the rule.
use Rattle.std.proofs.Common.{◌≡◌, ◌≢◌, ◌⊎◌, ℕ, zero, suc, ◌-◌, ◌<◌, ◌≤◌, eqb, List, [], ◌∷◌, ◌++◌, length, replicate, set, Bool, true, false, cond, refl, sym, ap, ◌∙◌, subst, ⊎_elim, inl, inr, arith, All, slice_index_or, Option, Some, None, length-set, eq-eqb, ne_eqb}
use Rattle.std.proofs.lemmas.List.{length-replicate}
use Rattle.std.proofs.lemmas.List.Elements.{All-append, All-cons, All-nil, All-weaker}
use mathlib.Core.Option.{some, some-ne-none, some-injective}
use lib.ListN.{get_elem?}
use Rattle.atomic_table.specs.Table.{State, Splits, Joins, opening, Final, Seen}
use Rattle.atomic_table.proofs.Lists.{at_set, set_else, at_longer}
use Rattle.turn_lock.specs.declared.view.View.{View}
use Rattle.turn_lock.specs.Lists.{StartsWith, entries_of, shorter, unused}
use Rattle.turn_lock.specs.Views.{first_view, spent, spares_less, split_off, note_of, learns, handed_on, joined}
use Rattle.turn_lock.specs.Rule.{Use, owned, took_in, spared, Fits, Kept}
use Rattle.turn_lock.proofs.Entries.{at_end, starts_empty, starts_longer, starts_shorter, none_seen, own_longer, unused_all, pairs_nil, pairs_append}
use Rattle.turn_lock.proofs.Parts.{off, set_each, still_taken, untaken, keep_numbers, all_differ}

-- the number now stands with the view at this place, as its own
abbrev given : ℕ → ℕ → (ℕ → ℕ × Use) → ℕ → ℕ × Use
given number place holder n = cond (eqb n number) (place, owned) (holder n)

given_here : (number place : ℕ) (holder : ℕ → ℕ × Use) → given number place holder number ≡ (place, owned)
given_here number place holder = ap (λ (c : Bool). cond c (place, owned) (holder number)) (eq-eqb number number refl)

given_else : (number place : ℕ) (holder : ℕ → ℕ × Use) (n : ℕ) → n ≢ number → given number place holder n ≡ holder n
given_else number place holder n other = ap (λ (c : Bool). cond c (place, owned) (holder n)) (ne_eqb n number other)

-- all numbers of the view at `other` now stand with the view at this place, as taken in
abbrev handed : ℕ → ℕ → (ℕ → ℕ × Use) → ℕ → ℕ × Use
handed other place holder n = cond (eqb (holder n).0 other) (place, took_in) (holder n)

handed_here : (other place : ℕ) (holder : ℕ → ℕ × Use) (n : ℕ) (use' : Use) → holder n ≡ (other, use') → handed other place holder n ≡ (place, took_in)
handed_here other place holder n use' h = ap (λ (c : Bool). cond c (place, took_in) (holder n)) (eq-eqb (holder n).0 other (ap (λ (x : ℕ × Use). x.0) h))

handed_else : (other place : ℕ) (holder : ℕ → ℕ × Use) (n at : ℕ) (use' : Use) → at ≢ other → holder n ≡ (at, use') → handed other place holder n ≡ (at, use')
handed_else other place holder n at use' apart h = ap (λ (c : Bool). cond c (place, took_in) (holder n)) (ne_eqb (holder n).0 other (λ e. apart (sym (ap (λ (x : ℕ × Use). x.0) h) ∙ e))) ∙ h

module _ {T E : Type 0} (history : T → List E) (seat_of : E → ℕ) (lawful : List E → Type 0) (posted : List E → ℕ → ℕ → Type 0) where
  abbrev Rule : ℕ × ℕ → State (Option T) (View E) → Type 0
  Rule = Kept history seat_of lawful posted

  -- the posts are empty at first
  pub opens : (seats count : ℕ) (posts : List ℕ) (x : T) → 0 < seats → length posts ≡ count → ((k v : ℕ) → get_elem? posts k ≡ some v → v ≡ 0) → history x ≡ [] → lawful []
      → Rule (seats, count) (opening (0 ∷ 0 ∷ posts) (Some x ∷ []) (first_view (seats, count)))
  opens seats count posts x some_seat wide blank none_yet legal = record {
    log = [];
    turn = 0;
    posts = posts;
    keeper = 0;
    holder = holder;
    words = refl;
    post_count = wide;
    turn_is = omega arith;
    legal = legal;
    filled = λ k v p ne. absurd (ne (blank k v p));
    home = λ _. (x, refl, none_yet);
    taken = λ no. absurd (omega arith);
    closed = λ no. absurd (omega arith);
    each = one;
  }
    where
      holder : ℕ → ℕ × Use
      holder zero = (0, owned)
      holder (suc n) = (0, spared)

      first : View E
      first = first_view (seats, count)

      spares : (n : ℕ) → 1 ≤ n → holder n ≡ (0, spared)
      spares zero low = absurd (omega arith)
      spares (suc n) low = refl

      one : (place : ℕ) (v : View E) → get_elem? (first ∷ []) place ≡ some v → Fits seat_of seats [] 0 posts 0 holder place v
      one zero v e = subst (Fits seat_of seats [] 0 posts 0 holder 0) (some-injective first v e) (record {
        seen = starts_empty [];
        told = All-nil (StartsWith []);
        has_turn = λ no. absurd (off no);
        has_closed = λ no. absurd (off no);
        noted = All-nil (λ p. (get_elem? posts p.0 ≡ some p.1) × (p.1 ≢ 0));
        numbers = λ _. record { own = (some_seat, refl); ended = All-nil (λ p. (p.0 < seats) × (holder p.0 ≡ (0, took_in))); apart = pairs_nil (λ (p : ℕ × List E) (q : ℕ × List E). p.0 ≢ q.0); spare = λ n low high. (high, spares n low); seats_are = refl };
        own = λ _. refl;
        accounts = λ _. record { mine = refl; ended = All-nil (λ p. entries_of seat_of p.0 [] ≡ p.1); spare = λ n low high. refl; below = All-nil (λ e. seat_of e < seats) };
      })
      one (suc place) v e = absurd (some-ne-none v (sym e))

  -- the same, as `open_posts` makes it
  pub opens_as : (seats count : ℕ) (words : List ℕ) (slots : List (Option T)) (x : T) → words ≡ 0 ∷ 0 ∷ replicate count 0 → slots ≡ Some x ∷ [] → 0 < seats → history x ≡ [] → lawful (history x)
      → Rule (seats, count) (opening words slots (first_view (seats, count)))
  opens_as seats count words slots x blank same some_seat none_yet legal = subst (λ (p : List ℕ × List (Option T)). Rule (seats, count) (opening p.0 p.1 (first_view (seats, count)))) (λ i. (sym blank i, sym same i))
      (opens seats count (replicate count 0) x some_seat (length-replicate count 0) (blanks count) none_yet (subst lawful none_yet legal))
    where
      blanks : (n k v : ℕ) → get_elem? (replicate n 0) k ≡ some v → v ≡ 0
      blanks zero k v p = absurd (some-ne-none v (sym p))
      blanks (suc n) zero v p = sym (some-injective 0 v p)
      blanks (suc n) (suc k) v p = blanks n k v p

  -- a view is cut in two, where the first keeps what it has of the turn
  cuts : (key : ℕ × ℕ) (s : State (Option T) (View E)) (r : Rule key s) (id : ℕ) (v left right : View E) (holder' : ℕ → ℕ × Use) → get_elem? s.views id ≡ some v → v.turn ≡ left.turn
      → Fits seat_of key.0 r.log r.turn r.posts r.keeper holder' id left → Fits seat_of key.0 r.log r.turn r.posts r.keeper holder' (length s.views) right
      → ((j : ℕ) (u : View E) → j ≢ id → get_elem? s.views j ≡ some u → Fits seat_of key.0 r.log r.turn r.posts r.keeper holder' j u)
      → Rule key record { words = s.words; homes = s.homes; views = set s.views id left ++ right ∷ [] }
  cuts key s r id v left right holder' at turns fits_left fits_right others =
      let F : ℕ → View E → Type 0 = Fits seat_of key.0 r.log r.turn r.posts r.keeper holder' in
      let vs : List (View E) = set s.views id left in
      let wide : length vs ≡ length s.views = length-set s.views id left in record {
        log = r.log;
        turn = r.turn;
        posts = r.posts;
        keeper = r.keeper;
        holder = holder';
        words = r.words;
        post_count = r.post_count;
        turn_is = r.turn_is;
        legal = r.legal;
        filled = r.filled;
        home = r.home;
        taken = λ t. let h = still_taken s.views r.keeper id v left at turns (r.taken t) in (h.0, at_longer vs (right ∷ []) r.keeper h.0 h.1, h.2);
        closed = r.closed;
        each = λ j u e. ⊎_elim (set_each F s.views id left fits_left others j u)
            (λ (t : (j ≡ length vs) × (right ≡ u)). subst (λ (x : ℕ × View E). F x.0 x.1) (λ i. (sym (t.0 ∙ wide) i, t.1 i)) fits_right)
            (at_end vs right u j e);
      }

  pub splits_seat : (key : ℕ × ℕ) (id : ℕ) (v : View E) → v.numbered ≡ true → v.spare_from < v.spare_to → Splits (Rule key) id v (spares_less v) (split_off v)
  splits_seat key id v numbered some_spare s r at =
      let f = r.each id v at in
      let n = f.numbers numbered in
      let a = f.accounts numbered in
      let number : ℕ = v.spare_from in
      let place : ℕ = length s.views in
      let its : (number < key.0) × (r.holder number ≡ (id, spared)) = n.spare number (omega arith) some_spare in
      let none = a.spare number (omega arith) some_spare in
      let holder' : ℕ → ℕ × Use = given number place r.holder in
      let stays : (m at' : ℕ) (use' : Use) → (at' ≢ id) ⊎ (spared ≡ use' → ⊥) → r.holder m ≡ (at', use') → holder' m ≡ (at', use') = λ m at' use' differs h.
      given_else number place r.holder m (λ e. ⊎_elim (λ (apart : at' ≢ id). apart (ap (λ (x : ℕ × Use). x.0) (sym h ∙ (ap r.holder e ∙ its.1)))) (λ (other : spared ≡ use' → ⊥). other (ap (λ (x : ℕ × Use). x.1) (sym its.1 ∙ (ap r.holder (sym e) ∙ h)))) differs) ∙ h in
      cuts key s r id v (spares_less v) (split_off v) holder' at refl
      (record {
        seen = f.seen;
        told = f.told;
        has_turn = f.has_turn;
        has_closed = f.has_closed;
        noted = f.noted;
        numbers = λ _. record {
          own = (n.own.0, stays v.number id owned (inr (λ e. cc)) n.own.1);
          ended = λ k d l. let t = n.ended k d l in (t.0, stays _ id took_in (inr (λ e. cc)) t.1);
          apart = n.apart;
          spare = λ m low high. let t = n.spare m (omega arith) high in (t.0, given_else number place r.holder m (λ e. omega arith) ∙ t.1);
          seats_are = n.seats_are;
        };
        own = f.own;
        accounts = λ _. record { mine = a.mine; ended = a.ended; spare = λ m low high. a.spare m (omega arith) high; below = a.below };
      })
      (record {
        seen = f.seen;
        told = f.told;
        has_turn = λ no. absurd (off no);
        has_closed = λ no. absurd (off no);
        noted = All-nil (λ p. (get_elem? r.posts p.0 ≡ some p.1) × (p.1 ≢ 0));
        numbers = λ _. record { own = (its.0, given_here number place r.holder); ended = All-nil (λ p. (p.0 < key.0) × (holder' p.0 ≡ (place, took_in))); apart = pairs_nil (λ (p : ℕ × List E) (q : ℕ × List E). p.0 ≢ q.0); spare = λ m low high. absurd (omega arith); seats_are = n.seats_are };
        own = λ _. none_seen seat_of number r.log v.seen f.seen none;
        accounts = λ _. record { mine = none; ended = All-nil (λ p. entries_of seat_of p.0 r.log ≡ p.1); spare = λ m low high. absurd (omega arith); below = a.below };
      })
      (λ j u apart e. let g = r.each j u e in record {
        seen = g.seen;
        told = g.told;
        has_turn = g.has_turn;
        has_closed = g.has_closed;
        noted = g.noted;
        numbers = λ b. keep_numbers seat_of key.0 r.holder holder' j u (λ m use' h. stays m j use' (inl apart) h) (g.numbers b);
        own = g.own;
        accounts = g.accounts;
      })

  pub splits_note : (key : ℕ × ℕ) (id : ℕ) (v : View E) → Splits (Rule key) id v v (note_of v)
  splits_note key id v s r at = let f = r.each id v at in
      cuts key s r id v v (note_of v) r.holder at refl f
      (record {
        seen = f.seen;
        told = f.told;
        has_turn = λ no. absurd (off no);
        has_closed = λ no. absurd (off no);
        noted = All-nil (λ p. (get_elem? r.posts p.0 ≡ some p.1) × (p.1 ≢ 0));
        numbers = λ no. absurd (off no);
        own = λ no. absurd (off no);
        accounts = λ no. absurd (off no);
      })
      (λ j u _ e. r.each j u e)

  -- two views become one, and the other is spent
  merges : (key : ℕ × ℕ) (s : State (Option T) (View E)) (r : Rule key s) (id : ℕ) (v : View E) (other : ℕ) (w both : View E) (holder' : ℕ → ℕ × Use) → get_elem? s.views id ≡ some v → ¬ (other ≡ id) → get_elem? (set s.views id both) other ≡ some w
      → v.turn ≡ both.turn → w.turn ≡ false → Fits seat_of key.0 r.log r.turn r.posts r.keeper holder' id both
      → ((j : ℕ) (u : View E) → j ≢ id → j ≢ other → get_elem? s.views j ≡ some u → Fits seat_of key.0 r.log r.turn r.posts r.keeper holder' j u)
      → Rule key record { words = s.words; homes = s.homes; views = set (set s.views id both) other spent }
  merges key s r id v other w both holder' at apart there turns free fits others =
      let F : ℕ → View E → Type 0 = Fits seat_of key.0 r.log r.turn r.posts r.keeper holder' in
      let vs : List (View E) = set s.views id both in record {
        log = r.log;
        turn = r.turn;
        posts = r.posts;
        keeper = r.keeper;
        holder = holder';
        words = r.words;
        post_count = r.post_count;
        turn_is = r.turn_is;
        legal = r.legal;
        filled = r.filled;
        home = r.home;
        taken = λ t. untaken vs r.keeper other w spent there free (still_taken s.views r.keeper id v both at turns (r.taken t));
        closed = r.closed;
        each = set_each F vs other spent (record {
          seen = starts_empty r.log;
          told = All-nil (StartsWith r.log);
          has_turn = λ no. absurd (off no);
          has_closed = λ no. absurd (off no);
          noted = All-nil (λ p. (get_elem? r.posts p.0 ≡ some p.1) × (p.1 ≢ 0));
          numbers = λ no. absurd (off no);
          own = λ no. absurd (off no);
          accounts = λ no. absurd (off no);
        }) (λ j u far e. ⊎_elim (λ (t : (j ≡ id) × (both ≡ u)). subst (λ (x : ℕ × View E). F x.0 x.1) (λ i. (sym t.0 i, t.1 i)) fits)
            (λ (t : (j ≢ id) × (get_elem? s.views j ≡ some u)). others j u t.0 far t.1) (at_set s.views id j both u e));
      }

  pub joins_seat : (key : ℕ × ℕ) (id : ℕ) (v : View E) (other : ℕ) (w : View E) → v.numbered ≡ true → v.turn ≡ false → w.numbered ≡ true → w.turn ≡ false → Joins (Rule key) id v other w (joined v w) spent
  joins_seat key id v other w numbered free numbered' free' s r at apart there =
      let at' : get_elem? s.views other ≡ some w = sym (set_else s.views id other (joined v w) apart) ∙ there in
      let f = r.each id v at in
      let g = r.each other w at' in
      let n = f.numbers numbered in
      let a = f.accounts numbered in
      let n' = g.numbers numbered' in
      let a' = g.accounts numbered' in
      let holder' : ℕ → ℕ × Use = handed other id r.holder in
      let N : ℕ × List E → Type 0 = λ p. (p.0 < key.0) × (holder' p.0 ≡ (id, took_in)) in
      let A : ℕ × List E → Type 0 = λ p. entries_of seat_of p.0 r.log ≡ p.1 in
      let back : id ≢ other = λ e. apart (sym e) in
      let O : ℕ × List E → Type 0 = λ q. (use' : Use) × (r.holder q.0 ≡ (other, use')) in
      let rest : List (ℕ × List E) = unused w.spare_from (w.spare_to - w.spare_from) in
      let from_other : All O (handed_on w) = All-cons O (w.number, w.mine) (w.ended ++ rest) (owned, n'.own.1) (All-append O w.ended rest (λ k d l. (took_in, (n'.ended k d l).1))
      (unused_all O w.spare_from (w.spare_to - w.spare_from) (λ m low high. (spared, (n'.spare m low (omega arith)).1)))) in
      merges key s r id v other w (joined v w) holder' at apart there refl free' (record {
        seen = starts_longer r.log v.seen w.seen f.seen g.seen;
        told = All-cons (StartsWith r.log) (shorter v.seen w.seen) (v.told ++ w.told) (starts_shorter r.log v.seen w.seen f.seen g.seen) (All-append (StartsWith r.log) v.told w.told f.told g.told);
        has_turn = λ t. absurd (off (sym free ∙ t));
        has_closed = f.has_closed;
        noted = f.noted;
        numbers = λ _. record {
          own = (n.own.0, handed_else other id r.holder v.number id owned back n.own.1);
          ended = All-append N v.ended (handed_on w) (λ k d l. let t = n.ended k d l in (t.0, handed_else other id r.holder _ id took_in back t.1))
              (All-cons N (w.number, w.mine) (w.ended ++ unused w.spare_from (w.spare_to - w.spare_from)) (n'.own.0, handed_here other id r.holder w.number owned n'.own.1)
              (All-append N w.ended (unused w.spare_from (w.spare_to - w.spare_from)) (λ k d l. let t = n'.ended k d l in (t.0, handed_here other id r.holder _ took_in t.1))
              (unused_all N w.spare_from (w.spare_to - w.spare_from) (λ m low high. let t = n'.spare m low (omega arith) in (t.0, handed_here other id r.holder m spared t.1)))));
          apart = pairs_append (λ (p : ℕ × List E) (q : ℕ × List E). p.0 ≢ q.0) v.ended (handed_on w) n.apart (all_differ seat_of key.0 r.holder other w n')
              (λ k d l. All-weaker (λ (q : ℕ × List E). (use' : Use) × (r.holder q.0 ≡ (other, use'))) (λ (q : ℕ × List E). (slice_index_or v.ended k d).0 ≢ q.0) (λ q h e. back (ap (λ (x : ℕ × Use). x.0) (sym (n.ended k d l).1 ∙ (ap r.holder e ∙ h.1)))) (handed_on w) from_other);
          spare = λ m low high. let t = n.spare m low high in (t.0, handed_else other id r.holder m id spared back t.1);
          seats_are = n.seats_are;
        };
        own = λ _. own_longer seat_of v.number v.mine r.log v.seen w.seen f.seen g.seen (f.own numbered) a.mine;
        accounts = λ _. record {
          mine = a.mine;
          ended = All-append A v.ended (handed_on w) a.ended (All-cons A (w.number, w.mine) (w.ended ++ unused w.spare_from (w.spare_to - w.spare_from)) a'.mine
              (All-append A w.ended (unused w.spare_from (w.spare_to - w.spare_from)) a'.ended (unused_all A w.spare_from (w.spare_to - w.spare_from) (λ m low high. a'.spare m low (omega arith)))));
          spare = a.spare;
          below = a.below;
        };
      }) (λ j u far far' e. let h = r.each j u e in record {
        seen = h.seen;
        told = h.told;
        has_turn = h.has_turn;
        has_closed = h.has_closed;
        noted = h.noted;
        numbers = λ b. keep_numbers seat_of key.0 r.holder holder' j u (λ m use' x. handed_else other id r.holder m j use' far' x) (h.numbers b);
        own = h.own;
        accounts = h.accounts;
      })

  pub joins_note : (key : ℕ × ℕ) (id : ℕ) (v : View E) (other : ℕ) (w : View E) → v.turn ≡ false → w.turn ≡ false → Joins (Rule key) id v other w (learns v w) spent
  joins_note key id v other w free free' s r at apart there =
      let at' : get_elem? s.views other ≡ some w = sym (set_else s.views id other (learns v w) apart) ∙ there in
      let f = r.each id v at in
      let g = r.each other w at' in
      merges key s r id v other w (learns v w) r.holder at apart there refl free' (record {
        seen = f.seen;
        told = All-cons (StartsWith r.log) w.seen (v.told ++ w.told) g.seen (All-append (StartsWith r.log) v.told w.told f.told g.told);
        has_turn = λ t. absurd (off (sym free ∙ t));
        has_closed = f.has_closed;
        noted = f.noted;
        numbers = λ b. let n = f.numbers b in record { own = n.own; ended = n.ended; apart = n.apart; spare = n.spare; seats_are = n.seats_are };
        own = f.own;
        accounts = λ b. let a = f.accounts b in record { mine = a.mine; ended = a.ended; spare = a.spare; below = a.below };
      }) (λ j u _ _ e. r.each j u e)

  -- after a seat closed the turn nothing is at home
  pub nothing_home : (key : ℕ × ℕ) (id : ℕ) (v : View E) (words : List ℕ) (slots : List (Option T)) → Final (Seen (Rule key) id v) words slots → v.shuts ≡ true → get_elem? slots 0 ≡ some None
  nothing_home key id v words slots end shuts = let r = end.1.0 in let f = r.each id v end.1.1 in end.4 0 None (r.closed (f.has_closed shuts))
