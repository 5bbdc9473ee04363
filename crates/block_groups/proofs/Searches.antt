-- What a search has come to.
use Rattle.std.proofs.Common.{◌≡◌, ℕ, zero, suc, ◌+◌, ◌-◌, ◌<◌, ◌≤◌, ◌==◌, cond, Bool, true, false, ◌&&◌, not, List, [], ◌∷◌, ◌++◌, length, get_or, set, refl, sym, ap, subst, ◌∙◌, inl, inr, arith}
use Rattle.std.specs.Prelude.{Contains}
use Rattle.std.proofs.lemmas.Bool.{cases_eq, cases_lt, eq-eqb, ne_eqb, false≢true}
use Rattle.std.proofs.lemmas.List.{length-set, get_or_append_left, get_or-append_right, get_or_default}
use Rattle.std.proofs.lemmas.List.Elements.{Contains-push, Contains-append_left, Contains-append_right, Contains-append_cases}
use Rattle.list_laws.proofs.Lists.{get_or-set}
use Rattle.graph_walks.proofs.Paths.{reaches_self, reaches_next, reach_is_transitive}
use Rattle.orc_ids.specs.declared.ids.InstId.{InstId}
use Rattle.block_groups.specs.Lists.{row, IsPushed}
use Rattle.block_groups.specs.Backwards.{is_seen, unset, IsNoted, IsMore, IsCaused, IsSpread, IsClear, AreHandedOut}
use Rattle.block_groups.specs.declared.backwards.Search.{Search}
use Rattle.block_groups.proofs.Rows.{contains_none, length_push}

unset_set : (flags : List Bool) (k : ℕ) → k < length flags → get_or flags k false ≡ false → unset (set flags k true) + 1 ≡ unset flags
unset_set [] k lt e = absurd (omega arith)
unset_set (true ∷ fs) zero lt e = absurd (false≢true (sym e))
unset_set (false ∷ fs) zero lt e = omega arith
unset_set (true ∷ fs) (suc k) lt e = unset_set fs k (omega (arith, lt)) e
unset_set (false ∷ fs) (suc k) lt e = omega (arith, unset_set fs k (omega (arith, lt)) e)

unset_few : (flags : List Bool) → unset flags ≤ length flags
unset_few [] = omega arith
unset_few (true ∷ fs) = omega (arith, unset_few fs)
unset_few (false ∷ fs) = omega (arith, unset_few fs)

pub clear_noted : (s : Search) → IsClear s → IsNoted s
clear_noted s clear = record {
  flagged = λ k lt. absurd (omega (arith, lt, ap (λ (xs : List ℕ). length xs) clear.found));
  listed = λ b h. absurd (false≢true (sym (clear.none b) ∙ h));
  room = omega (arith, unset_few s.seen.items, ap (λ (xs : List ℕ). length xs) clear.found);
}

past : (fs : List Bool) (b : ℕ) → length fs ≤ b → get_or fs b false ≡ false
past [] b h = refl
past (f ∷ fs) zero h = absurd (omega (arith, h))
past (f ∷ fs) (suc b) h = past fs b (omega (arith, h))

pub seen_within : (s : Search) (b : ℕ) → is_seen s b ≡ true → b < length s.seen.items
seen_within s b h = elim (cases_lt b (length s.seen.items)) [
  | inl below ↦ below
  | inr from ↦ absurd (false≢true (sym (past s.seen.items b from) ∙ h))
]

-- a block that was found
pub found_within : (s : Search) (k x : ℕ) → IsNoted s → k < length s.found.items → x ≡ get_or s.found.items k 0 → x < length s.seen.items
found_within s k x noted lt is = seen_within s x (ap (is_seen s) is ∙ noted.flagged k lt)

pub read_found : (s : Search) (k x : ℕ) → k < length s.found.items → x ≡ get_or s.found.items k x → x ≡ get_or s.found.items k 0
read_found s k x lt is = is ∙ get_or_default s.found.items k x 0 lt

-- ---- one block more

-- the search came to a block that it hadn't come to
pub record Came (old : Search) (block : ℕ) (new : Search) : Type 0 where
  pub within : block < length old.seen.items
  pub fresh : is_seen old block ≡ false
  pub seen : new.seen.items ≡ set old.seen.items block true
  pub found : new.found.items ≡ old.found.items ++ block ∷ []

seen_is : (old new : Search) (block b : ℕ) → Came old block new → is_seen new b ≡ cond (block == b) true (is_seen old b)
seen_is old new block b came = ap (λ (fs : List Bool). get_or fs b false) came.seen ∙ get_or-set old.seen.items block b true false came.within

cond_kept : (t b : Bool) → b ≡ true → cond t true b ≡ true
cond_kept true b e = refl
cond_kept false b e = e

came_here : (old new : Search) (block : ℕ) → Came old block new → is_seen new block ≡ true
came_here old new block came = seen_is old new block block came ∙ ap (λ (t : Bool). cond t true (is_seen old block)) (eq-eqb block block refl)

came_stays : (old new : Search) (block b : ℕ) → Came old block new → is_seen old b ≡ true → is_seen new b ≡ true
came_stays old new block b came h = seen_is old new block b came ∙ cond_kept (block == b) (is_seen old b) h

came_other : (old new : Search) (block b : ℕ) → Came old block new → (block ≡ b → ⊥) → is_seen new b ≡ true → is_seen old b ≡ true
came_other old new block b came other h = sym (seen_is old new block b came ∙ ap (λ (t : Bool). cond t true (is_seen old b)) (ne_eqb block b other)) ∙ h

came_front : (old new : Search) (block k : ℕ) → Came old block new → k < length old.found.items → get_or new.found.items k 0 ≡ get_or old.found.items k 0
came_front old new block k came lt = ap (λ (xs : List ℕ). get_or xs k 0) came.found ∙ get_or_append_left old.found.items (block ∷ []) 0 k lt

came_last : (old new : Search) (block k : ℕ) → Came old block new → length old.found.items ≡ k → get_or new.found.items k 0 ≡ block
came_last old new block k came at =
    let none : k - k ≡ 0 = omega arith in
    ap (λ (xs : List ℕ). get_or xs k 0) came.found
    ∙ get_or-append_right old.found.items (block ∷ []) k k 0 at (omega arith)
    ∙ ap (λ (i : ℕ). get_or (block ∷ []) i 0) none

came_count : (old new : Search) (block : ℕ) → Came old block new → length new.found.items ≡ suc (length old.found.items)
came_count old new block came = ap (λ (xs : List ℕ). length xs) came.found ∙ length_push old.found.items block

pub came_noted : (old new : Search) (block : ℕ) → Came old block new → IsNoted old → IsNoted new
came_noted old new block came noted = record {
  flagged = λ k lt. elim (cases_lt k (length old.found.items)) [
    | inl below ↦ ap (is_seen new) (came_front old new block k came below) ∙ came_stays old new block (get_or old.found.items k 0) came (noted.flagged k below)
    | inr from ↦ ap (is_seen new) (came_last old new block k came (omega (arith, lt, from, came_count old new block came))) ∙ came_here old new block came
  ];
  listed = λ b h. elim (cases_eq block b) [
    | inl same ↦ subst (Contains new.found.items) same (subst (λ (xs : List ℕ). Contains xs block) (sym came.found) (Contains-push old.found.items block))
    | inr other ↦ subst (λ (xs : List ℕ). Contains xs b) (sym came.found) (Contains-append_left old.found.items (block ∷ []) b (noted.listed b (came_other old new block b came other h)))
  ];
  room = omega (arith, noted.room, came_count old new block came, unset_set old.seen.items block came.within came.fresh, ap unset came.seen, ap (λ (fs : List Bool). length fs) came.seen, length-set old.seen.items block true);
}

one_only : (block b : ℕ) → Contains (block ∷ []) b → block ≡ b
one_only block b (zero, lt, is) = is
one_only block b (suc k, lt, is) = absurd (omega (arith, lt))

pub came_more : (old new : Search) (block : ℕ) → Came old block new → IsMore old (block ∷ []) new
came_more old new block came = record {
  whole = ap (λ (fs : List Bool). length fs) came.seen ∙ length-set old.seen.items block true;
  stays = λ b h. came_stays old new block b came h;
  here = λ b c. subst (λ (x : ℕ). is_seen new x ≡ true) (one_only block b c) (came_here old new block came);
  only = λ b h. elim (cases_eq block b) [
    | inl same ↦ inr (subst (Contains (block ∷ [])) same (0, omega arith, refl))
    | inr other ↦ inl (came_other old new block b came other h)
  ];
  longer = omega (arith, came_count old new block came);
  front = λ k lt. came_front old new block k came lt;
}

pub same_more : (s : Search) (block : ℕ) → is_seen s block ≡ true → IsMore s (block ∷ []) s
same_more s block h = record {
  whole = refl;
  stays = λ b e. e;
  here = λ b c. subst (λ (x : ℕ). is_seen s x ≡ true) (one_only block b c) h;
  only = λ b e. inl e;
  longer = omega arith;
  front = λ k lt. refl;
}

-- ---- several

pub more_none : (s : Search) → IsMore s [] s
more_none s = record {
  whole = refl;
  stays = λ b e. e;
  here = λ b c. contains_none b c;
  only = λ b e. inl e;
  longer = omega arith;
  front = λ k lt. refl;
}

pub more_then : (a b c : Search) (xs ys : List ℕ) → IsMore a xs b → IsMore b ys c → IsMore a (xs ++ ys) c
more_then a b c xs ys m n = record {
  whole = n.whole ∙ m.whole;
  stays = λ x h. n.stays x (m.stays x h);
  here = λ x h. elim (Contains-append_cases xs ys x h) [
    | inl first ↦ n.stays x (m.here x first)
    | inr second ↦ n.here x second
  ];
  only = λ x h. elim (n.only x h) [
    | inl before ↦ elim (m.only x before) [
      | inl old ↦ inl old
      | inr first ↦ inr (Contains-append_left xs ys x first)
    ]
    | inr second ↦ inr (Contains-append_right xs ys x second)
  ];
  longer = omega (arith, m.longer, n.longer);
  front = λ k lt. n.front k (omega (arith, lt, m.longer)) ∙ m.front k lt;
}

-- ---- all that is reached

-- of the first blocks that were found, all that their lists have was come to
pub record Spreads (lists : List (List ℕ)) (old : Search) (done : ℕ) (s : Search) : Type 0 where
  pub noted : IsNoted s
  pub whole : length s.seen.items ≡ length old.seen.items
  pub stays : (b : ℕ) → is_seen old b ≡ true → is_seen s b ≡ true
  pub caused : (b : ℕ) → is_seen s b ≡ true → IsCaused lists old b
  pub closed : (k b : ℕ) → k < done → k < length s.found.items → Contains (row lists (get_or s.found.items k 0)) b → is_seen s b ≡ true

pub spreads_none : (lists : List (List ℕ)) (s : Search) → IsNoted s → Spreads lists s 0 s
spreads_none lists s noted = record {
  noted = noted;
  whole = refl;
  stays = λ b h. h;
  caused = λ b h. record { by = b; before = h; reaches = reaches_self (row lists) b };
  closed = λ k b lt. absurd (omega (arith, lt));
}

pub spreads_next : (lists : List (List ℕ)) (old s new : Search) (done block : ℕ) → done < length s.found.items → block ≡ get_or s.found.items done 0 → IsNoted new → IsMore s (row lists block) new → Spreads lists old done s → Spreads lists old (done + 1) new
spreads_next lists old s new done block lt is noted more before =
    let seen : is_seen s block ≡ true = ap (is_seen s) is ∙ before.noted.flagged done lt in
    record {
      noted = noted;
      whole = more.whole ∙ before.whole;
      stays = λ b h. more.stays b (before.stays b h);
      caused = λ b h. elim (more.only b h) [
        | inl was ↦ before.caused b was
        | inr next ↦
            (let cause = before.caused block seen in
            record { by = cause.by; before = cause.before; reaches = reach_is_transitive (row lists) cause.by block b cause.reaches (reaches_next (row lists) block b b next (reaches_self (row lists) b)) })
      ];
      closed = λ k b below inside c. elim (cases_lt k done) [
        | inl passed ↦
            (let front = more.front k (omega (arith, passed, lt)) in
            more.stays b (before.closed k b passed (omega (arith, passed, lt)) (subst (λ (x : ℕ). Contains (row lists x) b) front c)))
        | inr from ↦
            (let at : k ≡ done = omega (arith, below, from) in
            let here : get_or new.found.items k 0 ≡ block = ap (λ (i : ℕ). get_or new.found.items i 0) at ∙ more.front done lt ∙ sym is in
            more.here b (subst (λ (x : ℕ). Contains (row lists x) b) here c))
      ];
    }

pub spreads_all : (lists : List (List ℕ)) (old s : Search) (done : ℕ) → length s.found.items ≤ done → Spreads lists old done s → IsSpread lists old s
spreads_all lists old s done all is = record {
  whole = is.whole;
  stays = is.stays;
  caused = is.caused;
  closed = λ a b h c.
      let at = is.noted.listed a h in
      is.closed at.0 b (omega (arith, at.1, all)) at.1 (subst (λ (x : ℕ). Contains (row lists x) b) (sym (at.2) ∙ get_or_default s.found.items at.0 a 0 at.1) c);
}

-- ---- instances handed out

-- of the first blocks that were found, each has the instance, and no flag
pub record Hands (old : Search) (i : InstId) (lists : List (List InstId)) (k : ℕ) (s : Search) (now : List (List InstId)) : Type 0 where
  pub same : s.found.items ≡ old.found.items
  pub whole : length s.seen.items ≡ length old.seen.items
  pub lists_whole : length now ≡ length lists
  pub only : (b : ℕ) → is_seen s b ≡ true → is_seen old b ≡ true
  pub passed : (j : ℕ) → j < k → is_seen s (get_or old.found.items j 0) ≡ false
  pub rows : (b : ℕ) → row now b ≡ cond (is_seen old b && not (is_seen s b)) (row lists b ++ i ∷ []) (row lists b)

and_not : (b : Bool) → (b && not b) ≡ false
and_not true = refl
and_not false = refl

pub hands_none : (old : Search) (i : InstId) (lists : List (List InstId)) → Hands old i lists 0 old lists
hands_none old i lists = record {
  same = refl;
  whole = refl;
  lists_whole = refl;
  only = λ b h. h;
  passed = λ j lt. absurd (omega (arith, lt));
  rows = λ b. sym (ap (λ (t : Bool). cond t (row lists b ++ i ∷ []) (row lists b)) (and_not (is_seen old b)));
}

pub read_handed : (old s : Search) (i : InstId) (lists now : List (List InstId)) (k x : ℕ) → Hands old i lists k s now → k < length old.found.items → x ≡ get_or s.found.items k x → x ≡ get_or old.found.items k 0
read_handed old s i lists now k x h lt is = is ∙ ap (λ (xs : List ℕ). get_or xs k x) h.same ∙ get_or_default old.found.items k x 0 lt

pub hands_past : (old s : Search) (i : InstId) (lists now : List (List InstId)) (k block : ℕ) → block ≡ get_or old.found.items k 0 → is_seen s block ≡ false → Hands old i lists k s now → Hands old i lists (k + 1) s now
hands_past old s i lists now k block at none h = record {
  same = h.same;
  whole = h.whole;
  lists_whole = h.lists_whole;
  only = h.only;
  passed = λ j lt. elim (cases_lt j k) [
    | inl below ↦ h.passed j below
    | inr from ↦ (let last : j ≡ k = omega (arith, lt, from) in ap (λ (n : ℕ). is_seen s (get_or old.found.items n 0)) last ∙ ap (is_seen s) (sym at) ∙ none)
  ];
  rows = h.rows;
}

cond_none : (t b : Bool) → b ≡ false → cond t false b ≡ false
cond_none true b e = refl
cond_none false b e = e

-- the flag of a block is taken back, and it has the instance
pub hands_next : (old s new : Search) (i : InstId) (lists now next : List (List InstId)) (k block : ℕ) → block < length s.seen.items → block ≡ get_or old.found.items k 0 → is_seen s block ≡ true → new.seen.items ≡ set s.seen.items block false → new.found.items ≡ s.found.items → IsPushed now block i next → Hands old i lists k s now → Hands old i lists (k + 1) new next
hands_next old s new i lists now next k block within at here seen found pushed h =
    let is : (b : ℕ) → is_seen new b ≡ cond (block == b) false (is_seen s b) = λ b. ap (λ (fs : List Bool). get_or fs b false) seen ∙ get_or-set s.seen.items block b false false within in
    record {
      same = found ∙ h.same;
      whole = ap (λ (fs : List Bool). length fs) seen ∙ length-set s.seen.items block false ∙ h.whole;
      lists_whole = pushed.whole ∙ h.lists_whole;
      only = λ b e. h.only b (elim (cases_eq block b) [
        | inl same ↦ absurd (false≢true (sym (is b ∙ ap (λ (t : Bool). cond t false (is_seen s b)) (eq-eqb block b same)) ∙ e))
        | inr other ↦ sym (is b ∙ ap (λ (t : Bool). cond t false (is_seen s b)) (ne_eqb block b other)) ∙ e
      ]);
      passed = λ j lt. is (get_or old.found.items j 0) ∙ elim (cases_lt j k) [
        | inl below ↦ cond_none (block == get_or old.found.items j 0) (is_seen s (get_or old.found.items j 0)) (h.passed j below)
        | inr from ↦
            (let last : j ≡ k = omega (arith, lt, from) in
            ap (λ (t : Bool). cond t false (is_seen s (get_or old.found.items j 0))) (eq-eqb block (get_or old.found.items j 0) (at ∙ ap (λ (n : ℕ). get_or old.found.items n 0) (sym last))))
      ];
      rows = λ b. pushed.rows b ∙ elim (cases_eq block b) [
        | inl same ↦
            (let seen_b : is_seen s b ≡ true = ap (is_seen s) (sym same) ∙ here in
            let was : is_seen old b ≡ true = h.only b seen_b in
            let gone : is_seen new b ≡ false = is b ∙ ap (λ (t : Bool). cond t false (is_seen s b)) (eq-eqb block b same) in
            let before : row now b ≡ row lists b = h.rows b ∙ rw (was, seen_b) refl in
            rw (eq-eqb block b same, was, gone) (ap (λ (xs : List InstId). xs ++ i ∷ []) before))
        | inr other ↦
            (let kept : is_seen new b ≡ is_seen s b = is b ∙ ap (λ (t : Bool). cond t false (is_seen s b)) (ne_eqb block b other) in
            rw (ne_eqb block b other, kept) (h.rows b))
      ];
    }

pub hands_clear : (old s : Search) (i : InstId) (lists now : List (List InstId)) (k b : ℕ) → IsNoted old → length old.found.items ≤ k → Hands old i lists k s now → is_seen s b ≡ false
hands_clear old s i lists now k b noted all h = decided (is_seen s b) refl
  where
    decided : (t : Bool) → is_seen s b ≡ t → is_seen s b ≡ false
    decided false e = e
    decided true e =
        let at = noted.listed b (h.only b e) in
        let gone = h.passed at.0 (omega (arith, at.1, all)) in
        absurd (false≢true (sym gone ∙ ap (is_seen s) (get_or_default old.found.items at.0 0 b at.1 ∙ at.2) ∙ e))

and_true : (b : Bool) → (b && true) ≡ b
and_true true = refl
and_true false = refl

pub hands_all : (old s : Search) (i : InstId) (lists now : List (List InstId)) (k : ℕ) → IsNoted old → length old.found.items ≤ k → Hands old i lists k s now → AreHandedOut old i lists now
hands_all old s i lists now k noted all h = record {
  whole = h.lists_whole;
  rows = λ b.
      h.rows b
      ∙ ap (λ (t : Bool). cond (is_seen old b && not t) (row lists b ++ i ∷ []) (row lists b)) (hands_clear old s i lists now k b noted all h)
      ∙ ap (λ (t : Bool). cond t (row lists b ++ i ∷ []) (row lists b)) (and_true (is_seen old b));
}
