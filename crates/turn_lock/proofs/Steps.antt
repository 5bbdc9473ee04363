-- Each step keeps the rule, and tells what it says.
use Rattle.std.proofs.Common.{◌≡◌, ℕ, ◌+◌, ◌%◌, ◌^◌, ◌<◌, eqb, List, [], ◌∷◌, ◌++◌, length, set, get_or, true, false, refl, sym, ap, ◌∙◌, subst, arith, All, Option, Some, None, length-append, mod-eq_of_lt}
use Rattle.std.proofs.lemmas.List.{set-get_or}
use Rattle.std.proofs.lemmas.List.Elements.{All-nil}
use mathlib.Core.Option.{none, some}
use lib.ListN.{get_elem?}
use prog.Atomic.{either}
use Rattle.atomic_table.specs.Table.{State, Me, step, Act, keeps, takes, gives, stepped, Allows, Valid, carried_after}
use Rattle.atomic_table.proofs.Lists.{set_here, exchanged}
use Rattle.turn_lock.specs.declared.view.View.{View}
use Rattle.turn_lock.specs.Lists.{StartsWith, entries_of}
use Rattle.turn_lock.specs.Views.{sees, takes_turn, finds_taken, adds, gives_turn, closes}
use Rattle.turn_lock.specs.Rule.{Accounts, Fits, Kept}
use Rattle.turn_lock.specs.Told.{Shows, Counted, Took, Added, Gave, Closed}
use Rattle.turn_lock.proofs.Entries.{within, starts_itself, starts_same, starts_more}
use Rattle.turn_lock.proofs.Parts.{off, set_each, still_taken, recount, renumber, all_differ, other_accounts, own_accounts}

module _ {T E : Type 0} (history : T → List E) (seat_of : E → ℕ) (lawful : List E → Type 0) (posted : List E → ℕ → ℕ → Type 0) where
  abbrev Rule : ℕ × ℕ → State (Option T) (View E) → Type 0
  Rule = Kept history seat_of lawful posted

  -- what the rule tells of the history to a seat
  shows : (key : ℕ × ℕ) (s : State (Option T) (View E)) (r : Rule key s) (id : ℕ) (v : View E) → get_elem? s.views id ≡ some v → v.numbered ≡ true → Shows seat_of lawful posted r.log v
  shows key s r id v at numbered = let f = r.each id v at in record {
    later = f.seen;
    told = f.told;
    own = f.own numbered;
    legal = r.legal;
    accounts = f.accounts numbered;
    differ = all_differ seat_of key.0 r.holder id v (f.numbers numbered);
    noted = λ k d l. let n = f.noted k d l in r.filled _ _ n.0 n.1;
  }

  -- a step that changes one view alone
  pub revises : (key : ℕ × ℕ) (s : State (Option T) (View E)) (r : Rule key s) (words : List ℕ) (id : ℕ) (v w : View E) → words ≡ s.words → get_elem? s.views id ≡ some v → v.turn ≡ w.turn
      → Fits seat_of key.0 r.log r.turn r.posts r.keeper r.holder id w → Rule key record { words = words; homes = s.homes; views = set s.views id w }
  revises key s r words id v w same at turns fits = record {
    log = r.log;
    turn = r.turn;
    posts = r.posts;
    keeper = r.keeper;
    holder = r.holder;
    words = same ∙ r.words;
    post_count = r.post_count;
    turn_is = r.turn_is;
    legal = r.legal;
    filled = r.filled;
    home = r.home;
    taken = λ t. still_taken s.views r.keeper id v w at turns (r.taken t);
    closed = r.closed;
    each = set_each (Fits seat_of key.0 r.log r.turn r.posts r.keeper r.holder) s.views id w fits (λ j u _ e. r.each j u e);
  }

  pub counts : (key : ℕ × ℕ) (slots id : ℕ) (me : Me (Option T) (View E)) → me.0.numbered ≡ true → Allows (Rule key) slots id me 0 (λ n. n) (Counted seat_of lawful posted (step slots 0 0 0 none) me)
  counts key slots id me numbered s r deep at _ = let v = me.0 in let f = r.each id v at in let w : View E = sees r.log v in (
    w,
    keeps,
    tt,
    revises key s r (set s.words 0 (get_or s.words 0 0)) id v w (set-get_or s.words 0 0) at refl (record {
      seen = starts_itself r.log;
      told = All-nil (StartsWith r.log);
      has_turn = λ t. let h = f.has_turn t in (h.0, h.1, refl);
      has_closed = f.has_closed;
      noted = f.noted;
      numbers = λ n. renumber seat_of key.0 r.holder id v v.turn v.shuts r.log [] v.mine v.found (f.numbers n);
      own = λ n. (f.accounts n).mine;
      accounts = λ n. recount seat_of r.log v v.turn v.shuts r.log [] v.found (f.accounts n);
    }),
    (r.log, refl, ap (λ (ws : List ℕ). get_or ws 0 0) r.words, shows key s r id v at numbered),
  )

  pub takes_it : (key : ℕ × ℕ) (slots id : ℕ) (me : Me (Option T) (View E)) → slots ≡ 1 → me.0.numbered ≡ true
      → Allows (Rule key) slots id me 1 (λ n. either (eqb n 0) 1 n) (Took history seat_of lawful posted (step slots 1 0 1 none) me)
  takes_it key slots id me one numbered s r deep at _ =
      let v = me.0 in
      let f = r.each id v at in
      let n : ℕ = get_or s.words 1 0 in
      let found : n ≡ r.turn = ap (λ (ws : List ℕ). get_or ws 1 0) r.words in
      let Goal : ℕ → Type 0 = λ m. (w : View E) × (a : Act (Option T)) × Valid s.homes me.1 a × Rule key (stepped s 1 m id me.1 w a) × Took history seat_of lawful posted (step slots 1 0 1 none) me n (w, carried_after me.1 a) in
      exchanged n 0 1 Goal (hit f found) (λ ne. let w : View E = finds_taken v in (
        w,
        keeps,
        tt,
        revises key s r (set s.words 1 n) id v w (set-get_or s.words 1 0) at refl (record {
          seen = f.seen;
          told = f.told;
          has_turn = f.has_turn;
          has_closed = f.has_closed;
          noted = f.noted;
          numbers = λ b. renumber seat_of key.0 r.holder id v v.turn v.shuts v.seen v.told v.mine (v.found + 1) (f.numbers b);
          own = f.own;
          accounts = λ b. recount seat_of r.log v v.turn v.shuts v.seen v.told (v.found + 1) (f.accounts b);
        }),
        ((λ z. absurd (ne z)), λ _. refl),
      ))
    where
      hit : Fits seat_of key.0 r.log r.turn r.posts r.keeper r.holder id me.0 → get_or s.words 1 0 ≡ r.turn → get_or s.words 1 0 ≡ 0
          → (w : View E) × (a : Act (Option T)) × Valid s.homes me.1 a × Rule key (stepped s 1 1 id me.1 w a) × Took history seat_of lawful posted (step slots 1 0 1 none) me (get_or s.words 1 0) (w, carried_after me.1 a)
      hit f found z =
          let v = me.0 in
          let free : r.turn ≡ 0 = sym found ∙ z in
          let at_home = r.home free in
          let x : T = at_home.0 in
          let same : history x ≡ r.log = at_home.2 in
          let w : View E = takes_turn (history x) v in (
            w,
            takes 0 (Some x),
            at_home.1,
            record {
              log = r.log;
              turn = 1;
              posts = r.posts;
              keeper = id;
              holder = r.holder;
              words = ap (λ (ws : List ℕ). set ws 1 1) r.words;
              post_count = r.post_count;
              turn_is = omega arith;
              legal = r.legal;
              filled = r.filled;
              home = λ no. absurd (omega arith);
              taken = λ _. (w, set_here s.views id w (within s.views id v at), refl);
              closed = λ no. absurd (omega arith);
              each = set_each (Fits seat_of key.0 r.log 1 r.posts id r.holder) s.views id w (record {
                seen = starts_same r.log (history x) (sym same);
                told = All-nil (StartsWith r.log);
                has_turn = λ _. (refl, refl, same);
                has_closed = λ c. absurd (let h : r.turn ≡ 2 = f.has_closed c in omega arith);
                noted = f.noted;
                numbers = λ b. renumber seat_of key.0 r.holder id v true v.shuts (history x) [] v.mine v.found (f.numbers b);
                own = λ b. ap (entries_of seat_of v.number) same ∙ (f.accounts b).mine;
                accounts = λ b. recount seat_of r.log v true v.shuts (history x) [] v.found (f.accounts b);
              }) (λ j u _ e. let g = r.each j u e in record {
                seen = g.seen;
                told = g.told;
                has_turn = λ t. absurd (let h : r.turn ≡ 1 = (g.has_turn t).1 in omega arith);
                has_closed = λ c. absurd (let h : r.turn ≡ 2 = g.has_closed c in omega arith);
                noted = g.noted;
                numbers = g.numbers;
                own = g.own;
                accounts = g.accounts;
              });
            },
            ((λ _. (x, refl, subst (λ (l : List E). Shows seat_of lawful posted l v) (sym same) (shows key s r id v at numbered))), λ ne. absurd (ne z)),
          )

  pub adds_it : (key : ℕ × ℕ) (slots id : ℕ) (me : Me (Option T) (View E)) (e : E) → ((before : List E) (x : E) (k n : ℕ) → lawful (before ++ x ∷ []) → posted before k n → posted (before ++ x ∷ []) k n)
      → me.0.numbered ≡ true → me.0.turn ≡ true → seat_of e ≡ me.0.number → lawful (me.0.seen ++ e ∷ []) → length (me.0.seen ++ e ∷ []) < 2 ^ 64
      → Allows (Rule key) slots id me 0 (λ n. (n + 1) % 2 ^ 64) (Added seat_of (me.0.seen ++ e ∷ []) (step slots 0 1 0 none) me)
  adds_it key slots id me e stays numbered has is legal short s r deep at _ =
      let v = me.0 in
      let f = r.each id v at in
      let h = f.has_turn has in
      let mine : id ≡ r.keeper = h.0 in
      let same : v.seen ≡ r.log = h.2 in
      let n : ℕ = get_or s.words 0 0 in
      let found : n ≡ length v.seen = ap (λ (ws : List ℕ). get_or ws 0 0) r.words ∙ ap length (sym same) in
      let log' : List E = v.seen ++ e ∷ [] in
      let long : length log' ≡ length v.seen + 1 = length-append v.seen (e ∷ []) in
      let raised : (n + 1) % 2 ^ 64 ≡ length log' = mod-eq_of_lt (omega arith) ∙ omega arith in
      let numbers = f.numbers numbered in
      let counted : Accounts seat_of v.seen v = subst (λ (l : List E). Accounts seat_of l v) (sym same) (f.accounts numbered) in
      let w : View E = adds e v in
      let accounts : Accounts seat_of log' w = own_accounts seat_of key.0 r.holder id v v.seen e is numbers counted in (
        w,
        keeps,
        tt,
        record {
          log = log';
          turn = r.turn;
          posts = r.posts;
          keeper = r.keeper;
          holder = r.holder;
          words = ap (λ (ws : List ℕ). set ws 0 ((n + 1) % 2 ^ 64)) r.words ∙ ap (λ (c : ℕ). c ∷ r.turn ∷ r.posts) raised;
          post_count = r.post_count;
          turn_is = r.turn_is;
          legal = legal;
          filled = λ k x p ne. stays v.seen e k x legal (subst (λ (l : List E). posted l k x) (sym same) (r.filled k x p ne));
          home = λ no. absurd (let t : r.turn ≡ 1 = h.1 in omega arith);
          taken = λ t. still_taken s.views r.keeper id v w at refl (r.taken t);
          closed = r.closed;
          each = set_each (Fits seat_of key.0 log' r.turn r.posts r.keeper r.holder) s.views id w (record {
            seen = starts_itself log';
            told = λ k d l. starts_more v.seen _ (e ∷ []) (subst (λ (x : List E). All (StartsWith x) v.told) (sym same) f.told k d l);
            has_turn = λ _. (mine, h.1, refl);
            has_closed = f.has_closed;
            noted = f.noted;
            numbers = λ b. renumber seat_of key.0 r.holder id v v.turn v.shuts (v.seen ++ e ∷ []) v.told (v.mine ++ e ∷ []) v.found numbers;
            own = λ _. accounts.mine;
            accounts = λ _. accounts;
          }) (λ j u apart p. let g = r.each j u p in record {
            seen = starts_more v.seen u.seen (e ∷ []) (subst (λ (l : List E). StartsWith l u.seen) (sym same) g.seen);
            told = λ k d l. starts_more v.seen _ (e ∷ []) (subst (λ (x : List E). All (StartsWith x) u.told) (sym same) g.told k d l);
            has_turn = λ t. absurd (apart ((g.has_turn t).0 ∙ sym mine));
            has_closed = g.has_closed;
            noted = g.noted;
            numbers = g.numbers;
            own = g.own;
            accounts = λ b. other_accounts seat_of key.0 r.holder j id v.number u v.seen e apart is numbers.own.0 numbers.own.1 (g.numbers b) (subst (λ (l : List E). Accounts seat_of l u) (sym same) (g.accounts b));
          });
        },
        (e, refl, refl, found, accounts),
      )

  pub gives_it : (key : ℕ × ℕ) (slots id : ℕ) (v : View E) (x : T) → slots ≡ 1 → v.numbered ≡ true → v.turn ≡ true → history x ≡ v.seen
      → Allows (Rule key) slots id (v, (0, Some x) ∷ []) 1 (λ _. 0) (λ _. Gave (step slots 1 0 0 none) (v, (0, Some x) ∷ []) 0)
  gives_it key slots id v x one numbered has is s r deep at _ =
      let f = r.each id v at in
      let h = f.has_turn has in
      let t : r.turn ≡ 1 = h.1 in
      let w : View E = gives_turn v in (
        w,
        gives,
        tt,
        record {
          log = r.log;
          turn = 0;
          posts = r.posts;
          keeper = r.keeper;
          holder = r.holder;
          words = ap (λ (ws : List ℕ). set ws 1 0) r.words;
          post_count = r.post_count;
          turn_is = omega arith;
          legal = r.legal;
          filled = r.filled;
          home = λ _. (x, set_here s.homes 0 (some (Some x)) (omega arith), is ∙ h.2);
          taken = λ no. absurd (omega arith);
          closed = λ no. absurd (omega arith);
          each = set_each (Fits seat_of key.0 r.log 0 r.posts r.keeper r.holder) s.views id w (record {
            seen = f.seen;
            told = f.told;
            has_turn = λ no. absurd (off no);
            has_closed = λ c. absurd (let q : r.turn ≡ 2 = f.has_closed c in omega arith);
            noted = f.noted;
            numbers = λ b. renumber seat_of key.0 r.holder id v false v.shuts v.seen v.told v.mine v.found (f.numbers b);
            own = f.own;
            accounts = λ b. recount seat_of r.log v false v.shuts v.seen v.told v.found (f.accounts b);
          }) (λ j u apart p. let g = r.each j u p in record {
            seen = g.seen;
            told = g.told;
            has_turn = λ q. absurd (apart ((g.has_turn q).0 ∙ sym h.0));
            has_closed = λ c. absurd (let q : r.turn ≡ 2 = g.has_closed c in omega arith);
            noted = g.noted;
            numbers = g.numbers;
            own = g.own;
            accounts = g.accounts;
          });
        },
        refl,
      )

  pub closes_it : (key : ℕ × ℕ) (slots id : ℕ) (v : View E) → slots ≡ 1 → v.numbered ≡ true → v.turn ≡ true
      → Allows (Rule key) slots id (v, (0, None) ∷ []) 1 (λ _. 2) (λ _. Closed (step slots 1 2 0 none) (v, (0, None) ∷ []) 2)
  closes_it key slots id v one numbered has s r deep at _ =
      let f = r.each id v at in
      let h = f.has_turn has in
      let t : r.turn ≡ 1 = h.1 in
      let w : View E = closes v in (
        w,
        gives,
        tt,
        record {
          log = r.log;
          turn = 2;
          posts = r.posts;
          keeper = r.keeper;
          holder = r.holder;
          words = ap (λ (ws : List ℕ). set ws 1 2) r.words;
          post_count = r.post_count;
          turn_is = omega arith;
          legal = r.legal;
          filled = r.filled;
          home = λ no. absurd (omega arith);
          taken = λ no. absurd (omega arith);
          closed = λ _. set_here s.homes 0 (some None) (omega arith);
          each = set_each (Fits seat_of key.0 r.log 2 r.posts r.keeper r.holder) s.views id w (record {
            seen = f.seen;
            told = f.told;
            has_turn = λ no. absurd (off no);
            has_closed = λ _. refl;
            noted = f.noted;
            numbers = λ b. renumber seat_of key.0 r.holder id v false true v.seen v.told v.mine v.found (f.numbers b);
            own = f.own;
            accounts = λ b. recount seat_of r.log v false true v.seen v.told v.found (f.accounts b);
          }) (λ j u apart p. let g = r.each j u p in record {
            seen = g.seen;
            told = g.told;
            has_turn = λ q. absurd (apart ((g.has_turn q).0 ∙ sym h.0));
            has_closed = λ c. refl;
            noted = g.noted;
            numbers = g.numbers;
            own = g.own;
            accounts = g.accounts;
          });
        },
        refl,
      )

  -- the same, as the calls need them
  pub adds_as : (key : ℕ × ℕ) (slots id : ℕ) (me : Me (Option T) (View E)) (e : E) (written : List E) → ((before : List E) (x : E) (k n : ℕ) → lawful (before ++ x ∷ []) → posted before k n → posted (before ++ x ∷ []) k n)
      → written ≡ me.0.seen ++ e ∷ [] → me.0.numbered ≡ true → me.0.turn ≡ true → seat_of e ≡ me.0.number → lawful written → length written < 2 ^ 64
      → Allows (Rule key) slots id me 0 (λ n. (n + 1) % 2 ^ 64) (Added seat_of written (step slots 0 1 0 none) me)
  adds_as key slots id me e written stays same numbered has is legal short = subst (λ (l : List E). Allows (Rule key) slots id me 0 (λ n. (n + 1) % 2 ^ 64) (Added seat_of l (step slots 0 1 0 none) me)) (sym same)
      (adds_it key slots id me e stays numbered has is (subst lawful same legal) (subst (λ (l : List E). length l < 2 ^ 64) same short))

  pub gives_as : (key : ℕ × ℕ) (slots id : ℕ) (me : Me (Option T) (View E)) (x : T) → slots ≡ 1 → me.0.numbered ≡ true → me.0.turn ≡ true → me.1 ≡ (0, Some x) ∷ [] → history x ≡ me.0.seen
      → Allows (Rule key) slots id me 1 (λ _. 0) (λ _. Gave (step slots 1 0 0 none) me 0)
  gives_as key slots id me x one numbered has holds is = subst (λ (c : List (ℕ × Option T)). Allows (Rule key) slots id (me.0, c) 1 (λ _. 0) (λ _. Gave (step slots 1 0 0 none) (me.0, c) 0)) (sym holds)
      (gives_it key slots id me.0 x one numbered has is)

  pub closes_as : (key : ℕ × ℕ) (slots id : ℕ) (me : Me (Option T) (View E)) → slots ≡ 1 → me.0.numbered ≡ true → me.0.turn ≡ true → me.1 ≡ (0, None) ∷ []
      → Allows (Rule key) slots id me 1 (λ _. 2) (λ _. Closed (step slots 1 2 0 none) me 2)
  closes_as key slots id me one numbered has holds = subst (λ (c : List (ℕ × Option T)). Allows (Rule key) slots id (me.0, c) 1 (λ _. 2) (λ _. Closed (step slots 1 2 0 none) (me.0, c) 2)) (sym holds)
      (closes_it key slots id me.0 one numbered has)
