-- What becomes of the lines when one more joins one of them, or the spent ones leave it.
use Rattle.std.proofs.Common.{◌≡◌, ◌<◌, ℕ, zero, suc, ◌+◌, ◌-◌, Bool, true, false, ◌&&◌, List, [], ◌∷◌, ◌++◌, Option, Some, nat_eq, cond, unwrap_or, refl, sym, ap, ◌∙◌, arith, subst, add-one}
use Rattle.std.specs.Bool.{if◌then◌else◌}
use Rattle.std.proofs.lemmas.Bool.{eq-eqb, eqb-true, ne_eqb, and_parts}
use Rattle.generators.specs.declared.lines.Line.{Line}
use Rattle.generators.specs.declared.lines.Lines.{Lines}
use Rattle.generators.specs.Lines.{Queue, joined_by, from_unspent, line_at, turn_at, turns_from, queue_in, queue_at, ChangesLines, PutsLine, PutsTurn}

-- what is put is found
pub found_put : {X : Type 0} (b : Bool) (w d : X) (old new : Option X) → new ≡ cond b (Some w) old → unwrap_or new d ≡ (if b then w else unwrap_or old d)
found_put b w d old new is = ap (λ o. unwrap_or o d) is ∙ split b
  where
    split : (b : Bool) → unwrap_or (cond b (Some w) old) d ≡ (if b then w else unwrap_or old d)
    split true = refl
    split false = refl

turns_same : (who other : ℕ → ℕ) (k n : ℕ) → ((j : ℕ) → who j ≡ other j) → turns_from who k n ≡ turns_from other k n
turns_same who other k zero same = refl
turns_same who other k (suc n) same = ap (λ x. x ∷ turns_from who (k + 1) n) (same k) ∙ ap (λ xs. other k ∷ xs) (turns_same who other (k + 1) n same)

-- a line whose turns are the same
pub queue_same : (l m : Lines) (d name : ℕ) → line_at m.lines.entries d name ≡ line_at l.lines.entries d name → ((k : ℕ) → turn_at m.turns.entries d name k ≡ turn_at l.turns.entries d name k) → queue_at m d name ≡ queue_at l d name
queue_same l m d name line turns =
    ap (queue_in m.turns.entries d name) line
    ∙ (let x = line_at l.lines.entries d name in
    ap (λ (gs : List ℕ). record { joined = x.first + x.waiting; waiting = gs }) (turns_same (turn_at m.turns.entries d name) (turn_at l.turns.entries d name) x.first x.waiting turns))

turns_join : (who other : ℕ → ℕ) (g k n t : ℕ) → t ≡ k + n → ((j : ℕ) → other j ≡ (if nat_eq t j then g else who j)) → turns_from other k (suc n) ≡ turns_from who k n ++ g ∷ []
turns_join who other g k zero t is put = ap (λ x. x ∷ []) (put k ∙ ap (λ b. if b then g else who k) (eq-eqb t k (let e : t ≡ k = omega (arith, is) in e)))
turns_join who other g k (suc n) t is put =
    ap (λ x. x ∷ turns_from other (k + 1) (suc n)) (put k ∙ ap (λ b. if b then g else who k) (ne_eqb t k (λ e. omega (arith, is, e))))
    ∙ ap (λ xs. who k ∷ xs) (turns_join who other g (k + 1) n t (omega (arith, is)) put)

joined_line : (who other : ℕ → ℕ) (x : Line) (g : ℕ) → ((j : ℕ) → other j ≡ (if nat_eq (x.first + x.waiting) j then g else who j)) →
    record { joined = x.first + (x.waiting + 1); waiting = turns_from other x.first (x.waiting + 1) } ≡ joined_by g (record { joined = x.first + x.waiting; waiting = turns_from who x.first x.waiting })
joined_line who other x g put =
    let e : x.first + (x.waiting + 1) ≡ x.first + x.waiting + 1 = omega arith in
    ap (λ (n : ℕ). record { joined = n; waiting = turns_from other x.first (x.waiting + 1) }) e
    ∙ ap (λ (gs : List ℕ). record { joined = x.first + x.waiting + 1; waiting = gs }) (ap (turns_from other x.first) (add-one x.waiting) ∙ turns_join who other g x.first x.waiting (x.first + x.waiting) refl put)

-- one line is what a function makes of it, and the others are as they were
pub changed_queue : (l m : Lines) (d name : ℕ) (f : Queue → Queue) → queue_at m d name ≡ f (queue_at l d name) → ((e n : ℕ) → (nat_eq d e && nat_eq name n) ≡ false → queue_at m e n ≡ queue_at l e n) →
    ChangesLines d (nat_eq name) f l m
changed_queue l m d name f its others e n = split (nat_eq d e && nat_eq name n) refl
  where
    split : (b : Bool) → (nat_eq d e && nat_eq name n) ≡ b → queue_at m e n ≡ (if b then f (queue_at l e n) else queue_at l e n)
    split true is =
        let both = and_parts (nat_eq d e) (nat_eq name n) is in
        subst (λ y. queue_at m y n ≡ f (queue_at l y n)) (eqb-true d e both.0) (subst (λ z. queue_at m d z ≡ f (queue_at l d z)) (eqb-true name n both.1) its)
    split false is = others e n is

it_is : (d name : ℕ) → (nat_eq d d && nat_eq name name) ≡ true
it_is d name = ap (λ b. b && nat_eq name name) (eq-eqb d d refl) ∙ eq-eqb name name refl

pub queue_joined : (l m : Lines) (d name g : ℕ) (x : Line) → x ≡ line_at l.lines.entries d name →
    PutsLine d name (record { first = x.first; waiting = x.waiting + 1 }) l.lines.entries m.lines.entries → PutsTurn d name (x.first + x.waiting) g l.turns.entries m.turns.entries →
    ChangesLines d (nat_eq name) (joined_by g) l m
queue_joined l m d name g x is lines turns = changed_queue l m d name (joined_by g) its others
  where
    more : Line
    more = record { first = x.first; waiting = x.waiting + 1 }

    its : queue_at m d name ≡ joined_by g (queue_at l d name)
    its =
        ap (queue_in m.turns.entries d name) (lines d name ∙ ap (λ b. if b then more else line_at l.lines.entries d name) (it_is d name))
        ∙ (joined_line (turn_at l.turns.entries d name) (turn_at m.turns.entries d name) x g
        (λ j. turns d name j ∙ ap (λ b. if b && nat_eq (x.first + x.waiting) j then g else turn_at l.turns.entries d name j) (it_is d name))
        ∙ ap (λ y. joined_by g (queue_in l.turns.entries d name y)) is)

    others : (e n : ℕ) → (nat_eq d e && nat_eq name n) ≡ false → queue_at m e n ≡ queue_at l e n
    others e n no_line =
        queue_same l m e n (lines e n ∙ ap (λ b. if b then more else line_at l.lines.entries e n) no_line)
        (λ k. turns e n k ∙ ap (λ b. if b && nat_eq (x.first + x.waiting) k then g else turn_at l.turns.entries e n k) no_line)

-- a spent one at the head
pub spent_head : (spent : ℕ → Bool) (who : ℕ → ℕ) (first k n : ℕ) → k < n → spent (who (first + k)) ≡ true →
    from_unspent spent (turns_from who (first + (k + 1)) (n - (k + 1))) ≡ from_unspent spent (turns_from who (first + k) (n - k))
spent_head spent who first k n less is =
    let count : n - k ≡ suc (n - (k + 1)) = omega (arith, less) in
    let next : first + k + 1 ≡ first + (k + 1) = omega arith in
    let rest : List ℕ = turns_from who (first + k + 1) (n - (k + 1)) in
    sym
    (ap (λ m. from_unspent spent (turns_from who (first + k) m)) count
    ∙ (ap (λ b. if b then from_unspent spent rest else who (first + k) ∷ rest) is
    ∙ ap (λ j. from_unspent spent (turns_from who j (n - (k + 1)))) next))
