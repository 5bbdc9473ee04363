-- How lines fall into words, and words into parts.
use Rattle.std.proofs.Common.{◌≡◌, ℕ, Bool, true, false, not, ◌&&◌, ◌==◌, nat_lt, List, [], ◌∷◌, ◌++◌, get_or, drop, map, All, append_assoc, append-nil, sym, refl, ap, ◌∙◌, subst, arith, eq-eqb, map-id, if◌then◌else◌}
use Rattle.std.proofs.lemmas.Bool.{and_parts, and_from, both_ways, not-true}
use Rattle.std.proofs.lemmas.List.Elements.{All-head, All-tail}
use Rattle.journal_text.specs.Parts.{listed}

-- the test is true of every byte
abbrev pub every : (ℕ → Bool) → List ℕ → Bool
every test [] = true
every test (b ∷ bs) = test b && every test bs

pub every-append : (test : ℕ → Bool) (xs ys : List ℕ) → every test xs ≡ true → every test ys ≡ true → every test (xs ++ ys) ≡ true
every-append test [] ys x y = y
every-append test (b ∷ bs) ys x y = let p = and_parts (test b) (every test bs) x in and_from (test b) (every test (bs ++ ys)) p.0 (every-append test bs ys p.1 y)

pub every_so : (test other : ℕ → Bool) → ((b : ℕ) → test b ≡ true → other b ≡ true) → (xs : List ℕ) → every test xs ≡ true → every other xs ≡ true
every_so test other so [] x = refl
every_so test other so (b ∷ bs) x = let p = and_parts (test b) (every test bs) x in and_from (other b) (every other bs) (so b p.0) (every_so test other so bs p.1)

-- A chain of texts, as it is written and with its front apart

module _ (a b : List ℕ) where
  pub parts3 : (c : List ℕ) → a ++ b ++ c ≡ a ++ (b ++ c)
  parts3 c = append_assoc a b c

  module _ (c : List ℕ) where
    pub parts4 : (d : List ℕ) → a ++ b ++ c ++ d ≡ a ++ (b ++ (c ++ d))
    parts4 d = append_assoc (a ++ b) c d ∙ parts3 (c ++ d)

    pub words4 : (d : List ℕ) → a ++ b ++ c ++ d ≡ a ++ (b ++ (c ++ (d ++ [])))
    words4 d = parts4 d ∙ ap (λ l. a ++ (b ++ (c ++ l))) (sym (append-nil d))

    module _ (d : List ℕ) where
      pub parts5 : (e : List ℕ) → a ++ b ++ c ++ d ++ e ≡ a ++ (b ++ (c ++ (d ++ e)))
      parts5 e = append_assoc (a ++ b ++ c) d e ∙ parts4 (d ++ e)

      module _ (e : List ℕ) where
        pub parts6 : (f : List ℕ) → a ++ b ++ c ++ d ++ e ++ f ≡ a ++ (b ++ (c ++ (d ++ (e ++ f))))
        parts6 f = append_assoc (a ++ b ++ c ++ d) e f ∙ parts5 (e ++ f)

        pub words6 : (f : List ℕ) → a ++ b ++ c ++ d ++ e ++ f ≡ a ++ (b ++ (c ++ (d ++ (e ++ (f ++ [])))))
        words6 f = parts6 f ∙ ap (λ l. a ++ (b ++ (c ++ (d ++ (e ++ l))))) (sym (append-nil f))

        module _ (f : List ℕ) where
          pub parts7 : (g : List ℕ) → a ++ b ++ c ++ d ++ e ++ f ++ g ≡ a ++ (b ++ (c ++ (d ++ (e ++ (f ++ g)))))
          parts7 g = append_assoc (a ++ b ++ c ++ d ++ e) f g ∙ parts6 (f ++ g)

          pub parts9 : (g h i : List ℕ) → a ++ b ++ c ++ d ++ e ++ f ++ g ++ h ++ i ≡ a ++ (b ++ (c ++ (d ++ (e ++ (f ++ (g ++ (h ++ i)))))))
          parts9 g h i = append_assoc (a ++ b ++ c ++ d ++ e ++ f ++ g) h i ∙ (append_assoc (a ++ b ++ c ++ d ++ e ++ f) g (h ++ i) ∙ parts7 (g ++ (h ++ i)))

pub last_word : (front w : List ℕ) → front ++ w ≡ front ++ (w ++ [])
last_word front w = ap (λ l. front ++ l) (sym (append-nil w))

-- Words

-- no blanks
abbrev pub solid : List ℕ → Bool
solid w = every (nat_lt 32) w

abbrev pub all_solid : List (List ℕ) → Bool
all_solid [] = true
all_solid (w ∷ ws) = solid w && all_solid ws

-- words, each after a space
abbrev pub spaced : List (List ℕ) → List ℕ
spaced [] = []
spaced (w ∷ ws) = 32 ∷ (w ++ spaced ws)

-- it begins with a blank
abbrev Blank : List ℕ → Type 0
Blank [] = ⊥
Blank (b ∷ bs) = nat_lt 32 b ≡ false

apart : {X : Type 0} (b c : ℕ) (cs : List ℕ) → nat_lt 32 b ≡ false → solid (c ∷ cs) ≡ true → b ≡ c → X
apart b c cs blank s e = absurd (both_ways (nat_lt 32 c) (subst (λ n. nat_lt 32 n ≡ false) e blank) (and_parts (nat_lt 32 c) (solid cs) s).0)

word_front : (w v r s : List ℕ) → solid w ≡ true → solid v ≡ true → Blank r → Blank s → w ++ r ≡ v ++ s → (w ≡ v) × (r ≡ s)
word_front [] [] r s x y br bs e = (refl, e)
word_front [] (c ∷ cs) [] s x y br bs e = absurd br
word_front [] (c ∷ cs) (b ∷ r) s x y br bs e = apart b c cs br y (ap (λ (l : List ℕ). get_or l 0 0) e)
word_front (c ∷ cs) [] r [] x y br bs e = absurd bs
word_front (c ∷ cs) [] r (b ∷ s) x y br bs e = apart b c cs bs x (sym (ap (λ (l : List ℕ). get_or l 0 0) e))
word_front (c ∷ cs) (d ∷ ds) r s x y br bs e =
    let p = word_front cs ds r s (and_parts (nat_lt 32 c) (solid cs) x).1 (and_parts (nat_lt 32 d) (solid ds) y).1 br bs (ap (drop 1) e) in
    let same : c ≡ d = ap (λ (l : List ℕ). get_or l 0 0) e in
    (λ i. same i ∷ p.0 i, p.1)

blank_next : (ws : List (List ℕ)) (r : List ℕ) → Blank (spaced ws ++ 10 ∷ r)
blank_next [] r = refl
blank_next (w ∷ ws) r = refl

two_blanks : {X : Type 0} (b c : ℕ) → b ≡ 10 → c ≡ 32 → b ≡ c → X
two_blanks b c p q e = absurd (omega arith)

-- the words of a line, and the lines after it, follow from the text
pub words_front : (ws vs : List (List ℕ)) (r s : List ℕ) → all_solid ws ≡ true → all_solid vs ≡ true → spaced ws ++ 10 ∷ r ≡ spaced vs ++ 10 ∷ s → (ws ≡ vs) × (r ≡ s)
words_front [] [] r s x y e = (refl, ap (drop 1) e)
words_front [] (v ∷ vs) r s x y e = two_blanks 10 32 refl refl (ap (λ (l : List ℕ). get_or l 0 0) e)
words_front (w ∷ ws) [] r s x y e = two_blanks 10 32 refl refl (sym (ap (λ (l : List ℕ). get_or l 0 0) e))
words_front (w ∷ ws) (v ∷ vs) r s x y e =
    let p = and_parts (solid w) (all_solid ws) x in
    let q = and_parts (solid v) (all_solid vs) y in
    let same : w ++ (spaced ws ++ 10 ∷ r) ≡ v ++ (spaced vs ++ 10 ∷ s) = sym (append_assoc w (spaced ws) (10 ∷ r)) ∙ ap (drop 1) e ∙ append_assoc v (spaced vs) (10 ∷ s) in
    let front = word_front w v (spaced ws ++ 10 ∷ r) (spaced vs ++ 10 ∷ s) p.0 q.0 (blank_next ws r) (blank_next vs s) same in
    let rest = words_front ws vs r s p.1 q.1 front.1 in
    (λ i. front.0 i ∷ rest.0 i, rest.1)

pub solid-append : (ws vs : List (List ℕ)) → all_solid ws ≡ true → all_solid vs ≡ true → all_solid (ws ++ vs) ≡ true
solid-append [] vs x y = y
solid-append (w ∷ ws) vs x y = let p = and_parts (solid w) (all_solid ws) x in and_from (solid w) (all_solid (ws ++ vs)) p.0 (solid-append ws vs p.1 y)

pub spaced-append : (ws vs : List (List ℕ)) → spaced (ws ++ vs) ≡ spaced ws ++ spaced vs
spaced-append [] vs = refl
spaced-append (w ∷ ws) vs = ap (λ l. 32 ∷ (w ++ l)) (spaced-append ws vs) ∙ ap (λ l. 32 ∷ l) (sym (append_assoc w (spaced ws) (spaced vs)))

-- Parts

-- the bytes that stand between parts
abbrev pub comma : ℕ
comma = 44

abbrev pub colon : ℕ
colon = 58

abbrev pub semicolon : ℕ
semicolon = 59

abbrev pub at_sign : ℕ
at_sign = 64

-- the byte doesn't stand there
abbrev pub free : ℕ → List ℕ → Bool
free mark w = every (λ b. not (b == mark)) w

abbrev onto : ℕ → List (List ℕ) → List (List ℕ)
onto b [] = (b ∷ []) ∷ []
onto b (w ∷ ws) = (b ∷ w) ∷ ws

-- what stands between the marks
abbrev pub parts : ℕ → List ℕ → List (List ℕ)
parts mark [] = [] ∷ []
parts mark (b ∷ bs) = if b == mark then [] ∷ parts mark bs else onto b (parts mark bs)

at_other : (mark b : ℕ) (bs : List ℕ) (ps : List (List ℕ)) → not (b == mark) ≡ true → parts mark bs ≡ ps → parts mark (b ∷ bs) ≡ onto b ps
at_other mark b bs ps other e = ap (λ t. if t then [] ∷ parts mark bs else onto b (parts mark bs)) (not-true (b == mark) other) ∙ ap (onto b) e

pub parts_one : (mark : ℕ) (w : List ℕ) → free mark w ≡ true → parts mark w ≡ w ∷ []
parts_one mark [] f = refl
parts_one mark (b ∷ bs) f = let p = and_parts (not (b == mark)) (free mark bs) f in at_other mark b bs (bs ∷ []) p.0 (parts_one mark bs p.1)

pub parts_more : (mark : ℕ) (w rest : List ℕ) → free mark w ≡ true → parts mark (w ++ mark ∷ rest) ≡ w ∷ parts mark rest
parts_more mark [] rest f = ap (λ t. if t then [] ∷ parts mark rest else onto mark (parts mark rest)) (eq-eqb mark mark refl)
parts_more mark (b ∷ bs) rest f = let p = and_parts (not (b == mark)) (free mark bs) f in at_other mark b (bs ++ mark ∷ rest) (bs ∷ parts mark rest) p.0 (parts_more mark bs rest p.1)

-- Lists

-- the text of a list that isn't empty, without what stands before it
abbrev pub joined : {X : Type 0} → ℕ → (X → List ℕ) → X → List X → List ℕ
joined mark text x xs = text x ++ listed (mark ∷ []) (mark ∷ []) text xs

module _ {X : Type 0} (mark : ℕ) (text : X → List ℕ) (Good : X → Type 0) where
  parts_joined : ((x : X) → Good x → free mark (text x) ≡ true) → (x : X) (xs : List X) → All Good (x ∷ xs) → parts mark (joined mark text x xs) ≡ text x ∷ map text xs
  parts_joined free_of x [] good = ap (parts mark) (append-nil (text x)) ∙ parts_one mark (text x) (free_of x (All-head Good x [] good))
  parts_joined free_of x (y ∷ ys) good = parts_more mark (text x) (joined mark text y ys) (free_of x (All-head Good x (y ∷ ys) good)) ∙ ap (λ l. text x ∷ l) (parts_joined free_of y ys (All-tail Good x (y ∷ ys) good))

  read_each : {Y : Type 0} (image : X → Y) (read : List ℕ → Y) → ((x : X) → Good x → read (text x) ≡ image x) → (xs : List X) → All Good xs → map read (map text xs) ≡ map image xs
  read_each image read back [] good = refl
  read_each image read back (x ∷ xs) good =
      let here = back x (All-head Good x xs good) in
      let rest = read_each image read back xs (All-tail Good x xs good) in
      λ i. here i ∷ rest i

  -- a list whose elements' images are read from their texts is read from its own
  pub images_read : {Y : Type 0} (image : X → Y) (read : List ℕ → Y) → ((x : X) → Good x → read (text x) ≡ image x) → ((x : X) → Good x → free mark (text x) ≡ true) → (x : X) (xs : List X) → All Good (x ∷ xs) →
      map read (parts mark (joined mark text x xs)) ≡ map image (x ∷ xs)
  images_read image read back free_of x xs good = ap (map read) (parts_joined free_of x xs good) ∙ read_each image read back (x ∷ xs) good

  pub joined_read : (read : List ℕ → X) → ((x : X) → Good x → read (text x) ≡ x) → ((x : X) → Good x → free mark (text x) ≡ true) → (x : X) (xs : List X) → All Good (x ∷ xs) → map read (parts mark (joined mark text x xs)) ≡ x ∷ xs
  joined_read read back free_of x xs good = images_read (λ y. y) read back free_of x xs good ∙ map-id (x ∷ xs)

  -- what each element's text and the mark pass, the list's text passes
  pub joined_every : (test : ℕ → Bool) → test mark ≡ true → ((x : X) → Good x → every test (text x) ≡ true) → (x : X) (xs : List X) → All Good (x ∷ xs) → every test (joined mark text x xs) ≡ true
  joined_every test m passes x [] good = ap (every test) (append-nil (text x)) ∙ passes x (All-head Good x [] good)
  joined_every test m passes x (y ∷ ys) good = every-append test (text x) (mark ∷ joined mark text y ys) (passes x (All-head Good x (y ∷ ys) good))
      (and_from (test mark) (every test (joined mark text y ys)) m (joined_every test m passes y ys (All-tail Good x (y ∷ ys) good)))
