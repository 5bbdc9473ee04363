-- Names are read by their places in the table, and weak ones by their mark.
use Rattle.std.proofs.Common.{◌≡◌, ℕ, suc, ◌<◌, Bool, true, false, ◌==◌, nat_lt, bytes_eq, codes, List, [], ◌∷◌, ◌++◌, length, slice_get, unwrap_or, All, refl, ap, ◌∙◌, arith, if◌then◌else◌, append-nil, le_of_suc-le-suc}
use Rattle.std.specs.List.{IsDistinct, AllByRecursion}
use Rattle.std.proofs.lemmas.Bool.{and_from, lt-ltb, ne_eqb}
use Rattle.std.proofs.lemmas.List.Elements.{All-head, All-tail}
use Rattle.std.proofs.lemmas.Map.Keys.{IsDistinct-head, IsDistinct-tail}
use Rattle.std.proofs.lemmas.Slice.Eq.{bytes_eq-Decides}
use Rattle.orc_ids.specs.declared.ids.NameId.{NameId}
use Rattle.orc_ids.specs.declared.lookup.Wanted.{Wanted}
use Rattle.orc_names.specs.Numbers.{IsTable}
use Rattle.journal_text.specs.Parts.{name_text, wanted_text}
use Rattle.journal_text.specs.Readable.{IsWord, IsWantedName}
use Rattle.journal_text.proofs.Cuts.{every-append, solid}

-- the place of a text
abbrev pub place_of : List (List ℕ) → List ℕ → ℕ
place_of [] w = 0
place_of (t ∷ ts) w = if bytes_eq t w then 0 else suc (place_of ts w)

other_text : (t : List ℕ) (ts : List (List ℕ)) (k : ℕ) → AllByRecursion (λ s. bytes_eq t s ≡ false) ts → k < length ts → bytes_eq t (unwrap_or (slice_get ts k) []) ≡ false
other_text t [] k all within = absurd (omega arith)
other_text t (s ∷ ss) ℕ.zero all within = all.0
other_text t (s ∷ ss) (suc k) all within = other_text t ss k all.1 (le_of_suc-le-suc within)

place_read : (names : List (List ℕ)) → IsDistinct bytes_eq names → (k : ℕ) → k < length names → place_of names (unwrap_or (slice_get names k) []) ≡ k
place_read [] distinct k within = absurd (omega arith)
place_read (t ∷ ts) distinct ℕ.zero within = ap (λ b. if b then 0 else suc (place_of ts t)) ((bytes_eq-Decides t t).1 refl)
place_read (t ∷ ts) distinct (suc k) within =
    ap (λ b. if b then 0 else suc (place_of ts (unwrap_or (slice_get ts k) []))) (other_text t ts k (IsDistinct-head bytes_eq t ts distinct) (le_of_suc-le-suc within))
    ∙ ap suc (place_read ts (IsDistinct-tail bytes_eq t ts distinct) k (le_of_suc-le-suc within))

pub name_read : (names : List (List ℕ)) → IsTable names → (name : NameId) → IsWord names name → place_of names (name_text names name) ≡ name.0
name_read names table name word = place_read names table.distinct name.0 word.given

above_blank : (w : List ℕ) → All (λ b. 32 < b) w → solid w ≡ true
above_blank [] whole = refl
above_blank (b ∷ bs) whole = and_from (nat_lt 32 b) (solid bs) (lt-ltb 32 b (All-head (λ c. 32 < c) b bs whole)) (above_blank bs (All-tail (λ c. 32 < c) b bs whole))

pub name_solid : (names : List (List ℕ)) (name : NameId) → IsWord names name → solid (name_text names name) ≡ true
name_solid names name word = above_blank (name_text names name) word.whole

-- Wanted names

-- it ends with a question mark
abbrev marked : List ℕ → Bool
marked [] = false
marked (b ∷ []) = b == 63
marked (b ∷ c ∷ cs) = marked (c ∷ cs)

-- all but the last byte
abbrev unmarked : List ℕ → List ℕ
unmarked [] = []
unmarked (b ∷ []) = []
unmarked (b ∷ c ∷ cs) = b ∷ unmarked (c ∷ cs)

marked_so : (w : List ℕ) → marked (w ++ 63 ∷ []) ≡ true
marked_so [] = refl
marked_so (b ∷ []) = refl
marked_so (b ∷ c ∷ cs) = marked_so (c ∷ cs)

unmarked_so : (w : List ℕ) → unmarked (w ++ 63 ∷ []) ≡ w
unmarked_so [] = refl
unmarked_so (b ∷ []) = refl
unmarked_so (b ∷ c ∷ cs) = ap (λ l. b ∷ l) (unmarked_so (c ∷ cs))

not_marked : (w : List ℕ) → ((front : List ℕ) → w ≡ front ++ codes "?" → ⊥) → marked w ≡ false
not_marked [] h = refl
not_marked (b ∷ []) h = ne_eqb b 63 (λ e. h [] (λ i. e i ∷ []))
not_marked (b ∷ c ∷ cs) h = not_marked (c ∷ cs) (λ front e. h (b ∷ front) (λ i. b ∷ e i))

abbrev pub read_wanted : List (List ℕ) → List ℕ → Wanted
read_wanted names w = if marked w then record { name = record { 0 = place_of names (unmarked w) }; weak = true } else record { name = record { 0 = place_of names w }; weak = false }

module _ (names : List (List ℕ)) (table : IsTable names) where
  wanted_by : (name : NameId) (weak : Bool) → IsWantedName names name → read_wanted names (wanted_text names (record { name = name; weak = weak })) ≡ record { name = name; weak = weak }
  wanted_by name true good =
      let t = name_text names name in
      ap (λ b. if b then record { name = record { 0 = place_of names (unmarked (t ++ 63 ∷ [])) }; weak = true } else record { name = record { 0 = place_of names (t ++ 63 ∷ []) }; weak = false }) (marked_so t)
      ∙ ap (λ w. record { name = record { 0 = place_of names w }; weak = true }) (unmarked_so t)
      ∙ ap (λ k. record { name = record { 0 = k }; weak = true }) (name_read names table name good.word)
  wanted_by name false good =
      let t = name_text names name in
      ap (read_wanted names) (append-nil t)
      ∙ ap (λ b. if b then record { name = record { 0 = place_of names (unmarked t) }; weak = true } else record { name = record { 0 = place_of names t }; weak = false }) (not_marked t good.unmarked)
      ∙ ap (λ k. record { name = record { 0 = k }; weak = false }) (name_read names table name good.word)

  pub wanted_read : (w : Wanted) → IsWantedName names w.name → read_wanted names (wanted_text names w) ≡ w
  wanted_read w good = wanted_by w.name w.weak good

wanted_solid_by : (names : List (List ℕ)) (name : NameId) (weak : Bool) → IsWord names name → solid (wanted_text names (record { name = name; weak = weak })) ≡ true
wanted_solid_by names name true word = every-append (nat_lt 32) (name_text names name) (codes "?") (name_solid names name word) refl
wanted_solid_by names name false word = every-append (nat_lt 32) (name_text names name) [] (name_solid names name word) refl

pub wanted_solid : (names : List (List ℕ)) (w : Wanted) → IsWantedName names w.name → solid (wanted_text names w) ≡ true
wanted_solid names w good = wanted_solid_by names w.name w.weak good.word
