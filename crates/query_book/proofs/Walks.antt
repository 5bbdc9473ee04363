-- Chains of nodes: what a new node and a new beginning do to the lists.
use Rattle.std.proofs.Common.{◌≡◌, ⊎_elim, ℕ, Option, Some, None, ◌<◌, ◌≤◌, List, [], ◌∷◌, ◌++◌, length, set, map, replicate, take, zero, suc, refl, ap, sym, ◌∙◌, subst, arith}
use Rattle.std.specs.Prelude.{slice_get, option_and_then, IfNone}
use Rattle.std.specs.Option.{option_map_or}
use Rattle.query_book.specs.declared.lists.Node.{Node}
use Rattle.query_book.specs.Counts.{list_at}
use Rattle.query_book.specs.Lists.{walk, walks, IsChained}
use Rattle.std.proofs.lemmas.List.{map-set, append-nil, map-append, take_all}
use Rattle.std.proofs.Common.{length-append}
use Rattle.std.proofs.lemmas.Option.{slice_get_within}
use Rattle.list_laws.proofs.Lists.{some_below, appended_below, pushed_last, set_there}
use Rattle.query_book.specs.Counts.{total}
use Rattle.query_book.proofs.Parts.{get_after_set, list_of, more_lists, more_total}

abbrev pub Falls : List Node → Type 0
Falls nodes = (m j : ℕ) (n : Node) → slice_get nodes m ≡ Some n → n.next ≡ Some j → j < m

abbrev pub Below : ℕ → Option ℕ → Type 0
Below f None = Unit {0}
Below f (Some m) = m < f

below_next : (nodes : List Node) (m f : ℕ) (n : Node) (next : Option ℕ) → Falls nodes → slice_get nodes m ≡ Some n → n.next ≡ next → m < suc f → Below f next
below_next nodes m f n None falls is e less = tt
below_next nodes m f n (Some j) falls is e less = let h : j < m = falls m j n is e in omega (arith, less)

below_all : (nodes : List Node) (m : ℕ) (n : Node) (next : Option ℕ) → Falls nodes → slice_get nodes m ≡ Some n → n.next ≡ next → m < length nodes → Below (length nodes) next
below_all nodes m n None falls is e less = tt
below_all nodes m n (Some j) falls is e less = let h : j < m = falls m j n is e in omega (arith, less)

-- how far a walk may go, and what stands behind its nodes, doesn't matter
pub walk_same : (nodes more : List Node) (f g : ℕ) (link : Option ℕ) → Falls nodes → Below f link → Below g link → Below (length nodes) link → walk f nodes link ≡ walk g (nodes ++ more) link
walk_same nodes more zero zero link falls bf bg bn = refl
walk_same nodes more zero (suc g) None falls bf bg bn = refl
walk_same nodes more zero (suc g) (Some m) falls bf bg bn = absurd (omega (arith, bf))
walk_same nodes more (suc f) zero None falls bf bg bn = refl
walk_same nodes more (suc f) zero (Some m) falls bf bg bn = absurd (omega (arith, bg))
walk_same nodes more (suc f) (suc g) None falls bf bg bn = refl
walk_same nodes more (suc f) (suc g) (Some m) falls bf bg bn =
    let n = some_below nodes m bn in
    let e : slice_get (nodes ++ more) m ≡ Some n.0 = appended_below nodes more m bn ∙ n.1 in
    ap (λ (o : Option Node). option_map_or (λ n. n.query ∷ walk f nodes n.next) o []) n.1
    ∙ ap (λ l. n.0.query ∷ l) (walk_same nodes more f g n.0.next falls (below_next nodes m f n.0 n.0.next falls n.1 refl bf) (below_next nodes m g n.0 n.0.next falls n.1 refl bg) (below_all nodes m n.0 n.0.next falls n.1 refl bn))
    ∙ sym (ap (λ (o : Option Node). option_map_or (λ n. n.query ∷ walk g (nodes ++ more) n.next) o []) e)

-- how far a walk may go doesn't matter
walk_far : (nodes : List Node) (f g : ℕ) (link : Option ℕ) → Falls nodes → Below f link → Below g link → Below (length nodes) link → walk f nodes link ≡ walk g nodes link
walk_far nodes f g link falls bf bg bn = subst (λ ns. walk f nodes link ≡ walk g ns link) (append-nil nodes) (walk_same nodes [] f g link falls bf bg bn)

-- a chain is its first query, and the chain behind it
walk_first : (nodes : List Node) (f m : ℕ) (n : Node) → Falls nodes → slice_get nodes m ≡ Some n → m < f → walk f nodes (Some m) ≡ n.query ∷ walk f nodes n.next
walk_first nodes zero m n falls is less = absurd (omega (arith, less))
walk_first nodes (suc f) m n falls is less =
    let bf : Below f n.next = below_next nodes m f n n.next falls is refl less in
    ap (λ (o : Option Node). option_map_or (λ n. n.query ∷ walk f nodes n.next) o []) is
    ∙ ap (λ l. n.query ∷ l) (walk_far nodes f (suc f) n.next falls bf (below_more f n.next bf) (below_all nodes m n n.next falls is refl (slice_get_within nodes m n is)))
  where
    below_more : (f : ℕ) (link : Option ℕ) → Below f link → Below (suc f) link
    below_more f None b = tt
    below_more f (Some j) b = omega (arith, b)

set_both : (F G : Option ℕ → List ℕ) (firsts : List (Option ℕ)) (at : ℕ) (x : Option ℕ) (l : List ℕ) → ((i : ℕ) (f : Option ℕ) → slice_get firsts i ≡ Some f → F f ≡ G f) → G x ≡ l → map G (set firsts at x) ≡ set (map F firsts) at l
set_both F G [] at x l same new = refl
set_both F G (f ∷ firsts) zero x l same new = step (map-rest firsts (λ i. same (suc i)))
  where
    map-rest : (firsts : List (Option ℕ)) → ((i : ℕ) (f : Option ℕ) → slice_get firsts i ≡ Some f → F f ≡ G f) → map G firsts ≡ map F firsts
    map-rest [] same = refl
    map-rest (g ∷ gs) same = let e : F g ≡ G g = same 0 g refl in let h : map G gs ≡ map F gs = map-rest gs (λ i. same (suc i)) in cc

    step : map G firsts ≡ map F firsts → G x ∷ map G firsts ≡ l ∷ map F firsts
    step h = cc
set_both F G (f ∷ firsts) (suc at) x l same new =
    let e : F f ≡ G f = same 0 f refl in
    let h : map G (set firsts at x) ≡ set (map F firsts) at l = set_both F G firsts at x l (λ i. same (suc i)) new in
    cc

begins_below : (nodes : List Node) (firsts : List (Option ℕ)) (i : ℕ) (f : Option ℕ) → IsChained nodes firsts → slice_get firsts i ≡ Some f → Below (length nodes) f
begins_below nodes firsts i None chained is = tt
begins_below nodes firsts i (Some m) chained is = chained.begins i m is

-- a new node before the chain of an instance
pub walks_add : (nodes : List Node) (firsts : List (Option ℕ)) (at query : ℕ) (next : Option ℕ) → IsChained nodes firsts → slice_get firsts at ≡ Some next → walks (nodes ++ record { query = query; next = next } ∷ []) (set firsts at (Some (length nodes))) ≡ set (walks nodes firsts) at (query ∷ list_at (walks nodes firsts) at)
walks_add nodes firsts at query next chained is =
    let n : Node = record { query = query; next = next } in
    let more : List Node = nodes ++ n ∷ [] in
    let len : length more ≡ suc (length nodes) = length-append nodes (n ∷ []) ∙ (omega arith) in
    let low : Below (length nodes) next = begins_below nodes firsts at next chained is in
    let head : walk (length more) more (Some (length nodes)) ≡ query ∷ list_at (walks nodes firsts) at =
    ap (λ f. walk f more (Some (length nodes))) len
    ∙ ap (λ (o : Option Node). option_map_or (λ n. n.query ∷ walk (length nodes) more n.next) o []) (pushed_last nodes n)
    ∙ ap (λ l. query ∷ l) (sym (walk_same nodes (n ∷ []) (length nodes) (length nodes) next chained.falls low low low) ∙ sym (list_of (walk (length nodes) nodes) firsts at next is)) in
    set_both (walk (length nodes) nodes) (walk (length more) more) firsts at (Some (length nodes)) (query ∷ list_at (walks nodes firsts) at)
    (λ i f there. let low : Below (length nodes) f = begins_below nodes firsts i f chained there in
    walk_same nodes (n ∷ []) (length nodes) (length more) f chained.falls low (subst (λ b. Below b f) (sym len) (above f low)) low) head
  where
    above : (f : Option ℕ) → Below (length nodes) f → Below (suc (length nodes)) f
    above None low = tt
    above (Some m) low = omega (arith, low)

-- the first node of a chain is passed over
pub walks_pop : (nodes : List Node) (firsts : List (Option ℕ)) (at m : ℕ) (n : Node) → IsChained nodes firsts → slice_get firsts at ≡ Some (Some m) → slice_get nodes m ≡ Some n → list_at (walks nodes firsts) at ≡ n.query ∷ list_at (walks nodes (set firsts at n.next)) at
walks_pop nodes firsts at m n chained is node =
    let F : Option ℕ → List ℕ = walk (length nodes) nodes in
    list_of F firsts at (Some m) is
    ∙ walk_first nodes (length nodes) m n chained.falls node (chained.begins at m is)
    ∙ ap (λ l. n.query ∷ l) (sym (list_of F (set firsts at n.next) at n.next (set_there firsts at n.next (slice_get_within firsts at (Some m) is))))

pub walks_rest : (nodes : List Node) (firsts : List (Option ℕ)) (at : ℕ) (next : Option ℕ) → at < length firsts → walks nodes (set firsts at next) ≡ set (walks nodes firsts) at (list_at (walks nodes (set firsts at next)) at)
walks_rest nodes firsts at next less =
    let F : Option ℕ → List ℕ = walk (length nodes) nodes in
    map-set F firsts at next ∙ ap (λ l. set (walks nodes firsts) at l) (sym (list_of F (set firsts at next) at next (set_there firsts at next less)))

pub walks_none : (nodes : List Node) (firsts : List (Option ℕ)) (at : ℕ) → option_and_then (λ f. f) (slice_get firsts at) ≡ None → list_at (walks nodes firsts) at ≡ []
walks_none nodes [] at none = refl
walks_none nodes (None ∷ firsts) zero none = at_end (length nodes)
  where
    at_end : (f : ℕ) → walk f nodes None ≡ []
    at_end zero = refl
    at_end (suc f) = refl
walks_none nodes (Some m ∷ firsts) zero none = absurd cc
walks_none nodes (f ∷ firsts) (suc at) none = skip firsts at none
  where
    skip : (firsts : List (Option ℕ)) (at : ℕ) → option_and_then (λ f. f) (slice_get firsts at) ≡ None → list_at (map (walk (length nodes) nodes) firsts) at ≡ []
    skip [] at none = refl
    skip (None ∷ firsts) zero none = at_end (length nodes)
      where
        at_end : (f : ℕ) → walk f nodes None ≡ []
        at_end zero = refl
        at_end (suc f) = refl
    skip (Some m ∷ firsts) zero none = absurd cc
    skip (f ∷ firsts) (suc at) none = skip firsts at none

pub chained_pop : (nodes : List Node) (firsts : List (Option ℕ)) (at m : ℕ) (n : Node) → IsChained nodes firsts → slice_get nodes m ≡ Some n → IsChained nodes (set firsts at n.next)
chained_pop nodes firsts at m n chained node = record {
  begins = λ i j is. ⊎_elim (λ e. low j e) (λ old. chained.begins i j old) (get_after_set firsts at i n.next (Some j) is);
  falls = chained.falls;
}
  where
    low : (j : ℕ) → n.next ≡ Some j → j < length nodes
    low j e = let h : j < m = chained.falls m j n node e in let g : m < length nodes = slice_get_within nodes m n node in omega (arith, h, g)

-- empty chains at the end
walks_more : (nodes : List Node) (firsts : List (Option ℕ)) (n : ℕ) → walks nodes (firsts ++ replicate n None) ≡ walks nodes firsts ++ replicate n []
walks_more nodes firsts n = map-append (walk (length nodes) nodes) firsts (replicate n None) ∙ ap (λ ls. walks nodes firsts ++ ls) (ends n)
  where
    at_end : (f : ℕ) → walk f nodes None ≡ []
    at_end zero = refl
    at_end (suc f) = refl

    ends : (n : ℕ) → map (walk (length nodes) nodes) (replicate n None) ≡ replicate n []
    ends zero = refl
    ends (suc n) = let e : walk (length nodes) nodes None ≡ [] = at_end (length nodes) in let h : map (walk (length nodes) nodes) (replicate n None) ≡ replicate n [] = ends n in cc

pub walks_more_at : (nodes : List Node) (firsts : List (Option ℕ)) (n i : ℕ) → list_at (walks nodes (firsts ++ replicate n None)) i ≡ list_at (walks nodes firsts) i
walks_more_at nodes firsts n i = ap (λ ls. list_at ls i) (walks_more nodes firsts n) ∙ more_lists (walks nodes firsts) n i

pub walks_more_total : (nodes : List Node) (firsts : List (Option ℕ)) (n k : ℕ) → total k (walks nodes (firsts ++ replicate n None)) ≡ total k (walks nodes firsts)
walks_more_total nodes firsts n k = ap (λ ls. total k ls) (walks_more nodes firsts n) ∙ more_total k (walks nodes firsts) n

pub walks_length : (nodes : List Node) (firsts : List (Option ℕ)) → length (walks nodes firsts) ≡ length firsts
walks_length nodes [] = refl
walks_length nodes (f ∷ firsts) = ap suc (rest firsts)
  where
    rest : (firsts : List (Option ℕ)) → length (map (walk (length nodes) nodes) firsts) ≡ length firsts
    rest [] = refl
    rest (f ∷ firsts) = ap suc (rest firsts)

-- as the code adds a node
pub walks_added : (nodes nodes' : List Node) (firsts : List (Option ℕ)) (lists : List (List ℕ)) (at query len : ℕ) (next : Option ℕ) → IsChained nodes firsts → walks nodes firsts ≡ lists → slice_get firsts at ≡ Some next → nodes' ≡ nodes ++ record { query = query; next = next } ∷ [] → len ≡ length nodes → walks nodes' (set firsts at (Some len)) ≡ set lists at (query ∷ list_at lists at)
walks_added nodes nodes' firsts lists at query len next chained view is more count =
    ap (λ ns. walks ns (set firsts at (Some len))) more ∙ ap (λ n. walks (nodes ++ record { query = query; next = next } ∷ []) (set firsts at (Some n))) count
    ∙ walks_add nodes firsts at query next chained is ∙ ap (λ ls. set ls at (query ∷ list_at ls at)) view

-- as the code makes more lists
pub grown_at : (nodes : List Node) (firsts firsts' : List (Option ℕ)) (lists : List (List ℕ)) (at n i : ℕ) → walks nodes firsts ≡ lists → firsts' ≡ take at firsts ++ replicate n None → length firsts ≤ at → list_at (walks nodes firsts') i ≡ list_at lists i
grown_at nodes firsts firsts' lists at n i view more past =
    ap (λ fs. list_at (walks nodes fs) i) (more ∙ ap (λ fs. fs ++ replicate n None) (take_all at firsts past))
    ∙ walks_more_at nodes firsts n i ∙ ap (λ ls. list_at ls i) view

pub grown_total : (nodes : List Node) (firsts firsts' : List (Option ℕ)) (lists : List (List ℕ)) (at n k : ℕ) → walks nodes firsts ≡ lists → firsts' ≡ take at firsts ++ replicate n None → length firsts ≤ at → total k (walks nodes firsts') ≡ total k lists
grown_total nodes firsts firsts' lists at n k view more past =
    ap (λ fs. total k (walks nodes fs)) (more ∙ ap (λ fs. fs ++ replicate n None) (take_all at firsts past))
    ∙ walks_more_total nodes firsts n k ∙ ap (λ ls. total k ls) view

pub if_none : {X : Type 0} {P : Type 0} (r : Option X) → P → IfNone r P
if_none None p = p
if_none (Some x) p = tt

pub begins_at : (firsts : List (Option ℕ)) (at m : ℕ) → option_and_then (λ f. f) (slice_get firsts at) ≡ Some m → slice_get firsts at ≡ Some (Some m)
begins_at [] at m is = absurd cc
begins_at (None ∷ firsts) zero m is = absurd cc
begins_at (Some j ∷ firsts) zero m is = ap (λ (o : Option ℕ). Some o) is
begins_at (f ∷ firsts) (suc at) m is = begins_at firsts at m is
