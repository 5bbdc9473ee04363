-- The units of two sessions of the same files are the same.
use Rattle.std.proofs.Common.{◌≡◌, ℕ, zero, suc, ◌<◌, List, [], ◌∷◌, length, slice_get, refl, sym, ap, ap₂, ◌∙◌, subst, arith, Option, Some, Result, Ok}
use Rattle.std.proofs.lemmas.Option.{same_Some, slice_get_within}
use Rattle.orc_ids.specs.declared.ids.NameId.{NameId}
use Rattle.orc_ids.specs.declared.ids.UnitName.TheVariants.{Object}
use Rattle.orc_io.specs.Contents.{HasContent}
use Rattle.orc_names.specs.Numbers.{IsNumberOf}
use Rattle.elf_read.specs.Object.{object_of}
use Rattle.link_graph.specs.Checks.{graph_of_object}
use Rattle.link_model.specs.declared.graph.LinkGraph.{LinkGraph}
use Rattle.session_model.specs.Meaning.{Meaning}
use Rattle.session_units.specs.Meaning.{graph_meaning}
use Rattle.closure_laws.proofs.Declared.{row_below}
use Rattle.object_files.specs.Files.{AreLoaded, IsObject, Told}
use Rattle.run_answers.specs.Sessions.{AreOfWords}
use Rattle.run_answers.proofs.Words.{one_file}

pub same_Ok : {X Y : Type 0} (x y : X) (r : Result X Y) → r ≡ Ok x → r ≡ Ok y → x ≡ y
same_Ok {X} {Y} x y r a b = let e : Ok x ≡ Ok y = sym a ∙ b in cc

-- lists with the same elements in the same places
same_list : {X : Type 0} (xs ys : List X) → length xs ≡ length ys → ((k : ℕ) (x y : X) → slice_get xs k ≡ Some x → slice_get ys k ≡ Some y → x ≡ y) → xs ≡ ys
same_list [] [] e f = refl
same_list [] (y ∷ ys) e f = absurd (omega (arith, e))
same_list (x ∷ xs) [] e f = absurd (omega (arith, e))
same_list (x ∷ xs) (y ∷ ys) e f = ap₂ (λ z l. z ∷ l) (f zero x y refl refl) (same_list xs ys (omega (arith, e)) (λ k. f (suc k)))

-- the files tell one content of each name
same_content : (told : Told) (contents : List ℕ → Option (List ℕ)) → told ≡ Some contents → (name a b : List ℕ) → HasContent told name a → HasContent told name b → a ≡ b
same_content told contents is name a b p q = same_Some a b (sym (subst (λ t. HasContent t name a) is p) ∙ subst (λ t. HasContent t name b) is q)

same_graph : (names : List (List ℕ)) (bytes : List ℕ) (g h : LinkGraph) → IsObject names bytes g → IsObject names bytes h → g ≡ h
same_graph names bytes g h p q = same_Ok g h (graph_of_object names p.object) p.made (ap (graph_of_object names) (same_Ok p.object q.object (object_of bytes) p.read q.read) ∙ q.made)

module _ (told : Told) (contents : List ℕ → Option (List ℕ)) (is : told ≡ Some contents) (files names : List (List ℕ)) where
  pub same_files : (units others : List Meaning) → AreLoaded told files names units → AreLoaded told files names others → units ≡ others
  same_files units others p q = same_list units others (p.count ∙ sym q.count) same
    where
      same : (k : ℕ) (u v : Meaning) → slice_get units k ≡ Some u → slice_get others k ≡ Some v → u ≡ v
      same k u v e f =
          let below : k < length files = omega (arith, slice_get_within units k u e, p.count) in
          let name = row_below files k below in
          let b = row_below p.contents k (omega (arith, below, p.all)) in
          let c = row_below q.contents k (omega (arith, below, q.all)) in
          let g = row_below p.graphs k (omega (arith, below, p.whole)) in
          let h = row_below q.graphs k (omega (arith, below, q.whole)) in
          let bytes = same_content told contents is name.0 b.0 c.0 (p.read.told_so k name.0 b.0 name.1 b.1) (q.read.told_so k name.0 c.0 name.1 c.1) in
          let graph = same_graph names c.0 g.0 h.0 (subst (λ l. IsObject names l g.0) bytes (p.objects k b.0 g.0 b.1 g.1)) (q.objects k c.0 h.0 c.1 h.1) in
          p.are k u g.0 e g.1 ∙ (ap (graph_meaning (Object k)) graph ∙ sym (q.are k v h.0 f h.1))

pub same_words : (words : List (List ℕ)) (of_files units others : List Meaning) → AreOfWords words of_files units → AreOfWords words of_files others → units ≡ others
same_words words of_files units others p q = same_list units others (p.count ∙ sym q.count) same
  where
    same : (k : ℕ) (u v : Meaning) → slice_get units k ≡ Some u → slice_get others k ≡ Some v → u ≡ v
    same k u v e f =
        let a = p.each k u e in
        let b = q.each k v f in
        same_Some u v (sym a.2 ∙ (ap (slice_get of_files) (one_file words k a.0 b.0 a.1 b.1) ∙ b.2))

-- a text has one number
pub same_name : (names : List (List ℕ)) (text : List ℕ) (n m : NameId) → IsNumberOf names text n.0 → IsNumberOf names text m.0 → n ≡ m
same_name names text n m p q = ap (λ k. record { 0 = k }) (q.only n.0 p.there)
